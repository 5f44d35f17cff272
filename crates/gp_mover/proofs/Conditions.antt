-- What the conditions of a group that may move say of its records and lists.
use Rattle.std.proofs.Common.{◌≡◌, ℕ, ◌-◌, ◌+◌, ◌*◌, ◌%◌, ◌^◌, ◌<◌, ◌≤◌, ◌==◌, ◌&&◌, ◌||◌, eqb, not, nat_lt, nat_le, Bool, true, false, List, [], ◌∷◌, ◌++◌, length, map, get_or, sum_by, Option, Some, None, refl, sym, ap, ◌∙◌, subst, length-append, arith}
use Rattle.std.specs.Prelude.{slice_get, option_map, unwrap_or, if◌then◌else◌}
use Rattle.std.specs.List.{All, flat_map, filter_map, cons_option, list_all, range_with_len}
use Rattle.std.proofs.lemmas.Bool.{and_parts, or_parts, eqb-true, ltb-true, leb-true}
use Rattle.std.proofs.lemmas.Bool.Decides.{nat_tests}
use Rattle.std.proofs.lemmas.List.{length-map, append-nil}
use Rattle.std.proofs.lemmas.List.Elements.{All-nil, All-cons, All-head, All-tail, All-append, All-from_get_or, All-weaker}
use Rattle.std.proofs.lemmas.List.FromFn.{get_or-map-range_with_len, length-map-range_with_len, length-range_with_len, get_or-range_with_len}
use Rattle.std.proofs.lemmas.List.Sums.{sum_by-cons}
use Rattle.std.proofs.lemmas.Option.{slice_get-get_or, slice_get_within}
use Rattle.gp_rules.specs.declared.accessing.Accessor.{Accessor}
use Rattle.gp_rules.specs.declared.accessing.Component.{Component}
use Rattle.gp_rules.specs.declared.accessing.Component.TheVariants.{I8, U8, I16, U16, U32, F32}
use Rattle.gp_rules.specs.declared.accessing.Shape.{Shape}
use Rattle.gp_rules.specs.declared.accessing.Shape.TheVariants.{Scalar, Vec2, Vec3, Vec4, Mat2, Mat3, Mat4}
use Rattle.gp_rules.specs.declared.storage.View.{View}
use Rattle.gp_rules.specs.Sizes.{component_size, element_size, padded}
use Rattle.gp_rules.specs.Accessors.{size_of, is_index, is_bad_accessor, runs_past, view_at, is_bad_sparse}
use Rattle.gp_asset.specs.Asset.{AssetParts}
use Rattle.gp_elements.specs.Held.{HasEvery, contents_of, IsSound}
use Rattle.gp_elements.specs.Elements.{number_of}
use Rattle.gp_alias.specs.declared.group.Group.{Group}
use Rattle.gp_alias.specs.Groups.{count_at}
use Rattle.gp_alias.specs.Movable.{items_of, numbers_of, holds_at, has_column_shape, has_corner_shape, is_column, is_given, is_vector, is_scalar, has_resolved, is_index_list, is_triangle_list, is_vertex, greatest, has_vertices, have_attributes, is_used_only, is_vertex_role, is_index_role, are_columns, are_lists, are_whole, corner_count, is_movable}
use Rattle.gp_alias.specs.Records.{item_at, item_of, vertex_record, records, lists, accessors_at}
use Rattle.gp_alias.proofs.ElementNumbers.{length-base}
use Rattle.gp_alias.proofs.RecordsOf.{sound_of}
use Rattle.gp_moving.specs.Triangles.{IsTriangleList}
use Rattle.gp_mover.specs.MovedParts.{record_size}
use Rattle.gp_mover.proofs.Rows.{Sized}
use Rattle.gp_mover.proofs.Sizes.{items_sized, length-items}

-- ---- the conditions, one by one

pub record Conditions (a : AssetParts) (contents : List (List ℕ)) (g : Group) : Type 0 where
  pub attributes : have_attributes a g ≡ true
  pub columns : list_all (holds_at a.accessors (is_column contents g.count)) g.columns ≡ true
  pub few : g.count ≤ 2 ^ 24
  pub lists : list_all (holds_at a.accessors (is_index_list a contents g.count)) g.lists ≡ true
  pub whole : are_whole g ≡ true
  pub corners : corner_count a g ≤ 3 * 2 ^ 25

pub conditions : (a : AssetParts) (contents : List (List ℕ)) (g : Group) → is_movable a contents g ≡ true → Conditions a contents g
unfolding is_movable
conditions a contents g movable =
    let five = and_parts (a.closed && have_attributes a g && are_columns a contents g && are_lists a contents g && are_whole g) (nat_le (corner_count a g) (3 * 2 ^ 25)) movable in
    let four = and_parts (a.closed && have_attributes a g && are_columns a contents g && are_lists a contents g) (are_whole g) five.0 in
    let three = and_parts (a.closed && have_attributes a g && are_columns a contents g) (are_lists a contents g) four.0 in
    let two = and_parts (a.closed && have_attributes a g) (are_columns a contents g) three.0 in
    let own = and_parts (list_all (holds_at a.accessors (is_column contents g.count)) g.columns && nat_le g.count (2 ^ 24)) (list_all (is_used_only is_vertex_role a.uses g.primitives) g.columns) two.1 in
    let both = and_parts (list_all (holds_at a.accessors (is_column contents g.count)) g.columns) (nat_le g.count (2 ^ 24)) own.0 in
    let list = and_parts (list_all (holds_at a.accessors (is_index_list a contents g.count)) g.lists) (list_all (is_used_only is_index_role a.uses g.primitives) g.lists) three.1 in
    record {
      attributes = (and_parts a.closed (have_attributes a g) two.0).1;
      columns = both.0;
      few = leb-true g.count (2 ^ 24) both.1;
      lists = list.0;
      whole = four.1;
      corners = leb-true (corner_count a g) (3 * 2 ^ 25) five.1;
    }

-- ---- accessors that are there

-- those that are found have what the test says
found_all : (accessors : List Accessor) (test : Accessor → Bool) (P : Accessor → Type 0) → ((k : ℕ) (acc : Accessor) → slice_get accessors k ≡ Some acc → test acc ≡ true → P acc) → (numbers : List ℕ)
    → list_all (holds_at accessors test) numbers ≡ true → All P (filter_map (slice_get accessors) numbers)
found_all accessors test P has [] is = All-nil P
found_all accessors test P has (k ∷ ks) is =
    let parts = and_parts (holds_at accessors test k) (list_all (holds_at accessors test) ks) is in
    by_found (slice_get accessors k) refl parts.0 (found_all accessors test P has ks parts.1)
  where
    by_found : (o : Option Accessor) → slice_get accessors k ≡ o → unwrap_or (option_map test o) false ≡ true → All P (filter_map (slice_get accessors) ks) → All P (cons_option o (filter_map (slice_get accessors) ks))
    by_found None found passes rest = rest
    by_found (Some acc) found passes rest = All-cons P acc (filter_map (slice_get accessors) ks) (has k acc found passes) rest

-- each of them is found
all_there : (accessors : List Accessor) (test : Accessor → Bool) (numbers : List ℕ) → list_all (holds_at accessors test) numbers ≡ true → All (λ k. k < length accessors) numbers
all_there accessors test [] is = All-nil (λ k. k < length accessors)
all_there accessors test (k ∷ ks) is =
    let parts = and_parts (holds_at accessors test k) (list_all (holds_at accessors test) ks) is in
    All-cons (λ k. k < length accessors) k ks (by_found (slice_get accessors k) refl parts.0) (all_there accessors test ks parts.1)
  where
    by_found : (o : Option Accessor) → slice_get accessors k ≡ o → unwrap_or (option_map test o) false ≡ true → k < length accessors
    by_found None found passes = cc
    by_found (Some acc) found passes = slice_get_within accessors k acc found

pub columns_there : (a : AssetParts) (contents : List (List ℕ)) (g : Group) → is_movable a contents g ≡ true → All (λ k. k < length a.accessors) g.columns
columns_there a contents g movable = all_there a.accessors (is_column contents g.count) g.columns (conditions a contents g movable).columns

-- ---- columns

-- a column has as many elements as the group, of at least a byte
pub record IsColumnOf (views : List View) (count : ℕ) (acc : Accessor) : Type 0 where
  pub sound : IsSound views acc
  pub count_is : acc.count ≡ count
  pub size : 1 ≤ size_of acc

component_some : (c : Component) → 1 ≤ component_size c
component_some I8 = omega arith
component_some U8 = omega arith
component_some I16 = omega arith
component_some U16 = omega arith
component_some U32 = omega arith
component_some F32 = omega arith

vector_some : (c : Component) (s : Shape) → is_vector s ≡ true → 1 ≤ element_size c s
vector_some c Scalar is = component_some c
vector_some c Vec2 is = omega (arith, component_some c)
vector_some c Vec3 is = omega (arith, component_some c)
vector_some c Vec4 is = omega (arith, component_some c)
vector_some c Mat2 is = cc
vector_some c Mat3 is = cc
vector_some c Mat4 is = cc

column_is : (views : List View) (contents : List (List ℕ)) (n : ℕ) (acc : Accessor) → IsSound views acc → is_column contents n acc ≡ true → IsColumnOf views n acc
unfolding is_column
column_is views contents n acc sound is =
    let shape = (and_parts (has_column_shape n acc) (has_resolved contents acc) is).0 in
    let two = and_parts (is_given acc && is_vector acc.shape) (acc.count == n) shape in
    let one = and_parts (is_given acc) (is_vector acc.shape) two.0 in
    record { sound = sound; count_is = eqb-true acc.count n two.1; size = vector_some acc.component acc.shape one.1 }

pub columns_are : (a : AssetParts) (contents : List (List ℕ)) (g : Group) → All (IsSound a.views) a.accessors → is_movable a contents g ≡ true → All (IsColumnOf a.views g.count) (accessors_at a g.columns)
columns_are a contents g sound movable =
    found_all a.accessors (is_column contents g.count) (IsColumnOf a.views g.count) (λ k acc found is. column_is a.views contents g.count acc (sound_of a k acc sound found) is) g.columns (conditions a contents g movable).columns

-- ---- records

record_long : (a : AssetParts) (held : List (Option (List ℕ))) (count i : ℕ) → HasEvery a.views held → i < count → (accs : List Accessor) → All (IsColumnOf a.views count) accs
    → length (flat_map (item_of a (contents_of held) i) accs) ≡ sum_by size_of accs
record_long a held count i every below [] are = refl
record_long a held count i every below (acc ∷ accs) are =
    let own = All-head (IsColumnOf a.views count) acc accs are in
    let rest = record_long a held count i every below accs (All-tail (IsColumnOf a.views count) acc accs are) in
    let within : i < acc.count = omega (arith, below, own.count_is) in
    let items = items_of a (contents_of held) acc in
    let long = length-items a (contents_of held) acc in
    let here : item_of a (contents_of held) i acc ≡ get_or items i [] = ap (λ o. unwrap_or o []) (slice_get-get_or items i [] (omega (arith, within, long))) in
    let sized : length (item_of a (contents_of held) i acc) ≡ size_of acc = ap (λ (x : List ℕ). length x) here ∙ items_sized a held acc every own.sound i within in
    omega (arith, length-append (item_of a (contents_of held) i acc) (flat_map (item_of a (contents_of held) i) accs), sized, rest, sum_by-cons size_of acc accs)

pub records_sized : (a : AssetParts) (held : List (Option (List ℕ))) (g : Group) → HasEvery a.views held → All (IsSound a.views) a.accessors → is_movable a (contents_of held) g ≡ true
    → Sized (record_size a g.columns) (records a (contents_of held) g)
unfolding records
records_sized a held g every sound movable i d below =
    let f = vertex_record a (contents_of held) g.columns in
    let long = length-map-range_with_len f 0 g.count in
    let within : i < g.count = omega (arith, long, below) in
    ap (λ (r : List ℕ). length r) (get_or-map-range_with_len f 0 g.count i i d within (omega arith))
    ∙ record_long a held g.count i every within (accessors_at a g.columns) (columns_are a (contents_of held) g sound movable)

pub length-records_of : (a : AssetParts) (contents : List (List ℕ)) (g : Group) → length (records a contents g) ≡ g.count
unfolding records
length-records_of a contents g = length-map-range_with_len (vertex_record a contents g.columns) 0 g.count

-- there is a column, so that records have a byte, and there are some
some_first : (accessors : List Accessor) (test : Accessor → Bool) (P : Accessor → Type 0) → ((k : ℕ) (acc : Accessor) → slice_get accessors k ≡ Some acc → test acc ≡ true → P acc) → (numbers : List ℕ)
    → 0 < length numbers → list_all (holds_at accessors test) numbers ≡ true → (acc : Accessor) × (rest : List Accessor) × P acc × (filter_map (slice_get accessors) numbers ≡ acc ∷ rest)
some_first accessors test P has [] some is = absurd (omega arith)
some_first accessors test P has (k ∷ ks) some is = by_found (slice_get accessors k) refl (and_parts (holds_at accessors test k) (list_all (holds_at accessors test) ks) is).0
  where
    by_found : (o : Option Accessor) → slice_get accessors k ≡ o → unwrap_or (option_map test o) false ≡ true
        → (acc : Accessor) × (rest : List Accessor) × P acc × (cons_option o (filter_map (slice_get accessors) ks) ≡ acc ∷ rest)
    by_found None found passes = absurd cc
    by_found (Some acc) found passes = (acc, filter_map (slice_get accessors) ks, has k acc found passes, refl)

count_some : (views : List View) (acc : Accessor) → IsSound views acc → 0 < acc.count
unfolding is_bad_accessor
count_some views acc sound =
    let both = or_parts (eqb acc.count 0 || runs_past acc (view_at views acc.view)) (is_bad_sparse views acc acc.sparse) sound.rules in
    let first = or_parts (eqb acc.count 0) (runs_past acc (view_at views acc.view)) both.0 in
    grind (arith, nat_tests, first.0)

pub some_records : (a : AssetParts) (contents : List (List ℕ)) (g : Group) → All (IsSound a.views) a.accessors → is_movable a contents g ≡ true → 0 < length g.columns
    → (1 ≤ record_size a g.columns) × (0 < g.count)
some_records a contents g sound movable some =
    let first = some_first a.accessors (is_column contents g.count) (IsColumnOf a.views g.count) (λ k acc found is. column_is a.views contents g.count acc (sound_of a k acc sound found) is) g.columns some (conditions a contents g movable).columns in
    let sum : record_size a g.columns ≡ sum_by size_of (first.0 ∷ first.1) = ap (λ (accs : List Accessor). sum_by size_of accs) first.3 in
    let own : IsColumnOf a.views g.count first.0 = first.2 in
    (omega (arith, sum, sum_by-cons size_of first.0 first.1, own.size), omega (arith, count_some a.views first.0 own.sound, own.count_is))

-- ---- lists

-- a list of triangles of so many vertices, with as many numbers as the accessor says
pub record IsListOf (a : AssetParts) (contents : List (List ℕ)) (count : ℕ) (acc : Accessor) : Type 0 where
  pub sound : IsTriangleList count (numbers_of a contents acc)
  pub long : length (numbers_of a contents acc) ≡ acc.count

vertices_below : (count most : ℕ) (numbers : List ℕ) → list_all (is_vertex count most) numbers ≡ true → All (λ v. v < count) numbers
vertices_below count most [] is = All-nil (λ v. v < count)
vertices_below count most (v ∷ vs) is =
    let parts = and_parts (is_vertex count most v) (list_all (is_vertex count most) vs) is in
    All-cons (λ v. v < count) v vs (ltb-true v count (and_parts (nat_lt v count) (not (eqb v most)) parts.0).0) (vertices_below count most vs parts.1)

list_is : (a : AssetParts) (contents : List (List ℕ)) (count : ℕ) (acc : Accessor) → is_index_list a contents count acc ≡ true → IsListOf a contents count acc
unfolding is_triangle_list has_vertices
list_is a contents count acc is =
    let two = and_parts (is_triangle_list acc && has_resolved contents acc) (has_vertices a contents count acc) is in
    let one = and_parts (is_triangle_list acc) (has_resolved contents acc) two.0 in
    let shape = (and_parts (is_given acc) (has_corner_shape acc) one.0).1 in
    let whole = (and_parts (is_scalar acc.shape && is_index acc.component) (acc.count % 3 == 0) shape).1 in
    let long : length (numbers_of a contents acc) ≡ acc.count = length-map (items_of a contents acc) number_of ∙ length-items a contents acc in
    record {
      sound = record { whole = ap (λ n. n % 3) long ∙ eqb-true (acc.count % 3) 0 whole; below = vertices_below count (greatest acc) (numbers_of a contents acc) two.1 };
      long = long;
    }

-- those of accessors, which together have no more corners than these say
lists_few : (a : AssetParts) (contents : List (List ℕ)) (count : ℕ) (numbers : List ℕ) → list_all (holds_at a.accessors (is_index_list a contents count)) numbers ≡ true
    → All (λ (l : List ℕ). length l ≤ sum_by (count_at a.accessors) numbers) (map (numbers_of a contents) (filter_map (slice_get a.accessors) numbers))
lists_few a contents count [] is = All-nil (λ (l : List ℕ). length l ≤ 0)
lists_few a contents count (k ∷ ks) is =
    let parts = and_parts (holds_at a.accessors (is_index_list a contents count) k) (list_all (holds_at a.accessors (is_index_list a contents count)) ks) is in
    let most = sum_by (count_at a.accessors) (k ∷ ks) in
    let rest = All-weaker (λ (l : List ℕ). length l ≤ sum_by (count_at a.accessors) ks) (λ (l : List ℕ). length l ≤ most) (λ l fits. omega (arith, fits, sum_by-cons (count_at a.accessors) k ks))
    (map (numbers_of a contents) (filter_map (slice_get a.accessors) ks)) (lists_few a contents count ks parts.1) in
    by_found (slice_get a.accessors k) refl parts.0 rest
  where
    by_found : (o : Option Accessor) → slice_get a.accessors k ≡ o → unwrap_or (option_map (is_index_list a contents count) o) false ≡ true
        → All (λ (l : List ℕ). length l ≤ sum_by (count_at a.accessors) (k ∷ ks)) (map (numbers_of a contents) (filter_map (slice_get a.accessors) ks))
        → All (λ (l : List ℕ). length l ≤ sum_by (count_at a.accessors) (k ∷ ks)) (map (numbers_of a contents) (cons_option o (filter_map (slice_get a.accessors) ks)))
    by_found None found passes rest = rest
    by_found (Some acc) found passes rest =
        let own = list_is a contents count acc passes in
        let here : count_at a.accessors k ≡ acc.count = ap (λ o. unwrap_or (option_map (λ (x : Accessor). x.count) o) 0) found in
        All-cons (λ (l : List ℕ). length l ≤ sum_by (count_at a.accessors) (k ∷ ks)) (numbers_of a contents acc) (map (numbers_of a contents) (filter_map (slice_get a.accessors) ks))
        (omega (arith, own.long, here, sum_by-cons (count_at a.accessors) k ks)) rest

lists_sound : (a : AssetParts) (contents : List (List ℕ)) (count : ℕ) (accs : List Accessor) → All (IsListOf a contents count) accs → All (IsTriangleList count) (map (numbers_of a contents) accs)
lists_sound a contents count [] are = All-nil (IsTriangleList count)
lists_sound a contents count (acc ∷ accs) are =
    All-cons (IsTriangleList count) (numbers_of a contents acc) (map (numbers_of a contents) accs) (All-head (IsListOf a contents count) acc accs are).sound
    (lists_sound a contents count accs (All-tail (IsListOf a contents count) acc accs are))

range_below : (count : ℕ) → All (λ v. v < count) (range_with_len 0 count)
range_below count i d below =
    let long = length-range_with_len 0 count in
    let within : i < count = omega (arith, long, below) in
    subst (λ v. v < count) (sym (get_or-range_with_len 0 count i d within)) (omega (arith, within))

-- the lists of accessors
abbrev own_lists : AssetParts → List (List ℕ) → Group → List (List ℕ)
own_lists a contents g = map (numbers_of a contents) (accessors_at a g.lists)

abbrev Few : List ℕ → Type 0
Few l = length l ≤ 3 * 2 ^ 25

own_sound : (a : AssetParts) (contents : List (List ℕ)) (g : Group) → is_movable a contents g ≡ true → All (IsTriangleList g.count) (own_lists a contents g)
own_sound a contents g movable =
    lists_sound a contents g.count (accessors_at a g.lists) (found_all a.accessors (is_index_list a contents g.count) (IsListOf a contents g.count) (λ k acc found is. list_is a contents g.count acc is) g.lists (conditions a contents g movable).lists)

own_few : (a : AssetParts) (contents : List (List ℕ)) (g : Group) (n : ℕ) → is_movable a contents g ≡ true → sum_by (count_at a.accessors) g.lists + n ≤ 3 * 2 ^ 25 → All Few (own_lists a contents g)
own_few a contents g n movable most =
    All-weaker (λ (l : List ℕ). length l ≤ sum_by (count_at a.accessors) g.lists) Few (λ l fits. omega (arith, fits, most)) (own_lists a contents g) (lists_few a contents g.count g.lists (conditions a contents g movable).lists)

by_bare : (a : AssetParts) (contents : List (List ℕ)) (g : Group) → is_movable a contents g ≡ true → (b : Bool) → g.bare ≡ b
    → All (IsTriangleList g.count) (own_lists a contents g ++ (if b then range_with_len 0 g.count ∷ [] else [])) × All Few (own_lists a contents g ++ (if b then range_with_len 0 g.count ∷ [] else []))
by_bare a contents g movable false is =
    let own = own_lists a contents g in
    let none : own ≡ own ++ [] = sym (append-nil own) in
    let most : corner_count a g ≡ sum_by (count_at a.accessors) g.lists + 0 = ap (λ (b : Bool). sum_by (count_at a.accessors) g.lists + (if b then g.count else 0)) is in
    let fits = (conditions a contents g movable).corners in
    (subst (All (IsTriangleList g.count)) none (own_sound a contents g movable), subst (All Few) none (own_few a contents g 0 movable (omega (arith, most, fits))))
by_bare a contents g movable true is =
    let own = own_lists a contents g in
    let most : corner_count a g ≡ sum_by (count_at a.accessors) g.lists + g.count = ap (λ (b : Bool). sum_by (count_at a.accessors) g.lists + (if b then g.count else 0)) is in
    let fits = (conditions a contents g movable).corners in
    let long = length-range_with_len 0 g.count in
    let thirds : (g.count % 3 == 0) ≡ true = ap (λ (b : Bool). not b || g.count % 3 == 0) (sym is) ∙ (conditions a contents g movable).whole in
    let sound : IsTriangleList g.count (range_with_len 0 g.count) = record { whole = ap (λ n. n % 3) long ∙ eqb-true (g.count % 3) 0 thirds; below = range_below g.count } in
    let few : length (range_with_len 0 g.count) ≤ 3 * 2 ^ 25 = omega (arith, long, most, fits) in (
      All-append (IsTriangleList g.count) own (range_with_len 0 g.count ∷ []) (own_sound a contents g movable) (All-cons (IsTriangleList g.count) (range_with_len 0 g.count) [] sound (All-nil (IsTriangleList g.count))),
      All-append Few own (range_with_len 0 g.count ∷ []) (own_few a contents g g.count movable (omega (arith, most, fits))) (All-cons Few (range_with_len 0 g.count) [] few (All-nil Few)),
    )

-- all lists of a group that may move are of whole triangles, and not too long for an order
pub lists_proper : (a : AssetParts) (contents : List (List ℕ)) (g : Group) → is_movable a contents g ≡ true
    → All (IsTriangleList g.count) (lists a contents g) × All Few (lists a contents g)
unfolding lists
lists_proper a contents g movable = by_bare a contents g movable g.bare refl
