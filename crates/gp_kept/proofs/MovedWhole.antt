-- A group that moves is whole: its records, its columns and its lists are as long as they have to be.
use Rattle.std.proofs.Common.{◌≡◌, ℕ, ◌+◌, ◌%◌, ◌<◌, ◌≤◌, ◌==◌, Bool, true, false, not, ◌&&◌, ◌||◌, if◌then◌else◌, List, [], ◌∷◌, ◌++◌, length, map, get_or, Option, Some, None, refl, sym, ap, ◌∙◌, subst, arith, eq-eqb, length-append}
use Rattle.std.specs.Prelude.{slice_get, unwrap_or, option_map, option_to_list, is_some, sum_by, filter}
use Rattle.std.specs.List.{All, list_any, flat_map, range_with_len}
use Rattle.std.proofs.lemmas.Bool.{true≢false, and_parts, or_parts, or_left}
use Rattle.std.proofs.lemmas.Bool.Decides.{nat_tests}
use Rattle.std.proofs.lemmas.List.{length-map, get_or_default}
use Rattle.std.proofs.lemmas.List.Elements.{All-nil, All-cons, All-append, All-map, All-weaker, All-head, All-tail, All-contains}
use Rattle.std.proofs.lemmas.List.FromFn.{length-range_with_len}
use Rattle.std.proofs.lemmas.List.Sums.{AllPass-from_list_all, length-filter, count_by-le-length, sum_by-cons}
use Rattle.std.proofs.lemmas.Option.{slice_get-map, slice_get-get_or, slice_get_within, get_or_from_slice_get}
use Rattle.std.specs.Str.{bytes_eq}
use Rattle.gp_fields.specs.declared.geometry.Entry.{Entry}
use Rattle.gp_rules.specs.declared.storage.View.{View}
use Rattle.gp_rules.specs.declared.accessing.Accessor.{Accessor}
use Rattle.gp_rules.specs.declared.accessing.Shape.{Shape}
use Rattle.gp_rules.specs.declared.accessing.Shape.TheVariants.{Scalar, Vec2, Vec3, Vec4, Mat2, Mat3, Mat4}
use Rattle.gp_rules.specs.Accessors.{size_of, is_index, view_at, runs_past, is_bad_sparse, is_bad_accessor}
use Rattle.gp_asset.specs.declared.geometry.Primitive.{Primitive}
use Rattle.gp_asset.specs.Asset.{AssetParts}
use Rattle.gp_elements.specs.Elements.{number_of}
use Rattle.gp_elements.specs.Held.{IsSound}
use Rattle.gp_alias.specs.declared.group.Group.{Group}
use Rattle.gp_alias.specs.Classes.{triangle_places, class_of, is_leading, classes}
use Rattle.gp_alias.specs.Groups.{vertex_accessors, index_accessors, gathered}
use Rattle.gp_alias.specs.Movable.{items_of, numbers_of, is_empty, has_attributes, is_given, is_vector as is_column_shape, is_scalar, has_column_shape, has_resolved, is_column, has_corner_shape, is_triangle_list, has_vertices, is_index_list, is_movable, group_of, groups}
use Rattle.gp_alias.specs.Records.{item_of, accessors_at, vertex_record, records, lists}
use Rattle.gp_alias.specs.Laws.{IsIn}
use Rattle.gp_alias.proofs.Members.{filter_among}
use Rattle.gp_alias.proofs.Reach.{in_own_class}
use Rattle.gp_alias.proofs.ClassLaws.{in_from, from_in}
use Rattle.gp_alias.proofs.Links.{some_where}
use Rattle.gp_cache.specs.Tipsify.{better}
use Rattle.gp_moving.specs.Records.{without_repeats, distinct}
use Rattle.gp_moving.specs.Ordered.{chosen_by}
use Rattle.gp_moving.specs.Triangles.{IsTriangleList}
use Rattle.gp_moving.proofs.Lists.{IsKept, right_of, same_of, lists_kept}
use Rattle.gp_sameness.specs.Moved.{Moved}
use Rattle.gp_packed.specs.MadeLaws.{is_vector, record_size, AreNumbers, IsWhole}
use Rattle.gp_kept.specs.TrianglesMoved.{RefersBelow, IsRead, MovedGroupIsWhole}
use Rattle.gp_packed.specs.MovedGroups.{moved_of}
use Rattle.gp_packed.specs.RulesMoved.{IsListOf, GroupIsWhole}
use Rattle.gp_kept.proofs.ChosenOrders.{may_move, each_found, length-items, length-records, chosen_by_better}
use Rattle.gp_kept.proofs.SizedElements.{HasSize, all_mapped}
use Rattle.gp_kept.proofs.GroupMembers.{all_in, in_all, in_front, has_accessor, IsGathered, is_gathered, columns_below}
use Rattle.gp_kept.proofs.RecordsRead.{found_at, exist, columns_hold, sized}
use Rattle.gp_kept.proofs.TrianglesMoved.{column_long, list_at, list_is, bare_found, lists_long}
use Rattle.gp_kept.proofs.RecordsMoved.{new_records_kept}

-- ---- distinct records

pub repeats_short : (rs : List (List ℕ)) → length (without_repeats bytes_eq rs) ≤ length rs
repeats_short [] = omega arith
repeats_short (r ∷ rs) =
    let others = without_repeats bytes_eq rs in
    let test = λ (s : List ℕ). not (bytes_eq r s) in
    omega (arith, length-filter test others, count_by-le-length test others, repeats_short rs)

distinct_some : (rs : List (List ℕ)) → 1 ≤ length rs → 1 ≤ length (distinct rs)
distinct_some [] some = absurd (omega (arith, some))
distinct_some (r ∷ rs) some = omega arith

-- ---- an accessor has elements

some_elements : (views : List View) (x : Accessor) → IsSound views x → 1 ≤ x.count
unfolding is_bad_accessor
some_elements views x sound =
    let both = or_parts (x.count == 0 || runs_past x (view_at views x.view)) (is_bad_sparse views x x.sparse) sound.rules in
    let first = or_parts (x.count == 0) (runs_past x (view_at views x.view)) both.0 in
    grind (arith, nat_tests, first.0)

sound_at : (a : AssetParts) (at : ℕ) (x : Accessor) → All (IsSound a.views) a.accessors → slice_get a.accessors at ≡ Some x → IsSound a.views x
sound_at a at x sound there = subst (IsSound a.views) (get_or_from_slice_get a.accessors at x x there) (sound at x (slice_get_within a.accessors at x there))

-- ---- a group has a primitive

pub slice_in : (xs : List ℕ) (k x : ℕ) → slice_get xs k ≡ Some x → IsIn x xs
slice_in xs k x there = subst (λ n. IsIn n xs) (get_or_from_slice_get xs k x 0 there) (all_in xs k 0 (slice_get_within xs k x there))

pub primitives_are : (a : AssetParts) (contents : List (List ℕ)) (places : List ℕ) (at : ℕ) → IsIn at places → IsIn at (group_of a contents places).primitives
unfolding gathered
primitives_are a contents places at inside = inside

some_primitive : (a : AssetParts) (contents : List (List ℕ)) (k : ℕ) (g : Group) → slice_get (groups a contents) k ≡ Some g → (at : ℕ) × IsIn at g.primitives
unfolding groups classes
some_primitive a contents k g is = by_leader (slice_get leaders k) refl (sym (slice_get-map (group_of a contents) (map (class_of a) leaders) k ∙ ap (option_map (group_of a contents)) (slice_get-map (class_of a) leaders k)) ∙ is)
  where
    leaders : List ℕ
    leaders = filter (is_leading a) (triangle_places a)

    by_leader : (o : Option ℕ) → slice_get leaders k ≡ o → option_map (group_of a contents) (option_map (class_of a) o) ≡ Some g → (at : ℕ) × IsIn at g.primitives
    by_leader None there e = absurd (let nothing : None ≡ Some g = e in cc)
    by_leader (Some at) there e =
        let same : group_of a contents (class_of a at) ≡ g = cc in
        let place = (filter_among (is_leading a) (triangle_places a) at (from_in leaders at (slice_in leaders k at there))).0 in
        let inside : IsIn at (class_of a at) = in_from (class_of a at) at (in_own_class a at place) in
        (at, subst (λ (h : Group). IsIn at h.primitives) same (primitives_are a contents (class_of a at) at inside))

-- ---- shapes

same_shapes : (s : Shape) → is_column_shape s ≡ true → is_vector s ≡ true
same_shapes Scalar is = refl
same_shapes Vec2 is = refl
same_shapes Vec3 is = refl
same_shapes Vec4 is = refl
same_shapes Mat2 is = is
same_shapes Mat3 is = is
same_shapes Mat4 is = is

is_vector_column : (contents : List (List ℕ)) (n : ℕ) (x : Accessor) → is_column contents n x ≡ true → is_vector x.shape ≡ true
unfolding is_column
is_vector_column contents n x is =
    let shape = (and_parts (has_column_shape n x) (has_resolved contents x) is).0 in
    same_shapes x.shape (and_parts (is_given x) (is_column_shape x.shape) (and_parts (is_given x && is_column_shape x.shape) (x.count == n) shape).0).1

scalar_shape : (s : Shape) → is_scalar s ≡ true → s ≡ Scalar
scalar_shape Scalar is = refl
scalar_shape Vec2 is = absurd (true≢false (sym is))
scalar_shape Vec3 is = absurd (true≢false (sym is))
scalar_shape Vec4 is = absurd (true≢false (sym is))
scalar_shape Mat2 is = absurd (true≢false (sym is))
scalar_shape Mat3 is = absurd (true≢false (sym is))
scalar_shape Mat4 is = absurd (true≢false (sym is))

scalar_list : (a : AssetParts) (contents : List (List ℕ)) (n : ℕ) (x : Accessor) → is_index_list a contents n x ≡ true → x.shape ≡ Scalar
unfolding is_triangle_list
scalar_list a contents n x is =
    let first = (and_parts (is_triangle_list x) (has_resolved contents x) (and_parts (is_triangle_list x && has_resolved contents x) (has_vertices a contents n x) is).0).0 in
    let shape = (and_parts (is_given x) (has_corner_shape x) first).1 in
    scalar_shape x.shape (and_parts (is_scalar x.shape) (is_index x.component) (and_parts (is_scalar x.shape && is_index x.component) (x.count % 3 == 0) shape).0).0

-- ---- a record

joined_long : (f : Accessor → List ℕ) (xs : List Accessor) → All (λ x. HasSize (size_of x) (f x)) xs → length (flat_map f xs) ≡ sum_by size_of xs
joined_long f [] sizes = refl
joined_long f (x ∷ xs) sizes =
    let P = λ (y : Accessor). HasSize (size_of y) (f y) in
    let own = All-head P x xs sizes in
    let rest = joined_long f xs (All-tail P x xs sizes) in
    omega (arith, length-append (f x) (flat_map f xs), own, rest, sum_by-cons size_of x xs)

module _ (a : AssetParts) (contents : List (List ℕ)) (k : ℕ) (g : Group) (list_accessor : Option ℕ)
    (read : IsRead a contents) (here : slice_get (groups a contents) k ≡ Some g) (movable : is_movable a contents g ≡ true) (given : is_some list_accessor ≡ g.bare) where
  abbrev m : Moved
  m = moved_of a contents list_accessor g

  is : IsGathered a g
  is = is_gathered a contents k g here

  -- ---- how many vertices

  -- some accessor is an attribute of a primitive
  some_column : (at : ℕ) × IsIn at g.columns
  some_column =
      let place = some_primitive a contents k g here in
      let test = has_attributes a.primitives in
      let holds = in_all (λ n. test n ≡ true) g.primitives place.0 (AllPass-from_list_all test g.primitives (may_move a contents g movable).attributes) place.1 in
      let found = some_where (λ (p : Primitive). not (is_empty p.attributes)) (slice_get a.primitives place.0) holds in
      by_attributes place.0 found.0 found.0.attributes refl place.1 found.1.0 found.1.1
    where
      by_attributes : (at : ℕ) (p : Primitive) (attributes : List Entry) → p.attributes ≡ attributes → IsIn at g.primitives → slice_get a.primitives at ≡ Some p → not (is_empty p.attributes) ≡ true
          → (n : ℕ) × IsIn n g.columns
      by_attributes at p [] none inside there some = absurd (true≢false (sym some ∙ ap (λ es. not (is_empty es)) none))
      by_attributes at p (first ∷ more) same inside there some =
          let n = first.accessor in
          let own : IsIn n (vertex_accessors p) =
          ap (λ (es : List Entry). list_any (λ i. i == n) (map (λ (e : Entry). e.accessor) (es ++ flat_map (λ target. target) p.targets))) same ∙ or_left (n == n) _ (eq-eqb n n refl) in
          let refers : RefersBelow (length a.accessors) p =
          subst (RefersBelow (length a.accessors)) (get_or_from_slice_get a.primitives at p p there) (read.primitives at p (slice_get_within a.primitives at p there)) in
          let listed : IsIn n (vertex_accessors p ++ index_accessors p) = in_front n (vertex_accessors p) (index_accessors p) own in
          let below = in_all (λ i. i < length a.accessors) (vertex_accessors p ++ index_accessors p) n refers listed in
          (n, subst (IsIn n) (sym is.columns) (has_accessor a at p there vertex_accessors g.primitives n inside own below))

  some_vertices : 1 ≤ g.count
  some_vertices =
      let column = some_column in
      let there = found_at a.accessors column.0 (in_all (λ n. n < length a.accessors) g.columns column.0 (columns_below a g is) column.1) in
      let sound = sound_at a column.0 there.0 read.accessors there.1 in
      let long = column_long a contents g is movable column.0 column.1 in
      let same = ap (λ o. length (unwrap_or (option_map (items_of a contents) o) [])) there.1 ∙ length-items a contents there.0 in
      omega (arith, some_elements a.views there.0 sound, long, same)

  -- ---- records

  old_long : All (λ r. length r ≡ record_size a m) (records a contents g)
  unfolding records
  old_long = all_mapped (λ r. length r ≡ record_size a m) (vertex_record a contents g.columns) g.count
      (λ i below. joined_long (item_of a contents i) (accessors_at a g.columns) (sized a contents g list_accessor read is movable i below))

  -- ---- new lists

  new_sound : All (IsTriangleList (length m.records)) m.ordered
  new_sound =
      let rs = records a contents g in
      let ls = lists a contents g in
      let chosen = chosen_by better rs ls in
      right_of (λ list other. IsKept rs list m.records other) (IsTriangleList (length m.records)) (λ list other keeps. keeps.sound) ls m.ordered (lists_kept rs ls chosen (chosen_by_better a contents g movable))

  lengths : map length m.ordered ≡ map length (lists a contents g)
  lengths =
      let rs = records a contents g in
      let ls = lists a contents g in
      let chosen = chosen_by better rs ls in
      same_of (λ list other. IsKept rs list m.records other) length length (λ list other keeps. keeps.long) ls m.ordered (lists_kept rs ls chosen (chosen_by_better a contents g movable))

  whole : IsWhole a m
  whole =
      let keeps = new_records_kept a contents g movable in
      let long = length-records a contents g in
      let fewer = repeats_short (records a contents g) in
      let rs = records a contents g in
      let ls = lists a contents g in
      let chosen = chosen_by better rs ls in
      record {
        some = omega (arith, keeps.count, distinct_some rs (omega (arith, long, some_vertices)));
        few = omega (arith, keeps.count, fewer, long, (may_move a contents g movable).few);
        exist = exist a contents g list_accessor read is movable;
        vectors = columns_hold a contents g list_accessor read is movable (λ x. is_vector x.shape ≡ true) (λ n x there column. is_vector_column contents g.count x column);
        long = λ i d below.
            let r = get_or m.records i d in
            All-contains (λ s. length s ≡ record_size a m) rs r old_long ((keeps.same_set r).0 (i, below, get_or_default m.records i r d below));
        numbered = All-weaker (IsTriangleList (length m.records)) (AreNumbers m) (λ list sound. sound.below) m.ordered new_sound;
      }

  -- ---- each list

  -- a new list is as long as the old one
  as_long : (i : ℕ) (old new : List ℕ) → slice_get (lists a contents g) i ≡ Some old → slice_get m.ordered i ≡ Some new → length new ≡ length old
  as_long i old new before after =
      let one : option_map (λ (l : List ℕ). length l) (slice_get m.ordered i) ≡ option_map (λ (l : List ℕ). length l) (slice_get (lists a contents g) i) =
      sym (slice_get-map (λ (l : List ℕ). length l) m.ordered i) ∙ ap (λ ns. slice_get ns i) lengths ∙ slice_get-map (λ (l : List ℕ). length l) (lists a contents g) i in
      let two : Some (length new) ≡ Some (length old) = sym (ap (option_map (λ (l : List ℕ). length l)) after) ∙ one ∙ ap (option_map (λ (l : List ℕ). length l)) before in
      cc

  counted : length m.ordered ≡ length (lists a contents g)
  counted = sym (length-map m.ordered length) ∙ ap length lengths ∙ length-map (lists a contents g) length

  views_for : (bare : Bool) (o : Option ℕ) → is_some o ≡ bare → length (g.lists ++ option_to_list o) ≡ length g.lists + (if bare then 1 else 0)
  views_for bare (Some n) same = length-append g.lists (n ∷ []) ∙ ap (λ b. length g.lists + (if b then 1 else 0)) same
  views_for bare None same = length-append g.lists [] ∙ ap (λ b. length g.lists + (if b then 1 else 0)) same

  own_list : (i at : ℕ) (x : Accessor) (list : List ℕ) → slice_get g.lists i ≡ Some at → slice_get a.accessors at ≡ Some x → slice_get m.ordered i ≡ Some list → IsListOf x list
  own_list i at x list place there new =
      let test = list_is a contents g is movable at x (slice_in g.lists i at place) there in
      record {
        scalars = scalar_list a contents g.count x test;
        long = as_long i (numbers_of a contents x) list (list_at a contents g is movable i at x place there) new ∙ length-map (items_of a contents x) number_of ∙ length-items a contents x;
      }

  made_list : (list : List ℕ) → slice_get m.ordered (length g.lists) ≡ Some list → length list ≡ g.count
  made_list list new = by_bare g.bare refl
    where
      by_bare : (b : Bool) → g.bare ≡ b → length list ≡ g.count
      by_bare true bare = as_long (length g.lists) (range_with_len 0 g.count) list (bare_found a contents g is movable bare) new ∙ length-range_with_len 0 g.count
      by_bare false bare =
          let many = lists_long a contents g is movable ∙ ap (λ b. length g.lists + (if b then 1 else 0)) bare in
          let within = slice_get_within m.ordered (length g.lists) list new in
          absurd (omega (arith, within, counted, many))

  old_filled : All (λ list. 1 ≤ length list) (lists a contents g)
  unfolding lists
  old_filled =
      let P = λ (list : List ℕ). 1 ≤ length list in
      All-append P (map (numbers_of a contents) (accessors_at a g.lists)) (if g.bare then range_with_len 0 g.count ∷ [] else [])
      (All-map P (numbers_of a contents) (accessors_at a g.lists)
      (each_found a.accessors (is_index_list a contents g.count) (λ x. P (numbers_of a contents x)) (λ at x there test.
      let many = length-map (items_of a contents x) number_of in
      let long = length-items a contents x in
      omega (arith, some_elements a.views x (sound_at a at x read.accessors there), many, long)) g.lists (may_move a contents g movable).lists))
      (bare_filled g.bare)
    where
      bare_filled : (b : Bool) → All (λ list. 1 ≤ length list) (if b then range_with_len 0 g.count ∷ [] else [])
      bare_filled true = All-cons (λ (list : List ℕ). 1 ≤ length list) (range_with_len 0 g.count) [] (let long = length-range_with_len 0 g.count in omega (arith, long, some_vertices)) (All-nil (λ (list : List ℕ). 1 ≤ length list))
      bare_filled false = All-nil (λ (list : List ℕ). 1 ≤ length list)

  filled : All (λ list. 1 ≤ length list) m.ordered
  filled i d below =
      let within : i < length (lists a contents g) = omega (arith, below, counted) in
      let old = get_or (lists a contents g) i d in
      let same = as_long i old (get_or m.ordered i d) (slice_get-get_or (lists a contents g) i d within) (slice_get-get_or m.ordered i d below) in
      omega (arith, old_filled i d within, same)

  pub moves_whole : GroupIsWhole a m
  moves_whole = record {
    columns = whole;
    views = record { exist = exist a contents g list_accessor read is movable; each = counted ∙ lists_long a contents g is movable ∙ sym (views_for g.bare list_accessor given) };
    lists = record {
      own = own_list;
      made = made_list;
      filled = filled;
      triples = All-weaker (IsTriangleList (length m.records)) (λ list. length list % 3 ≡ 0) (λ list sound. sound.whole) m.ordered new_sound;
    };
  }

pub moved_group_is_whole : MovedGroupIsWhole
moved_group_is_whole a contents k g list_accessor read here movable given = moves_whole a contents k g list_accessor read here movable given
