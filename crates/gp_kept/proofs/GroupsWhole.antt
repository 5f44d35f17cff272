-- What is known of a group that may move: its columns, its vertices and its lists.
use Rattle.std.specs.Prelude.{◌==◌, ◌%◌, ◌^◌, if◌then◌else◌, filter_map, flat_map, option_map, unwrap_or, option_to_list, Option, Some, None}
use Rattle.std.specs.Str.{bytes_eq}
use Rattle.std.specs.List.{All, cons_option, list_all, range_with_len}
use Rattle.std.proofs.Common.{◌≡◌, inl, inr, ℕ, zero, suc, ◌+◌, ◌<◌, ◌≤◌, Bool, true, false, not, ◌&&◌, ◌||◌, List, [], ◌∷◌, ◌++◌, length, map, filter, slice_get, refl, sym, ap, ◌∙◌, subst, arith, length-append}
use Rattle.std.proofs.lemmas.Bool.{cases_Bool, and_parts, eqb-true, leb-true}
use Rattle.std.proofs.lemmas.List.{length-map}
use Rattle.std.proofs.lemmas.List.Elements.{All-nil, All-cons, All-head, All-tail}
use Rattle.std.proofs.lemmas.List.FromFn.{length-map-range_with_len}
use Rattle.gp_rules.specs.declared.accessing.Accessor.{Accessor}
use Rattle.gp_rules.specs.declared.accessing.Shape.{Shape}
use Rattle.gp_rules.specs.declared.accessing.Shape.TheVariants.{Scalar, Vec2, Vec3, Vec4, Mat2, Mat3, Mat4}
use Rattle.gp_rules.specs.declared.storage.View.{View}
use Rattle.gp_rules.specs.Accessors.{is_bad_accessor, is_index}
use Rattle.gp_fields.specs.declared.geometry.Entry.{Entry}
use Rattle.gp_asset.specs.declared.geometry.Primitive.{Primitive}
use Rattle.gp_asset.specs.Asset.{AssetParts}
use Rattle.gp_elements.specs.Held.{IsSound}
use Rattle.gp_alias.specs.declared.group.Group.{Group}
use Rattle.gp_alias.specs.Groups.{is_among, vertex_accessors, index_accessors, primitives_at, rising}
use Rattle.gp_alias.specs.Movable.{numbers_of, holds_at, is_vector as is_vector_shape, is_scalar, is_given, has_resolved, has_column_shape, has_corner_shape, is_triangle_list, is_vertex, greatest, has_vertices, is_column, is_index_list, has_attributes, is_empty}
use Rattle.gp_alias.specs.Records.{accessors_at, vertex_record, records, lists}
use Rattle.gp_alias.proofs.Members.{Among, among_filter, among_range}
use Rattle.gp_alias.proofs.ClassLaws.{in_from}
use Rattle.gp_alias.proofs.RecordsOf.{sound_of}
use Rattle.gp_moving.specs.Records.{without_repeats}
use Rattle.gp_moving.specs.Ordered.{chosen_by}
use Rattle.gp_moving.specs.Kept.{AreChosen, KeepsRecords}
use Rattle.gp_moving.proofs.Lists.{IsKept, same_of, lists_kept}
use Rattle.gp_cache.specs.Tipsify.{better}
use Rattle.gp_packed.specs.MadeLaws.{is_vector}
use Rattle.gp_packed.specs.MovedGroups.{ordered_group, number_if}
use Rattle.gp_kept.specs.TrianglesMoved.{IsRead}
use Rattle.gp_kept.proofs.GroupsApart.{MayMove, Conditions, conditions_of, numbers_pass}
use Rattle.gp_kept.proofs.TrianglesMoved.{primitive_refers}
use Rattle.gp_kept.proofs.ChosenOrders.{chosen_by_better}
use Rattle.gp_kept.proofs.RecordsMoved.{new_records_kept}

-- ---- distinct records

short_filter : {A : Type 0} (p : A → Bool) (xs : List A) → length (filter p xs) ≤ length xs
short_filter p [] = omega arith
short_filter p (x ∷ xs) = let rest = short_filter p xs in elim (cases_Bool (p x)) [ inl passes ↦ rw passes (omega (arith, rest)) | inr never ↦ rw never (omega (arith, rest)) ]

few_left : {A : Type 0} (same : A → A → Bool) (xs : List A) → length (without_repeats same xs) ≤ length xs
few_left same [] = omega arith
few_left same (x ∷ xs) = omega (arith, short_filter (λ other. not (same x other)) (without_repeats same xs), few_left same xs)

-- ---- what is found of the accessors with some numbers

pub all_found : (accessors : List Accessor) (test : Accessor → Bool) (P : Accessor → Type 0) → ((k : ℕ) (x : Accessor) → slice_get accessors k ≡ Some x → test x ≡ true → P x)
    → (numbers : List ℕ) → list_all (holds_at accessors test) numbers ≡ true → All P (filter_map (slice_get accessors) numbers)
all_found accessors test P has [] is = All-nil P
all_found accessors test P has (k ∷ ks) is =
    let parts = and_parts (holds_at accessors test k) (list_all (holds_at accessors test) ks) is in
    by_found (slice_get accessors k) refl parts.0 (all_found accessors test P has ks parts.1)
  where
    by_found : (o : Option Accessor) → slice_get accessors k ≡ o → unwrap_or (option_map test o) false ≡ true → All P (filter_map (slice_get accessors) ks)
        → All P (cons_option o (filter_map (slice_get accessors) ks))
    by_found None found passes rest = rest
    by_found (Some x) found passes rest = All-cons P x (filter_map (slice_get accessors) ks) (has k x found passes) rest

pub one_found : (accessors : List Accessor) (test : Accessor → Bool) (k : ℕ) → holds_at accessors test k ≡ true → (x : Accessor) × (slice_get accessors k ≡ Some x) × (test x ≡ true)
one_found accessors test k is = by_found (slice_get accessors k) refl is
  where
    by_found : (o : Option Accessor) → slice_get accessors k ≡ o → unwrap_or (option_map test o) false ≡ true → (x : Accessor) × (slice_get accessors k ≡ Some x) × (test x ≡ true)
    by_found None found passes = absurd (cc)
    by_found (Some x) found passes = (x, found, passes)

-- all of them are there
as_many_found : (accessors : List Accessor) (test : Accessor → Bool) (numbers : List ℕ) → list_all (holds_at accessors test) numbers ≡ true → length (filter_map (slice_get accessors) numbers) ≡ length numbers
as_many_found accessors test [] is = refl
as_many_found accessors test (k ∷ ks) is =
    let parts = and_parts (holds_at accessors test k) (list_all (holds_at accessors test) ks) is in
    by_found (slice_get accessors k) parts.0 (as_many_found accessors test ks parts.1)
  where
    by_found : (o : Option Accessor) → unwrap_or (option_map test o) false ≡ true → length (filter_map (slice_get accessors) ks) ≡ length ks → length (cons_option o (filter_map (slice_get accessors) ks)) ≡ suc (length ks)
    by_found None passes rest = absurd (cc)
    by_found (Some x) passes rest = ap suc rest

-- ---- one column

pub record IsColumnOf (vertices : ℕ) (x : Accessor) : Type 0 where
  pub given : is_given x ≡ true
  pub vector : is_vector_shape x.shape ≡ true
  pub count : x.count ≡ vertices

pub column_of : (contents : List (List ℕ)) (n : ℕ) (x : Accessor) → is_column contents n x ≡ true → IsColumnOf n x
unfolding is_column
column_of contents n x is =
    let shape = (and_parts (has_column_shape n x) (has_resolved contents x) is).0 in
    let last = and_parts (is_given x && is_vector_shape x.shape) (x.count == n) shape in
    let first = and_parts (is_given x) (is_vector_shape x.shape) last.0 in
    record { given = first.0; vector = first.1; count = eqb-true x.count n last.1 }

same_vector : (s : Shape) → is_vector_shape s ≡ is_vector s
same_vector Scalar = refl
same_vector Vec2 = refl
same_vector Vec3 = refl
same_vector Vec4 = refl
same_vector Mat2 = refl
same_vector Mat3 = refl
same_vector Mat4 = refl

-- a sound accessor has elements
zero_is_bad : (n : ℕ) (b c : Bool) → (((n == 0) || b) || c) ≡ false → 1 ≤ n
zero_is_bad zero b c is = absurd (cc)
zero_is_bad (suc n) b c is = omega arith

pub some_elements : (views : List View) (x : Accessor) → IsSound views x → 1 ≤ x.count
unfolding is_bad_accessor
some_elements views x sound = zero_is_bad x.count _ _ sound.rules

-- ---- one list

pub record IsListOf (a : AssetParts) (contents : List (List ℕ)) (vertices : ℕ) (x : Accessor) : Type 0 where
  pub scalar : is_scalar x.shape ≡ true
  pub index : is_index x.component ≡ true
  pub whole : x.count % 3 ≡ 0
  pub below : list_all (is_vertex vertices (greatest x)) (numbers_of a contents x) ≡ true

pub list_of : (a : AssetParts) (contents : List (List ℕ)) (n : ℕ) (x : Accessor) → is_index_list a contents n x ≡ true → IsListOf a contents n x
unfolding is_triangle_list has_vertices
list_of a contents n x is =
    let last = and_parts (is_triangle_list x && has_resolved contents x) (has_vertices a contents n x) is in
    let first = and_parts (is_triangle_list x) (has_resolved contents x) last.0 in
    let shape = (and_parts (is_given x) (has_corner_shape x) first.0).1 in
    let whole = and_parts (is_scalar x.shape && is_index x.component) (x.count % 3 == 0) shape in
    let own = and_parts (is_scalar x.shape) (is_index x.component) whole.0 in
    record { scalar = own.0; index = own.1; whole = eqb-true (x.count % 3) 0 whole.1; below = last.1 }

-- ---- members of lists of numbers

is_rising : (n x : ℕ) (listed : List ℕ) → x < n → Among x listed → Among x (rising n listed)
unfolding rising
is_rising n x listed below h = among_filter (is_among listed) (range_with_len 0 n) x (among_range 0 n x (omega arith) (omega (arith, below))) (in_from listed x h)

pub left_in : (x : ℕ) (xs ys : List ℕ) → Among x xs → Among x (xs ++ ys)
left_in x [] ys h = absurd h
left_in x (y ∷ xs) ys (inl e) = inl e
left_in x (y ∷ xs) ys (inr h) = inr (left_in x xs ys h)

pub right_in : (x : ℕ) (xs ys : List ℕ) → Among x ys → Among x (xs ++ ys)
right_in x [] ys h = h
right_in x (y ∷ xs) ys h = inr (right_in x xs ys h)

-- an accessor of a primitive is among those of all
kept_behind : (x : ℕ) (o : Option Primitive) (ps : List Primitive) → Among x (flat_map vertex_accessors ps) → Among x (flat_map vertex_accessors (cons_option o ps))
kept_behind x None ps h = h
kept_behind x (Some q) ps h = right_in x (vertex_accessors q) (flat_map vertex_accessors ps) h

member_has : (a : AssetParts) (x : ℕ) (ks : List ℕ) (k : ℕ) (p : Primitive) → Among k ks → slice_get a.primitives k ≡ Some p → Among x (vertex_accessors p) → Among x (flat_map vertex_accessors (primitives_at a ks))
member_has a x [] k p h there own = absurd h
member_has a x (j ∷ ks) k p (inl e) there own =
    subst (λ o. Among x (flat_map vertex_accessors (cons_option o (primitives_at a ks)))) (sym (ap (slice_get a.primitives) (sym e) ∙ there))
    (left_in x (vertex_accessors p) (flat_map vertex_accessors (primitives_at a ks)) own)
member_has a x (j ∷ ks) k p (inr h) there own = kept_behind x (slice_get a.primitives j) (primitives_at a ks) (member_has a x ks k p h there own)

-- ---- a group

-- an attribute names an accessor
named_front : (n : ℕ) (es fs : List Entry) (more : List ℕ) → All (λ at. at < n) (map (λ (e : Entry). e.accessor) (es ++ fs) ++ more) → All (λ (e : Entry). e.accessor < n) es
named_front n [] fs more all = All-nil (λ (e : Entry). e.accessor < n)
named_front n (e ∷ es) fs more all =
    let rest = map (λ (e : Entry). e.accessor) (es ++ fs) ++ more in
    All-cons (λ (e : Entry). e.accessor < n) e es (All-head (λ at. at < n) e.accessor rest all) (named_front n es fs more (All-tail (λ at. at < n) e.accessor rest all))

named : (a : AssetParts) (contents : List (List ℕ)) → IsRead a contents → (k : ℕ) (p : Primitive) → slice_get a.primitives k ≡ Some p → All (λ (e : Entry). e.accessor < length a.accessors) p.attributes
named a contents known k p there = named_front (length a.accessors) p.attributes (flat_map (λ t. t) p.targets) (index_accessors p) (primitive_refers a contents k p known there)

module _ (a : AssetParts) (contents : List (List ℕ)) (known : IsRead a contents) (g : Group) (m : MayMove a contents g) where
  pub holds : Conditions a contents g
  holds = conditions_of a contents g m.moves

  -- ---- columns

  abbrev FirstColumn : Type 0
  FirstColumn = (x : ℕ) × Among x g.columns

  attribute_first : (p : Primitive) → slice_get a.primitives m.first ≡ Some p → (es : List Entry) → p.attributes ≡ es → not (is_empty es) ≡ true → FirstColumn
  attribute_first p there [] e some = absurd (cc)
  attribute_first p there (entry ∷ es) e some =
      let x = entry.accessor in
      let below : x < length a.accessors = (subst (All (λ (f : Entry). f.accessor < length a.accessors)) e (named a contents known m.first p there)) 0 entry (omega arith) in
      let own : Among x (vertex_accessors p) = subst (λ fs. Among x (map (λ (f : Entry). f.accessor) (fs ++ flat_map (λ t. t) p.targets))) (sym e) (inl refl) in
      let listed = flat_map vertex_accessors (primitives_at a g.primitives) in
      (x, subst (Among x) (sym m.columns) (is_rising (length a.accessors) x listed below (member_has a x g.primitives m.first p m.has_first there own)))

  -- it has a column
  pub first_column : FirstColumn
  first_column =
      by_found (slice_get a.primitives m.first) refl (numbers_pass (has_attributes a.primitives) g.primitives m.first holds.attributes m.has_first)
    where
      by_found : (o : Option Primitive) → slice_get a.primitives m.first ≡ o → unwrap_or (option_map (λ (p : Primitive). not (is_empty p.attributes)) o) false ≡ true → FirstColumn
      by_found None there passes = absurd (cc)
      by_found (Some p) there passes = attribute_first p there p.attributes refl passes

  -- and so vertices
  pub some_vertices : 1 ≤ g.count
  some_vertices =
      let x = one_found a.accessors (is_column contents g.count) first_column.0 (numbers_pass (holds_at a.accessors (is_column contents g.count)) g.columns first_column.0 holds.columns first_column.1) in
      let count = (column_of contents g.count x.0 x.2).count in
      let some = some_elements a.views x.0 (sound_of a first_column.0 x.0 known.accessors x.1) in
      omega (arith, count, some)

  pub few_vertices : g.count ≤ 2 ^ 24
  few_vertices = leb-true g.count (2 ^ 24) holds.few

  -- ---- records

  pub count_records : length (records a contents g) ≡ g.count
  unfolding records
  count_records = length-map-range_with_len (vertex_record a contents g.columns) 0 g.count

  abbrev pub orders : List (List ℕ)
  orders = chosen_by better (records a contents g) (lists a contents g)

  pub chosen : AreChosen (records a contents g) (lists a contents g) orders
  chosen = chosen_by_better a contents g m.moves

  pub keeps : KeepsRecords (records a contents g) (ordered_group a contents g).records
  keeps = new_records_kept a contents g m.moves

  -- ---- the group as it moves

  pub few_records : length (ordered_group a contents g).records ≤ g.count
  few_records =
      let few = few_left bytes_eq (records a contents g) in
      let count = keeps.count in
      let n = count_records in
      omega (arith, few, count, n)

  -- ---- as many lists as it has

  count_lists : length (lists a contents g) ≡ length g.lists + length (if g.bare then range_with_len 0 g.count ∷ [] else [])
  unfolding lists
  count_lists =
      length-append (map (numbers_of a contents) (accessors_at a g.lists)) (if g.bare then range_with_len 0 g.count ∷ [] else [])
      ∙ ap (λ n. n + length (if g.bare then range_with_len 0 g.count ∷ [] else []))
      (length-map (accessors_at a g.lists) (numbers_of a contents) ∙ as_many_found a.accessors (is_index_list a contents g.count) g.lists holds.lists)

  bare_count : (b : Bool) (next : ℕ) → length (if b then range_with_len 0 g.count ∷ [] else []) ≡ length (option_to_list (number_if b next))
  bare_count true next = refl
  bare_count false next = refl

  pub each_list : (next : ℕ) → length (ordered_group a contents g).lists ≡ length (g.lists ++ option_to_list (number_if g.bare next))
  each_list next =
      let new = (ordered_group a contents g).lists in
      let lengths : map length new ≡ map length (lists a contents g) =
      same_of (λ list other. IsKept (records a contents g) list (ordered_group a contents g).records other) length length (λ list other k. k.long) (lists a contents g) new
      (lists_kept (records a contents g) (lists a contents g) orders chosen) in
      sym (length-map new length) ∙ ap length lengths ∙ length-map (lists a contents g) length ∙ count_lists
      ∙ ap (λ n. length g.lists + n) (bare_count g.bare next) ∙ sym (length-append g.lists (option_to_list (number_if g.bare next)))
