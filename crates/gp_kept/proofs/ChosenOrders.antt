-- The better order may be chosen for the lists of a group that may move.
use Rattle.std.proofs.Common.{◌≡◌, ℕ, ◌^◌, ◌*◌, ◌%◌, ◌<◌, ◌≤◌, ◌==◌, nat_lt, nat_le, nat_eq, Bool, true, false, not, ◌&&◌, ◌||◌, if◌then◌else◌, List, [], ◌∷◌, length, map, Option, Some, None, refl, sym, ap, ◌∙◌, subst, arith, eqb-true, ltb-true}
use Rattle.std.specs.Prelude.{slice_get, unwrap_or, option_map, count_by}
use Rattle.std.specs.List.{All, list_all, filter_map, cons_option, range_with_len}
use Rattle.std.proofs.lemmas.Bool.{and_parts, leb-true}
use Rattle.std.proofs.lemmas.List.{length-map}
use Rattle.std.proofs.lemmas.List.Elements.{All-nil, All-cons, All-append, All-map, All-weaker}
use Rattle.std.proofs.lemmas.List.FromFn.{length-range_with_len, length-map-range_with_len, get_or-range_with_len}
use Rattle.std.proofs.lemmas.List.Sums.{AllPass-from_list_all}
use Rattle.gp_rules.specs.declared.accessing.Accessor.{Accessor}
use Rattle.gp_rules.specs.declared.accessing.Sparse.{Sparse}
use Rattle.gp_rules.specs.Accessors.{is_index}
use Rattle.gp_asset.specs.Asset.{AssetParts}
use Rattle.gp_elements.specs.Elements.{number_of, items_in, indices_in, values_in, with_sparse}
use Rattle.gp_elements.specs.Resolving.{is_resolvable}
use Rattle.gp_elements.proofs.Places.{length-resolved}
use Rattle.gp_alias.specs.declared.group.Group.{Group}
use Rattle.gp_alias.specs.Movable.{items_of, numbers_of, holds_at, is_given, is_vector, is_scalar, has_column_shape, has_resolved, is_column, has_corner_shape, is_triangle_list, has_vertices, is_vertex, greatest, is_index_list, have_attributes, is_used_only, is_vertex_role, is_index_role, are_whole, corner_count, is_movable}
use Rattle.gp_alias.specs.Records.{accessors_at, vertex_record, records, lists}
use Rattle.gp_alias.proofs.ElementNumbers.{length-base}
use Rattle.gp_cache.specs.Triangles.{triples as corner_triples}
use Rattle.gp_cache.specs.Tipsify.{better}
use Rattle.gp_cache.proofs.Orders.{better_length, better_triangles}
use Rattle.gp_moving.specs.Triangles.{IsTriangleList, IsReordered, same_triangle, triples}
use Rattle.gp_moving.proofs.Stored.{chosen_orders, order_by_counts}
use Rattle.gp_kept.specs.TrianglesMoved.{ChosenByBetter}

-- ---- the better order only reorders

same_triples : (list : List ℕ) → corner_triples list ≡ triples list
same_triples [] = refl
same_triples (x ∷ []) = refl
same_triples (x ∷ y ∷ []) = refl
same_triples (x ∷ y ∷ z ∷ rest) = ap (λ ts. (x, y, z) ∷ ts) (same_triples rest)

better_reorders : (list : List ℕ) (m : ℕ) → IsTriangleList m list → IsReordered list (better list m)
better_reorders list m sound =
    order_by_counts list (better list m) (better_length list m sound.below sound.whole) (λ t.
    ap (count_by (same_triangle nat_eq t)) (sym (same_triples list))
    ∙ sym (better_triangles list m sound.below t)
    ∙ ap (count_by (same_triangle nat_eq t)) (same_triples (better list m)))

-- ---- what the conditions say

pub record MayMove (a : AssetParts) (contents : List (List ℕ)) (g : Group) : Type 0 where
  pub attributes : have_attributes a g ≡ true
  pub columns : list_all (holds_at a.accessors (is_column contents g.count)) g.columns ≡ true
  pub few : g.count ≤ 2 ^ 24
  pub lists : list_all (holds_at a.accessors (is_index_list a contents g.count)) g.lists ≡ true
  pub whole : are_whole g ≡ true

conditions : (a b c d e f g h i : Bool) → (a && b && (c && d && e) && (f && g) && h && i) ≡ true → (b ≡ true) × (c ≡ true) × (d ≡ true) × (f ≡ true) × (h ≡ true)
conditions true true true true true true true true i is = (refl, refl, refl, refl, refl)
conditions true true true true true true true false i is = cc
conditions true true true true true true false h i is = cc
conditions true true true true true false g h i is = cc
conditions true true true true false f g h i is = cc
conditions true true true false e f g h i is = cc
conditions true true false d e f g h i is = cc
conditions true false c d e f g h i is = cc
conditions false b c d e f g h i is = cc

pub may_move : (a : AssetParts) (contents : List (List ℕ)) (g : Group) → is_movable a contents g ≡ true → MayMove a contents g
unfolding is_movable
may_move a contents g movable =
    let found =
    conditions a.closed (have_attributes a g) (list_all (holds_at a.accessors (is_column contents g.count)) g.columns) (nat_le g.count (2 ^ 24)) (list_all (is_used_only is_vertex_role a.uses g.primitives) g.columns)
    (list_all (holds_at a.accessors (is_index_list a contents g.count)) g.lists) (list_all (is_used_only is_index_role a.uses g.primitives) g.lists) (are_whole g) (nat_le (corner_count a g) (3 * 2 ^ 25)) movable in
    record { attributes = found.0; columns = found.1; few = leb-true g.count (2 ^ 24) found.2; lists = found.3; whole = found.4 }

-- ---- each accessor that is found has what the test says

pub each_found : (accessors : List Accessor) (test : Accessor → Bool) (P : Accessor → Type 0) → ((k : ℕ) (x : Accessor) → slice_get accessors k ≡ Some x → test x ≡ true → P x) → (numbers : List ℕ)
    → list_all (holds_at accessors test) numbers ≡ true → All P (filter_map (slice_get accessors) numbers)
each_found accessors test P has [] is = All-nil P
each_found accessors test P has (k ∷ ks) is =
    let parts = and_parts (holds_at accessors test k) (list_all (holds_at accessors test) ks) is in
    by_found (slice_get accessors k) refl parts.0 (each_found accessors test P has ks parts.1)
  where
    by_found : (o : Option Accessor) → slice_get accessors k ≡ o → unwrap_or (option_map test o) false ≡ true → All P (filter_map (slice_get accessors) ks) → All P (cons_option o (filter_map (slice_get accessors) ks))
    by_found None found passes rest = rest
    by_found (Some x) found passes rest = All-cons P x (filter_map (slice_get accessors) ks) (has k x found passes) rest

-- ---- how many elements

length-in : (base contents : List (List ℕ)) (x : Accessor) (sparse : Option Sparse) → length (with_sparse base contents x sparse).items ≡ length base
length-in base contents x None = refl
length-in base contents x (Some s) = by_test (is_resolvable x.count (indices_in contents s)) refl
  where
    by_test : (b : Bool) → is_resolvable x.count (indices_in contents s) ≡ b → length (with_sparse base contents x (Some s)).items ≡ length base
    by_test true is = rw is (length-resolved base (indices_in contents s) (values_in contents x s))
    by_test false is = rw is refl

pub length-items : (a : AssetParts) (contents : List (List ℕ)) (x : Accessor) → length (items_of a contents x) ≡ x.count
length-items a contents x = length-in (items_in a.views contents x x.view) contents x x.sparse ∙ length-base a.views contents x x.view

pub count_of_column : (contents : List (List ℕ)) (n : ℕ) (x : Accessor) → is_column contents n x ≡ true → x.count ≡ n
unfolding is_column
count_of_column contents n x is =
    let shape = (and_parts (has_column_shape n x) (has_resolved contents x) is).0 in
    eqb-true x.count n (and_parts (is_given x && is_vector x.shape) (x.count == n) shape).1

-- ---- lists

whole_triangles : (x : Accessor) → is_triangle_list x ≡ true → x.count % 3 ≡ 0
unfolding is_triangle_list
whole_triangles x is =
    let shape = (and_parts (is_given x) (has_corner_shape x) is).1 in
    eqb-true (x.count % 3) 0 (and_parts (is_scalar x.shape && is_index x.component) (x.count % 3 == 0) shape).1

vertices_below : (a : AssetParts) (contents : List (List ℕ)) (n : ℕ) (x : Accessor) → has_vertices a contents n x ≡ true → All (λ v. v < n) (numbers_of a contents x)
unfolding has_vertices
vertices_below a contents n x is =
    All-weaker (λ v. is_vertex n (greatest x) v ≡ true) (λ v. v < n) (λ v passes. ltb-true v n (and_parts (nat_lt v n) (not (v == greatest x)) passes).0)
    (numbers_of a contents x) (AllPass-from_list_all (is_vertex n (greatest x)) (numbers_of a contents x) is)

list_sound : (a : AssetParts) (contents : List (List ℕ)) (n : ℕ) (x : Accessor) → is_index_list a contents n x ≡ true → IsTriangleList n (numbers_of a contents x)
list_sound a contents n x is =
    let both = and_parts (is_triangle_list x && has_resolved contents x) (has_vertices a contents n x) is in
    let first = and_parts (is_triangle_list x) (has_resolved contents x) both.0 in
    record {
      whole = ap (λ k. k % 3) (length-map (items_of a contents x) number_of ∙ length-items a contents x) ∙ whole_triangles x first.0;
      below = vertices_below a contents n x both.1;
    }

range_sound : (n : ℕ) → n % 3 ≡ 0 → IsTriangleList n (range_with_len 0 n)
range_sound n whole = record {
  whole = ap (λ k. k % 3) (length-range_with_len 0 n) ∙ whole;
  below = λ k d within.
      let long = length-range_with_len 0 n in
      let here = get_or-range_with_len 0 n k d (omega (arith, long, within)) in
      omega (arith, long, within, here);
}

-- the one of primitives without indices
bare_sound : (n : ℕ) (bare : Bool) → (not bare || n % 3 == 0) ≡ true → All (IsTriangleList n) (if bare then range_with_len 0 n ∷ [] else [])
bare_sound n true whole = All-cons (IsTriangleList n) (range_with_len 0 n) [] (range_sound n (eqb-true (n % 3) 0 whole)) (All-nil (IsTriangleList n))
bare_sound n false whole = All-nil (IsTriangleList n)

pub lists_sound : (a : AssetParts) (contents : List (List ℕ)) (g : Group) → is_movable a contents g ≡ true → All (IsTriangleList g.count) (lists a contents g)
unfolding lists
lists_sound a contents g movable =
    let may = may_move a contents g movable in
    All-append (IsTriangleList g.count) (map (numbers_of a contents) (accessors_at a g.lists)) (if g.bare then range_with_len 0 g.count ∷ [] else [])
    (All-map (IsTriangleList g.count) (numbers_of a contents) (accessors_at a g.lists)
    (each_found a.accessors (is_index_list a contents g.count) (λ x. IsTriangleList g.count (numbers_of a contents x)) (λ k x found is. list_sound a contents g.count x is) g.lists may.lists))
    (bare_sound g.count g.bare may.whole)

-- ---- the law

pub length-records : (a : AssetParts) (contents : List (List ℕ)) (g : Group) → length (records a contents g) ≡ g.count
unfolding records
length-records a contents g = length-map-range_with_len (vertex_record a contents g.columns) 0 g.count

pub chosen_by_better : ChosenByBetter
chosen_by_better a contents g movable =
    chosen_orders better better_reorders (records a contents g) (lists a contents g)
    (subst (λ n. All (IsTriangleList n) (lists a contents g)) (sym (length-records a contents g)) (lists_sound a contents g movable))
