-- A primitive of a group that moves draws the same triangles.
use Rattle.std.proofs.Common.{◌≡◌, ℕ, zero, suc, ◌<◌, ◌==◌, Bool, true, false, not, if◌then◌else◌, List, [], ◌∷◌, ◌++◌, length, map, Option, Some, None, refl, sym, ap, ◌∙◌, subst, eq-eqb, ◌+◌, length-append}
use Rattle.std.specs.Prelude.{slice_get, unwrap_or, option_map, option_to_list, is_some, is_none}
use Rattle.std.specs.List.{All, list_any, filter_map, flat_map, range_with_len, cons_option}
use Rattle.std.specs.Option.{option_or, IsSome}
use Rattle.std.proofs.lemmas.Bool.{true≢false, or_left}
use Rattle.std.proofs.lemmas.List.{length-map}
use Rattle.std.proofs.lemmas.List.Elements.{All-weaker, All-head, All-tail}
use Rattle.std.proofs.lemmas.List.Sums.{AllPass-from_list_all}
use Rattle.std.proofs.lemmas.Option.{slice_get-map, get_or_from_slice_get, slice_get_within}
use Rattle.gp_fields.specs.declared.geometry.Entry.{Entry}
use Rattle.gp_rules.specs.declared.accessing.Accessor.{Accessor}
use Rattle.gp_asset.specs.declared.geometry.Primitive.{Primitive}
use Rattle.gp_asset.specs.Asset.{AssetParts}
use Rattle.gp_elements.specs.Elements.{number_of}
use Rattle.gp_alias.specs.declared.group.Group.{Group}
use Rattle.gp_alias.specs.Groups.{vertex_accessors, index_accessors}
use Rattle.gp_alias.specs.Movable.{items_of, numbers_of, holds_at, is_empty, has_attributes, is_column, is_index_list, is_movable}
use Rattle.gp_alias.specs.Records.{accessors_at, records, lists}
use Rattle.gp_alias.specs.Laws.{IsIn}
use Rattle.gp_cache.specs.Tipsify.{better}
use Rattle.gp_moving.specs.Ordered.{chosen_by}
use Rattle.gp_moving.specs.Triangles.{same_vertex, Agree}
use Rattle.gp_moving.specs.Kept.{HasTrianglesOf}
use Rattle.gp_moving.proofs.Stored.{is_there, has_triangles}
use Rattle.gp_sameness.specs.Moved.{Moved}
use Rattle.gp_packed.specs.MeshesBack.{with_indices}
use Rattle.gp_kept.specs.TrianglesMoved.{RefersBelow, IsRead, ReadsMoved, IsIndexed, MovedCorners, MovedTriangles}
use Rattle.gp_sameness.specs.Drawn.{vertex_of, all_corners, corners_by, corners_of, triangles_of, elements_at}
use Rattle.gp_packed.specs.MovedGroups.{moved_of}
use Rattle.gp_kept.proofs.MadeColumns.{found}
use Rattle.gp_kept.proofs.ChosenOrders.{may_move, length-items, count_of_column, chosen_by_better}
use Rattle.gp_kept.proofs.GroupMembers.{all_in, in_all, in_front, in_rest, place_in, placed_found, has_accessor, makes_bare, IsGathered, is_gathered, columns_below, lists_below}
use Rattle.gp_kept.proofs.RecordsRead.{exists, found_at, reads, reads_before, reads_after}

-- ---- places in lists

front_found : {A : Type 0} (xs ys : List A) (i : ℕ) (x : A) → slice_get xs i ≡ Some x → slice_get (xs ++ ys) i ≡ Some x
front_found [] ys i x is = absurd (let no : None ≡ Some x = is in cc)
front_found (y ∷ xs) ys zero x is = is
front_found (y ∷ xs) ys (suc i) x is = front_found xs ys i x is

last_found : {A : Type 0} (xs : List A) (x : A) → slice_get (xs ++ x ∷ []) (length xs) ≡ Some x
last_found [] x = refl
last_found (y ∷ xs) x = last_found xs x

-- as many are found as are listed, where all exist
pub all_found : (xs : List Accessor) (numbers : List ℕ) → All (λ at. IsSome (slice_get xs at)) numbers → length (filter_map (slice_get xs) numbers) ≡ length numbers
all_found xs [] exist = refl
all_found xs (n ∷ numbers) exist =
    let P = λ (at : ℕ). IsSome (slice_get xs at) in
    one_more (slice_get xs n) (All-head P n numbers exist) ∙ ap suc (all_found xs numbers (All-tail P n numbers exist))
  where
    one_more : (o : Option Accessor) → IsSome o → length (cons_option o (filter_map (slice_get xs) numbers)) ≡ suc (length (filter_map (slice_get xs) numbers))
    one_more (Some x) some = refl
    one_more None some = absurd (cc)

-- ---- the columns and the lists of a group

module _ (a : AssetParts) (contents : List (List ℕ)) (g : Group) (is : IsGathered a g) (movable : is_movable a contents g ≡ true) where
  column_is : (at : ℕ) (x : Accessor) → IsIn at g.columns → slice_get a.accessors at ≡ Some x → is_column contents g.count x ≡ true
  column_is at x inside there =
      let test = is_column contents g.count in
      let holds = in_all (λ n. holds_at a.accessors test n ≡ true) g.columns at (AllPass-from_list_all (holds_at a.accessors test) g.columns (may_move a contents g movable).columns) inside in
      sym (ap (λ o. unwrap_or (option_map test o) false) there) ∙ holds

  -- each column has so many elements
  pub column_long : (at : ℕ) → IsIn at g.columns → length (elements_at a contents at) ≡ g.count
  column_long at inside =
      let there = found_at a.accessors at (in_all (λ n. n < length a.accessors) g.columns at (columns_below a g is) inside) in
      ap (λ o. length (unwrap_or (option_map (items_of a contents) o) [])) there.1
      ∙ length-items a contents there.0
      ∙ count_of_column contents g.count there.0 (column_is at there.0 inside there.1)

  lists_exist : All (λ at. IsSome (slice_get a.accessors at)) g.lists
  lists_exist = All-weaker (λ at. at < length a.accessors) (λ at. IsSome (slice_get a.accessors at)) (exists a.accessors) g.lists (lists_below a g is)

  pub list_is : (at : ℕ) (x : Accessor) → IsIn at g.lists → slice_get a.accessors at ≡ Some x → is_index_list a contents g.count x ≡ true
  list_is at x inside there =
      let test = is_index_list a contents g.count in
      let holds = in_all (λ n. holds_at a.accessors test n ≡ true) g.lists at (AllPass-from_list_all (holds_at a.accessors test) g.lists (may_move a contents g movable).lists) inside in
      sym (ap (λ o. unwrap_or (option_map test o) false) there) ∙ holds

  -- the list of an accessor
  pub list_at : (i at : ℕ) (x : Accessor) → slice_get g.lists i ≡ Some at → slice_get a.accessors at ≡ Some x → slice_get (lists a contents g) i ≡ Some (numbers_of a contents x)
  unfolding lists
  list_at i at x place there =
      let here : slice_get (accessors_at a g.lists) i ≡ Some x =
      found a.accessors g.lists i x lists_exist (slice_get_within g.lists i at place) (ap (slice_get a.accessors) (get_or_from_slice_get g.lists i at 0 place) ∙ there) in
      front_found (map (numbers_of a contents) (accessors_at a g.lists)) (if g.bare then range_with_len 0 g.count ∷ [] else []) i (numbers_of a contents x)
      (slice_get-map (numbers_of a contents) (accessors_at a g.lists) i ∙ ap (option_map (numbers_of a contents)) here)

  -- as many as there are accessors, and the one of primitives without indices
  pub lists_long : length (lists a contents g) ≡ length g.lists + (if g.bare then 1 else 0)
  unfolding lists
  lists_long =
      let front = map (numbers_of a contents) (accessors_at a g.lists) in
      let many : length front ≡ length g.lists = length-map (accessors_at a g.lists) (numbers_of a contents) ∙ all_found a.accessors g.lists lists_exist in
      length-append front (if g.bare then range_with_len 0 g.count ∷ [] else []) ∙ ap (λ n. n + length (if g.bare then range_with_len 0 g.count ∷ [] else [])) many
      ∙ ap (λ n. length g.lists + n) (one_more g.bare)
    where
      one_more : (b : Bool) → length (if b then range_with_len 0 g.count ∷ [] else []) ≡ (if b then 1 else 0)
      one_more true = refl
      one_more false = refl

  -- the list of primitives without indices
  pub bare_found : g.bare ≡ true → slice_get (lists a contents g) (length g.lists) ≡ Some (range_with_len 0 g.count)
  unfolding lists
  bare_found bare =
      let front = map (numbers_of a contents) (accessors_at a g.lists) in
      let many : length front ≡ length g.lists = length-map (accessors_at a g.lists) (numbers_of a contents) ∙ all_found a.accessors g.lists lists_exist in
      ap (λ b. slice_get (front ++ (if b then range_with_len 0 g.count ∷ [] else [])) (length g.lists)) bare
      ∙ ap (slice_get (front ++ range_with_len 0 g.count ∷ [])) (sym many)
      ∙ last_found front (range_with_len 0 g.count)

-- ---- a primitive

pub primitive_refers : (a : AssetParts) (contents : List (List ℕ)) (at : ℕ) (p : Primitive) → IsRead a contents → slice_get a.primitives at ≡ Some p → RefersBelow (length a.accessors) p
primitive_refers a contents at p read there =
    subst (RefersBelow (length a.accessors)) (get_or_from_slice_get a.primitives at p p there) (read.primitives at p (slice_get_within a.primitives at p there))

-- the accessors of its vertices are columns
pub vertices_in_columns : (a : AssetParts) (contents : List (List ℕ)) (at : ℕ) (g : Group) (p : Primitive) → IsRead a contents → IsGathered a g → IsIn at g.primitives → slice_get a.primitives at ≡ Some p
    → All (λ n. IsIn n g.columns) (vertex_accessors p)
vertices_in_columns a contents at g p read is inside there =
    All-weaker (λ n. IsIn n (vertex_accessors p)) (λ n. IsIn n g.columns) (λ n own.
    let listed : IsIn n (vertex_accessors p ++ index_accessors p) = in_front n (vertex_accessors p) (index_accessors p) own in
    let below = in_all (λ k. k < length a.accessors) (vertex_accessors p ++ index_accessors p) n (primitive_refers a contents at p read there) listed in
    subst (IsIn n) (sym is.columns) (has_accessor a at p there vertex_accessors g.primitives n inside own below))
    (vertex_accessors p) (all_in (vertex_accessors p))

module _ (a : AssetParts) (contents : List (List ℕ)) (at : ℕ) (g : Group) (list_accessor : Option ℕ) (p : Primitive) (others : ℕ → List (List ℕ))
    (read : IsRead a contents) (is : IsGathered a g) (movable : is_movable a contents g ≡ true) (given : is_some list_accessor ≡ g.bare)
    (inside : IsIn at g.primitives) (there : slice_get a.primitives at ≡ Some p) (after : ReadsMoved a (moved_of a contents list_accessor g) others) where
  abbrev m : Moved
  m = moved_of a contents list_accessor g

  refers : RefersBelow (length a.accessors) p
  refers = primitive_refers a contents at p read there

  own_columns : All (λ n. IsIn n g.columns) (vertex_accessors p)
  own_columns = vertices_in_columns a contents at g p read is inside there

  own_list : (n : ℕ) → IsIn n (index_accessors p) → (n < length a.accessors) × IsIn n g.lists
  own_list n own =
      let listed : IsIn n (vertex_accessors p ++ index_accessors p) = in_rest n (vertex_accessors p) (index_accessors p) own in
      let below = in_all (λ k. k < length a.accessors) (vertex_accessors p ++ index_accessors p) n refers listed in
      (below, subst (IsIn n) (sym is.lists) (has_accessor a at p there index_accessors g.primitives n inside own below))

  -- by a list of the group, and the accessor that reads the new one
  by_list : (i n : ℕ) (list : List ℕ) → slice_get (lists a contents g) i ≡ Some list → slice_get (g.lists ++ option_to_list list_accessor) i ≡ Some n
      → HasTrianglesOf (records a contents g) list m.records (map number_of (others n))
  by_list i n list old place =
      let rs = records a contents g in
      let ls = lists a contents g in
      let chosen = chosen_by better rs ls in
      let may = chosen_by_better a contents g movable in
      let new = is_there rs ls chosen may i list old in
      has_triangles rs ls chosen may i list old new.0 (map number_of (others n)) new.1 (after.lists i n new.0 place new.1)

  -- without indices its corners are all vertices
  all_drawn : (attributes : List Entry) → p.attributes ≡ attributes → all_corners (elements_at a contents) attributes ≡ range_with_len 0 g.count
  all_drawn [] none =
      let holds = in_all (λ n. has_attributes a.primitives n ≡ true) g.primitives at (AllPass-from_list_all (has_attributes a.primitives) g.primitives (may_move a contents g movable).attributes) inside in
      let fails : has_attributes a.primitives at ≡ false =
      ap (λ o. unwrap_or (option_map (λ (q : Primitive). not (is_empty q.attributes)) o) false) there ∙ ap (λ es. not (is_empty es)) none in
      absurd (true≢false (sym holds ∙ fails))
  all_drawn (first ∷ more) some =
      let own : IsIn first.accessor (vertex_accessors p) =
      ap (λ es. is_first es) some ∙ or_left (first.accessor == first.accessor) _ (eq-eqb first.accessor first.accessor refl) in
      ap (range_with_len 0) (column_long a contents g is movable first.accessor (in_all (λ n. IsIn n g.columns) (vertex_accessors p) first.accessor own_columns own))
    where
      is_first : List Entry → Bool
      is_first es = list_any (λ n. n == first.accessor) (map (λ (e : Entry). e.accessor) (es ++ flat_map (λ target. target) p.targets))

  -- the corners by these indices before, and by those after
  abbrev Keeps : Option ℕ → Option ℕ → Type 0
  Keeps indices new = (n : ℕ) × (new ≡ Some n) × HasTrianglesOf (records a contents g) (corners_by (elements_at a contents) p.attributes indices) m.records (corners_by others p.attributes new)

  by_indices : (indices : Option ℕ) → p.indices ≡ indices → Keeps indices (option_or indices list_accessor)
  by_indices (Some n) some =
      let own : IsIn n (index_accessors p) = ap (λ o. list_any (λ k. k == n) (option_to_list o)) some ∙ or_left (n == n) false (eq-eqb n n refl) in
      let listed = own_list n own in
      let x = found_at a.accessors n listed.0 in
      let numbers : map number_of (elements_at a contents n) ≡ numbers_of a contents x.0 = ap (λ o. map number_of (unwrap_or (option_map (items_of a contents) o) [])) x.1 in
      let kept = by_list (place_in g.lists n) n (numbers_of a contents x.0) (list_at a contents g is movable (place_in g.lists n) n x.0 (placed_found g.lists n listed.1) x.1)
      (front_found g.lists (option_to_list list_accessor) (place_in g.lists n) n (placed_found g.lists n listed.1)) in
      (n, refl, subst (λ l. HasTrianglesOf (records a contents g) l m.records (map number_of (others n))) (sym numbers) kept)
  by_indices None none = by_accessor list_accessor refl
    where
      bare : g.bare ≡ true
      bare = is.bare ∙ makes_bare a at p there g.primitives inside (ap (λ o. is_none o) none)

      by_accessor : (o : Option ℕ) → list_accessor ≡ o → Keeps None o
      by_accessor None without = absurd (true≢false (sym bare ∙ sym given ∙ ap (λ o. is_some o) without))
      by_accessor (Some n) some =
          let place : slice_get (g.lists ++ option_to_list list_accessor) (length g.lists) ≡ Some n =
          ap (λ o. slice_get (g.lists ++ option_to_list o) (length g.lists)) some ∙ last_found g.lists n in
          let kept = by_list (length g.lists) n (range_with_len 0 g.count) (bare_found a contents g is movable bare) place in
          (n, refl, subst (λ l. HasTrianglesOf (records a contents g) l m.records (map number_of (others n))) (sym (all_drawn p.attributes refl)) kept)

  pub corners_kept : IsIndexed (records a contents g) (corners_of (elements_at a contents) p) m.records others (with_indices list_accessor p)
  corners_kept = let keeps = by_indices p.indices refl in record { indices = keeps.0; indexed = keeps.1; kept = keeps.2 }

  pub triangles_kept : Agree same_vertex (triangles_of (elements_at a contents) p) (triangles_of others (with_indices list_accessor p))
  triangles_kept =
      corners_kept.kept.agree same_vertex (reads a m p) (vertex_of (elements_at a contents) p) (vertex_of others p)
      (reads_before a contents g list_accessor read is movable p own_columns)
      (reads_after a contents g list_accessor read is movable p own_columns others after)

pub moved_corners : MovedCorners
moved_corners a contents k at g list_accessor p others read here movable given inside there after =
    corners_kept a contents at g list_accessor p others read (is_gathered a contents k g here) movable given inside there after

pub moved_triangles : MovedTriangles
moved_triangles a contents k at g list_accessor p others read here movable given inside there after =
    triangles_kept a contents at g list_accessor p others read (is_gathered a contents k g here) movable given inside there after
