-- What is read of a vertex is a function of its record, the same before and after its group moves.
use Rattle.std.proofs.Common.{◌≡◌, ℕ, zero, suc, ◌+◌, ◌<◌, true, List, [], ◌∷◌, ◌++◌, length, map, get_or, take, drop, Option, Some, None, sym, ap, ◌∙◌, subst, arith}
use Rattle.std.specs.Prelude.{slice_get, unwrap_or, option_map, sum_by, is_some}
use Rattle.std.specs.List.{All, flat_map}
use Rattle.std.specs.Option.{IsSome}
use Rattle.std.proofs.lemmas.List.{get_or-map, length-map, take_at}
use Rattle.std.proofs.lemmas.List.Elements.{All-head, All-tail, All-weaker}
use Rattle.std.proofs.lemmas.List.FromFn.{get_or-map-range_with_len}
use Rattle.std.proofs.lemmas.List.Sums.{sum_by-cons}
use Rattle.std.proofs.lemmas.Option.{slice_get-get_or, get_or_from_slice_get, slice_get_within}
use Rattle.gp_rules.specs.declared.accessing.Accessor.{Accessor}
use Rattle.gp_rules.specs.Accessors.{size_of}
use Rattle.gp_asset.specs.declared.geometry.Primitive.{Primitive}
use Rattle.gp_asset.specs.Asset.{AssetParts}
use Rattle.gp_asset.specs.Contents.{part}
use Rattle.gp_elements.specs.Held.{IsSound}
use Rattle.gp_alias.specs.declared.group.Group.{Group}
use Rattle.gp_alias.specs.Groups.{vertex_accessors}
use Rattle.gp_alias.specs.Movable.{items_of, is_column, is_movable}
use Rattle.gp_alias.specs.Records.{item_at, item_of, accessors_at, vertex_record, records}
use Rattle.gp_alias.specs.Laws.{IsIn}
use Rattle.gp_moving.specs.Records.{record_at}
use Rattle.gp_moving.specs.Triangles.{Vertex}
use Rattle.gp_moving.specs.Kept.{ReadsRecords}
use Rattle.gp_moving.proofs.Numbers.{map_agree}
use Rattle.gp_sameness.specs.Moved.{Moved}
use Rattle.gp_packed.specs.MadeLaws.{IsColumn, column_part}
use Rattle.gp_kept.specs.TrianglesMoved.{IsRead, ReadsMoved}
use Rattle.gp_sameness.specs.Drawn.{vertex_of, elements_at}
use Rattle.gp_packed.specs.MovedGroups.{moved_of}
use Rattle.gp_kept.proofs.MadeColumns.{found}
use Rattle.gp_kept.proofs.ChosenOrders.{may_move, each_found, length-items, count_of_column, length-records}
use Rattle.gp_kept.proofs.SizedElements.{HasSize, items_sized}
use Rattle.gp_kept.proofs.GroupMembers.{place_in, placed_within, placed_there, in_all, IsGathered, columns_below}

-- ---- one of some items that are joined

part_of_joined : (f : Accessor → List ℕ) (xs : List Accessor) (k : ℕ) (x : Accessor) → slice_get xs k ≡ Some x → All (λ y. HasSize (size_of y) (f y)) xs
    → part (flat_map f xs) (sum_by size_of (take k xs)) (size_of x) ≡ f x
part_of_joined f [] k x is sized = absurd (let no : None ≡ Some x = is in cc)
part_of_joined f (y ∷ ys) zero x is sized =
    let same : y ≡ x = cc in
    let own = All-head (λ z. HasSize (size_of z) (f z)) y ys sized in
    ap (λ (z : Accessor). part (f y ++ flat_map f ys) 0 (size_of z)) (sym same)
    ∙ take_at (f y) (flat_map f ys) (size_of y) own
    ∙ ap f same
part_of_joined f (y ∷ ys) (suc k) x is sized =
    let own = All-head (λ z. HasSize (size_of z) (f z)) y ys sized in
    let rest = part_of_joined f ys k x is (All-tail (λ z. HasSize (size_of z) (f z)) y ys sized) in
    let start : sum_by size_of (y ∷ take k ys) ≡ length (f y) + sum_by size_of (take k ys) = omega (arith, sum_by-cons size_of y (take k ys), own) in
    ap (λ n. part (f y ++ flat_map f ys) n (size_of x)) start ∙ ap (take (size_of x)) (drop_past (f y) (flat_map f ys) (sum_by size_of (take k ys))) ∙ rest
  where
    drop_past : (front rest : List ℕ) (n : ℕ) → drop (length front + n) (front ++ rest) ≡ drop n rest
    drop_past [] rest n = let none : 0 + n ≡ n = omega arith in ap (λ m. drop m rest) none
    drop_past (b ∷ front) rest n = let more : suc (length front) + n ≡ suc (length front + n) = omega arith in ap (λ m. drop m (b ∷ front ++ rest)) more ∙ drop_past front rest n

-- ---- what a record has for an accessor, by its place among the columns

abbrev pub own_part : AssetParts → Moved → ℕ → List ℕ → List ℕ
own_part a m at r = unwrap_or (option_map (λ x. column_part a m (place_in m.columns at) x r) (slice_get a.accessors at)) []

abbrev pub reads : AssetParts → Moved → Primitive → List ℕ → Vertex
reads a m p r = map (λ at. own_part a m at r) (vertex_accessors p)

item_is : (i : ℕ) (items : List (List ℕ)) (d : List ℕ) → i < length items → item_at i items ≡ get_or items i d
item_is i items d within = ap (λ o. unwrap_or o []) (slice_get-get_or items i d within)

pub exists : (xs : List Accessor) (at : ℕ) → at < length xs → IsSome (slice_get xs at)
exists [] at within = absurd (omega (arith, within))
exists (x ∷ xs) at within = ap (λ o. is_some o) (slice_get-get_or (x ∷ xs) at x within)

pub found_at : (xs : List Accessor) (at : ℕ) → at < length xs → (x : Accessor) × (slice_get xs at ≡ Some x)
found_at [] at within = absurd (omega (arith, within))
found_at (x ∷ xs) at within = (get_or (x ∷ xs) at x, slice_get-get_or (x ∷ xs) at x within)

module _ (a : AssetParts) (contents : List (List ℕ)) (g : Group) (list_accessor : Option ℕ) (read : IsRead a contents) (is : IsGathered a g) (movable : is_movable a contents g ≡ true) where
  abbrev m : Moved
  m = moved_of a contents list_accessor g

  pub exist : All (λ at. IsSome (slice_get a.accessors at)) g.columns
  exist = All-weaker (λ at. at < length a.accessors) (λ at. IsSome (slice_get a.accessors at)) (exists a.accessors) g.columns (columns_below a g is)

  pub columns_hold : (P : Accessor → Type 0) → ((k : ℕ) (x : Accessor) → slice_get a.accessors k ≡ Some x → is_column contents g.count x ≡ true → P x) → All P (accessors_at a g.columns)
  columns_hold P has = each_found a.accessors (is_column contents g.count) P has g.columns (may_move a contents g movable).columns

  -- the element of vertex i has its size
  pub sized : (i : ℕ) → i < g.count → All (λ x. HasSize (size_of x) (item_of a contents i x)) (accessors_at a g.columns)
  sized i below = columns_hold (λ x. HasSize (size_of x) (item_of a contents i x)) (λ k x at column.
      let sound : IsSound a.views x = subst (IsSound a.views) (get_or_from_slice_get a.accessors k x x at) (read.accessors k x (slice_get_within a.accessors k x at)) in
      let long = length-items a contents x in
      let many = count_of_column contents g.count x column in
      let within : i < length (items_of a contents x) = omega (arith, long, many, below) in
      ap (λ (r : List ℕ). length r) (item_is i (items_of a contents x) [] within) ∙ items_sized a contents x sound read.views i [] within)

  pub record_is : (i : ℕ) → i < g.count → record_at (records a contents g) i ≡ vertex_record a contents g.columns i
  unfolding records
  record_is i below = get_or-map-range_with_len (vertex_record a contents g.columns) 0 g.count i i [] below (omega arith)

  -- the column with the number of an accessor
  pub column_there : (at : ℕ) (x : Accessor) → IsIn at g.columns → slice_get a.accessors at ≡ Some x → IsColumn a m (place_in g.columns at) x
  column_there at x inside there = record { within = placed_within g.columns at inside; accessor = ap (slice_get a.accessors) (placed_there g.columns at 0 inside) ∙ there }

  own_is : (at : ℕ) (x : Accessor) (r : List ℕ) → slice_get a.accessors at ≡ Some x → own_part a m at r ≡ column_part a m (place_in g.columns at) x r
  own_is at x r there = ap (λ o. unwrap_or (option_map (λ y. column_part a m (place_in g.columns at) y r) o) []) there

  -- ---- before

  pub part_before : (at i : ℕ) → IsIn at g.columns → i < g.count → own_part a m at (record_at (records a contents g) i) ≡ item_at i (elements_at a contents at)
  part_before at i inside below =
      let there = found_at a.accessors at (in_all (λ n. n < length a.accessors) g.columns at (columns_below a g is) inside) in
      let x = there.0 in
      let column = column_there at x inside there.1 in
      let k = place_in g.columns at in
      let here : slice_get (accessors_at a g.columns) k ≡ Some x = found a.accessors g.columns k x exist column.within column.accessor in
      own_is at x (record_at (records a contents g) i) there.1
      ∙ ap (column_part a m k x) (record_is i below)
      ∙ part_of_joined (item_of a contents i) (accessors_at a g.columns) k x here (sized i below)
      ∙ sym (ap (λ o. item_at i (unwrap_or (option_map (items_of a contents) o) [])) there.1)

  -- ---- after

  pub part_after : (others : ℕ → List (List ℕ)) → ReadsMoved a m others → (at j : ℕ) → IsIn at g.columns → j < length m.records → item_at j (others at) ≡ own_part a m at (record_at m.records j)
  part_after others after at j inside below =
      let there = found_at a.accessors at (in_all (λ n. n < length a.accessors) g.columns at (columns_below a g is) inside) in
      let x = there.0 in
      let column = column_there at x inside there.1 in
      let k = place_in g.columns at in
      let items : others at ≡ map (column_part a m k x) m.records = ap others (sym (placed_there g.columns at 0 inside)) ∙ after.columns k x column in
      let within : j < length (map (column_part a m k x) m.records) = let long = length-map m.records (column_part a m k x) in omega (arith, long, below) in
      ap (item_at j) items
      ∙ item_is j (map (column_part a m k x) m.records) [] within
      ∙ get_or-map (column_part a m k x) m.records j [] [] below
      ∙ sym (own_is at x (record_at m.records j) there.1)

  -- ---- a vertex

  module _ (p : Primitive) (inside : All (λ at. IsIn at g.columns) (vertex_accessors p)) where
    pub reads_before : ReadsRecords (reads a m p) (records a contents g) (vertex_of (elements_at a contents) p)
    reads_before v below =
        let long = length-records a contents g in
        map_agree (λ at. item_at v (elements_at a contents at)) (λ at. own_part a m at (record_at (records a contents g) v)) (vertex_accessors p)
        (All-weaker (λ at. IsIn at g.columns) (λ at. item_at v (elements_at a contents at) ≡ own_part a m at (record_at (records a contents g) v))
        (λ at has. sym (part_before at v has (omega (arith, long, below)))) (vertex_accessors p) inside)

    pub reads_after : (others : ℕ → List (List ℕ)) → ReadsMoved a m others → ReadsRecords (reads a m p) m.records (vertex_of others p)
    reads_after others after v below =
        map_agree (λ at. item_at v (others at)) (λ at. own_part a m at (record_at m.records v)) (vertex_accessors p)
        (All-weaker (λ at. IsIn at g.columns) (λ at. item_at v (others at) ≡ own_part a m at (record_at m.records v))
        (λ at has. part_after others after at v has below) (vertex_accessors p) inside)
