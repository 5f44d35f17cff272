-- A group that moves has the same vertices, each once.
use Rattle.std.proofs.Common.{◌≡◌, ℕ, ◌<◌, ◌==◌, true, List, [], ◌∷◌, ◌++◌, length, map, Option, refl, sym, ap, ◌∙◌, subst, arith, eq-eqb}
use Rattle.std.specs.Prelude.{Contains}
use Rattle.std.specs.List.{All, flat_map, range_with_len}
use Rattle.std.proofs.lemmas.Bool.{or_left}
use Rattle.std.proofs.lemmas.List.{length-map, ext_get_or, get_or_default}
use Rattle.std.proofs.lemmas.List.Elements.{All-head, All-tail, All-weaker}
use Rattle.std.proofs.lemmas.List.FromFn.{get_or-map-range_with_len, length-map-range_with_len}
use Rattle.gp_asset.specs.Asset.{AssetParts}
use Rattle.gp_alias.specs.declared.group.Group.{Group}
use Rattle.gp_alias.specs.Groups.{vertex_accessors, is_among}
use Rattle.gp_alias.specs.Movable.{is_movable}
use Rattle.gp_alias.specs.Records.{item_at, vertex_record, records, lists}
use Rattle.gp_alias.specs.Laws.{IsIn}
use Rattle.gp_cache.specs.Tipsify.{better}
use Rattle.gp_moving.specs.Records.{record_at, distinct}
use Rattle.gp_moving.specs.Ordered.{chosen_by}
use Rattle.gp_moving.specs.Kept.{KeepsRecords}
use Rattle.gp_moving.proofs.Lists.{ordered_keeps_records}
use Rattle.gp_sameness.specs.Moved.{Moved}
use Rattle.gp_packed.specs.MadeLaws.{column_part}
use Rattle.gp_kept.specs.TrianglesMoved.{IsRead, ReadsMoved, MovedVertices, MovedColumns, RecordsAreOfColumns, MovedRecords}
use Rattle.gp_sameness.specs.Drawn.{record_of, records_of, elements_at}
use Rattle.gp_packed.specs.MovedGroups.{ordered_group, moved_of}
use Rattle.gp_kept.proofs.ChosenOrders.{length-records, chosen_by_better}
use Rattle.gp_kept.proofs.GroupMembers.{all_in, in_all, place_in, placed_there, IsGathered, is_gathered, columns_below}
use Rattle.gp_kept.proofs.RecordsRead.{own_part, found_at, record_is, column_there, part_before, part_after}
use Rattle.gp_kept.proofs.TrianglesMoved.{vertices_in_columns}
use Rattle.gp_kept.proofs.CountedElements.{joined_is, records_are_counted}

-- ---- before

first_in : (first : ℕ) (more : List ℕ) → IsIn first (first ∷ more)
first_in first more = or_left (first == first) (is_among more first) (eq-eqb first first refl)

old_records : (a : AssetParts) (contents : List (List ℕ)) (g : Group) → IsGathered a g → records_of (elements_at a contents) g.columns ≡ records a contents g
unfolding records
old_records a contents g is =
    records_are_counted a contents g.columns ∙ ap (λ n. map (vertex_record a contents g.columns) (range_with_len 0 n)) (sym is.count)

pub records_are_of_columns : RecordsAreOfColumns
records_are_of_columns a contents k g here = old_records a contents g (is_gathered a contents k g here)

-- ---- after

joined_agree : (f h : ℕ → List ℕ) (xs : List ℕ) → All (λ x. f x ≡ h x) xs → flat_map f xs ≡ flat_map h xs
joined_agree f h [] same = refl
joined_agree f h (x ∷ xs) same =
    ap (λ bytes. bytes ++ flat_map f xs) (All-head (λ y. f y ≡ h y) x xs same) ∙ ap (λ bytes. h x ++ bytes) (joined_agree f h xs (All-tail (λ y. f y ≡ h y) x xs same))

empty_list : {A : Type 0} (xs : List A) → length xs ≡ 0 → [] ≡ xs
empty_list [] none = refl
empty_list (x ∷ xs) none = absurd (omega (arith, none))

pub new_records_kept : (a : AssetParts) (contents : List (List ℕ)) (g : Group) → is_movable a contents g ≡ true → KeepsRecords (records a contents g) (ordered_group a contents g).records
new_records_kept a contents g movable =
    ordered_keeps_records (records a contents g) (lists a contents g) (chosen_by better (records a contents g) (lists a contents g)) (chosen_by_better a contents g movable)

module _ (a : AssetParts) (contents : List (List ℕ)) (g : Group) (list_accessor : Option ℕ) (others : ℕ → List (List ℕ))
    (read : IsRead a contents) (is : IsGathered a g) (movable : is_movable a contents g ≡ true) (after : ReadsMoved a (moved_of a contents list_accessor g) others) where
  abbrev m : Moved
  m = moved_of a contents list_accessor g

  kept : KeepsRecords (records a contents g) m.records
  kept = new_records_kept a contents g movable

  -- a record of the output is the record of some vertex of the input
  record_back : (j : ℕ) → j < length m.records → record_of others g.columns j ≡ record_at m.records j
  record_back j below =
      let r = record_at m.records j in
      let old : Contains (records a contents g) r = (kept.same_set r).0 (j, below, get_or_default m.records j r [] below) in
      let i = old.0 in
      let within : i < g.count = let long = length-records a contents g in let inside = old.1 in omega (arith, long, inside) in
      let same : record_at (records a contents g) i ≡ r = get_or_default (records a contents g) i [] r old.1 ∙ old.2 in
      joined_agree (λ at. item_at j (others at)) (λ at. own_part a m at r) g.columns
      (All-weaker (λ at. IsIn at g.columns) (λ at. item_at j (others at) ≡ own_part a m at r) (λ at has. part_after a contents g list_accessor read is movable others after at j has below) g.columns (all_in g.columns))
      ∙ ap (λ s. flat_map (λ at. own_part a m at s) g.columns) (sym same)
      ∙ joined_agree (λ at. own_part a m at (record_at (records a contents g) i)) (λ at. item_at i (elements_at a contents at)) g.columns
      (All-weaker (λ at. IsIn at g.columns) (λ at. own_part a m at (record_at (records a contents g) i) ≡ item_at i (elements_at a contents at))
      (λ at has. part_before a contents g list_accessor read is movable at i has within) g.columns (all_in g.columns))
      ∙ joined_is a contents i g.columns
      ∙ sym (record_is a contents g list_accessor read is movable i within)
      ∙ same

  -- a column has as many elements as there are records
  pub new_long : (at : ℕ) → IsIn at g.columns → length (others at) ≡ length m.records
  new_long at inside =
      let there = found_at a.accessors at (in_all (λ n. n < length a.accessors) g.columns at (columns_below a g is) inside) in
      let k = place_in g.columns at in
      ap (λ n. length (others n)) (sym (placed_there g.columns at 0 inside))
      ∙ ap (λ items. length items) (after.columns k there.0 (column_there a contents g list_accessor read is movable at there.0 inside there.1))
      ∙ length-map m.records (column_part a m k there.0)

  new_records : (columns : List ℕ) → g.columns ≡ columns → records_of others columns ≡ m.records
  new_records [] none =
      let old : [] ≡ records a contents g = sym (ap (records_of (elements_at a contents)) none) ∙ old_records a contents g is in
      let many : length m.records ≡ 0 = kept.count ∙ ap (λ rs. length (distinct rs)) (sym old) in
      empty_list m.records many
  new_records (first ∷ more) some =
      let n = length (others first) in
      let long : n ≡ length m.records = new_long first (subst (IsIn first) (sym some) (first_in first more)) in
      let all = map (record_of others (first ∷ more)) (range_with_len 0 n) in
      let many = length-map-range_with_len (record_of others (first ∷ more)) 0 n in
      ext_get_or [] all m.records (many ∙ long) (λ j lt.
      let below : j < n = omega (arith, lt, many) in
      get_or-map-range_with_len (record_of others (first ∷ more)) 0 n j j [] below (omega arith)
      ∙ ap (λ cs. record_of others cs j) (sym some)
      ∙ record_back j (omega (arith, below, long)))

  pub records_kept : KeepsRecords (records_of (elements_at a contents) g.columns) (records_of others g.columns)
  records_kept =
      let old = old_records a contents g is in
      let new = new_records g.columns refl in
      subst (λ rs. KeepsRecords rs (records_of others g.columns)) (sym old) (subst (λ rs. KeepsRecords (records a contents g) rs) (sym new) kept)

pub moved_records : MovedRecords
moved_records a contents k g list_accessor others read here movable after =
    records_kept a contents g list_accessor others read (is_gathered a contents k g here) movable after

-- ---- counts

pub moved_columns : MovedColumns
moved_columns a contents k g list_accessor others read here movable after =
    All-weaker (λ n. IsIn n g.columns) (λ n. length (others n) ≡ length (moved_of a contents list_accessor g).records)
    (new_long a contents g list_accessor others read (is_gathered a contents k g here) movable after) g.columns (all_in g.columns)

pub moved_vertices : MovedVertices
moved_vertices a contents k at g list_accessor p others read here movable inside there after =
    let is = is_gathered a contents k g here in
    All-weaker (λ n. IsIn n g.columns) (λ n. length (others n) ≡ length (moved_of a contents list_accessor g).records)
    (new_long a contents g list_accessor others read is movable after) (vertex_accessors p) (vertices_in_columns a contents at g p read is inside there)
