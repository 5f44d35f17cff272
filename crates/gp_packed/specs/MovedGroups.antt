-- The groups of an asset that move: all that may, each in its new order.
use Rattle.std.specs.Prelude.{ℕ, ◌+◌, Bool, if◌then◌else◌, List, [], ◌∷◌, length, Option, Some, None}
use Rattle.gp_asset.specs.Asset.{AssetParts}
use Rattle.gp_alias.specs.declared.group.Group.{Group}
use Rattle.gp_alias.specs.Records.{records, lists}
use Rattle.gp_moving.specs.Ordered.{Ordered, ordered, chosen_by}
use Rattle.gp_cache.specs.Tipsify.{better}
use Rattle.gp_sameness.specs.Moved.{Moved, movable_groups}

-- ---- one group

-- its different records, and its lists over them: the triangles of each in the order with fewer cache misses, and the records in order of
-- first use
abbrev pub ordered_group : AssetParts → List (List ℕ) → Group → Ordered
ordered_group a contents g = ordered (records a contents g) (chosen_by better (records a contents g) (lists a contents g))

-- the group as it moves; its primitives without indices get this accessor
abbrev pub moved_of : AssetParts → List (List ℕ) → Option ℕ → Group → Moved
moved_of a contents list_accessor g = record {
  primitives = g.primitives;
  columns = g.columns;
  lists = g.lists;
  list_accessor = list_accessor;
  count = g.count;
  records = (ordered_group a contents g).records;
  ordered = (ordered_group a contents g).lists;
}

-- ---- all

-- a group with primitives without indices takes the next number of an accessor
abbrev pub number_if : Bool → ℕ → Option ℕ
number_if bare next = if bare then Some next else None

abbrev pub next_if : Bool → ℕ → ℕ
next_if bare next = if bare then next + 1 else next

abbrev pub moved_from : AssetParts → List (List ℕ) → ℕ → List Group → List Moved
moved_from a contents next [] = []
moved_from a contents next (g ∷ groups) = moved_of a contents (number_if g.bare next) g ∷ moved_from a contents (next_if g.bare next) groups

-- the numbers of new accessors begin behind those of the asset
unfoldable pub moved_groups : AssetParts → List (List ℕ) → List Moved
moved_groups a contents = moved_from a contents (length a.accessors) (movable_groups a contents)
