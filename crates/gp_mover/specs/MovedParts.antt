-- What becomes of a group of triangle primitives that moves: equal vertices as one, its triangles in a better order, its vertices in the
-- order of their first use.
use Rattle.std.specs.Prelude.{ℕ, Bool, List, sum_by}
use Rattle.gp_rules.specs.Accessors.{size_of}
use Rattle.gp_asset.specs.Asset.{AssetParts}
use Rattle.gp_alias.specs.declared.group.Group.{Group}
use Rattle.gp_alias.specs.Records.{accessors_at, records, lists}
use Rattle.gp_cache.specs.Tipsify.{better}
use Rattle.gp_moving.specs.Ordered.{ordered, chosen_by}

-- a group that was moved
pub record MovedParts : Type 0 where
  -- its primitives, by their places among those of all meshes
  pub primitives : List ℕ
  -- the accessors of its vertices and of its indices, by rising number
  pub columns : List ℕ
  pub lists : List ℕ
  -- some primitive has no indices
  pub bare : Bool
  -- how many vertices it had before
  pub count : ℕ
  -- its distinct vertices in their new order, each the joined elements of its columns
  pub records : List (List ℕ)
  -- its lists of vertex numbers in their new order; the one of primitives without indices is the last
  pub ordered : List (List ℕ)

-- each list in the better order of its triangles, and the distinct records in the order in which these lists have them first
unfoldable pub moved_group : AssetParts → List (List ℕ) → Group → MovedParts
moved_group a contents g =
    let all = records a contents g in
    let new = ordered all (chosen_by better all (lists a contents g)) in
    record {
      primitives = g.primitives;
      columns = g.columns;
      lists = g.lists;
      bare = g.bare;
      count = g.count;
      records = new.records;
      ordered = new.lists;
    }

-- the bytes of an element of each of these accessors
abbrev pub record_size : AssetParts → List ℕ → ℕ
record_size a columns = sum_by size_of (accessors_at a columns)
