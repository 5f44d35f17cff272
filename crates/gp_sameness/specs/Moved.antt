-- What moves of an asset: groups of triangle primitives that share their vertices, each in a new order (glTF 2.0, section 3.7.2).
use Rattle.std.specs.Prelude.{ℕ, Bool, ◌||◌, ◌==◌, List, map, filter, find, Option}
use Rattle.std.specs.List.{list_any, range_with_len}
use Rattle.gp_asset.specs.Asset.{AssetParts}
use Rattle.gp_alias.specs.declared.group.Group.{Group}
use Rattle.gp_alias.specs.Movable.{groups}

-- a group that moves
pub record Moved : Type 0 where
  -- its primitives, by their places among those of all meshes
  pub primitives : List ℕ
  -- the accessors of its vertices and of its indices, by rising number
  pub columns : List ℕ
  pub lists : List ℕ
  -- the accessor that its primitives without indices get, where it has such
  pub list_accessor : Option ℕ
  -- the count of its vertices in the input
  pub count : ℕ
  -- its vertices in their new order, each the joined elements of its columns
  pub records : List (List ℕ)
  -- its lists of vertex numbers in their new order; the one of primitives without indices is the last
  pub ordered : List (List ℕ)

abbrev pub is_number_in : List ℕ → ℕ → Bool
is_number_in numbers at = list_any (λ n. n == at) numbers

abbrev pub is_moved : List Moved → ℕ → Bool
is_moved moved at = list_any (λ (m : Moved). is_number_in m.columns at || is_number_in m.lists at) moved

-- the same of each of so many accessors
abbrev pub moved_flags : List Moved → ℕ → List Bool
moved_flags moved count = map (is_moved moved) (range_with_len 0 count)

-- the group that has this number in this part
abbrev pub group_with : (Moved → List ℕ) → List Moved → ℕ → Option Moved
group_with part moved at = find (λ m. is_number_in (part m) at) moved

-- ---- which may

-- the groups of an asset that may move, in their order
abbrev pub movable_groups : AssetParts → List (List ℕ) → List Group
movable_groups a contents = filter (λ (g : Group). g.movable) (groups a contents)
