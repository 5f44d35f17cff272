-- What the bytes and numbers of a moved group stand for.
use Rattle.std.specs.Prelude.{◌≡◌, ℕ, ◌-◌, ◌*◌, ◌%◌, ◌^◌, ◌≤◌, List, [], ◌∷◌, length}
use Rattle.std.specs.List.{All, concat}
use Rattle.gp_asset.specs.Contents.{part}
use Rattle.gp_alias.specs.Records.{ends_from}
use Rattle.gp_merge.specs.Records.{records}
use Rattle.gp_moving.specs.Ordered.{Ordered}
use Rattle.gp_moving.specs.Triangles.{IsTriangleList}
use Rattle.gp_mover.specs.declared.moved.MovedGroup.{MovedGroup}
use Rattle.gp_mover.specs.MovedParts.{MovedParts}

-- the lists that end at these places, the first of which begins at this one
abbrev pub between : ℕ → List ℕ → List ℕ → List (List ℕ)
between start [] joined = []
between start (end ∷ ends) joined = part joined start (end - start) ∷ between end ends joined

unfoldable pub parts_of : MovedGroup → MovedParts
parts_of m = record {
  primitives = m.group.primitives;
  columns = m.group.columns;
  lists = m.group.lists;
  bare = m.group.bare;
  count = m.group.count;
  records = records m.size m.records;
  ordered = between 0 m.corners.ends m.corners.joined;
}

-- its bytes are whole records, and its lists stand behind one another
pub record IsWhole (m : MovedGroup) : Type 0 where
  pub size : 1 ≤ m.size
  pub records : length m.records % m.size ≡ 0
  pub joined : m.corners.joined ≡ concat (parts_of m).ordered
  pub ends : m.corners.ends ≡ ends_from 0 (parts_of m).ordered

-- ---- for contracts within the crate

-- lists of whole triangles of so many vertices stand behind one another and end at these places
pub record AreJoined (count : ℕ) (ends joined : List ℕ) (lists : List (List ℕ)) : Type 0 where
  pub row : joined ≡ concat lists
  pub places : ends ≡ ends_from 0 lists
  pub sound : All (IsTriangleList count) lists
  pub few : All (λ list. length list ≤ 3 * 2 ^ 25) lists

-- these bytes and numbers are the records and lists of a group in its new order
pub record Reordered (size : ℕ) (bytes ends joined : List ℕ) (new : Ordered) : Type 0 where
  pub records : records size bytes ≡ new.records
  pub whole : length bytes % size ≡ 0
  pub row : joined ≡ concat new.lists
  pub places : ends ≡ ends_from 0 new.lists
