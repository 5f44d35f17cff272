-- Queues of the sixteen latest items, newest first, as a decoder of EXT_meshopt_compression, mode 1 (triangles), keeps them.
use Rattle.std.specs.Prelude.{ℕ, ◌&&◌, ◌==◌, List, ◌∷◌, ◌++◌, drop, take, Option}
use Rattle.std.specs.List.{range_with_len, find}
use Rattle.gp_groups.specs.WrittenTriangles.{rotated}

-- a queue after a push: place 15 is dropped
abbrev pub pushed : {X : Type 0} → X → List X → List X
pushed item queue = item ∷ take 15 queue

-- of this crate alone: a ring of slots from its newest one on
abbrev pub from_newest : {X : Type 0} → ℕ → List X → List X
from_newest newest slots = drop newest slots ++ take newest slots

-- of this crate alone: the first corner of the triangle from which the edge leads it
abbrev pub leading_corner : ℕ × ℕ → ℕ × ℕ × ℕ → Option ℕ
leading_corner edge t = find (λ k. edge.0 == (rotated t k).0 && edge.1 == (rotated t k).1) (range_with_len 0 3)
