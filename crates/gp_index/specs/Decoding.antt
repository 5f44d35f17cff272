-- Of this crate alone, and cited by no public contract: what the decoder keeps, its queues in the place of the histories.
use Rattle.std.specs.Prelude.{ℕ, List, [], ◌∷◌, Result, Ok}
use Rattle.std.specs.List.{flat_map}
use Rattle.gp_groups.specs.Steps.{and_then}
use Rattle.gp_groups.specs.Triangles.{State, Triangle}
use Rattle.gp_groups.specs.Sequence.{le_bytes}
use Rattle.gp_groups.specs.Triangles as meant
use Rattle.gp_groups.specs.declared.fault.StreamFault.{StreamFault}
use Rattle.gp_queues.specs.Queue.{pushed}
use Rattle.gp_index.specs.declared.cursor.Cursor.{Cursor}
use Rattle.gp_index.specs.declared.decoder.Decoder.{Decoder}

-- where a cursor and a decoder stand
abbrev pub cursor_of : Cursor → meant.Cursor
cursor_of at = record { next = at.next; last = at.last; unread = at.unread.now }

abbrev pub state_of : Decoder → State
state_of d = record { cursor = cursor_of d.cursor; edges = d.edges; vertices = d.vertices }

-- a queue after pushes, the newest of which comes first
abbrev pub push_all : {X : Type 0} → List X → List X → List X
push_all [] queue = queue
push_all (item ∷ items) queue = pushed item (push_all items queue)

-- the state after a triangle, where the state keeps queues
abbrev pub kept_after : State → Triangle → State
kept_after s t = record { cursor = t.cursor; edges = push_all t.edges s.edges; vertices = push_all t.vertices s.vertices }

-- the corners and the state then
abbrev pub kept : State → Result Triangle StreamFault → Result ((ℕ × ℕ × ℕ) × State) StreamFault
kept s read = and_then read (λ t. Ok (t.corners, kept_after s t))

-- the bytes of a list of indices
abbrev pub as_bytes : ℕ → Result (List ℕ) StreamFault → Result (List ℕ) StreamFault
as_bytes stride list = and_then list (λ indices. Ok (flat_map (le_bytes stride) indices))
