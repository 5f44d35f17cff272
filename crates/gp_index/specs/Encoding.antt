-- Of this crate alone, and cited by no public contract: what the encoder keeps, its queues in the place of the histories.
use Rattle.std.specs.Prelude.{ℕ, ◌<◌, ◌≤◌, ◌^◌, List, [], ◌∷◌, ◌++◌, Option, Some, None}
use Rattle.gp_groups.specs.Triangles.{Cursor, State}
use Rattle.gp_groups.specs.Varint.{spelled}
use Rattle.gp_groups.specs.WrittenTriangles.{Piece}
use Rattle.gp_groups.specs.WrittenTriangles as meant
use Rattle.gp_index.specs.Decoding.{kept_after}
use Rattle.gp_index.specs.declared.auxiliary.Auxiliary.{Auxiliary}
use Rattle.gp_index.specs.declared.counters.Counters.{Counters}
use Rattle.gp_index.specs.declared.encoder.Encoder.{Encoder}
use Rattle.gp_index.specs.declared.written.Written.{Written}

-- where an encoder stands
abbrev pub counted : Counters → Cursor
counted at = record { next = at.next; last = at.last; unread = [] }

abbrev pub standing_of : Encoder → State
standing_of e = record { cursor = counted e.counters; edges = e.edges; vertices = e.vertices }

-- the numbers of a list whose indices are below 2^24
abbrev pub InRange : Counters → Type 0
InRange at = (at.next ≤ 2 ^ 24) × (at.last < 2 ^ 24)

-- the bytes of what may be there
abbrev pub byte_if : Option ℕ → List ℕ
byte_if (Some byte) = byte ∷ []
byte_if None = []

abbrev pub spelled_if : Option ℕ → List ℕ
spelled_if (Some value) = spelled value
spelled_if None = []

abbrev pub bytes_of : Auxiliary → List ℕ
bytes_of x = ((byte_if x.halves ++ spelled_if x.first) ++ spelled_if x.second) ++ spelled_if x.third

abbrev pub corner_of : Written → meant.Written
corner_of w = record { half = w.half; bytes = spelled_if w.explicit; cursor = counted w.counters }

-- the code, the auxiliary bytes and the state behind a piece, where the state keeps queues
abbrev pub kept_piece : State → Piece → (ℕ × List ℕ) × State
kept_piece s p = ((p.code, p.bytes), kept_after s p.read)
