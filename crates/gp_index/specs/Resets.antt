-- That the encoder never uses what EXT_meshopt_compression leaves to the codes 0xFE and 0xFF with a byte ZW of 0: to set `next` to 0.
use Rattle.std.specs.Prelude.{ℕ, ◌<◌, ◌≤◌, List, [], slice_index}
use Rattle.std.specs.List.{All}
use Rattle.gp_groups.specs.Triangles.{at_first}
use Rattle.gp_groups.specs.WrittenTriangles.{pieces}

-- each triangle of the list that is written with its byte ZW among the auxiliary bytes, where it comes first, has another than 0 there
abbrev pub NeverResets : List ℕ → Type 0
NeverResets list = All (λ p. 0xFE ≤ p.code → 0 < slice_index p.bytes 0) (pieces (at_first []) list)
