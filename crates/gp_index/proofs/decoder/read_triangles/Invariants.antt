use Rattle.std.proofs.Common.{◌≡◌, ◌*◌, length, take, drop}
use Rattle.gp_groups.specs.Triangles.{at_first, triangles}
use Rattle.gp_index.specs.Decoding.{as_bytes, state_of}
use Rattle.gp_sequence.proofs.Turns.{behind}
use Rattle.gp_index.proofs.decoder.read_triangles.Given as goal

abbrev pub invariant-codes : goal.invariant-codes
invariant-codes l = record {
  so_far : as_bytes l.stride (triangles l.stride l.table 0 l.codes (at_first l.fn.unread)) ≡ behind (take (3 * l.k * l.stride) l.dest) (as_bytes l.stride (triangles l.stride l.table (3 * l.k) (drop l.k l.codes) (state_of l.decoder)));
  room : length l.dest ≡ 3 * length l.codes * l.stride;
}
