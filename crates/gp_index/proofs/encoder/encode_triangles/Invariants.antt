use Rattle.std.proofs.Common.{◌≡◌, ◌*◌, [], ◌∷◌, ◌++◌, drop}
use Rattle.gp_groups.specs.Triangles.{at_first}
use Rattle.gp_index.specs.Encoding.{InRange, standing_of}
use Rattle.gp_index.proofs.Writing.{written_of}
use Rattle.gp_index.proofs.encoder.encode_triangles.Given as goal

abbrev pub invariant-triangles : goal.invariant-triangles
invariant-triangles l = record {
  codes : 0xE1 ∷ (written_of (at_first []) l.indices).0 ≡ l.bytes.items ++ (written_of (standing_of l.encoder) (drop (3 * l.k) l.indices)).0;
  behind : (written_of (at_first []) l.indices).1 ≡ l.behind.items ++ (written_of (standing_of l.encoder) (drop (3 * l.k) l.indices)).1;
  numbers : InRange l.encoder.counters;
}
