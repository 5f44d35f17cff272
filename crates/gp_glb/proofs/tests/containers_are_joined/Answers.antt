use Rattle.std.proofs.Common.{refl, arith, [], ◌∷◌}
use Rattle.gp_glb.specs.Bytes.{word, chunk_bytes}
use Rattle.gp_glb.proofs.tests.containers_are_joined.Goals as goal

pub join-requires-2-clause-rest : goal.join-requires-2-clause-rest
unfolding chunk_bytes word
join-requires-2-clause-rest g c = record {
  chunks = record { kind = 0x64636261; content = 119 ∷ 120 ∷ 121 ∷ 122 ∷ [] } ∷ [];
  whole = (record { aligned = refl; size = omega arith; kind = omega arith }, tt);
  is_bytes = refl;
}
