use Rattle.gp_packed.proofs.PrimitivePlaces.{places_are, indexed_primitives}
use Rattle.gp_packed.proofs.meshes_back.indexed_primitives_are.Goals as goal

pub returns : goal.returns
returns c = record { apart = places_are; indexed = indexed_primitives }
