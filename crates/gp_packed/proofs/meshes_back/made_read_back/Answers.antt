use Rattle.gp_packed.proofs.MadeViewsBack.{made_again, strides_small}
use Rattle.gp_packed.proofs.meshes_back.made_read_back.Goals as goal

pub returns : goal.returns
returns c = record { read = made_again; small = strides_small }
