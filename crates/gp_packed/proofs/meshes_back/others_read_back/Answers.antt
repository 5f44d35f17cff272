use Rattle.gp_packed.proofs.PackedRoots.{skins_again, animations_again}
use Rattle.gp_packed.proofs.meshes_back.others_read_back.Goals as goal

pub returns : goal.returns
returns c = record { skins = skins_again; animations = animations_again }
