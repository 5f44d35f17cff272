use Rattle.gp_kept.proofs.OutputRead.{made_elements_are_moved}
use Rattle.gp_kept.proofs.triangles_moved.made_elements_are_moved.Goals as goal

pub returns : goal.returns
returns c = made_elements_are_moved
