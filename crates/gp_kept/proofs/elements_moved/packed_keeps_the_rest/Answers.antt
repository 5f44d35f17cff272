use Rattle.gp_kept.proofs.MovedElements.{rest_kept}
use Rattle.gp_kept.proofs.elements_moved.packed_keeps_the_rest.Goals as goal

pub returns : goal.returns
returns c = rest_kept
