use Rattle.gp_kept.proofs.PackedAccessors.{kept_there}
use Rattle.gp_kept.proofs.KeptElements.{elements_kept, images_kept, all_elements_kept}
use Rattle.gp_kept.proofs.elements_moved.kept_elements_stay.Goals as goal

pub returns : goal.returns
returns c = record { accessors = kept_there; one = elements_kept; images = images_kept; all = all_elements_kept }
