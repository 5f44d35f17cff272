use Rattle.gp_packed.proofs.NewReferences.{references_below, images_below}
use Rattle.gp_packed.proofs.new_numbers.references_are_below.Goals as goal

pub returns : goal.returns
returns c = record { accessors = references_below; images = images_below }
