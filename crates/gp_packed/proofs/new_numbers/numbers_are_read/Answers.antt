use Rattle.gp_packed.proofs.NewReferences.{images_renumbered}
use Rattle.gp_packed.proofs.MadePlaces.{numbers_read}
use Rattle.gp_packed.proofs.new_numbers.numbers_are_read.Goals as goal

pub returns : goal.returns
returns c = record { accessors = numbers_read; images = images_renumbered }
