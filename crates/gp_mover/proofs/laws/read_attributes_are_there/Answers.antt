use Rattle.gp_mover.proofs.ReadAttributes.{read_attributes_are_there}
use Rattle.gp_mover.proofs.laws.read_attributes_are_there.Goals as goal

pub returns : goal.returns
returns c = read_attributes_are_there
