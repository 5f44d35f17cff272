use Rattle.std.proofs.Common.{arith}
use Rattle.std.proofs.lemmas.Grind.{common_steps}
use Rattle.gp_tree.proofs.Wholes.{sound_number}
use Rattle.gp_tree.proofs.tree.Tree.number.Goals as goal

pub returns-clause-sound : goal.returns-clause-sound
returns-clause-sound c = sound_number c.in_ok-spelling.spelling c.args.value (grind (arith, common_steps)) (omega arith)
