use Rattle.std.proofs.Common.{arith}
use Rattle.std.proofs.lemmas.Grind.{common_steps}
use Rattle.gp_tree.proofs.Names.{sound_text}
use Rattle.gp_tree.proofs.tree.Tree.text.Goals as goal

pub returns-clause-sound : goal.returns-clause-sound
returns-clause-sound c h = sound_text c.in_ok-spelling.spelling c.args.text.now (grind (arith, common_steps)) h
