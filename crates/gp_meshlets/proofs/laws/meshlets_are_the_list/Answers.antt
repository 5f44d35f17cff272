use Rattle.std.proofs.Common.{◌∙◌}
use Rattle.gp_meshlets.specs.Meshlets.{runs, meshlets}
use Rattle.gp_meshlets.proofs.Cuts.{runs_joined}
use Rattle.gp_meshlets.proofs.Pieces.{all_look_up}
use Rattle.gp_meshlets.proofs.laws.meshlets_are_the_list.Goals as goal

pub returns : goal.returns
unfolding meshlets
returns c list h = all_look_up (runs list) ∙ runs_joined list h
