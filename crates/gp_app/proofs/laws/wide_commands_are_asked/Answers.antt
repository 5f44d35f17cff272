use Rattle.gp_app.proofs.WideAsked.{wide_commands_are_asked}
use Rattle.gp_app.proofs.laws.wide_commands_are_asked.Goals as goal

pub returns : goal.returns
returns c = wide_commands_are_asked
