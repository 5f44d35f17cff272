use Rattle.gp_app.proofs.RoundTrip.{limits_are_only_faults, gives_back}
use Rattle.gp_app.proofs.laws.unpacking_gives_back.Goals as goal

pub returns : goal.returns
returns c = record { limits = limits_are_only_faults; same = gives_back }
