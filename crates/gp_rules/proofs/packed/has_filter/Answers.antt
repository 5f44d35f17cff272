use Rattle.std.proofs.Common.{rules}
use Rattle.gp_rules.proofs.Filters.{none_is_none}
use Rattle.gp_rules.proofs.packed.has_filter.Goals as goal

pub returns-in-None : goal.returns-in-None
returns-in-None c = none_is_none c.args.packed.now.filter (search rules)
