use Rattle.gp_mover.proofs.Made.{start_first, start_later}
use Rattle.gp_mover.proofs.making.start_of.Goals as goal

pub returns-then-at-eq0-clause-begins : goal.returns-then-at-eq0-clause-begins
returns-then-at-eq0-clause-begins c lists is = start_first c.args.at lists c.if-at-eq0.true

pub returns-clause-begins : goal.returns-clause-begins
returns-clause-begins c lists is = start_later c.args.at c.args.ends.now lists c.if-at-eq0.false c.requires is
