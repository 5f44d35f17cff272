use Rattle.gp_rules.specs.Accessors.{padded_load}
use Rattle.gp_rules.proofs.Within.{passed}
use Rattle.gp_rules.proofs.load.accessors_load.Goals as goal

pub returns-then-load-gt-MAX_LOAD : goal.returns-then-load-gt-MAX_LOAD
returns-then-load-gt-MAX_LOAD c =
    passed padded_load c.args.accessors.now c.accessors.accessor-index c.args.views _ _ _
    c.accessors.invariant.so_far c.accessors-test.true c.padded_load-load.ensures.load c.if-load-gt-MAX_LOAD.true
