use Rattle.gp_asset.specs.Uses.{primitive_uses}
use Rattle.gp_asset.proofs.Gathered.{turn}
use Rattle.gp_asset.proofs.uses.push_primitives.Goals as goal

pub primitives-preserved : goal.primitives-preserved
primitives-preserved c =
    turn primitive_uses c.args.primitives.now c.primitives.at c.in_ok-owner.owner _ _ c.args.uses.now.items c.primitives.uses.items c.push_primitive.new.uses.items
    c.primitives.invariant c.primitives-test.true c.in_ok-owner.ensures.ok c.index-primitives-at.is c.in_ok-push_primitive.ensures
