use Rattle.std.proofs.Common.{refl, None}
use Rattle.gp_asset.specs.Uses.{skin_uses}
use Rattle.gp_asset.proofs.Gathered.{turn}
use Rattle.gp_asset.proofs.uses.push_skins.Goals as goal

pub skins-preserved : goal.skins-preserved
skins-preserved c =
    turn skin_uses c.args.skins.now c.skins.at c.in_ok-owner.owner _ None c.args.uses.now.items c.skins.uses.items c.push_optional.new.uses.items
    c.skins.invariant c.skins-test.true c.in_ok-owner.ensures.ok refl c.in_ok-push_optional.ensures
