use Rattle.std.proofs.Common.{◌∙◌}
use Rattle.gp_asset.specs.Uses.{animation_uses}
use Rattle.gp_asset.proofs.Gathered.{turn}
use Rattle.gp_asset.proofs.uses.push_animations.Goals as goal

pub animations-preserved : goal.animations-preserved
animations-preserved c =
    let item = c.deref.ensures.value ∙ c.animation.view_is ∙ c.index-animations-at.is in
    turn animation_uses c.args.animations.now c.animations.at c.in_ok-owner.owner _ _ c.args.uses.now.items c.animations.uses.items c.push_samplers.new.uses.items
    c.animations.invariant c.animations-test.true c.in_ok-owner.ensures.ok item c.in_ok-push_samplers.ensures
