use Rattle.std.proofs.Common.{◌≡◌, ◌++◌, take}
use Rattle.gp_asset.specs.Uses.{animation_uses, gathered}
use Rattle.gp_asset.proofs.uses.push_animations.Given as goal

abbrev pub invariant-animations : goal.invariant-animations
invariant-animations l = l.uses.items ≡ l.fn.uses.items ++ gathered animation_uses (take l.at l.animations)
