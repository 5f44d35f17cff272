use Rattle.std.proofs.Common.{◌≡◌, ◌++◌, take}
use Rattle.gp_asset.specs.Uses.{animation_uses}
use Rattle.gp_asset.proofs.uses.push_samplers.Given as goal

abbrev pub invariant-samplers : goal.invariant-samplers
invariant-samplers l = l.uses.items ≡ l.fn.uses.items ++ animation_uses l.owner (take l.at l.samplers)
