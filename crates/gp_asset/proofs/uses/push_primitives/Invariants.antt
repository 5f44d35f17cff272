use Rattle.std.proofs.Common.{◌≡◌, ◌++◌, take}
use Rattle.gp_asset.specs.Uses.{primitive_uses, gathered}
use Rattle.gp_asset.proofs.uses.push_primitives.Given as goal

abbrev pub invariant-primitives : goal.invariant-primitives
invariant-primitives l = l.uses.items ≡ l.fn.uses.items ++ gathered primitive_uses (take l.at l.primitives)
