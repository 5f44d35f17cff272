use Rattle.std.proofs.Common.{◌≡◌, ◌++◌, take}
use Rattle.std.specs.List.{flat_map}
use Rattle.gp_asset.specs.declared.usage.Role.TheVariants.{Target}
use Rattle.gp_asset.specs.Uses.{entry_uses}
use Rattle.gp_asset.proofs.uses.push_targets.Given as goal

abbrev pub invariant-targets : goal.invariant-targets
invariant-targets l = l.uses.items ≡ l.fn.uses.items ++ flat_map (entry_uses Target l.owner) (take l.at l.targets)
