use Rattle.std.proofs.Common.{◌≡◌, ◌++◌, take}
use Rattle.gp_asset.specs.Uses.{entry_uses}
use Rattle.gp_asset.proofs.uses.push_entries.Given as goal

abbrev pub invariant-entries : goal.invariant-entries
invariant-entries l = l.uses.items ≡ l.fn.uses.items ++ entry_uses l.role l.owner (take l.at l.entries)
