use Rattle.std.proofs.Common.{◌≡◌, ◌++◌, take}
use Rattle.gp_asset.specs.Uses.{skin_uses, gathered}
use Rattle.gp_asset.proofs.uses.push_skins.Given as goal

abbrev pub invariant-skins : goal.invariant-skins
invariant-skins l = l.uses.items ≡ l.fn.uses.items ++ gathered skin_uses (take l.at l.skins)
