use Rattle.std.proofs.Common.{◌≡◌, take, ◌++◌}
use Rattle.gp_meshlets.specs.Text.{spaced}
use Rattle.gp_meshlets.proofs.listing.put_spaced.Given as goal

abbrev pub invariant-numbers : goal.invariant-numbers
invariant-numbers l = l.told.items ≡ l.fn.told.items ++ spaced (take l.at l.numbers)
