use Rattle.std.proofs.Common.{◌≡◌, map, drop}
use Rattle.gp_asset.specs.Extensions.{are_closed}
use Rattle.gp_asset.proofs.extensions.are_closed.Given as goal

abbrev pub invariant-names : goal.invariant-names
invariant-names l = are_closed (map (λ s. s.now) l.names) ≡ are_closed (map (λ s. s.now) (drop l.at l.names))
