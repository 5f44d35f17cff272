use Rattle.std.proofs.Common.{◌≡◌, map, drop}
use Rattle.gp_asset.specs.Extensions.{is_among}
use Rattle.gp_asset.proofs.extensions.is_among.Given as goal

abbrev pub invariant-names : goal.invariant-names
invariant-names l = is_among l.name (map (λ s. s.now) l.names) ≡ is_among l.name (map (λ s. s.now) (drop l.at l.names))
