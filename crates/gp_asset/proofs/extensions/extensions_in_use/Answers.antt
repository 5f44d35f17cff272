use Rattle.std.proofs.Common.{map, ap, arith}
use Rattle.std.proofs.lemmas.Grind.{common_steps}
use Rattle.gp_asset.specs.Extensions.{extensions_in_use}
use Rattle.gp_asset.proofs.extensions.extensions_in_use.Goals as goal

pub returns : goal.returns
unfolding extensions_in_use
returns c =
    let none = ap (map (λ s. s.now)) c.new-names.ensures.items in
    let used = c.in_ok-push_listed.ensures in
    let required = c.in_ok-push_listed-2.ensures in
    let keys = c.in_ok-keys.ensures in
    let all = ap (map (λ s. s.now)) c.in_ok-append.ensures.items in
    grind (arith, common_steps, none, used, required, keys, all)
