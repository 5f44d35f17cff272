-- A sum that has passed the most bytes of an asset, before its end.
use Rattle.std.proofs.Common.{◌≡◌, ℕ, ◌+◌, ◌<◌, ◌^◌, None, List, length, get_or, take, arith}
use Rattle.std.proofs.lemmas.Grind.{common_steps}
use Rattle.std.specs.List.{sum_by}
use Rattle.std.proofs.lemmas.List.Sums.{sum_by_more_le}
use Rattle.gp_rules.specs.Loads.{within}

over : (n : ℕ) → 2 ^ 31 < n → None ≡ within n
over n h = grind (arith, common_steps)

pub passed : {X : Type 0} (f : X → ℕ) (xs : List X) (k before so_far here : ℕ) (d : X)
    → so_far ≡ before + sum_by f (take k xs) → k < length xs → here ≡ f (get_or xs k d) → 2 ^ 31 < so_far + here
    → None ≡ within (before + sum_by f xs)
passed f xs k before so_far here d sum more item h = over (before + sum_by f xs) (omega (arith, sum_by_more_le f xs k d more))
