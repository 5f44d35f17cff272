-- How far a row reaches: no part begins before the one before it ends, or behind the end of the row.
use Rattle.std.specs.List.{All}
use Rattle.std.proofs.Common.{ℕ, ◌+◌, ◌<◌, ◌≤◌, List, [], ◌∷◌, arith}
use Rattle.std.proofs.lemmas.List.Elements.{All-nil, All-cons}
use Rattle.gp_rules.specs.Sizes.{padded}
use Rattle.gp_layout.specs.Layout.{starts_behind, end_behind}

pub padded_least : (n : ℕ) → n ≤ padded n
padded_least n = omega arith

pub end_least : (at : ℕ) (lengths : List ℕ) → at ≤ end_behind at lengths
end_least at [] = omega arith
end_least at (n ∷ lengths) = omega (arith, padded_least at, end_least (padded at + n) lengths)

pub starts_below : (m at : ℕ) (lengths : List ℕ) → end_behind at lengths < m → All (λ start. start < m) (starts_behind at lengths)
starts_below m at [] h = All-nil (λ start. start < m)
starts_below m at (n ∷ lengths) h =
    All-cons (λ start. start < m) (padded at) (starts_behind (padded at + n) lengths)
    (omega (arith, end_least (padded at + n) lengths, h)) (starts_below m (padded at + n) lengths h)
