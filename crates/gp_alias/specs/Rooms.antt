-- How much room lists of corners take. No public contract cites it.
use Rattle.std.specs.Prelude.{ℕ, if◌then◌else◌, List, length, sum_by}
use Rattle.gp_alias.specs.declared.group.Group.{Group}

-- the numbers of all lists together
abbrev pub lengths : List (List (List ℕ)) → ℕ
lengths lists = sum_by (λ (list : List (List ℕ)). length list) lists

-- all vertices once, where a primitive has no `indices`
abbrev pub bare_corners : Group → ℕ
bare_corners g = if g.bare then g.count else 0
