use Rattle.std.proofs.Common.{◌≡◌, ℕ, false, take, nat_eq, get_or}
use Rattle.std.specs.List.{list_any}
use Rattle.gp_compare.proofs.vertices.mark_missing.Given as goal

abbrev pub invariant-first : goal.invariant-first
invariant-first l = (n : ℕ) → get_or l.missing n false ≡ list_any (nat_eq n) (take l.number-index l.first)
