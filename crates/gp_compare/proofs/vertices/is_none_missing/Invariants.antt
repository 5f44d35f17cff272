use Rattle.std.proofs.Common.{◌≡◌, ℕ, ◌<◌, false, slice_index, get_or}
use Rattle.gp_compare.proofs.vertices.is_none_missing.Given as goal

abbrev pub invariant-first : goal.invariant-first
invariant-first l = (k : ℕ) → k < l.number-index → get_or l.missing (slice_index l.first k) false ≡ false
