use Rattle.std.proofs.Common.{◌≡◌, ℕ, ◌<◌, true, get_or}
use Rattle.gp_glb.specs.Container.{is_blank}
use Rattle.gp_pair.proofs.text.is_text.Given as goal

abbrev pub invariant-blanks : goal.invariant-blanks
invariant-blanks l = (j : ℕ) → j < l.at → is_blank (get_or l.bytes j 0) ≡ true
