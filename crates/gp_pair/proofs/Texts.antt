-- Telling a text by the byte behind its white space.
use Rattle.std.proofs.Common.{◌≡◌, ℕ, ◌<◌, true, false, ◌==◌, List, length, get_or, refl, arith}
use Rattle.std.proofs.lemmas.List.{get_or_past}
use Rattle.std.proofs.lemmas.List.Sums.{prefix_len_is}
use Rattle.gp_glb.specs.Container.{is_blank}
use Rattle.gp_pair.specs.Joined.{is_text}

pub text_at : (bytes : List ℕ) (at : ℕ) → at < length bytes → ((j : ℕ) → j < at → is_blank (get_or bytes j 0) ≡ true) → is_blank (get_or bytes at 0) ≡ false → (get_or bytes at 0 == 123) ≡ is_text bytes
unfolding is_text
text_at bytes at h before here = let e = prefix_len_is is_blank bytes at 0 (omega arith) before (λ _. here) in rw e refl

pub text_none : (bytes : List ℕ) (at : ℕ) → at ≡ length bytes → ((j : ℕ) → j < at → is_blank (get_or bytes j 0) ≡ true) → false ≡ is_text bytes
unfolding is_text
text_none bytes at h before =
    let e = prefix_len_is is_blank bytes at 0 (omega arith) before (λ lt. absurd (omega arith)) in
    rw (e, get_or_past bytes at 0 (omega arith)) refl
