-- The prefixes of data URIs, and what stands behind them.
use Rattle.std.proofs.Common.{◌≡◌, ◌≢◌, inl, inr, ℕ, List, ◌++◌, Some, None, Option, Bor, MatchOption, codes, arith, ap, get_or}
use Rattle.gp_glb.specs.Uri.{HasCode, HasOtherScheme}

pub second_prefix : (text : List ℕ) (r : Option (Bor (List ℕ))) → ((rest : List ℕ) → text ≢ codes "data:application/octet-stream;base64," ++ rest)
    → MatchOption r ((rest : List ℕ) → text ≢ codes "data:application/gltf-buffer;base64," ++ rest) (λ x. text ≡ codes "data:application/gltf-buffer;base64," ++ x.now) → MatchOption r (HasOtherScheme text) (λ code. HasCode text code.now)
second_prefix text None other h = λ code k. elim k [ inl e ↦ other code e | inr e ↦ h code e ]
second_prefix text (Some x) other h = inr h

pub other_prefix : (one other : List ℕ) → codes "data:application/octet-stream;base64," ++ one ≡ codes "data:application/gltf-buffer;base64," ++ other → ⊥
other_prefix one other e = absurd (omega (arith, ap (λ xs. get_or xs 17 0) e))
