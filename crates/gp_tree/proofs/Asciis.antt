-- Strings of ASCII.
use Rattle.std.proofs.Common.{◌≡◌, ℕ, ◌<◌, ◌≤◌, true, false, List, [], ◌∷◌, ◌++◌, Some, None, refl, sym, ap, ◌∙◌, append_assoc, arith}
use Rattle.std.proofs.lemmas.List.{append-nil}
use Rattle.std.proofs.lemmas.Bool.Decides.{nat_tests}
use Rattle.gp_tree.specs.Values.{all_ascii, ascii_of}

pub ascii_push : (xs : List ℕ) (x : ℕ) → all_ascii xs ≡ true → x < 128 → all_ascii (xs ++ x ∷ []) ≡ true
ascii_push [] x h k = grind (arith, nat_tests)
ascii_push (y ∷ xs) x h k = grind (arith, nat_tests, ascii_push xs x)

ascii_not : (xs : List ℕ) (x : ℕ) (ys : List ℕ) → 128 ≤ x → all_ascii (xs ++ x ∷ ys) ≡ false
ascii_not [] x ys h = grind (arith, nat_tests)
ascii_not (y ∷ xs) x ys h = grind (arith, nat_tests, ascii_not xs x ys h)

pub none_other : (us xs : List ℕ) (x : ℕ) (ys : List ℕ) → us ≡ xs ++ x ∷ ys → 128 ≤ x → None ≡ ascii_of us
none_other us xs x ys e h = let f : all_ascii us ≡ false = ap all_ascii e ∙ ascii_not xs x ys h in rw f refl

pub some_all : (us xs vs : List ℕ) → us ≡ xs ++ vs → vs ≡ [] → all_ascii xs ≡ true → Some xs ≡ ascii_of us
some_all us xs vs e n h =
    let same : us ≡ xs = e ∙ ap (λ l. xs ++ l) n ∙ append-nil xs in
    let f : all_ascii us ≡ true = ap all_ascii same ∙ h in
    rw f (ap Some (sym same))

pub text_more : (us xs : List ℕ) (x : ℕ) (vs ws : List ℕ) → us ≡ xs ++ vs → vs ≡ x ∷ ws → us ≡ (xs ++ x ∷ []) ++ ws
text_more us xs x vs ws e f = e ∙ ap (λ l. xs ++ l) f ∙ sym (append_assoc xs (x ∷ []) ws)
