-- Keys that stand for themselves.
use Rattle.std.proofs.Common.{◌≡◌, ℕ, zero, suc, ◌+◌, ◌<◌, ◌==◌, Bool, true, false, true≢false, IsTrue, ◌↔◌, bytes_eq, nat_lt, List, [], ◌∷◌, ◌++◌, length, get_or, slice_index, take, refl, sym, ap, ◌∙◌, subst, arith, IsAscii}
use Rattle.std.proofs.lemmas.Bool.Decides.{nat_tests}
use Rattle.std.proofs.lemmas.List.{take_more}
use Rattle.std.proofs.lemmas.Str.{chars-IsAscii}
use Rattle.std.proofs.lemmas.Slice.Eq.{bytes_eq-Decides}
use Rattle.gp_tree.specs.declared.tree.Member.{Member}
use Rattle.gp_tree.specs.Plain.{plain_member, plain_entries}
use Rattle.gp_tree.specs.Lexical.{Each}
use Rattle.gp_tree.specs.Key.{outside, units, units_from}
use Rattle.gp_tree.specs.EqualKeys.{IsPlainByte, ArePlain}
use Rattle.gp_tree.proofs.Chars.{ascii_first}
use Rattle.gp_tree.proofs.Distinct.{member_is}

ascii : (s : List ℕ) → Each IsPlainByte s → IsAscii s
ascii [] h i = omega arith
ascii (x ∷ s) h zero = h.0.0
ascii (x ∷ s) h (suc i) = ascii s h.1 i

own_units : (s : List ℕ) → Each IsPlainByte s → units_from outside s ≡ s
own_units [] h = refl
own_units (x ∷ s) h =
    let plain : (x == 92) ≡ false = grind (arith, nat_tests, h.0.1) in
    let low : nat_lt x 0x1_0000 ≡ true = grind (arith, nat_tests, h.0.0) in
    rw (plain, low) (ap (λ y. x ∷ y) (own_units s h.1))

pub plain_units : (s : List ℕ) → Each IsPlainByte s → units s ≡ s
plain_units s h = ap (units_from outside) (chars-IsAscii s (ascii s h)) ∙ own_units s h

pub plain_key : (xs : List Member) (i : ℕ) (m : Member) → i < length xs → m ≡ get_or xs i m → ArePlain (plain_entries xs) → Each IsPlainByte m.key
plain_key [] i t h is s = absurd (omega (arith, h))
plain_key (x ∷ xs) zero t h is s = subst (λ y. Each IsPlainByte y.0) (ap plain_member (sym is) ∙ member_is t) s.0
plain_key (x ∷ xs) (suc i) t h is s = plain_key xs i t (omega (arith, h)) is s.1

plain_push : (xs : List Member) (m : Member) → ArePlain (plain_entries xs) → Each IsPlainByte (plain_member m).0 → ArePlain (plain_entries (xs ++ m ∷ []))
plain_push [] t s h = (h, tt)
plain_push (x ∷ xs) t s h = (s.0, plain_push xs t s.1 h)

pub plain_more : (xs : List Member) (i : ℕ) (m : Member) → i < length xs → m ≡ get_or xs i m → ArePlain (plain_entries (take i xs)) → Each IsPlainByte m.key → ArePlain (plain_entries (take (i + 1) xs))
plain_more xs i t h is s k = subst (λ y. ArePlain (plain_entries y)) (sym (take_more xs i t h ∙ ap (λ u. take i xs ++ u ∷ []) (sym is))) (plain_push (take i xs) t s (subst (λ y. Each IsPlainByte y.0) (sym (member_is t)) k))

-- a plain byte in front is the first unit
units_first : (x : ℕ) (s : List ℕ) → x < 128 → (x ≡ 92 → ⊥) → units (x ∷ s) ≡ x ∷ units s
units_first x s h n =
    let plain : (x == 92) ≡ false = grind (arith, nat_tests, n) in
    let low : nat_lt x 0x1_0000 ≡ true = grind (arith, nat_tests, h) in
    ap (units_from outside) (ascii_first x s h) ∙ rw (plain, low) refl

pub other_first : (s n : List ℕ) → 0 < length s → 0 < length n → slice_index s 0 < 128 → (slice_index s 0 ≡ 92 → ⊥) → (slice_index s 0 ≡ slice_index n 0 → ⊥) → units s ≡ n → ⊥
other_first [] n h k low plain other e = absurd (omega (arith, h))
other_first (x ∷ s) n h k low plain other e = other (ap (λ z. slice_index z 0) (sym (units_first x s low plain) ∙ e))

pub firsts_apart : (s t : List ℕ) → 0 < length s → 0 < length t → IsPlainByte (slice_index s 0) → IsPlainByte (slice_index t 0) → (slice_index s 0 ≡ slice_index t 0 → ⊥) → units s ≡ units t → ⊥
firsts_apart s [] h k low plain other e = absurd (omega (arith, k))
firsts_apart s (y ∷ t) h k low plain other e = other_first s (y ∷ units t) h (omega arith) low.0 low.1 other (e ∙ units_first y t plain.0 plain.1)

pub plain_same : (s t : List ℕ) (r : Bool) → r ≡ bytes_eq s t → Each IsPlainByte s → Each IsPlainByte t → IsTrue r ↔ (units s ≡ units t)
plain_same s t true e p q = ((λ _. ap units ((bytes_eq-Decides s t).0 (sym e))), (λ _. refl))
plain_same s t false e p q = (
  (λ never. absurd (cc)),
  λ h. absurd (true≢false (sym ((bytes_eq-Decides s t).1 (sym (plain_units s p) ∙ h ∙ plain_units t q)) ∙ sym e)),
)
