-- Numbers and members that are read back after edits.
use Rattle.std.specs.Prelude.{not, option_map, option_and_then, unwrap_or}
use Rattle.std.proofs.Common.{◌≡◌, ℕ, ◌<◌, ◌^◌, ◌==◌, Bool, true, false, true≢false, ◌&&◌, nat_lt, bytes_eq, List, [], ◌∷◌, Option, Some, None, refl, sym, ap, ◌∙◌, subst, arith}
use Rattle.std.proofs.lemmas.Bool.Decides.{nat_tests}
use Rattle.std.proofs.lemmas.Bool.{ltb-true, lt-ltb}
use Rattle.std.proofs.lemmas.Fmt.{decimal_is_IsNumeral}
use Rattle.std.proofs.lemmas.Slice.Eq.{bytes_eq-Decides}
use Rattle.std.proofs.lemmas.Str.Parse.{tells_all_ascii_digits, tells_digits}
use Rattle.std.specs.Fmt.{decimal}
use Rattle.std.specs.Str.{all_ascii_digits}
use Rattle.std.specs.Str.Parse.{AllDigits}
use Rattle.gp_tree.specs.Plain.{PlainTree}
use Rattle.gp_tree.specs.Values.{whole, IsName, IsNameByte}
use Rattle.gp_tree.specs.Find.{find_member}
use Rattle.gp_tree.proofs.Wholes.{some_whole}
use Rattle.gp_fields.specs.Shapes.{Shaped, below, reference, required, optional, defaulted}
use Rattle.gp_edits.specs.Changes.{whole_number}

-- ---- numbers

digits_again : (s : List ℕ) → AllDigits 10 s → all_ascii_digits s ≡ true
digits_again [] all = refl
digits_again (c ∷ cs) all = tells_all_ascii_digits.more c cs (tells_digits.parts c cs all).0 (digits_again cs all.1)

pub whole_again : (n : ℕ) → n < 2 ^ 32 → whole (whole_number n) ≡ Some n
whole_again n small =
    let d = decimal_is_IsNumeral n (omega arith) in
    sym (some_whole (decimal n) n (sym d.1) small (digits_again (decimal n) d.0.1))

pub reference_again : (n at : ℕ) → at < n → at < 2 ^ 32 → reference n (whole_number at) ≡ Some at
reference_again n at within small = ap (option_and_then (below n)) (whole_again at small) ∙ rw (lt-ltb at n within) refl

-- ---- names

and_parts : (a b : Bool) → (a && b) ≡ true → (a ≡ true) × (b ≡ true)
and_parts true b h = (refl, h)
and_parts false b h = absurd (cc)

abbrev is_name_byte : ℕ → Bool
is_name_byte x = nat_lt 31 x && (nat_lt x 127 && (not (x == 34) && not (x == 92)))

name_byte : (x : ℕ) → is_name_byte x ≡ true → IsNameByte x
name_byte x h =
    let p = and_parts (nat_lt 31 x) (nat_lt x 127 && (not (x == 34) && not (x == 92))) h in
    let q = and_parts (nat_lt x 127) (not (x == 34) && not (x == 92)) p.1 in
    let r = and_parts (not (x == 34)) (not (x == 92)) q.1 in
    let low : 31 < x = ltb-true 31 x p.0 in
    let high : x < 127 = ltb-true x 127 q.0 in
    (omega arith, omega arith, λ e. absurd (differs 34 (subst (λ y. not (y == 34) ≡ true) e r.0)), λ e. absurd (differs 92 (subst (λ y. not (y == 92) ≡ true) e r.1)))
  where
    differs : (n : ℕ) → not (n == n) ≡ true → ⊥
    differs n h = grind (arith, nat_tests)

abbrev is_name : List ℕ → Bool
is_name [] = true
is_name (x ∷ s) = is_name_byte x && is_name s

pub a_name : (s : List ℕ) → is_name s ≡ true → IsName s
a_name [] h = tt
a_name (x ∷ s) h = let p = and_parts (is_name_byte x) (is_name s) h in (name_byte x p.0, a_name s p.1)

pub apart : (a b : List ℕ) → bytes_eq a b ≡ false → a ≡ b → ⊥
apart a b n e = true≢false (sym ((bytes_eq-Decides a b).1 e) ∙ n)

-- ---- members

pub required_same : {A : Type 0} (name : List ℕ) (shape : Shaped A) (t u : PlainTree) → find_member name u ≡ find_member name t → required u name shape ≡ required t name shape
required_same name shape t u e = ap (option_and_then shape) e

pub required_found : {A : Type 0} (name : List ℕ) (shape : Shaped A) (v u : PlainTree) → find_member name u ≡ Some v → required u name shape ≡ shape v
required_found name shape v u e = ap (option_and_then shape) e

abbrev pub read_of : {A : Type 0} → Shaped A → Option PlainTree → Option (Option A)
read_of shape None = Some None
read_of shape (Some t) = option_map Some (shape t)

pub optional_is : {A : Type 0} (name : List ℕ) (shape : Shaped A) (u : PlainTree) (found : Option PlainTree) → find_member name u ≡ found → optional u name shape ≡ read_of shape found
optional_is {A} name shape u None e = ap (λ o. elim o as (λ f. Option (Option A)) [ None ↦ Some None | Some t ↦ option_map Some (shape t) ]) e
optional_is {A} name shape u (Some t) e = ap (λ o. elim o as (λ f. Option (Option A)) [ None ↦ Some None | Some t ↦ option_map Some (shape t) ]) e

pub optional_same : {A : Type 0} (name : List ℕ) (shape : Shaped A) (t u : PlainTree) → find_member name u ≡ find_member name t → optional u name shape ≡ optional t name shape
optional_same name shape t u e = optional_is name shape u (find_member name t) e ∙ sym (optional_is name shape t (find_member name t) refl)

pub defaulted_same : {A : Type 0} (name : List ℕ) (value : A) (shape : Shaped A) (t u : PlainTree) → find_member name u ≡ find_member name t → defaulted u name value shape ≡ defaulted t name value shape
defaulted_same name value shape t u e = ap (option_map (λ found. unwrap_or found value)) (optional_same name shape t u e)
