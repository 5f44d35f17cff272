-- Safe names are text, and a name up to its last slash is a front of it.
use Rattle.std.proofs.Common.{◌≡◌, ◌≢◌, ℕ, zero, suc, ◌+◌, ◌<◌, Bool, true, false, not, ◌&&◌, ◌||◌, ◌==◌, nat_eq, List, [], ◌∷◌, length, take, get_or, refl, ap, ◌∙◌, arith, codes}
use Rattle.std.proofs.lemmas.Bool.Decides.{nat_tests}
use Rattle.std.proofs.lemmas.Str.{IsUtf8-from_ascii}
use Rattle.std.specs.List.{list_all, list_any, starts_with, slice_split}
use Rattle.std.specs.Str.{IsUtf8}
use Rattle.gp_pair.specs.Names.{is_slash, is_name_byte, leads_out, is_safe, front_of}

-- ---- safe names

second : (a b c d : Bool) → (a && b && c && d) ≡ true → b ≡ true
second a true c d h = refl
second true false c d h = absurd (cc)
second false false c d h = absurd (cc)

head_of : (b c : Bool) → (b && c) ≡ true → (b ≡ true) × (c ≡ true)
head_of true true h = (refl, refl)
head_of true false h = absurd (cc)
head_of false c h = absurd (cc)

ascii_byte : (x : ℕ) → is_name_byte x ≡ true → x < 128
ascii_byte x h = grind (arith, nat_tests)

ascii : (xs : List ℕ) → list_all is_name_byte xs ≡ true → (i : ℕ) → get_or xs i 0 < 128
ascii [] h i = omega arith
ascii (x ∷ xs) h zero = ascii_byte x (head_of _ _ h).0
ascii (x ∷ xs) h (suc i) = ascii xs (head_of _ _ h).1 i

pub safe_text : (name : List ℕ) → is_safe name ≡ true → IsUtf8 name
safe_text name h = IsUtf8-from_ascii name (ascii name (second _ _ _ _ h))

grouped : (a b c d : Bool) → ((a && b) && c) && d ≡ (a && b && c && d)
grouped true true c d = refl
grouped true false c d = refl
grouped false b c d = refl

pub tested : (name : List ℕ) (empty printable root out : Bool)
    → empty ≡ (length name == 0) → printable ≡ list_all is_name_byte name → root ≡ starts_with nat_eq name (codes "/") → out ≡ list_any leads_out (slice_split is_slash name)
    → ((not empty && printable) && not root) && not out ≡ is_safe name
tested name empty printable root out e p r o = grouped (not empty) printable (not root) (not out) ∙ rw (e, p, r, o) refl

-- ---- fronts

false_of : (b : Bool) → (b ≡ true → ⊥) → b ≡ false
false_of true h = absurd (h refl)
false_of false h = refl

is_one : (x : ℕ) → is_slash x ≡ true → x ≡ 47
is_one x h = grind (arith, nat_tests)

no_slash : (xs : List ℕ) → ((i : ℕ) → i < length xs → get_or xs i 0 ≢ 47) → list_any is_slash xs ≡ false
no_slash [] h = refl
no_slash (x ∷ xs) h =
    let here : is_slash x ≡ false = false_of (is_slash x) (λ e. h 0 (omega arith) (is_one x e)) in
    rw here (no_slash xs (λ i within. h (suc i) (omega (arith, within))))

pub front_none : (name : List ℕ) → ((i : ℕ) → i < length name → get_or name i 0 ≢ 47) → ◌≡◌ {A = List ℕ} [] (front_of name)
unfolding front_of
front_none [] h = refl
front_none (x ∷ xs) h = rw (no_slash (x ∷ xs) h) refl

or_true : (b c : Bool) → c ≡ true → (b || c) ≡ true
or_true true c h = refl
or_true false c h = h

has_slash : (xs : List ℕ) (k : ℕ) → k < length xs → get_or xs k 0 ≡ 47 → list_any is_slash xs ≡ true
has_slash [] k h e = absurd (omega (arith, h))
has_slash (x ∷ xs) zero h e = let here : x ≡ 47 = e in rw here refl
has_slash (x ∷ xs) (suc k) h e = or_true (is_slash x) (list_any is_slash xs) (has_slash xs k (omega (arith, h)) e)

pub front_at : (name : List ℕ) (k : ℕ) → k < length name → get_or name k 0 ≡ 47 → ((i : ℕ) → k < i → i < length name → get_or name i 0 ≢ 47) → take (k + 1) name ≡ front_of name
unfolding front_of
front_at [] k h e last = absurd (omega (arith, h))
front_at (x ∷ xs) zero h e last =
    let none : [] ≡ front_of xs = front_none xs (λ i within. last (suc i) (omega arith) (omega (arith, within))) in
    rw (has_slash (x ∷ xs) 0 h e) (ap (λ r. x ∷ r) none)
front_at (x ∷ xs) (suc k) h e last =
    let more : suc k + 1 ≡ suc (k + 1) = omega arith in
    rw (more, has_slash (x ∷ xs) (suc k) h e) (ap (λ r. x ∷ r) (front_at xs k (omega (arith, h)) e (λ i past within. last (suc i) (omega (arith, past)) (omega (arith, within)))))
