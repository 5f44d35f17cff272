-- Numbers of digits alone.
use Rattle.std.proofs.Common.{◌≡◌, ℕ, zero, suc, ◌+◌, ◌-◌, ◌*◌, ◌%◌, ◌^◌, ◌<◌, ◌≤◌, ◌⊎◌, inl, inr, true, false, ◌&&◌, nat_lt, List, [], ◌∷◌, ◌++◌, length, get_or, take, Some, None, refl, sym, ap, subst, arith, rules}
use Rattle.std.proofs.lemmas.Bool.Decides.{nat_tests}
use Rattle.std.proofs.lemmas.Int.Digits.{digits_value_more}
use Rattle.std.proofs.lemmas.Fmt.{decimal_by_steps}
use Rattle.std.specs.Fmt.{decimal}
use Rattle.std.specs.Str.{all_ascii_digits}
use Rattle.std.specs.Char.{digit_value, is_ascii_digit}
use Rattle.std.specs.Str.Parse.{digits_value, digits_value_after}
use Rattle.gp_tree.specs.Lexical.{Each, IsDigit, IsDigits, IsInt, IsNumber}
use Rattle.gp_tree.specs.declared.tree.Tree.{Number as number_tree, the_lemmas}
use Rattle.gp_tree.specs.declared.lexeme.Lexeme.{Lexeme}
use Rattle.gp_tree.specs.Plain.{plain, number}
use Rattle.gp_tree.specs.Sound.{IsSound}
use Rattle.gp_tree.specs.Values.{whole_of}

digit_is : (c : ℕ) → 48 ≤ c → c ≤ 57 → is_ascii_digit c ≡ true
digit_is c h k = grind (arith, nat_tests)

no_digit : (c : ℕ) → (c < 48) ⊎ (57 < c) → is_ascii_digit c ≡ false
no_digit c (inl h) = grind (arith, nat_tests)
no_digit c (inr h) = grind (arith, nat_tests)

value_is : (c : ℕ) → 48 ≤ c → c ≤ 57 → digit_value c ≡ c - 48
value_is c h k = grind (arith, nat_tests)

after_grows : (n : ℕ) (s : List ℕ) → n ≤ digits_value_after 10 n s
after_grows n [] = omega arith
after_grows n (c ∷ s) = omega (arith, after_grows (n * 10 + digit_value c) s)

-- with the value n in front
front_below : (n : ℕ) (s : List ℕ) (i : ℕ) → digits_value_after 10 n (take i s) ≤ digits_value_after 10 n s
front_below n s zero = after_grows n s
front_below n [] (suc i) = omega arith
front_below n (c ∷ s) (suc i) = front_below (n * 10 + digit_value c) s i

not_all : (s : List ℕ) (i : ℕ) → i < length s → (get_or s i 0 < 48) ⊎ (57 < get_or s i 0) → all_ascii_digits s ≡ false
not_all [] i h k = absurd (omega arith)
not_all (c ∷ s) zero h k = rw (no_digit c k) refl
not_all (c ∷ s) (suc i) h k = grind (arith, not_all s i (omega arith) k)

pub all_more : (s : List ℕ) (i : ℕ) → i < length s → all_ascii_digits (take i s) ≡ true → 48 ≤ get_or s i 0 → get_or s i 0 ≤ 57 → all_ascii_digits (take (i + 1) s) ≡ true
all_more [] i h a l k = absurd (omega arith)
all_more (c ∷ s) zero h a l k = rw (digit_is c l k) refl
all_more (c ∷ s) (suc i) h a l k = let e : suc i + 1 ≡ suc (i + 1) = omega arith in rw e (grind (arith, all_more s i (omega arith)))

pub value_more : (s : List ℕ) (i v : ℕ) → i < length s → v ≡ digits_value 10 (take i s) → 48 ≤ get_or s i 0 → get_or s i 0 ≤ 57 → v * 10 + (get_or s i 0 - 48) ≡ digits_value 10 (take (i + 1) s)
value_more s i v h e l k = omega (arith, digits_value_more 10 s i h, value_is (get_or s i 0) l k)

pub none_other : (s : List ℕ) (i : ℕ) → i < length s → (get_or s i 0 < 48) ⊎ (57 < get_or s i 0) → None ≡ whole_of s
none_other s i h k = rw (not_all s i h k) refl

too_large : (s : List ℕ) → 2 ^ 32 ≤ digits_value 10 s → None ≡ whole_of s
too_large s h =
    let x : (all_ascii_digits s && nat_lt (digits_value 10 s) (2 ^ 32)) ≡ false = grind (arith, nat_tests) in
    rw x refl

pub none_large : (s : List ℕ) (i : ℕ) → 2 ^ 32 ≤ digits_value 10 (take (i + 1) s) → None ≡ whole_of s
none_large s i h = too_large s (omega (arith, front_below 0 s (i + 1)))

pub some_whole : (s : List ℕ) (v : ℕ) → v ≡ digits_value 10 s → v < 2 ^ 32 → all_ascii_digits s ≡ true → Some v ≡ whole_of s
some_whole s v e h a =
    let x : (all_ascii_digits s && nat_lt (digits_value 10 s) (2 ^ 32)) ≡ true = grind (arith, nat_tests) in
    rw x (ap Some e)

-- decimal digits are a number
abbrev Leads : List ℕ → Type 0
Leads s = (d : ℕ) × (ds : List ℕ) × (49 ≤ d) × IsDigits (d ∷ ds) × (s ≡ d ∷ ds)

abbrev Writes : ℕ → List ℕ → Type 0
Writes n s = (n ≡ 0 → s ≡ 48 ∷ []) × (0 < n → Leads s)

each_push : (s : List ℕ) (x : ℕ) → Each IsDigit s → IsDigit x → Each IsDigit (s ++ x ∷ [])
each_push [] x h k = (k, tt)
each_push (y ∷ s) x h k = (h.0, each_push s x h.1 k)

decimal_writes : (n : ℕ) → n < 2 ^ 64 → Writes n (decimal n)
decimal_writes n h =
    decimal_by_steps
    Writes
    (λ k low. (λ e. rw e refl, λ some. (48 + k, [], omega arith, ((omega arith, omega arith), tt), refl)))
    (λ k ds low w. (
      λ e. absurd (omega arith),
      λ some.
          let l = w.1 (omega arith) in
          let x = 48 + k % 10 in
          (l.0, l.1 ++ x ∷ [], l.2, (l.3.0, each_push l.1 x l.3.1 (omega arith, omega arith)), ap (λ y. y ++ x ∷ []) l.4),
    ))
    n
    h

int_of : (n : ℕ) (s : List ℕ) → Writes n s → IsInt s
int_of zero s w = inl (w.0 refl)
int_of (suc n) s w = inr (w.1 (omega arith))

pub decimal_number : (n : ℕ) → n < 2 ^ 64 → IsNumber (decimal n)
decimal_number n h = record {
  minus = [];
  int = decimal n;
  frac = [];
  exp = [];
  is_minus = inl refl;
  is_int = int_of n (decimal n) (decimal_writes n h);
  is_frac = inl refl;
  is_exp = inl refl;
  whole = search rules;
}

number_is : (x : Lexeme) → plain (number_tree x) ≡ number x
number_is x = search (rules, the_lemmas)

pub sound_number : (x : Lexeme) (n : ℕ) → x ≡ decimal n → n < 2 ^ 64 → IsSound (plain (number_tree x))
sound_number x n e h = rw (number_is x) (record { spelled = subst IsNumber (sym e) (decimal_number n h); shallow = omega arith; distinct = tt })
