-- The first character of a text, by its first byte.
use Rattle.std.proofs.Common.{◌≡◌, ℕ, zero, suc, ◌+◌, ◌-◌, ◌*◌, ◌<◌, ◌≤◌, List, [], ◌∷◌, length, slice_index, refl, sym, ap, ◌∙◌, arith}
use Rattle.std.proofs.lemmas.Bool.Decides.{nat_tests}
use Rattle.std.specs.Str.{chars, chars_after, continuation_len, lead_bits}
use Rattle.gp_tree.specs.Units.{IsNextChar}

after_zero : (c : ℕ) (bs : List ℕ) → chars_after 0 c bs ≡ c ∷ chars bs
unfolding chars
after_zero c [] = refl
after_zero c (b ∷ bs) = refl

after_short : (n c : ℕ) (bs : List ℕ) → length bs < n → chars_after n c bs ≡ []
after_short zero c bs h = absurd (omega arith)
after_short (suc n) c [] h = refl
after_short (suc n) c (b ∷ bs) h = after_short n (c * 64 + (b - 128)) bs (omega arith)

from_lead : (n l b : ℕ) (bs : List ℕ) → continuation_len b ≡ n → lead_bits b ≡ l → chars (b ∷ bs) ≡ chars_after n l bs
unfolding chars
from_lead n l b bs e f = ap (λ k. chars_after k (lead_bits b) bs) e ∙ ap (λ k. chars_after n k bs) f

len_one : (b : ℕ) → b < 128 → continuation_len b ≡ 0
len_one b h = grind (arith, nat_tests)

len_two : (b : ℕ) → 128 ≤ b → b < 224 → continuation_len b ≡ 1
len_two b h k = grind (arith, nat_tests)

len_three : (b : ℕ) → 224 ≤ b → b < 240 → continuation_len b ≡ 2
len_three b h k = grind (arith, nat_tests)

len_four : (b : ℕ) → 240 ≤ b → continuation_len b ≡ 3
len_four b h = grind (arith, nat_tests)

lead_one : (b : ℕ) → b < 128 → lead_bits b ≡ b
lead_one b h = grind (arith, nat_tests)

lead_two : (b : ℕ) → 128 ≤ b → b < 224 → lead_bits b ≡ b - 192
lead_two b h k = grind (arith, nat_tests)

lead_three : (b : ℕ) → 224 ≤ b → b < 240 → lead_bits b ≡ b - 224
lead_three b h k = grind (arith, nat_tests)

lead_four : (b : ℕ) → 240 ≤ b → lead_bits b ≡ b - 240
lead_four b h = grind (arith, nat_tests)

pub none_empty : (s : List ℕ) → length s ≡ 0 → chars s ≡ []
unfolding chars
none_empty [] h = refl
none_empty (b ∷ bs) h = absurd (omega arith)

pub none_two : (s : List ℕ) → 0 < length s → length s < 2 → 128 ≤ slice_index s 0 → slice_index s 0 < 224 → chars s ≡ []
none_two [] h l a k = absurd (omega arith)
none_two (b ∷ bs) h l a k = from_lead 1 _ b bs (len_two b a k) refl ∙ after_short 1 _ bs (omega arith)

pub none_three : (s : List ℕ) → 0 < length s → length s < 3 → 224 ≤ slice_index s 0 → slice_index s 0 < 240 → chars s ≡ []
none_three [] h l a k = absurd (omega arith)
none_three (b ∷ bs) h l a k = from_lead 2 _ b bs (len_three b a k) refl ∙ after_short 2 _ bs (omega arith)

pub none_four : (s : List ℕ) → 0 < length s → length s < 4 → 240 ≤ slice_index s 0 → chars s ≡ []
none_four [] h l a = absurd (omega arith)
none_four (b ∷ bs) h l a = from_lead 3 _ b bs (len_four b a) refl ∙ after_short 3 _ bs (omega arith)

pub next_one : (s : List ℕ) → 0 < length s → slice_index s 0 < 128 → IsNextChar s (slice_index s 0) 1
next_one [] h a = absurd (omega arith)
next_one (b ∷ bs) h a = record { some = omega arith; within = omega arith; small = omega arith; is = from_lead 0 b b bs (len_one b a) (lead_one b a) ∙ after_zero b bs }

pub next_two : (s : List ℕ) (x : ℕ) → 2 ≤ length s → 128 ≤ slice_index s 0 → slice_index s 0 < 224 → x ≡ (slice_index s 0 - 192) * 64 + (slice_index s 1 - 128) → slice_index s 1 < 256 → IsNextChar s x 2
next_two [] x h a k e l = absurd (omega arith)
next_two (b ∷ []) x h a k e l = absurd (omega arith)
next_two (b ∷ c ∷ bs) x h a k e l = record {
  some = omega arith;
  within = omega arith;
  small = omega arith;
  is = from_lead 1 (b - 192) b (c ∷ bs) (len_two b a k) (lead_two b a k) ∙ after_zero ((b - 192) * 64 + (c - 128)) bs ∙ ap (λ y. y ∷ chars bs) (sym e);
}

pub next_three : (s : List ℕ) (x : ℕ) → 3 ≤ length s → 224 ≤ slice_index s 0 → slice_index s 0 < 240 → x ≡ ((slice_index s 0 - 224) * 64 + (slice_index s 1 - 128)) * 64 + (slice_index s 2 - 128) → slice_index s 1 < 256 → slice_index s 2 < 256
    → IsNextChar s x 3
next_three [] x h a k e l m = absurd (omega arith)
next_three (b ∷ []) x h a k e l m = absurd (omega arith)
next_three (b ∷ c ∷ []) x h a k e l m = absurd (omega arith)
next_three (b ∷ c ∷ d ∷ bs) x h a k e l m = record {
  some = omega arith;
  within = omega arith;
  small = omega arith;
  is = from_lead 2 (b - 224) b (c ∷ d ∷ bs) (len_three b a k) (lead_three b a k) ∙ after_zero (((b - 224) * 64 + (c - 128)) * 64 + (d - 128)) bs ∙ ap (λ y. y ∷ chars bs) (sym e);
}

pub next_four : (s : List ℕ) (x : ℕ) → 4 ≤ length s → 240 ≤ slice_index s 0 → slice_index s 0 < 256 → x ≡ (((slice_index s 0 - 240) * 64 + (slice_index s 1 - 128)) * 64 + (slice_index s 2 - 128)) * 64 + (slice_index s 3 - 128) → slice_index s 1 < 256 → slice_index s 2 < 256
    → slice_index s 3 < 256 → IsNextChar s x 4
next_four [] x h a k e l m n = absurd (omega arith)
next_four (b ∷ []) x h a k e l m n = absurd (omega arith)
next_four (b ∷ c ∷ []) x h a k e l m n = absurd (omega arith)
next_four (b ∷ c ∷ d ∷ []) x h a k e l m n = absurd (omega arith)
next_four (b ∷ c ∷ d ∷ f ∷ bs) x h a k e l m n = record {
  some = omega arith;
  within = omega arith;
  small = omega arith;
  is = from_lead 3 (b - 240) b (c ∷ d ∷ f ∷ bs) (len_four b a) (lead_four b a) ∙ after_zero ((((b - 240) * 64 + (c - 128)) * 64 + (d - 128)) * 64 + (f - 128)) bs ∙ ap (λ y. y ∷ chars bs) (sym e);
}

pub ascii_first : (b : ℕ) (bs : List ℕ) → b < 128 → chars (b ∷ bs) ≡ b ∷ chars bs
ascii_first b bs h = from_lead 0 b b bs (len_one b h) (lead_one b h) ∙ after_zero b bs
