-- A list of zeros but at given places, without each 0 that stands right behind a 0.
use Rattle.std.proofs.Common.{◌≡◌, ℕ, zero, suc, ◌+◌, ◌-◌, ◌<◌, ◌≤◌, ◌==◌, ◌⊎◌, inl, inr, Bool, true, false, ◌||◌, nat_lt, List, [], ◌++◌, length, drop, get_or, refl, sym, ap, ◌∙◌, subst, arith, append_assoc, append-nil}
use Rattle.std.proofs.lemmas.Bool.{lt-ltb, le-ltb, cases_lt}
use Rattle.std.proofs.lemmas.List.{drop_more, drop_all}
use Rattle.gp_analyse.specs.Costs.{kept, thinned, AreGiven, IsNext, zeros_kept}

-- ---- zeros behind one another

abbrev AreZeros : List ℕ → ℕ → ℕ → Type 0
AreZeros numbers from to = (i : ℕ) → from ≤ i → i < to → get_or numbers i 0 ≡ 0

one_left_out : (numbers : List ℕ) (from : ℕ) (behind : Bool) → from < length numbers → get_or numbers from 0 ≡ 0 → thinned behind (drop from numbers) ≡ kept behind 0 ++ thinned true (drop (from + 1) numbers)
one_left_out numbers from behind within is =
    ap (thinned behind) (drop_more numbers from 0 within) ∙ ap (λ n. kept behind n ++ thinned (n == 0) (drop (from + 1) numbers)) is

left_out : (numbers : List ℕ) (from more to : ℕ) → from + more ≡ to → to ≤ length numbers → AreZeros numbers from to → thinned true (drop from numbers) ≡ thinned true (drop to numbers)
left_out numbers from zero to end within zeros = let same : from ≡ to = omega (arith, end) in ap (λ n. thinned true (drop n numbers)) same
left_out numbers from (suc more) to end within zeros =
    one_left_out numbers from true (omega (arith, end, within)) (zeros from (omega arith) (omega (arith, end)))
    ∙ left_out numbers (from + 1) more to (omega (arith, end)) within (λ i low high. zeros i (omega (arith, low)) high)

some_zeros : (numbers : List ℕ) (from to : ℕ) (behind : Bool) → from < to → to ≤ length numbers → AreZeros numbers from to → thinned behind (drop from numbers) ≡ kept behind 0 ++ thinned true (drop to numbers)
some_zeros numbers from to behind some within zeros =
    one_left_out numbers from behind (omega (arith, some, within)) (zeros from (omega arith) some)
    ∙ ap (λ xs. kept behind 0 ++ xs) (left_out numbers (from + 1) (to - (from + 1)) to (omega (arith, some)) within (λ i low high. zeros i (omega (arith, low)) high))

either_zero : (behind : Bool) → (behind || true) ≡ true
either_zero true = refl
either_zero false = refl

either_none : (behind : Bool) → (behind || false) ≡ behind
either_none true = refl
either_none false = refl

-- zeros between two places, of which there may be none
zeros_between : (numbers : List ℕ) (from to : ℕ) (behind : Bool) → from ≤ to → to ≤ length numbers → AreZeros numbers from to
    → thinned behind (drop from numbers) ≡ zeros_kept behind from to ++ thinned (behind || nat_lt from to) (drop to numbers)
zeros_between numbers from to behind order within zeros = by_order (cases_lt from to)
  where
    by_order : (from < to) ⊎ (to ≤ from) → thinned behind (drop from numbers) ≡ zeros_kept behind from to ++ thinned (behind || nat_lt from to) (drop to numbers)
    by_order (inl some) = rw (lt-ltb from to some, either_zero behind) (some_zeros numbers from to behind some within zeros)
    by_order (inr none) =
        let same : from ≡ to = omega (arith, none, order) in
        rw (le-ltb from to none, either_none behind) (ap (λ n. thinned behind (drop n numbers)) same)

-- ---- places that rise

rises : (numbers places : List ℕ) (j more k : ℕ) → AreGiven numbers places → j + suc more ≡ k → k < length places → get_or places j 0 < get_or places k 0
rises numbers places j zero k given is within =
    let next : j + 1 ≡ k = omega (arith, is) in
    subst (λ n. get_or places j 0 < get_or places n 0) next (given.rise j (omega (arith, next, within)))
rises numbers places j (suc more) k given is within =
    let first = given.rise j (omega (arith, is, within)) in
    let later = rises numbers places (j + 1) more k given (omega (arith, is)) within in
    omega (arith, first, later)

-- an earlier place is below a later one
below : (numbers places : List ℕ) (j k : ℕ) → AreGiven numbers places → j < k → k < length places → get_or places j 0 < get_or places k 0
below numbers places j k given order within = rises numbers places j (k - (j + 1)) k given (omega (arith, order)) within

-- no place lies between two that follow each other
not_between : (numbers places : List ℕ) (at next i : ℕ) → AreGiven numbers places → IsNext places at next → at ≤ length places → next ≤ i → (at < length places → i < get_or places at 0)
    → (k : ℕ) → k < length places → get_or places k 0 ≡ i → ⊥
not_between numbers places at next i given is_next within low high k inside same = by_order (cases_lt k at)
  where
    by_last : (k + 1 < at) ⊎ (at ≤ k + 1) → k < at → ⊥
    by_last (inl before) order =
        let last = is_next.last (at - 1) (omega (arith, before)) in
        let rise = below numbers places k (at - 1) given (omega (arith, before)) (omega (arith, before, within)) in
        omega (arith, last, rise, low, same)
    by_last (inr one) order =
        let last = is_next.last k (omega (arith, one, order)) in
        omega (arith, last, low, same)

    by_after : (at < k) ⊎ (k ≤ at) → at ≤ k → ⊥
    by_after (inl after) order =
        let rise = below numbers places at k given after inside in
        let here = high (omega (arith, after, inside)) in
        omega (arith, rise, here, same)
    by_after (inr one) order =
        let is : at ≡ k = omega (arith, one, order) in
        let here = high (omega (arith, is, inside)) in
        let there = subst (λ n. i < get_or places n 0) is here in
        omega (arith, there, same)

    by_order : (k < at) ⊎ (at ≤ k) → ⊥
    by_order (inl order) = by_last (cases_lt (k + 1) at) order
    by_order (inr order) = by_after (cases_lt at k) order

-- ---- turns

first_next : (places : List ℕ) → IsNext places 0 0
first_next places = record { first = λ e. refl; last = λ k is. absurd (omega (arith, is)) }

pub next_more : (places : List ℕ) (at place : ℕ) → get_or places at 0 ≡ place → IsNext places (at + 1) (place + 1)
next_more places at place is = record {
  first = λ e. absurd (omega (arith, e));
  last = λ k e. let same : k ≡ at = omega (arith, e) in let here = ap (λ n. get_or places n 0) same in omega (arith, here, is);
}

next_low : (numbers places : List ℕ) (at next : ℕ) → AreGiven numbers places → IsNext places at next → at < length places → next ≤ get_or places at 0
next_low numbers places zero next given is within = let none = is.first refl in omega (arith, none)
next_low numbers places (suc k) next given is within =
    let last = is.last k (omega arith) in
    let rise = below numbers places k (suc k) given (omega arith) within in
    omega (arith, last, rise)

-- the zeros before a place, and the number there
pub given_more : (numbers places whole so_far zeros now : List ℕ) (at next place number : ℕ) (behind now_behind : Bool) → AreGiven numbers places → IsNext places at next → at < length places → get_or places at 0 ≡ place → get_or numbers place 0 ≡ number
    → whole ≡ so_far ++ thinned behind (drop next numbers) → zeros ≡ so_far ++ zeros_kept behind next place → now_behind ≡ (behind || nat_lt next place) → now ≡ zeros ++ kept now_behind number
    → whole ≡ now ++ thinned (number == 0) (drop (place + 1) numbers)
given_more numbers places whole so_far zeros now at next place number behind now_behind given is_next within is is_number invariant put_zeros is_behind put =
    let order : next ≤ place = subst (λ n. next ≤ n) is (next_low numbers places at next given is_next within) in
    let inside : place < length numbers = subst (λ n. n < length numbers) is (given.within at within) in
    let between = zeros_between numbers next place behind order (omega (arith, inside))
    (λ i low high. given.zeros i (omega (arith, high, inside)) (not_between numbers places at next i given is_next (omega (arith, within)) low (λ h. subst (λ n. i < n) (sym is) high))) in
    let rest = thinned (number == 0) (drop (place + 1) numbers) in
    let one : thinned now_behind (drop place numbers) ≡ kept now_behind number ++ rest =
    ap (thinned now_behind) (drop_more numbers place 0 inside) ∙ ap (λ n. kept now_behind n ++ thinned (n == 0) (drop (place + 1) numbers)) is_number in
    invariant
    ∙ ap (λ xs. so_far ++ xs) (between ∙ ap (λ b. zeros_kept behind next place ++ thinned b (drop place numbers)) (sym is_behind) ∙ ap (λ xs. zeros_kept behind next place ++ xs) one)
    ∙ sym (append_assoc so_far (zeros_kept behind next place) (kept now_behind number ++ rest))
    ∙ sym (append_assoc (so_far ++ zeros_kept behind next place) (kept now_behind number) rest)
    ∙ ap (λ xs. xs ++ kept now_behind number ++ rest) (sym put_zeros)
    ∙ ap (λ xs. xs ++ rest) (sym put)

-- the zeros behind all places
pub given_all : (numbers places whole so_far now : List ℕ) (at next : ℕ) (behind : Bool) → AreGiven numbers places → IsNext places at next → at ≡ length places → next ≤ length numbers
    → whole ≡ so_far ++ thinned behind (drop next numbers) → now ≡ so_far ++ zeros_kept behind next (length numbers) → now ≡ whole
given_all numbers places whole so_far now at next behind given is_next end within invariant put =
    let last = length numbers in
    let between = zeros_between numbers next last behind within (omega arith)
    (λ i low high. given.zeros i high (not_between numbers places at next i given is_next (omega (arith, end)) low (λ h. absurd (omega (arith, h, end))))) in
    let none = ap (thinned (behind || nat_lt next last)) (drop_all last numbers (omega arith)) in
    put ∙ sym (invariant ∙ ap (λ xs. so_far ++ xs) (between ∙ ap (λ xs. zeros_kept behind next last ++ xs) none ∙ append-nil (zeros_kept behind next last)))

-- where all are zeros
pub zeros_only : (numbers old now : List ℕ) (count : ℕ) → AreGiven numbers [] → old ≡ [] → count ≡ length numbers → now ≡ old ++ zeros_kept false 0 count → now ≡ thinned false numbers
zeros_only numbers old now count given none is put =
    given_all numbers [] (thinned false numbers) [] now 0 0 false given (first_next []) refl (omega arith) refl
    (put ∙ ap (λ xs. xs ++ zeros_kept false 0 count) none ∙ ap (λ n. zeros_kept false 0 n) is)
