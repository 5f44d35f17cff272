-- Triangles of a list of corners.
use Rattle.std.proofs.Common.{◌≡◌, ℕ, ◌+◌, ◌*◌, ◌/◌, ◌<◌, List, ◌∷◌, length, get_or, drop, sym, ap, ◌∙◌, arith}
use Rattle.std.specs.List.{range_with_len}
use Rattle.std.proofs.lemmas.List.FromFn.{length-range_with_len, get_or-range_with_len}
use Rattle.std.proofs.lemmas.List.{drop_more}

one_more : (list : List ℕ) (i j : ℕ) → i < length list → i + 1 ≡ j → drop i list ≡ get_or list i 0 ∷ drop j list
one_more list i j within next = drop_more list i 0 within ∙ ap (λ n. get_or list i 0 ∷ drop n list) next

pub three_more : (list : List ℕ) (at a b c : ℕ) → at < length list / 3 → a ≡ get_or list (3 * at) 0 → b ≡ get_or list (3 * at + 1) 0 → c ≡ get_or list (3 * at + 2) 0
    → drop (3 * at) list ≡ a ∷ b ∷ c ∷ drop (3 * (at + 1)) list
three_more list at a b c within is_a is_b is_c =
    let first = one_more list (3 * at) (3 * at + 1) (omega (arith, within)) (omega arith) in
    let second = one_more list (3 * at + 1) (3 * at + 2) (omega (arith, within)) (omega arith) in
    let third = one_more list (3 * at + 2) (3 * (at + 1)) (omega (arith, within)) (omega arith) in
    rw (is_a, is_b, is_c)
    (first ∙ ap (λ l. get_or list (3 * at) 0 ∷ l) second ∙ ap (λ l. get_or list (3 * at) 0 ∷ get_or list (3 * at + 1) 0 ∷ l) third)

-- ---- all vertices in their order

pub rising_within : (count at : ℕ) → at < length (range_with_len 0 count) → at < count
rising_within count at within = let long = length-range_with_len 0 count in omega (arith, within, long)

pub rising_corner : (count at : ℕ) → at < length (range_with_len 0 count) → at ≡ get_or (range_with_len 0 count) at 0
rising_corner count at within =
    let from_0 : 0 + at ≡ at = omega arith in
    sym (get_or-range_with_len 0 count at 0 (rising_within count at within) ∙ from_0)
