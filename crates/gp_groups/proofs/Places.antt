-- Places of bytes of elements that follow one another.
use Rattle.std.proofs.Common.{◌≡◌, ◌≢◌, inl, inr, subst, ℕ, zero, suc, ◌+◌, ◌-◌, ◌*◌, ◌<◌, ◌≤◌, List, [], ◌∷◌, ◌++◌, map, take, drop, length, get_or, refl, sym, ◌∙◌, ap, arith}
use Rattle.std.specs.List.{flat_map, range_with_len}
use Rattle.std.proofs.lemmas.Bool.{cases_order}
use Rattle.std.proofs.lemmas.List.{get_or-drop, get_or-take, length-take, length-drop, take-append-drop}
use Rattle.std.proofs.lemmas.List.FromFn.{fill_by_all}

-- places of different elements and of different positions
pub rows_apart : (i j s p q : ℕ) → p < s → i < j → i * s + p < j * s + q
rows_apart i j s p q h lt =
    let e : j ≡ i + 1 + (j - (i + 1)) = omega arith in
    let P : ℕ → Type 0 = λ k. i * s + p < k * s + q in
    subst P (sym e) (omega arith)

pub places_differ : (i j s p q : ℕ) → p < s → q < s → q ≢ p → j * s + q ≢ i * s + p
places_differ i j s p q hp hq ne e = elim (cases_order i j) [
  | inl same ↦ ne (let e2 = rw same at e in omega (arith, e2))
  | inr (inl lt) ↦ absurd (let r = rows_apart i j s p q hp lt in omega (arith, r, e))
  | inr (inr lt) ↦ absurd (let r = rows_apart j i s q p hq lt in omega (arith, r, e))
]

no_items : (dest : List ℕ) → length dest ≡ 0 → [] ≡ dest
no_items [] e = refl
no_items (x ∷ xs) e = absurd (omega (arith, e))

-- a list is its rows
pub rows_filled : (f : ℕ → ℕ → ℕ) (s : ℕ) (dest : List ℕ) (a n : ℕ) → length dest ≡ n * s → ((i p : ℕ) → i < n → p < s → get_or dest (i * s + p) 0 ≡ f (a + i) p) → flat_map (λ i. map (f i) (range_with_len 0 s)) (range_with_len a n) ≡ dest
rows_filled f s dest a zero long each = no_items dest (omega (arith, long))
rows_filled f s dest a (suc n) long each =
    let room : s ≤ length dest = omega (arith, long) in
    let first = fill_by_all (f a) (take s dest) s 0 (omega (arith, length-take s dest, room))
    (λ k h. (let here = each 0 k (omega arith) h in
    let at_k : 0 * s + k ≡ k = omega arith in
    let at_a : a + 0 ≡ a = omega arith in
    let there = rw (at_k, at_a) at here in
    get_or-take s dest k 0 h ∙ there)) in
    let rest = rows_filled f s (drop s dest) (a + 1) n (omega (arith, length-drop s dest, long))
    (λ i p hi h. (let here = each (i + 1) p (omega (arith, hi)) h in
    let at_p : (i + 1) * s + p ≡ s + (i * s + p) = omega arith in
    let at_a : a + (i + 1) ≡ a + 1 + i = omega arith in
    let there = rw (at_p, at_a) at here in
    get_or-drop s dest (i * s + p) 0 ∙ there)) in
    ap (λ (l : List ℕ). map (f a) (range_with_len 0 s) ++ l) rest ∙ ap (λ (l : List ℕ). l ++ drop s dest) (sym first) ∙ take-append-drop s dest
