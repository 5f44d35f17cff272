-- The misses of a list that rises from 0 on: each vertex once, and each line that they touch once.
use Rattle.std.proofs.Common.{◌≡◌, ℕ, zero, suc, ◌+◌, ◌-◌, ◌*◌, ◌/◌, ◌%◌, ◌≤◌, ◌==◌, ◌⊎◌, inl, inr, true, false, List, [], ◌∷◌, ◌++◌, take, flat_map, sym, refl, ◌∙◌, ap, arith, append-nil}
use Rattle.std.specs.List.{list_any, range_with_len}
use Rattle.std.proofs.lemmas.Bool.{eq-eqb, ne_eqb}
use Rattle.gp_cache.specs.Misses.{is_cached, misses_after, misses, touched, lines_of, lines}

-- so many numbers, from 0 on, in the order in which they entered
abbrev pub entered_to : ℕ → List ℕ
entered_to zero = []
entered_to (suc n) = n ∷ entered_to n

-- a number past them all is missed
not_there : (n places number : ℕ) → n ≤ number → list_any (λ e. e == number) (take places (entered_to n)) ≡ false
not_there n zero number le = refl
not_there zero (suc places) number le = refl
not_there (suc n) (suc places) number le =
    let differs : (n == number) ≡ false = ne_eqb n number (λ e. omega (arith, e, le)) in
    rw differs (not_there n places number (omega (arith, le)))

-- ---- numbers that follow all that entered

next_missed : (n : ℕ) (rest : List ℕ) → misses_after (entered_to n) (n ∷ rest) ≡ 1 + misses_after (entered_to (suc n)) rest
next_missed n rest =
    let miss : is_cached (entered_to n) n ≡ false = not_there n 16 n (omega arith) in
    rw miss refl

-- the newest one is no miss
newest_found : (n : ℕ) (rest : List ℕ) → misses_after (entered_to (suc n)) (n ∷ rest) ≡ misses_after (entered_to (suc n)) rest
newest_found n rest =
    let hit : is_cached (entered_to (suc n)) n ≡ true = rw (eq-eqb n n refl) refl in
    rw hit (omega arith)

range_first : (n more : ℕ) → range_with_len n (suc more) ≡ n ∷ range_with_len (suc n) more
range_first n more =
    let next : n + 1 ≡ suc n = omega arith in
    rw next refl

all_missed : (n more : ℕ) (rest : List ℕ) → misses_after (entered_to n) (range_with_len n more ++ rest) ≡ more + misses_after (entered_to (n + more)) rest
all_missed n zero rest =
    let none : n + 0 ≡ n = omega arith in
    rw none (omega arith)
all_missed n (suc more) rest =
    let later = all_missed (suc n) more rest in
    let first = next_missed n (range_with_len (suc n) more ++ rest) in
    let sum : n + suc more ≡ suc n + more = omega arith in
    let begun = ap (λ xs. misses_after (entered_to n) (xs ++ rest)) (range_first n more) in
    rw sum (omega (arith, begun, first, later))

-- each vertex once
pub rising_misses : (count : ℕ) → misses (range_with_len 0 count) ≡ count
unfolding misses
rising_misses count =
    let all = all_missed 0 count [] in
    ap (misses_after []) (sym (append-nil (range_with_len 0 count))) ∙ omega (arith, all)

-- ---- lines

-- so many lines are touched by so many bytes from byte 0 on
abbrev pub lines_to : ℕ → ℕ
lines_to bytes = (bytes + 63) / 64

-- the lines of one vertex, where so many were touched before it and so many with it
vertex_lines : (first more before after : ℕ) (rest : List ℕ) → after ≡ first + suc more → (before ≡ first) ⊎ (before ≡ suc first)
    → misses_after (entered_to before) (range_with_len first (suc more) ++ rest) ≡ (after - before) + misses_after (entered_to after) rest
vertex_lines first more before after rest end (inl e) =
    let all = all_missed first (suc more) rest in
    rw (e, end) (omega (arith, all))
vertex_lines first more before after rest end (inr e) =
    let found = newest_found first (range_with_len (suc first) more ++ rest) in
    let all = all_missed (suc first) more rest in
    let sum : first + suc more ≡ suc first + more = omega arith in
    let begun = ap (λ xs. misses_after (entered_to (suc first)) (xs ++ rest)) (range_first first more) in
    rw (e, end, sum) (omega (arith, begun, found, all))

begins : (start : ℕ) → (lines_to start ≡ start / 64) ⊎ (lines_to start ≡ suc (start / 64))
begins start = by_rest (zero_or_more (start % 64))
  where
    zero_or_more : (n : ℕ) → (n ≡ 0) ⊎ (1 ≤ n)
    zero_or_more zero = inl refl
    zero_or_more (suc n) = inr (omega arith)

    by_rest : (start % 64 ≡ 0) ⊎ (1 ≤ start % 64) → (lines_to start ≡ start / 64) ⊎ (lines_to start ≡ suc (start / 64))
    by_rest (inl none) = inl (omega (arith, none))
    by_rest (inr some) = inr (omega (arith, some))

touched_behind : (start size : ℕ) (rest : List ℕ) → 1 ≤ size
    → misses_after (entered_to (lines_to start)) (touched start size ++ rest) ≡ (lines_to (start + size) - lines_to start) + misses_after (entered_to (lines_to (start + size))) rest
touched_behind start size rest some =
    let first = start / 64 in
    let more = (start + size - 1) / 64 - first in
    let count : (start + size - 1) / 64 - first + 1 ≡ suc more = omega arith in
    let end : lines_to (start + size) ≡ first + suc more = omega (arith, some) in
    rw count (vertex_lines first more (lines_to start) (lines_to (start + size)) rest end (begins start))

-- the lines of so many vertices from this one on
lines_behind : (stride vertex more : ℕ) → 1 ≤ stride
    → misses_after (entered_to (lines_to (vertex * stride))) (flat_map (lines_of stride) (range_with_len vertex more)) ≡ lines_to ((vertex + more) * stride) - lines_to (vertex * stride)
lines_behind stride vertex zero some =
    let none : vertex + 0 ≡ vertex = omega arith in
    rw none (omega arith)
lines_behind stride vertex (suc more) some =
    let start = vertex * stride in
    let next : suc vertex * stride ≡ start + stride = omega arith in
    let one = touched_behind start stride (flat_map (lines_of stride) (range_with_len (suc vertex) more)) some in
    let later = lines_behind stride (suc vertex) more some in
    let sum : suc vertex + more ≡ vertex + suc more = omega arith in
    let bytes : (vertex + suc more) * stride ≡ start + stride + more * stride = omega arith in
    let begun = ap (λ xs. misses_after (entered_to (lines_to start)) (flat_map (lines_of stride) xs)) (range_first vertex more) in
    let rest = rw (next, sum) at later in
    omega (arith, begun, one, rest, bytes)

-- each line that their bytes touch once
pub rising_lines : (count stride : ℕ) → 1 ≤ stride → lines (range_with_len 0 count) stride ≡ (count * stride + 63) / 64
unfolding lines misses
rising_lines count stride some =
    let all = lines_behind stride 0 count some in
    let none : 0 * stride ≡ 0 = omega arith in
    let whole : 0 + count ≡ count = omega arith in
    let same = rw (none, whole) at all in
    omega (arith, same)
