-- A list without each 0 that stands right behind a 0 has the misses of the whole list.
use Rattle.std.proofs.Common.{◌≡◌, ℕ, ◌+◌, ◌-◌, ◌*◌, ◌/◌, ◌<◌, ◌≤◌, ◌==◌, Bool, true, false, ◌&&◌, cond, nat_lt, List, [], ◌∷◌, ◌++◌, length, flat_map, sym, refl, ◌∙◌, ap, arith}
use Rattle.std.specs.Prelude.{max, Option, Some, None, unwrap_or}
use Rattle.std.specs.List.{list_all}
use Rattle.std.proofs.lemmas.Bool.{eq-eqb, eqb-true, lt-ltb, ltb-true}
use Rattle.gp_cache.specs.Misses.{is_cached, entered_with, misses_after, misses, lines_of, lines}
use Rattle.gp_cache.specs.Recent.{entered_by}
use Rattle.gp_analyse.specs.declared.drawing.Drawn.{Drawn}
use Rattle.gp_analyse.specs.Costs.{thinned, vertices_from, drawn_by}

-- ---- misses

-- a number is there once it was asked for
there : (entered : List ℕ) (number : ℕ) → is_cached (entered_with entered number) number ≡ true
there entered number = by_test (is_cached entered number) refl
  where
    by_test : (b : Bool) → is_cached entered number ≡ b → is_cached (cond b entered (number ∷ entered)) number ≡ true
    by_test true is = is
    by_test false is = rw (eq-eqb number number refl) refl

-- asked for again it changes nothing
again : (entered : List ℕ) (number : ℕ) (rest : List ℕ) → is_cached entered number ≡ true → misses_after entered (number ∷ rest) ≡ misses_after entered rest
again entered number rest hit = rw hit (omega arith)

-- where 0 was asked for last, 0 is there
abbrev ZeroIsThere : Bool → List ℕ → Type 0
ZeroIsThere behind entered = behind ≡ true → is_cached entered 0 ≡ true

zero_there : (entered : List ℕ) (number : ℕ) → ZeroIsThere (number == 0) (entered_with entered number)
zero_there entered number is = let zero_is : number ≡ 0 = eqb-true number 0 is in rw zero_is (there entered 0)

one_misses : (behind zero_is : Bool) (number : ℕ) (numbers entered : List ℕ) → (number == 0) ≡ zero_is → ZeroIsThere behind entered
    → ((now : List ℕ) → ZeroIsThere zero_is now → misses_after now (thinned zero_is numbers) ≡ misses_after now numbers)
    → misses_after entered (cond (behind && zero_is) [] (number ∷ []) ++ thinned zero_is numbers) ≡ misses_after entered (number ∷ numbers)
one_misses true true number numbers entered is hit rest =
    let none : number ≡ 0 = eqb-true number 0 is in
    rw none (rest entered hit ∙ sym (again entered 0 numbers (hit refl)))
one_misses true false number numbers entered is hit rest =
    ap (λ m. cond (is_cached entered number) 0 1 + m) (rest (entered_with entered number) (λ e. cc))
one_misses false zero_is number numbers entered is hit rest =
    ap (λ m. cond (is_cached entered number) 0 1 + m) (rest (entered_with entered number) (λ e. zero_there entered number (is ∙ e)))

misses_after_thinned : (behind : Bool) (numbers entered : List ℕ) → ZeroIsThere behind entered → misses_after entered (thinned behind numbers) ≡ misses_after entered numbers
misses_after_thinned behind [] entered hit = refl
misses_after_thinned behind (number ∷ numbers) entered hit =
    one_misses behind (number == 0) number numbers entered refl hit (λ now h. misses_after_thinned (number == 0) numbers now h)

misses_thinned : (numbers : List ℕ) → misses (thinned false numbers) ≡ misses numbers
unfolding misses
misses_thinned numbers = misses_after_thinned false numbers [] (λ e. cc)

-- ---- lines

entered_behind : (xs ys entered : List ℕ) → misses_after entered (xs ++ ys) ≡ misses_after entered xs + misses_after (entered_by entered xs) ys
entered_behind [] ys entered = omega arith
entered_behind (x ∷ xs) ys entered =
    let rest = entered_behind xs ys (entered_with entered x) in
    omega (arith, rest)

-- vertex 0 touches line 0 alone
first_line : (stride : ℕ) → 1 ≤ stride → stride ≤ 64 → lines_of stride 0 ≡ 0 ∷ []
first_line stride some most =
    let start : 0 * stride ≡ 0 = omega arith in
    let first : 0 / 64 ≡ 0 = refl in
    let count : (0 + stride - 1) / 64 - 0 + 1 ≡ 1 = omega (arith, most) in
    rw (start, first, count) refl

module _ (stride : ℕ) (some : 1 ≤ stride) (most : stride ≤ 64) where
  one_lines : (behind zero_is : Bool) (number : ℕ) (numbers entered : List ℕ) → (number == 0) ≡ zero_is → ZeroIsThere behind entered
      → ((now : List ℕ) → ZeroIsThere zero_is now → misses_after now (flat_map (lines_of stride) (thinned zero_is numbers)) ≡ misses_after now (flat_map (lines_of stride) numbers))
      → misses_after entered (flat_map (lines_of stride) (cond (behind && zero_is) [] (number ∷ []) ++ thinned zero_is numbers)) ≡ misses_after entered (flat_map (lines_of stride) (number ∷ numbers))
  one_lines true true number numbers entered is hit rest =
      let none : number ≡ 0 = eqb-true number 0 is in
      let first = ap (λ (xs : List ℕ). misses_after entered (xs ++ flat_map (lines_of stride) numbers)) (first_line stride some most) in
      rw none (rest entered hit ∙ sym (first ∙ again entered 0 (flat_map (lines_of stride) numbers) (hit refl)))
  one_lines true false number numbers entered is hit rest =
      let here = lines_of stride number in
      let before = entered_behind here (flat_map (lines_of stride) (thinned false numbers)) entered in
      let after = entered_behind here (flat_map (lines_of stride) numbers) entered in
      let same = rest (entered_by entered here) (λ e. cc) in
      before ∙ ap (λ m. misses_after entered here + m) same ∙ sym after
  one_lines false zero_is number numbers entered is hit rest =
      let here = lines_of stride number in
      let before = entered_behind here (flat_map (lines_of stride) (thinned zero_is numbers)) entered in
      let after = entered_behind here (flat_map (lines_of stride) numbers) entered in
      let same = rest (entered_by entered here) (λ e. let none : number ≡ 0 = eqb-true number 0 (is ∙ e) in rw (none, first_line stride some most) (there entered 0)) in
      before ∙ ap (λ m. misses_after entered here + m) same ∙ sym after

  lines_after_thinned : (behind : Bool) (numbers entered : List ℕ) → ZeroIsThere behind entered → misses_after entered (flat_map (lines_of stride) (thinned behind numbers)) ≡ misses_after entered (flat_map (lines_of stride) numbers)
  lines_after_thinned behind [] entered hit = refl
  lines_after_thinned behind (number ∷ numbers) entered hit =
      one_lines behind (number == 0) number numbers entered refl hit (λ now h. lines_after_thinned (number == 0) numbers now h)

  lines_thinned : (numbers : List ℕ) → lines (thinned false numbers) stride ≡ lines numbers stride
  unfolding lines misses
  lines_thinned numbers = lines_after_thinned false numbers [] (λ e. cc)

-- ---- vertices

one_counted : (behind zero_is : Bool) (number least : ℕ) (numbers : List ℕ) → (number == 0) ≡ zero_is → (behind ≡ true → 1 ≤ least)
    → ((now : ℕ) → (zero_is ≡ true → 1 ≤ now) → vertices_from now (thinned zero_is numbers) ≡ vertices_from now numbers)
    → vertices_from least (cond (behind && zero_is) [] (number ∷ []) ++ thinned zero_is numbers) ≡ vertices_from least (number ∷ numbers)
one_counted true true number least numbers is some rest =
    let none : number ≡ 0 = eqb-true number 0 is in
    let first = some refl in
    let same : max least (number + 1) ≡ least = omega (arith, none, first) in
    rest least some ∙ sym (ap (λ m. vertices_from m numbers) same)
one_counted true false number least numbers is some rest = rest (max least (number + 1)) (λ e. cc)
one_counted false zero_is number least numbers is some rest = rest (max least (number + 1)) (λ e. omega arith)

vertices_from_thinned : (behind : Bool) (numbers : List ℕ) (least : ℕ) → (behind ≡ true → 1 ≤ least) → vertices_from least (thinned behind numbers) ≡ vertices_from least numbers
vertices_from_thinned behind [] least some = refl
vertices_from_thinned behind (number ∷ numbers) least some =
    one_counted behind (number == 0) number least numbers refl some (λ now h. vertices_from_thinned (number == 0) numbers now h)

vertices_thinned : (numbers : List ℕ) → vertices_from 0 (thinned false numbers) ≡ vertices_from 0 numbers
vertices_thinned numbers = vertices_from_thinned false numbers 0 (λ e. cc)

at_least : (least : ℕ) (numbers : List ℕ) → least ≤ vertices_from least numbers
at_least least [] = omega arith
at_least least (number ∷ numbers) = let more = at_least (max least (number + 1)) numbers in omega (arith, more)

-- each number is below the count, where there are as many vertices as they take
pub have_vertices : (count least : ℕ) (numbers : List ℕ) → vertices_from least numbers ≤ count → list_all (λ number. nat_lt number count) numbers ≡ true
have_vertices count least [] most = refl
have_vertices count least (number ∷ numbers) most =
    let here = at_least (max least (number + 1)) numbers in
    let below : nat_lt number count ≡ true = lt-ltb number count (omega (arith, here, most)) in
    rw below (have_vertices count (max least (number + 1)) numbers most)

one_past : (count number : ℕ) (below rest : Bool) → nat_lt number count ≡ below → (number < count → rest ≡ false) → (below && rest) ≡ false
one_past count number true rest is later = later (ltb-true number count is)
one_past count number false rest is later = refl

-- else some number is not
pub want_vertices : (count least : ℕ) (numbers : List ℕ) → least ≤ count → count < vertices_from least numbers → list_all (λ number. nat_lt number count) numbers ≡ false
want_vertices count least [] enough past = absurd (omega (arith, enough, past))
want_vertices count least (number ∷ numbers) enough past =
    one_past count number (nat_lt number count) (list_all (λ n. nat_lt n count) numbers) refl
    (λ below. want_vertices count (max least (number + 1)) numbers (omega (arith, enough, below)) past)

-- ---- together

pub drawn_thinned : (numbers list : List ℕ) (count vertices missed : ℕ) → list ≡ thinned false numbers → count ≡ length numbers → vertices ≡ vertices_from 0 list → missed ≡ misses list
    → ◌≡◌ {A = Drawn} (record { triangles = count / 3; vertices = vertices; misses = missed }) (drawn_by numbers)
drawn_thinned numbers list count vertices missed thin long are_vertices are_missed =
    let same_vertices : vertices ≡ vertices_from 0 numbers = are_vertices ∙ ap (vertices_from 0) thin ∙ vertices_thinned numbers in
    let same_missed : missed ≡ misses numbers = are_missed ∙ ap misses thin ∙ misses_thinned numbers in
    rw (same_vertices, same_missed, long) refl

pub lines_counted : (corners : Option (List ℕ)) (numbers list : List ℕ) (stride count : ℕ) → 1 ≤ stride → stride ≤ 64 → corners ≡ Some numbers → list ≡ thinned false numbers → count ≡ lines list stride → count ≡ lines (unwrap_or corners []) stride
lines_counted corners numbers list stride count some most are thin counted =
    counted ∙ ap (λ xs. lines xs stride) thin ∙ lines_thinned stride some most numbers ∙ sym (ap (λ (o : Option (List ℕ)). lines (unwrap_or o []) stride) are)

pub no_lines : (corners : Option (List ℕ)) (stride : ℕ) → corners ≡ None → 0 ≡ lines (unwrap_or corners []) stride
unfolding lines misses
no_lines corners stride none = sym (ap (λ (o : Option (List ℕ)). lines (unwrap_or o []) stride) none)
