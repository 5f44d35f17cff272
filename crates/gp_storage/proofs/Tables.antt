-- Lists with an item for each number below one, item by item.
use Rattle.std.proofs.Common.{◌≡◌, ℕ, zero, suc, ◌+◌, ◌<◌, List, ◌∷◌, length, map, get_or, sym, ap, ◌∙◌, arith}
use Rattle.std.specs.List.{range_with_len}
use Rattle.std.proofs.Math.ListN.{set, replicate}
use Rattle.std.proofs.lemmas.List.FromFn.{get_or-map-range_with_len, length-map-range_with_len}
use Rattle.gp_vertex.proofs.RoundTrip.{same_on, constant}

abbrev pub table : {X : Type 0} → (ℕ → X) → ℕ → List X
table f n = map f (range_with_len 0 n)

pub length-table : {X : Type 0} (f : ℕ → X) (n : ℕ) → length (table f n) ≡ n
length-table f n = length-map-range_with_len f 0 n

pub get_or-table : {X : Type 0} (f : ℕ → X) (n i : ℕ) (d : X) → i < n → get_or (table f n) i d ≡ f i
get_or-table f n i d below = get_or-map-range_with_len f 0 n i i d below (omega arith)

-- of a list that is known to be a table
pub item_at : {X : Type 0} (f : ℕ → X) (n at : ℕ) (items : List X) (x d : X) → items ≡ table f n → at < n → x ≡ get_or items at d → x ≡ f at
item_at f n at items x d e within is = is ∙ ap (λ xs. get_or xs at d) e ∙ get_or-table f n at d within

pub in_items : {X : Type 0} (f : ℕ → X) (n at : ℕ) (items : List X) → items ≡ table f n → at < n → at < length items
in_items {X} f n at items e within =
    let long = ap (λ (xs : List X). length xs) e ∙ length-table f n in
    omega (arith, long, within)

pub same_table : {X : Type 0} (f g : ℕ → X) (n : ℕ) → ((k : ℕ) → k < n → f k ≡ g k) → table f n ≡ table g n
same_table f g n same = same_on f g 0 n (λ i low high. same i (omega (arith, high)))

pub constant_table : {X : Type 0} (f : ℕ → X) (x : X) (n : ℕ) → ((k : ℕ) → f k ≡ x) → replicate n x ≡ table f n
constant_table f x n same = constant x 0 n ∙ same_table (λ i. x) f n (λ k below. sym (same k))

set_from : {X : Type 0} (f g : ℕ → X) (x : X) (start n at place : ℕ) → at < n → place ≡ start + at → ((k : ℕ) → (k ≡ place → ⊥) → f k ≡ g k) → x ≡ g place → set (map f (range_with_len start n)) at x ≡ map g (range_with_len start n)
set_from f g x start zero at place within is others here = elim within [ ]
set_from f g x start (suc n) zero place within is others here =
    let first : place ≡ start = omega (arith, is) in
    let front = here ∙ ap g first in
    rw front (ap (λ rest. g start ∷ rest) (same_on f g (start + 1) n (λ i low high. others i (λ e. omega (arith, e, low, is)))))
set_from f g x start (suc n) (suc at) place within is others here =
    let same : place ≡ start + 1 + at = omega (arith, is) in
    let front : f start ≡ g start = others start (λ e. omega (arith, e, is)) in
    rw front (ap (λ rest. g start ∷ rest) (set_from f g x (start + 1) n at place (omega (arith, within)) same others here))

-- one item is set
pub set_table : {X : Type 0} (f g : ℕ → X) (x : X) (n at : ℕ) → at < n → ((k : ℕ) → (k ≡ at → ⊥) → f k ≡ g k) → x ≡ g at → set (table f n) at x ≡ table g n
set_table f g x n at within others here = set_from f g x 0 n at at within (omega arith) others here
