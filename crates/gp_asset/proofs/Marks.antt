-- Marking the buffers that views refer to, view by view.
use Rattle.std.proofs.Common.{◌≡◌, ℕ, zero, suc, ◌+◌, ◌<◌, ◌≤◌, ◌⊎◌, inl, inr, Bool, true, false, ◌||◌, ◌==◌, List, [], ◌∷◌, length, map, get_or, take, refl, sym, ap, ◌∙◌, arith}
use Rattle.std.specs.List.{range_with_len}
use Rattle.std.proofs.Math.ListN.{set, replicate}
use Rattle.std.proofs.Math.Bool.{or-false}
use Rattle.std.proofs.lemmas.Bool.{ne_eqb}
use Rattle.std.proofs.lemmas.List.{take_more}
use Rattle.std.proofs.lemmas.List.Folds.{list_any-append}
use Rattle.gp_fields.specs.Fields.{ViewFields}
use Rattle.gp_asset.specs.Buffers.{buffer_in_use, refers_to, is_needed}

-- a test that holds of one number more
abbrev pub WithOne : (ℕ → Bool) → (ℕ → Bool) → ℕ → Type 0
WithOne f g one = (k : ℕ) → g k ≡ (f k || (one == k))

other : (b : Bool) (one k : ℕ) → (one ≡ k → ⊥) → (b || (one == k)) ≡ b
other b one k differ = rw (ne_eqb one k differ) (or-false b)

same : (b : Bool) (k : ℕ) → (b || (k == k)) ≡ true
same b k = grind arith

-- the number lies outside
set_none : (f g : ℕ → Bool) (one start n : ℕ) → WithOne f g one → (one < start) ⊎ (start + n ≤ one) → map f (range_with_len start n) ≡ map g (range_with_len start n)
set_none f g one start zero more outside = refl
set_none f g one start (suc n) more outside =
    let here : f start ≡ g start = sym (more start ∙ other (f start) one start (λ e. omega arith)) in
    rw here (ap (λ rest. g start ∷ rest) (set_none f g one (start + 1) n more (beyond outside)))
  where
    beyond : (one < start) ⊎ (start + suc n ≤ one) → (one < start + 1) ⊎ (start + 1 + n ≤ one)
    beyond (inl h) = inl (omega arith)
    beyond (inr h) = inr (omega arith)

-- it lies within
set_one : (f g : ℕ → Bool) (one start n at : ℕ) → WithOne f g one → at < n → one ≡ start + at → set (map f (range_with_len start n)) at true ≡ map g (range_with_len start n)
set_one f g one start zero at more within e = elim within [ ]
set_one f g one start (suc n) zero more within e =
    let is : one ≡ start = omega arith in
    let here : true ≡ g start = sym (more start ∙ rw is (same (f start) start)) in
    rw here (ap (λ rest. g start ∷ rest) (set_none f g one (start + 1) n more (inl (omega arith))))
set_one f g one start (suc n) (suc at) more within e =
    let here : f start ≡ g start = sym (more start ∙ other (f start) one start (λ d. omega arith)) in
    rw here (ap (λ rest. g start ∷ rest) (set_one f g one (start + 1) n at more (omega arith) (omega arith)))

one_more : (views : List ViewFields) (at : ℕ) (v : ViewFields) (buffer : ℕ) → at < length views → v ≡ get_or views at v → buffer ≡ buffer_in_use v.buffer v.packed
    → WithOne (is_needed (take at views)) (is_needed (take (at + 1) views)) buffer
unfolding is_needed
one_more views at v buffer within is uses k =
    rw (take_more views at v within, list_any-append (refers_to k) (take at views) (get_or views at v ∷ []), ← is, uses, or-false (buffer_in_use v.buffer v.packed == k)) refl

none_from : (start n : ℕ) → replicate n false ≡ map (is_needed []) (range_with_len start n)
unfolding is_needed
none_from start zero = refl
none_from start (suc n) = ap (λ rest. false ∷ rest) (none_from (start + 1) n)

-- before the first view
pub none : (n : ℕ) (needed : List Bool) → needed ≡ replicate n false → needed ≡ map (is_needed []) (range_with_len 0 n)
none n needed e = e ∙ none_from 0 n

-- past a view whose buffer is there
pub marked : (views : List ViewFields) (at : ℕ) (v : ViewFields) (buffer n : ℕ) (needed : List Bool) → at < length views → v ≡ get_or views at v → buffer ≡ buffer_in_use v.buffer v.packed → buffer < n
    → needed ≡ map (is_needed (take at views)) (range_with_len 0 n) → set needed buffer true ≡ map (is_needed (take (at + 1) views)) (range_with_len 0 n)
marked views at v buffer n needed within is uses there e =
    rw e (set_one (is_needed (take at views)) (is_needed (take (at + 1) views)) buffer 0 n buffer (one_more views at v buffer within is uses) there (omega arith))

-- past a view whose buffer isn't
pub unmarked : (views : List ViewFields) (at : ℕ) (v : ViewFields) (buffer n : ℕ) (needed : List Bool) → at < length views → v ≡ get_or views at v → buffer ≡ buffer_in_use v.buffer v.packed → n ≤ buffer
    → needed ≡ map (is_needed (take at views)) (range_with_len 0 n) → needed ≡ map (is_needed (take (at + 1) views)) (range_with_len 0 n)
unmarked views at v buffer n needed within is uses beyond e =
    e ∙ set_none (is_needed (take at views)) (is_needed (take (at + 1) views)) buffer 0 n (one_more views at v buffer within is uses) (inr (omega arith))
