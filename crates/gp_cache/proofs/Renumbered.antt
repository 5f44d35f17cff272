-- Tipsify's order where the vertices get other numbers, in the same order.
use Rattle.std.proofs.Common.{◌≡◌, ℕ, zero, suc, ◌+◌, ◌-◌, ◌*◌, ◌/◌, ◌<◌, ◌≤◌, ◌==◌, ◌⊎◌, inl, inr, Bool, true, false, not, cond, nat_lt, nat_le, if◌then◌else◌, List, [], ◌∷◌, ◌++◌, length, map, reverse, drop, filter, find, flat_map, count_by, Option, Some, None, option_map, All, sym, refl, ap, ◌∙◌, subst, arith}
use Rattle.std.specs.List.{range_with_len, position_or_len}
use Rattle.std.proofs.lemmas.Bool.{eq-eqb, ne_eqb, cases_lt, cases_eq, cases_order}
use Rattle.std.proofs.lemmas.List.{drop-map, map-append, length-map, reverse-append}
use Rattle.std.proofs.lemmas.List.Sums.{sum_by-cons}
use Rattle.gp_cache.specs.Triangles.{Corners, triples, corner_list, has_corner}
use Rattle.gp_cache.specs.Tipsify.{Clock, State, live, is_live, age, stamped, fan, after_fan, value, or_better, first_best, next_candidate, next_on_stack, next_in_order, popped, next_by, next_fan, fans, at_first, tipsify}
use Rattle.gp_cache.proofs.Kept.{Firsts, none_left, firsts_kept, firsts_from_all}
use Rattle.gp_cache.proofs.Lists.{find_none}
use Rattle.gp_cache.proofs.NextFans.{find_least, find_no_one}

-- m vertices get numbers below n, in the same order, and 0 stays
pub record Renumbers (f : ℕ → ℕ) (m n : ℕ) : Type 0 where
  pub rises : (v w : ℕ) → v < w → f v < f w
  pub first : f 0 ≡ 0
  pub below : (v : ℕ) → v < m → f v < n

-- two numbers are equal where they were
abbrev pub Apart : (ℕ → ℕ) → Type 0
Apart f = (v w : ℕ) → (f v == f w) ≡ (v == w)

pub apart : (f : ℕ → ℕ) → ((v w : ℕ) → v < w → f v < f w) → Apart f
apart f rises v w = elim (cases_order v w) [
  | inl same ↦ eq-eqb (f v) (f w) (ap f same) ∙ sym (eq-eqb v w same)
  | inr (inl less) ↦ ne_eqb (f v) (f w) (λ e. omega (arith, rises v w less, e)) ∙ sym (ne_eqb v w (λ e. omega (arith, less, e)))
  | inr (inr more) ↦ ne_eqb (f v) (f w) (λ e. omega (arith, rises w v more, e)) ∙ sym (ne_eqb v w (λ e. omega (arith, more, e)))
]

-- ---- triangles

abbrev pub put : (ℕ → ℕ) → Corners → Corners
put f t = (f t.0, f t.1, f t.2)

put_corners : (f : ℕ → ℕ) (ts : List Corners) → flat_map corner_list (map (put f) ts) ≡ map f (flat_map corner_list ts)
put_corners f [] = refl
put_corners f (t ∷ ts) = ap (λ xs. f t.0 ∷ f t.1 ∷ f t.2 ∷ xs) (put_corners f ts)

put_triples : (f : ℕ → ℕ) (list : List ℕ) → triples (map f list) ≡ map (put f) (triples list)
put_triples f [] = refl
put_triples f (a ∷ []) = refl
put_triples f (a ∷ b ∷ []) = refl
put_triples f (a ∷ b ∷ c ∷ rest) = ap (λ ts. (f a, f b, f c) ∷ ts) (put_triples f rest)

put_has : (f : ℕ → ℕ) → Apart f → (v : ℕ) (t : Corners) → has_corner (f v) (put f t) ≡ has_corner v t
put_has f same v t = rw (same t.0 v, same t.1 v, same t.2 v) refl

-- ---- tests and searches over lists whose elements were put

filter_put : {X : Type 0} (g : X → X) (test other : X → Bool) → ((x : X) → test (g x) ≡ other x) → (xs : List X) → filter test (map g xs) ≡ map g (filter other xs)
filter_put g test other same [] = refl
filter_put g test other same (x ∷ xs) = ap (λ b. cond b (g x ∷ filter test (map g xs)) (filter test (map g xs))) (same x) ∙ ap (λ ys. cond (other x) (g x ∷ ys) ys) (filter_put g test other same xs) ∙ by_test (other x)
  where
    by_test : (b : Bool) → cond b (g x ∷ map g (filter other xs)) (map g (filter other xs)) ≡ map g (cond b (x ∷ filter other xs) (filter other xs))
    by_test true = refl
    by_test false = refl

find_put : (f : ℕ → ℕ) (test other : ℕ → Bool) → ((v : ℕ) → test (f v) ≡ other v) → (xs : List ℕ) → find test (map f xs) ≡ option_map f (find other xs)
find_put f test other same [] = refl
find_put f test other same (x ∷ xs) = ap (λ b. cond b (Some (f x)) (find test (map f xs))) (same x) ∙ ap (cond (other x) (Some (f x))) (find_put f test other same xs) ∙ by_test (other x)
  where
    by_test : (b : Bool) → cond b (Some (f x)) (option_map f (find other xs)) ≡ option_map f (cond b (Some x) (find other xs))
    by_test true = refl
    by_test false = refl

place_put : (f : ℕ → ℕ) (test other : ℕ → Bool) → ((v : ℕ) → test (f v) ≡ other v) → (xs : List ℕ) → position_or_len test (map f xs) ≡ position_or_len other xs
place_put f test other same [] = refl
place_put f test other same (x ∷ xs) = ap (λ b. cond (not b) (1 + position_or_len test (map f xs)) 0) (same x) ∙ ap (λ k. cond (not (other x)) (1 + k) 0) (place_put f test other same xs)

better_put : (f worth other : ℕ → ℕ) → ((v : ℕ) → worth (f v) ≡ other v) → (v : ℕ) (o : Option ℕ) → or_better worth (f v) (option_map f o) ≡ option_map f (or_better other v o)
better_put f worth other same v None = refl
better_put f worth other same v (Some w) = ap (λ k. cond (nat_lt k (worth (f w))) (Some (f w)) (Some (f v))) (same v) ∙ ap (λ k. cond (nat_lt (other v) k) (Some (f w)) (Some (f v))) (same w) ∙ by_test (nat_lt (other v) (other w))
  where
    by_test : (b : Bool) → cond b (Some (f w)) (Some (f v)) ≡ option_map f (cond b (Some w) (Some v))
    by_test true = refl
    by_test false = refl

best_put : (f worth other : ℕ → ℕ) → ((v : ℕ) → worth (f v) ≡ other v) → (xs : List ℕ) → first_best worth (map f xs) ≡ option_map f (first_best other xs)
best_put f worth other same [] = refl
best_put f worth other same (x ∷ xs) = ap (or_better worth (f x)) (best_put f worth other same xs) ∙ better_put f worth other same x (first_best other xs)

-- ---- counts

copies_put : (f : ℕ → ℕ) → Apart f → (v : ℕ) (xs : List ℕ) → count_by (λ c. c == f v) (map f xs) ≡ count_by (λ c. c == v) xs
copies_put f same v [] = refl
copies_put f same v (x ∷ xs) =
    sum_by-cons (λ c. cond (c == f v) 1 0) (f x) (map f xs)
    ∙ ap (λ b. cond b 1 0 + count_by (λ c. c == f v) (map f xs)) (same x v)
    ∙ ap (λ k. cond (x == v) 1 0 + k) (copies_put f same v xs)
    ∙ sym (sum_by-cons (λ c. cond (c == v) 1 0) x xs)

live_put : (f : ℕ → ℕ) → Apart f → (v : ℕ) (ts : List Corners) → live (map (put f) ts) (f v) ≡ live ts v
live_put f same v ts = ap (count_by (λ c. c == f v)) (put_corners f ts) ∙ copies_put f same v (flat_map corner_list ts)

-- a number that none was put to has no copy
put_or_none : (f : ℕ → ℕ) (w : ℕ) (xs : List ℕ) → (count_by (λ c. c == w) (map f xs) ≡ 0) ⊎ ((v : ℕ) × (f v ≡ w))
put_or_none f w [] = inl refl
put_or_none f w (x ∷ xs) = by_cases (cases_eq (f x) w) (put_or_none f w xs)
  where
    by_cases : (f x ≡ w) ⊎ (f x ≡ w → ⊥) → (count_by (λ c. c == w) (map f xs) ≡ 0) ⊎ ((v : ℕ) × (f v ≡ w)) → (count_by (λ c. c == w) (map f (x ∷ xs)) ≡ 0) ⊎ ((v : ℕ) × (f v ≡ w))
    by_cases (inl here) rest = inr (x, here)
    by_cases (inr apart_here) (inr later) = inr later
    by_cases (inr apart_here) (inl none) = inl (sum_by-cons (λ c. cond (c == w) 1 0) (f x) (map f xs) ∙ ap (λ b. cond b 1 0 + count_by (λ c. c == w) (map f xs)) (ne_eqb (f x) w apart_here) ∙ (omega (arith, none)))

-- ---- clocks

-- the second clock is the first with its vertices put
pub record SameTimes (f : ℕ → ℕ) (c d : Clock) : Type 0 where
  pub stamps : (v : ℕ) → d.stamp (f v) ≡ c.stamp v
  pub time : d.time ≡ c.time

same_age : (f : ℕ → ℕ) (c d : Clock) → SameTimes f c d → (v : ℕ) → age d (f v) ≡ age c v
same_age f c d same v = ap (λ t. t - d.stamp (f v)) same.time ∙ ap (λ s. c.time - s) (same.stamps v)

stamped_put : (f : ℕ → ℕ) → Apart f → (xs : List ℕ) (c d : Clock) → SameTimes f c d → SameTimes f (stamped xs c) (stamped (map f xs) d)
stamped_put f same [] c d times = times
stamped_put f same (x ∷ xs) c d times = by_age (stamped_put f same xs) (nat_lt 16 (age c x)) (nat_lt 16 (age d (f x))) (ap (nat_lt 16) (same_age f c d times x))
  where
    by_age : ((c d : Clock) → SameTimes f c d → SameTimes f (stamped xs c) (stamped (map f xs) d)) → (a b : Bool) → b ≡ a → SameTimes f (stamped xs (if a then record { stamp = λ v. if v == x then c.time else c.stamp v; time = c.time + 1 } else c)) (stamped (map f xs) (if b then record { stamp = λ v. if v == f x then d.time else d.stamp v; time = d.time + 1 } else d))
    by_age rest true true e = rest _ _ (record { stamps = λ v. ap (λ b. if b then d.time else d.stamp (f v)) (same v x) ∙ ap (λ t. if v == x then t else d.stamp (f v)) times.time ∙ ap (λ t. if v == x then c.time else t) (times.stamps v); time = ap (λ t. t + 1) times.time })
    by_age rest false false e = rest c d times
    by_age rest true false e = cc
    by_age rest false true e = cc

-- ---- states

reverse_put : (f : ℕ → ℕ) (xs : List ℕ) → reverse (map f xs) ≡ map f (reverse xs)
reverse_put f [] = refl
reverse_put f (x ∷ xs) =
    reverse-append (f x ∷ []) (map f xs) ∙ ap (λ ys. ys ++ f x ∷ []) (reverse_put f xs)
    ∙ sym (map-append f (reverse xs) (x ∷ [])) ∙ ap (map f) (sym (reverse-append (x ∷ []) xs))

-- the second state is the first with its vertices put
pub record SameState (f : ℕ → ℕ) (s t : State) : Type 0 where
  pub left : t.left ≡ map (put f) s.left
  pub clock : SameTimes f s.clock t.clock
  pub stack : t.stack ≡ map f s.stack

state_live : (f : ℕ → ℕ) → Apart f → (s t : State) → SameState f s t → (v : ℕ) → live t.left (f v) ≡ live s.left v
state_live f same s t states v = ap (λ ts. live ts (f v)) states.left ∙ live_put f same v s.left

state_is_live : (f : ℕ → ℕ) → Apart f → (s t : State) → SameState f s t → (v : ℕ) → is_live t (f v) ≡ is_live s v
state_is_live f same s t states v = ap (nat_lt 0) (state_live f same s t states v)

state_value : (f : ℕ → ℕ) → Apart f → (s t : State) → SameState f s t → (v : ℕ) → value t (f v) ≡ value s v
state_value f same s t states v =
    ap (λ a. if nat_le (a + 2 * live t.left (f v)) 16 then a else 0) (same_age f s.clock t.clock states.clock v)
    ∙ ap (λ k. if nat_le (age s.clock v + 2 * k) 16 then age s.clock v else 0) (state_live f same s t states v)

fan_put : (f : ℕ → ℕ) → Apart f → (s t : State) → SameState f s t → (v : ℕ) → fan (f v) t ≡ map (put f) (fan v s)
fan_put f same s t states v = ap (filter (has_corner (f v))) states.left ∙ filter_put (put f) (has_corner (f v)) (has_corner v) (put_has f same v) s.left

fan_corners : (f : ℕ → ℕ) → Apart f → (s t : State) → SameState f s t → (v : ℕ) → flat_map corner_list (fan (f v) t) ≡ map f (flat_map corner_list (fan v s))
fan_corners f same s t states v = ap (flat_map corner_list) (fan_put f same s t states v) ∙ put_corners f (fan v s)

after_fan_put : (f : ℕ → ℕ) → Apart f → (s t : State) → SameState f s t → (v : ℕ) → SameState f (after_fan v s) (after_fan (f v) t)
after_fan_put f same s t states v =
    let corners = flat_map corner_list (fan v s) in
    let put_back = fan_corners f same s t states v in
    record {
      left = ap (filter (λ u. not (has_corner (f v) u))) states.left ∙ filter_put (put f) (λ u. not (has_corner (f v) u)) (λ u. not (has_corner v u)) (λ u. ap not (put_has f same v u)) s.left;
      clock = subst (λ xs. SameTimes f (stamped corners s.clock) (stamped xs t.clock)) (sym put_back) (stamped_put f same corners s.clock t.clock states.clock);
      stack = ap (λ xs. reverse xs ++ t.stack) put_back ∙ ap (λ xs. reverse (map f corners) ++ xs) states.stack ∙ ap (λ xs. xs ++ map f s.stack) (reverse_put f corners) ∙ sym (map-append f (reverse corners) s.stack);
    }

-- ---- the next fan

candidate_put : (f : ℕ → ℕ) → Apart f → (s t : State) → SameState f s t → (xs : List ℕ) → next_candidate t (map f xs) ≡ option_map f (next_candidate s xs)
candidate_put f same s t states xs =
    ap (first_best (value t)) (filter_put f (is_live t) (is_live s) (state_is_live f same s t states) xs)
    ∙ best_put f (value t) (value s) (state_value f same s t states) (filter (is_live s) xs)

stack_put : (f : ℕ → ℕ) → Apart f → (s t : State) → SameState f s t → next_on_stack t ≡ option_map f (next_on_stack s)
stack_put f same s t states = ap (find (is_live t)) states.stack ∙ find_put f (is_live t) (is_live s) (state_is_live f same s t states) s.stack

popped_put : (f : ℕ → ℕ) → Apart f → (s t : State) → SameState f s t → SameState f (popped s) (popped t)
popped_put f same s t states = record {
  left = states.left;
  clock = states.clock;
  stack = ap (λ xs. drop (position_or_len (is_live t) xs + 1) xs) states.stack
      ∙ ap (λ k. drop (k + 1) (map f s.stack)) (place_put f (is_live t) (is_live s) (state_is_live f same s t states) s.stack)
      ∙ drop-map f (position_or_len (is_live s) s.stack + 1) s.stack;
}

-- what a search among the numbers from a on finds: the least that passes
record Least (test : ℕ → Bool) (a n k : ℕ) : Type 0 where
  low : a ≤ k
  high : k < a + n
  passes : test k ≡ true
  before : (v : ℕ) → a ≤ v → v < k → test v ≡ false

find_is_least : (test : ℕ → Bool) (a n k : ℕ) → find test (range_with_len a n) ≡ Some k → Least test a n k
find_is_least test a zero k e = cc
find_is_least test a (suc n) k e = by_test (find_is_least test (a + 1) n k) (test a) refl e
  where
    by_test : (find test (range_with_len (a + 1) n) ≡ Some k → Least test (a + 1) n k) → (b : Bool) → test a ≡ b → cond b (Some a) (find test (range_with_len (a + 1) n)) ≡ Some k → Least test a (suc n) k
    by_test rest true is found =
        let here : a ≡ k = cc in
        record { low = omega (arith, here); high = omega (arith, here); passes = ap test (sym here) ∙ is; before = λ v low less. absurd (omega (arith, here, low, less)) }
    by_test rest false is found =
        let later = rest found in
        record {
          low = omega (arith, later.low);
          high = omega (arith, later.high);
          passes = later.passes;
          before = λ v low less. elim (cases_eq a v) [ inl here ↦ ap test (sym here) ∙ is | inr other ↦ later.before v (omega (arith, low, other)) less ];
        }

-- none below the number of the least live vertex is live
none_before : (f : ℕ → ℕ) (m n : ℕ) → Renumbers f m n → (s t : State) → SameState f s t → (k : ℕ) → ((v : ℕ) → v < k → is_live s v ≡ false) → (w : ℕ) → w < f k → is_live t w ≡ false
none_before f m n by s t states k dead w less = by_cases (put_or_none f w (flat_map corner_list s.left))
  where
    by_cases : (count_by (λ c. c == w) (map f (flat_map corner_list s.left)) ≡ 0) ⊎ ((v : ℕ) × (f v ≡ w)) → is_live t w ≡ false
    by_cases (inl none) = ap (nat_lt 0) (ap (λ ts. live ts w) states.left ∙ ap (count_by (λ c. c == w)) (put_corners f s.left) ∙ none)
    by_cases (inr (v, is)) = ap (is_live t) (sym is) ∙ state_is_live f (apart f by.rises) s t states v ∙ dead v (elim (cases_lt v k) [ inl low ↦ low | inr high ↦ absurd (elim (cases_eq k v) [ inl same ↦ let e = ap f same in omega (arith, less, is, e) | inr other ↦ let more : f k < f v = by.rises k v (omega (arith, high, other)) in omega (arith, less, is, more) ]) ])

order_put : (f : ℕ → ℕ) (m n : ℕ) → Renumbers f m n → (s t : State) → SameState f s t → Firsts m s.left → next_in_order n t ≡ option_map f (next_in_order m s)
order_put f m n by s t states firsts = by_find (find (is_live s) (range_with_len 0 m)) refl
  where
    by_find : (o : Option ℕ) → find (is_live s) (range_with_len 0 m) ≡ o → next_in_order n t ≡ option_map f o
    by_find None e =
        let none : s.left ≡ [] = none_left m s.left firsts (λ v within. find_none (is_live s) 0 m v e (omega arith) (omega (arith, within))) in
        find_no_one (is_live t) 0 n (λ w low high. ap (λ ts. nat_lt 0 (live ts w)) (states.left ∙ ap (map (put f)) none))
    by_find (Some k) e =
        let least = find_is_least (is_live s) 0 m k e in
        let within : f k < n = by.below k (omega (arith, least.high)) in
        find_least (is_live t) 0 n (f k) (omega arith) (omega (arith, within))
        (λ w low less. none_before f m n by s t states k (λ v below. least.before v (omega arith) below) w less)
        (state_is_live f (apart f by.rises) s t states k ∙ least.passes)

-- the second fan to come is the first with its vertices put
abbrev pub SameNext : (ℕ → ℕ) → ℕ → Option (ℕ × State) → Option (ℕ × State) → Type 0
SameNext f m None None = Unit {0}
SameNext f m (Some a) (Some b) = (b.0 ≡ f a.0) × SameState f a.1 b.1 × Firsts m a.1.left
SameNext f m a b = ⊥

next_by_put : (f : ℕ → ℕ) (m : ℕ) → Apart f → (s t : State) → SameState f s t → Firsts m s.left → (a b o : Option ℕ) → SameNext f m (next_by s a b o) (next_by t (option_map f a) (option_map f b) (option_map f o))
next_by_put f m same s t states firsts (Some v) b o = (refl, states, firsts)
next_by_put f m same s t states firsts None (Some v) o = (refl, popped_put f same s t states, firsts)
next_by_put f m same s t states firsts None None (Some v) = (refl, popped_put f same s t states, firsts)
next_by_put f m same s t states firsts None None None = tt

next_put : (f : ℕ → ℕ) (m n : ℕ) → Renumbers f m n → (s t : State) → SameState f s t → Firsts m s.left → (xs ys : List ℕ) → ys ≡ map f xs → SameNext f m (next_fan m xs s) (next_fan n ys t)
next_put f m n by s t states firsts xs ys e =
    let same = apart f by.rises in
    let first : next_candidate t ys ≡ option_map f (next_candidate s xs) = ap (next_candidate t) e ∙ candidate_put f same s t states xs in
    subst (λ a. SameNext f m (next_fan m xs s) (next_by t a (next_on_stack t) (next_in_order n t))) (sym first)
    (subst (λ b. SameNext f m (next_fan m xs s) (next_by t (option_map f (next_candidate s xs)) b (next_in_order n t))) (sym (stack_put f same s t states))
    (subst (λ o. SameNext f m (next_fan m xs s) (next_by t (option_map f (next_candidate s xs)) (option_map f (next_on_stack s)) o)) (sym (order_put f m n by s t states firsts))
    (next_by_put f m same s t states firsts (next_candidate s xs) (next_on_stack s) (next_in_order m s))))

-- ---- all fans

fans_put : (f : ℕ → ℕ) (m n : ℕ) → Renumbers f m n → (fuel : ℕ) (a b : Option (ℕ × State)) → SameNext f m a b → fans fuel n b ≡ map (put f) (fans fuel m a)
fans_put f m n by zero a b next = refl
fans_put f m n by (suc more) None None next = refl
fans_put f m n by (suc more) None (Some b) next = absurd next
fans_put f m n by (suc more) (Some a) None next = absurd next
fans_put f m n by (suc more) (Some a) (Some b) next =
    let v = a.0 in
    let s = a.1 in
    let t = b.1 in
    let same = apart f by.rises in
    let states = next.1 in
    let corners = flat_map corner_list (fan v s) in
    let firsts : Firsts m (after_fan v s).left = firsts_kept m (λ u. not (has_corner v u)) s.left next.2 in
    let following = next_put f m n by (after_fan v s) (after_fan (f v) t) (after_fan_put f same s t states v) firsts corners (flat_map corner_list (fan (f v) t)) (fan_corners f same s t states v) in
    ap (λ w. fan w t ++ fans more n (next_fan n (flat_map corner_list (fan w t)) (after_fan w t))) next.0
    ∙ ap (λ ts. ts ++ fans more n (next_fan n (flat_map corner_list (fan (f v) t)) (after_fan (f v) t))) (fan_put f same s t states v)
    ∙ ap (λ ts. map (put f) (fan v s) ++ ts) (fans_put f m n by more (next_fan m corners (after_fan v s)) (next_fan n (flat_map corner_list (fan (f v) t)) (after_fan (f v) t)) following)
    ∙ sym (map-append (put f) (fan v s) (fans more m (next_fan m corners (after_fan v s))))

pub order_renumbered : (f : ℕ → ℕ) (m n : ℕ) → Renumbers f m n → (list : List ℕ) → All (λ v. v < m) list → tipsify (map f list) n ≡ map f (tipsify list m)
unfolding tipsify
order_renumbered f m n by list below =
    let s = at_first (triples list) in
    let t = at_first (triples (map f list)) in
    let states : SameState f s t = record { left = put_triples f list; clock = record { stamps = λ v. refl; time = refl }; stack = refl } in
    ap (λ k. flat_map corner_list (fans (k / 3 + 1) n (Some (0, t)))) (length-map list f)
    ∙ ap (flat_map corner_list) (fans_put f m n by (length list / 3 + 1) (Some (0, s)) (Some (0, t)) (sym by.first, states, firsts_from_all m list below))
    ∙ put_corners f (fans (length list / 3 + 1) m (Some (0, s)))
