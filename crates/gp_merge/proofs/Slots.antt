-- Slots with the first record of each value.
use Rattle.std.proofs.Common.{◌≡◌, ◌≢◌, inl, inr, ℕ, suc, ◌+◌, ◌-◌, ◌^◌, ◌<◌, ◌≤◌, Bool, true, false, cond, eqb, List, [], ◌∷◌, length, set, get_or, slice_index, refl, sym, ap, subst, ◌∙◌, length-set, Contains, ⊎_elim, arith}
use Rattle.std.specs.List.{count_by}
use Rattle.std.proofs.lemmas.Bool.{cases_eq, cases_lt}
use Rattle.std.proofs.lemmas.Bool.Decides.{Decides-eqb}
use Rattle.std.proofs.lemmas.List.{get_or-set_same, get_or-set_other, get_or_default}
use Rattle.std.proofs.lemmas.List.Sums.{sum_by-cons}
use Rattle.gp_merge.specs.Slots.{empty, HoldsOneOf, Stops, Passed, Found}

-- a slot that isn't empty has a record equal to this one
pub record Held (all : List (List ℕ)) (slots wanted : List ℕ) : Type 0 where
  pub slot : ℕ
  pub within : slot < length slots
  pub full : slice_index slots slot ≢ empty
  pub same : get_or all (slice_index slots slot) [] ≡ wanted

-- where the search for the record of a slot begins
abbrev pub start_at : (List ℕ → ℕ) → List (List ℕ) → ℕ → ℕ
start_at start all first = start (get_or all first [])

-- the slots hold the first ones of so many records: no slot is empty that the search for a record passes before it comes to the record
pub record Filled (start : List ℕ → ℕ) (all : List (List ℕ)) (at : ℕ) (slots : List ℕ) : Type 0 where
  pub held : (i : ℕ) → i < length slots → HoldsOneOf at (slice_index slots i)
  pub direct : (i k : ℕ) → i < length slots → slice_index slots i ≢ empty → start_at start all (slice_index slots i) ≤ k → k < i → slice_index slots k ≢ empty
  pub to_last : (i k : ℕ) → i < length slots → slice_index slots i ≢ empty → i < start_at start all (slice_index slots i) → start_at start all (slice_index slots i) ≤ k → k < length slots
      → slice_index slots k ≢ empty
  pub from_first : (i k : ℕ) → i < length slots → slice_index slots i ≢ empty → i < start_at start all (slice_index slots i) → k < i → slice_index slots k ≢ empty
  pub has : (k : ℕ) → k < at → Held all slots (get_or all k [])

-- where the search for a record ends at an empty slot, no record before equals it
pub not_seen : (start : List ℕ → ℕ) (all : List (List ℕ)) (at : ℕ) (slots wanted : List ℕ) (slot : ℕ) → Filled start all at slots → Found all slots wanted (start wanted) slot
    → slice_index slots slot ≡ empty → (k : ℕ) → k < at → get_or all k [] ≡ wanted → ⊥
not_seen start all at slots wanted slot filled found none k h e =
    let held = filled.has k h in
    let i = held.slot in
    let same : get_or all (slice_index slots i) [] ≡ wanted = held.same ∙ e in
    let stops : Stops all wanted (slice_index slots i) = inr same in
    let begins : start_at start all (slice_index slots i) ≡ start wanted = ap start same in
    let here : i ≡ slot → ⊥ = λ q. held.full (ap (λ n. slice_index slots n) q ∙ none) in
    ⊎_elim
    (λ round. ⊎_elim
    (λ front. ⊎_elim (λ before. found.from_first round i (omega arith) before stops)
    (λ after. ⊎_elim here (λ apart. filled.from_first i slot held.within held.full (omega arith) (omega arith) none) (cases_eq i slot)) (cases_lt i slot))
    (λ back. found.to_last round i back held.within stops) (cases_lt i (start wanted)))
    (λ ahead. ⊎_elim
    (λ front. filled.to_last i slot held.within held.full (omega arith) (omega arith) found.within none)
    (λ back. ⊎_elim (λ before. found.direct i back before stops)
    (λ after. ⊎_elim here (λ apart. filled.direct i slot held.within held.full (omega arith) (omega arith) none) (cases_eq i slot)) (cases_lt i slot))
    (cases_lt i (start wanted)))
    (cases_lt slot (start wanted))

-- a record that is there already
pub filled_again : (start : List ℕ → ℕ) (all : List (List ℕ)) (at : ℕ) (slots : List ℕ) (slot : ℕ) → Filled start all at slots → slot < length slots
    → slice_index slots slot ≢ empty → get_or all (slice_index slots slot) [] ≡ get_or all at [] → Filled start all (at + 1) slots
filled_again start all at slots slot filled within full same = record {
  held = λ i h. ⊎_elim (λ e. inl e) (λ l. inr (omega arith)) (filled.held i h);
  direct = filled.direct;
  to_last = filled.to_last;
  from_first = filled.from_first;
  has = λ k h. ⊎_elim (λ l. filled.has k l) (λ le. let last : at ≡ k = omega arith in
      subst (λ n. Held all slots (get_or all n [])) last (record { slot = slot; within = within; full = full; same = same })) (cases_lt k at);
}

-- a record that comes into an empty slot
pub filled_more : (start : List ℕ → ℕ) (all : List (List ℕ)) (at : ℕ) (slots : List ℕ) (slot : ℕ) → Filled start all at slots → Found all slots (get_or all at []) (start (get_or all at [])) slot
    → slice_index slots slot ≡ empty → at < 2 ^ 32 - 1 → Filled start all (at + 1) (set slots slot at)
filled_more start all at slots slot filled found none few = record {
  held = λ i h. by_place (λ i v. i < length slots → HoldsOneOf (at + 1) v) i (λ _. inr (omega arith)) (λ i n h. ⊎_elim (λ e. inl e) (λ l. inr (omega arith)) (filled.held i h)) (inside i h);
  direct = λ i k h full a b. by_place (λ i v. i < length slots → v ≢ empty → start_at start all v ≤ k → k < i → slice_index now k ≢ empty) i
      (λ h full a b. still k (λ e. found.direct k a b (inl e))) (λ i n h full a b. still k (filled.direct i k h full a b)) (inside i h) full a b;
  to_last = λ i k h full round a b. by_place (λ i v. i < length slots → v ≢ empty → i < start_at start all v → start_at start all v ≤ k → k < length slots → slice_index now k ≢ empty) i
      (λ h full round a b. still k (λ e. found.to_last round k a b (inl e))) (λ i n h full round a b. still k (filled.to_last i k h full round a b)) (inside i h) full round a (inside k b);
  from_first = λ i k h full round b. by_place (λ i v. i < length slots → v ≢ empty → i < start_at start all v → k < i → slice_index now k ≢ empty) i
      (λ h full round b. still k (λ e. found.from_first round k (omega arith) b (inl e))) (λ i n h full round b. still k (filled.from_first i k h full round b)) (inside i h) full round b;
  has = λ k h. ⊎_elim (λ l. kept (get_or all k []) (filled.has k l)) (λ le. let last : at ≡ k = omega arith in subst (λ n. Held all now (get_or all n [])) last there) (cases_lt k at);
}
  where
    now : List ℕ
    now = set slots slot at

    put : slice_index now slot ≡ at
    put = get_or-set_same slots slot at 0 found.within

    inside : (i : ℕ) → i < length now → i < length slots
    inside i h = subst (λ n. i < n) (length-set slots slot at) h

    filled_with : at ≢ empty
    filled_with e = let no : ⊥ = omega arith in no

    by_place : (P : ℕ → ℕ → Type 0) (i : ℕ) → P slot at → ((i : ℕ) → i ≢ slot → P i (slice_index slots i)) → P i (slice_index now i)
    by_place P i here other = ⊎_elim (λ e. subst (λ j. P j (slice_index now j)) (sym e) (subst (λ v. P slot v) (sym put) here))
        (λ n. subst (λ v. P i v) (sym (get_or-set_other slots slot i at 0 n)) (other i n)) (cases_eq i slot)

    still : (k : ℕ) → slice_index slots k ≢ empty → slice_index now k ≢ empty
    still k full = by_place (λ i v. slice_index slots i ≢ empty → v ≢ empty) k (λ _. filled_with) (λ i n full. full) full

    there : Held all now (get_or all at [])
    there = record {
      slot = slot;
      within = subst (λ n. slot < n) (sym (length-set slots slot at)) found.within;
      full = λ e. filled_with (sym put ∙ e);
      same = ap (λ v. get_or all v []) put;
    }

    kept : (wanted : List ℕ) → Held all slots wanted → Held all now wanted
    kept wanted held =
        let apart : held.slot ≢ slot = λ e. held.full (ap (λ n. slice_index slots n) e ∙ none) in
        let is : slice_index now held.slot ≡ slice_index slots held.slot = get_or-set_other slots slot held.slot at 0 apart in
        record {
          slot = held.slot;
          within = subst (λ n. held.slot < n) (sym (length-set slots slot at)) held.within;
          full = λ e. held.full (sym is ∙ e);
          same = ap (λ v. get_or all v []) is ∙ held.same;
        }

-- how many slots are empty
abbrev pub room : List ℕ → ℕ
room slots = count_by (eqb empty) slots

-- where there is room, a slot is empty
pub has_room : (slots : List ℕ) → 0 < room slots → Contains slots empty
has_room [] h = absurd (omega arith)
has_room (first ∷ rest) h = by (eqb empty first) refl (λ l. has_room rest l)
  where
    by : (b : Bool) → eqb empty first ≡ b → (0 < room rest → Contains rest empty) → Contains (first ∷ rest) empty
    by true e more = (0, omega arith, sym ((Decides-eqb empty first).0 e))
    by false e more =
        let none : cond {A = ℕ} (eqb empty first) 1 0 ≡ 0 = ap (λ b. cond {A = ℕ} b 1 0) e in
        let parts = sum_by-cons (λ n. cond {A = ℕ} (eqb empty n) 1 0) first rest in
        let found = more (omega arith) in
        (suc found.0, omega (arith, found.1), found.2)

-- a search that came to no end at the last slot ends before its start
pub found_round : (all : List (List ℕ)) (slots wanted : List ℕ) (start behind slot : ℕ) → Contains slots empty → start ≤ length slots → length slots ≤ behind
    → Passed all slots wanted start behind → slot ≤ start → Passed all slots wanted 0 slot → (slot < start → Stops all wanted (slice_index slots slot)) → Found all slots wanted start slot
found_round all slots wanted start behind slot has most past ahead least front stops =
    let none : slice_index slots has.0 ≡ empty = get_or_default slots has.0 0 empty has.1 ∙ has.2 in
    let inside = has.1 in
    let before : slot < start = ⊎_elim (λ l. l)
    (λ le. absurd (⊎_elim (λ l. front has.0 (omega arith) (omega arith) (inl none)) (λ a. ahead has.0 a (omega arith) (inl none)) (cases_lt has.0 start))) (cases_lt slot start) in
    record {
      within = omega arith;
      stops = stops before;
      direct = λ i a b. absurd (let no : ⊥ = omega arith in no);
      to_last = λ _ i a b. ahead i a (omega arith);
      from_first = λ _. front;
    }
