-- Records numbered one after another.
use Rattle.std.proofs.Common.{◌≡◌, ◌≢◌, ℕ, ◌+◌, ◌-◌, ◌^◌, ◌%◌, ◌<◌, ◌≤◌, Bool, cond, eqb, List, [], ◌∷◌, ◌++◌, map, length, take, drop, set, get_or, slice_index, replicate, refl, sym, ap, subst, ◌∙◌, take-append-drop, length-take, length-set, true, false, Contains, ⊎_elim, inl, arith}
use Rattle.std.specs.List.{list_any, position_or_len}
use Rattle.std.specs.Str.{bytes_eq}
use Rattle.std.specs.Cmp.Lexicographic.{bytes_decides}
use Rattle.std.proofs.lemmas.Bool.{ne_eqb}
use Rattle.std.proofs.lemmas.Cmp.{nat_list_eq_equiv}
use Rattle.std.proofs.lemmas.List.{take_more, take_all, map_push, length-map, get_or-map, get_or-take, length-take-le, get_or_default, same_lists, length_push, get_or-replicate, length-replicate}
use Rattle.std.proofs.lemmas.List.Folds.{list_any_at, Any-from_list_any, sum_by-replicate}
use Rattle.std.proofs.lemmas.List.Sums.{sum_by-set}
use Rattle.std.specs.Hash.DefaultHasher.{finish, write}
use Rattle.gp_merge.specs.declared.keyed.Keyed.{Keyed}
use Rattle.gp_merge.specs.Records.{distinct, numbers}
use Rattle.gp_merge.specs.Slots.{empty, Found}
use Rattle.gp_merge.proofs.Repeats.{list_any-without_repeats, without_repeats-push, position-next, position-past, position-found, length-without_repeats}
use Rattle.gp_merge.proofs.Slots.{Filled, room, has_room, not_seen, filled_again, filled_more}

-- where a record is among the distinct ones
abbrev pub place_of : List (List ℕ) → List ℕ → ℕ
place_of all r = position_or_len (bytes_eq r) (distinct all)

-- where the search for a record begins
abbrev pub start_by : Keyed → ℕ → List ℕ → ℕ
start_by keyed slots wanted = finish (write keyed.initial wanted) % slots

-- the first records are numbered: the slots have the first of each value, so many are distinct, and each has its place among those of all
pub record Numbered (start : List ℕ → ℕ) (all : List (List ℕ)) (size at : ℕ) (slots places : List ℕ) (count : ℕ) : Type 0 where
  pub filled : Filled start all at slots
  pub long : length slots ≡ size
  pub free : room slots + count ≡ size
  pub counted : count ≡ length (distinct (take at all))
  pub placed : places ≡ map (place_of all) (take at all)

-- a list around a place
pub around : {X : Type 0} (xs : List X) (i : ℕ) (d : X) → i < length xs → xs ≡ (take i xs ++ get_or xs i d ∷ []) ++ drop (i + 1) xs
around xs i d h = sym (take-append-drop (i + 1) xs) ∙ ap (λ l. l ++ drop (i + 1) xs) (take_more xs i d h)

-- no record is numbered yet
pub numbered_none : (start : List ℕ → ℕ) (all : List (List ℕ)) (n : ℕ) → Numbered start all n 0 (replicate n empty) [] 0
numbered_none start all n = record {
  filled = record {
    held = λ i h. inl (none i (inside i h));
    direct = λ i k h full a b. absurd (full (none i (inside i h)));
    to_last = λ i k h full round a b. absurd (full (none i (inside i h)));
    from_first = λ i k h full round b. absurd (full (none i (inside i h)));
    has = λ k h. absurd (omega arith);
  };
  long = length-replicate n empty;
  free = let all_free = sum_by-replicate (λ first. cond {A = ℕ} (eqb empty first) 1 0) n empty in omega arith;
  counted = refl;
  placed = refl;
}
  where
    inside : (i : ℕ) → i < length (replicate n empty) → i < n
    inside i h = subst (λ m. i < m) (length-replicate n empty) h

    none : (i : ℕ) → i < n → slice_index (replicate n empty) i ≡ empty
    none i h = get_or-replicate n i empty 0 h

-- there are no more distinct records than records
pub numbered_few : (start : List ℕ → ℕ) (all : List (List ℕ)) (size at : ℕ) (slots places : List ℕ) (count : ℕ) → Numbered start all size at slots places count → count ≤ at
numbered_few start all size at slots places count so_far =
    let counted = so_far.counted in
    let few = length-without_repeats bytes_eq (take at all) in
    let front = length-take at all in
    omega arith

-- a slot is empty
pub numbered_room : (start : List ℕ → ℕ) (all : List (List ℕ)) (size at : ℕ) (slots places : List ℕ) (count : ℕ) → Numbered start all size at slots places count → at < size
    → Contains slots empty
numbered_room start all size at slots places count so_far h =
    let few = numbered_few start all size at slots places count so_far in
    let free = so_far.free in
    has_room slots (omega arith)

-- the record in a slot has a place
pub numbered_before : (start : List ℕ → ℕ) (all : List (List ℕ)) (size at : ℕ) (slots places : List ℕ) (count slot first : ℕ) → Numbered start all size at slots places count → at < length all
    → slot < length slots → first ≡ slice_index slots slot → first ≢ empty → first < length places
numbered_before start all size at slots places count slot first so_far within inside is full =
    let before : slice_index slots slot < at = ⊎_elim (λ e. absurd (full (is ∙ e))) (λ l. l) (so_far.filled.held slot inside) in
    let placed = ap length so_far.placed ∙ length-map (take at all) (place_of all) ∙ length-take-le at all (omega arith) in
    omega arith

-- one place more
placed_more : (all : List (List ℕ)) (at : ℕ) (places : List ℕ) (place : ℕ) → at < length all → places ≡ map (place_of all) (take at all)
    → place ≡ place_of (take at all) (get_or all at []) → places ++ place ∷ [] ≡ map (place_of all) (take (at + 1) all)
placed_more all at places place within placed is_place =
    let r = get_or all at [] in
    let whole : all ≡ (take at all ++ r ∷ []) ++ drop (at + 1) all = around all at [] within in
    let found : place ≡ place_of all r = is_place ∙ position-next nat_list_eq_equiv (take at all) (drop (at + 1) all) r ∙ ap (λ l. place_of l r) (sym whole) in
    (λ i. placed i ++ found i ∷ []) ∙ sym (map_push (place_of all) (take at all) r) ∙ ap (map (place_of all)) (sym (take_more all at [] within))

-- a record that is there already: it has the place of the record in its slot
pub numbered_again : (start : List ℕ → ℕ) (all : List (List ℕ)) (size at : ℕ) (slots places : List ℕ) (count slot : ℕ) → Numbered start all size at slots places count → at < length all
    → Found all slots (get_or all at []) (start (get_or all at [])) slot → slice_index slots slot ≢ empty
    → Numbered start all size (at + 1) slots (places ++ slice_index places (slice_index slots slot) ∷ []) count
numbered_again start all size at slots places count slot so_far within found full =
    let first = slice_index slots slot in
    let r = get_or all at [] in
    let before : first < at = ⊎_elim (λ e. absurd (full e)) (λ l. l) (so_far.filled.held slot found.within) in
    let same : get_or all first [] ≡ r = ⊎_elim (λ e. absurd (full e)) (λ e. e) found.stops in
    let front : length (take at all) ≡ at = length-take-le at all (omega arith) in
    let inside : first < length (take at all) = omega arith in
    let there : get_or (take at all) first [] ≡ r = get_or-take at all first [] before ∙ same in
    let seen : list_any (bytes_eq r) (take at all) ≡ true = list_any_at (bytes_eq r) (take at all) first [] inside ((bytes_decides r (get_or (take at all) first [])).1 (sym there)) in
    let listed : list_any (bytes_eq r) (distinct (take at all)) ≡ true = list_any-without_repeats nat_list_eq_equiv r (take at all) ∙ seen in
    let alike : distinct (take (at + 1) all) ≡ distinct (take at all) =
    ap distinct (take_more all at [] within) ∙ without_repeats-push nat_list_eq_equiv (take at all) r
    ∙ ap (λ b. cond b (distinct (take at all)) (distinct (take at all) ++ r ∷ [])) listed in
    let place : slice_index places first ≡ place_of all r = ap (λ l. slice_index l first) so_far.placed ∙ get_or-map (place_of all) (take at all) first [] 0 inside ∙ ap (place_of all) there in
    let whole : all ≡ (take at all ++ r ∷ []) ++ drop (at + 1) all = around all at [] within in
    let early : place_of all r ≡ place_of (take at all) r = ap (λ l. place_of l r) whole ∙ sym (position-next nat_list_eq_equiv (take at all) (drop (at + 1) all) r) in
    record {
      filled = filled_again start all at slots slot so_far.filled found.within full same;
      long = so_far.long;
      free = so_far.free;
      counted = so_far.counted ∙ ap length (sym alike);
      placed = placed_more all at places (slice_index places first) within so_far.placed (place ∙ early);
    }

-- a record that wasn't there: it has the next place, and comes into the slot
pub numbered_new : (start : List ℕ → ℕ) (all : List (List ℕ)) (size at : ℕ) (slots places : List ℕ) (count slot : ℕ) → Numbered start all size at slots places count → at < length all
    → Found all slots (get_or all at []) (start (get_or all at [])) slot → slice_index slots slot ≡ empty → at < 2 ^ 32 - 1
    → Numbered start all size (at + 1) (set slots slot at) (places ++ count ∷ []) (count + 1)
numbered_new start all size at slots places count slot so_far within found none few =
    let r = get_or all at [] in
    let listed : list_any (bytes_eq r) (distinct (take at all)) ≡ false = list_any-without_repeats nat_list_eq_equiv r (take at all) ∙ unseen (list_any (bytes_eq r) (take at all)) refl in
    let longer : distinct (take (at + 1) all) ≡ distinct (take at all) ++ r ∷ [] =
    ap distinct (take_more all at [] within) ∙ without_repeats-push nat_list_eq_equiv (take at all) r
    ∙ ap (λ b. cond b (distinct (take at all)) (distinct (take at all) ++ r ∷ [])) listed in
    let long : length (distinct (take (at + 1) all)) ≡ length (distinct (take at all)) + 1 = ap length longer ∙ length_push (distinct (take at all)) r in
    let counted = so_far.counted in
    let free = so_far.free in
    let written = sum_by-set (λ first. cond {A = ℕ} (eqb empty first) 1 0) slots slot at 0 found.within in
    let was : cond {A = ℕ} (eqb empty (get_or slots slot 0)) 1 0 ≡ 1 = ap (λ first. cond {A = ℕ} (eqb empty first) 1 0) none in
    let other : eqb empty at ≡ false = ne_eqb empty at (λ e. let no : ⊥ = omega arith in no) in
    let is : cond {A = ℕ} (eqb empty at) 1 0 ≡ 0 = ap (λ b. cond {A = ℕ} b 1 0) other in
    record {
      filled = filled_more start all at slots slot so_far.filled found none few;
      long = length-set slots slot at ∙ so_far.long;
      free = omega arith;
      counted = omega arith;
      placed = placed_more all at places count within so_far.placed (so_far.counted ∙ sym (position-past (bytes_eq r) (distinct (take at all)) listed));
    }
  where
    unseen : (b : Bool) → list_any (bytes_eq (get_or all at [])) (take at all) ≡ b → b ≡ false
    unseen true e =
        let there = Any-from_list_any (bytes_eq (get_or all at [])) (take at all) e in
        let front = length-take at all in
        let before : there.0 < at = omega (arith, there.2) in
        let same = (bytes_decides (get_or all at []) there.1).0 there.4 in
        absurd (not_seen start all at slots (get_or all at []) slot so_far.filled found none there.0 before (sym (get_or-take at all there.0 [] before) ∙ get_or_default (take at all) there.0 [] there.1 there.2 ∙ there.3 ∙ sym same))
    unseen false e = refl

-- a search over what the slots are lent as
pub found_here : (start : List ℕ → ℕ) (all : List (List ℕ)) (at : ℕ) (slots lent wanted : List ℕ) (begins slot : ℕ) → Found all lent wanted begins slot → lent ≡ slots
    → wanted ≡ get_or all at [] → begins ≡ start wanted → Found all slots (get_or all at []) (start (get_or all at [])) slot
found_here start all at slots lent wanted begins slot found is here from =
    subst (λ l. Found all l (get_or all at []) (start (get_or all at [])) slot) is
    (subst (λ n. Found all lent (get_or all at []) n slot) (from ∙ ap start here) (subst (λ w. Found all lent w begins slot) here found))

-- all are numbered
pub numbered_all : (start : List ℕ → ℕ) (all : List (List ℕ)) (size at : ℕ) (slots places : List ℕ) (count : ℕ) → Numbered start all size at slots places count → length all ≤ at
    → (count ≡ length (distinct all)) × (places ≡ numbers all)
numbered_all start all size at slots places count done past =
    let whole : take at all ≡ all = take_all at all past in (
      done.counted ∙ ap (λ l. length (distinct l)) whole,
      done.placed ∙ ap (map (place_of all)) whole,
    )

-- each record is the distinct one at its place
pub records_found : (all : List (List ℕ)) → map (λ place. get_or (distinct all) place []) (map (λ r. position_or_len (bytes_eq r) (distinct all)) all) ≡ all
records_found all = same_lists _ _ long (λ k d h. at k d (subst (λ n. k < n) long h))
  where
    long : length (map (λ place. get_or (distinct all) place []) (map (λ r. position_or_len (bytes_eq r) (distinct all)) all)) ≡ length all
    long = length-map (map (λ r. position_or_len (bytes_eq r) (distinct all)) all) (λ place. get_or (distinct all) place []) ∙ length-map all (λ r. position_or_len (bytes_eq r) (distinct all))

    there : (k : ℕ) → k < length all → list_any (bytes_eq (get_or all k [])) (distinct all) ≡ true
    there k h = list_any-without_repeats nat_list_eq_equiv (get_or all k []) all ∙ list_any_at (bytes_eq (get_or all k [])) all k [] h (nat_list_eq_equiv.refl (get_or all k []))

    at : (k : ℕ) (d : List ℕ) → k < length all → get_or (map (λ place. get_or (distinct all) place []) (map (λ r. position_or_len (bytes_eq r) (distinct all)) all)) k d ≡ get_or all k d
    at k d h =
        get_or-map (λ place. get_or (distinct all) place []) (map (λ r. position_or_len (bytes_eq r) (distinct all)) all) k 0 d (subst (λ n. k < n) (sym (length-map all (λ r. position_or_len (bytes_eq r) (distinct all)))) h)
        ∙ ap (λ at. get_or (distinct all) at []) (get_or-map (λ r. position_or_len (bytes_eq r) (distinct all)) all k [] 0 h)
        ∙ position-found bytes_eq (λ x y e. (bytes_decides x y).0 e) (distinct all) (get_or all k []) [] (there k h)
        ∙ get_or_default all k [] d h
