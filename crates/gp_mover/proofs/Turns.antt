-- Lists in better orders, one after another.
use Rattle.std.proofs.Common.{◌≡◌, ℕ, suc, ◌+◌, ◌-◌, ◌*◌, ◌<◌, ◌≤◌, List, [], ◌∷◌, ◌++◌, map, length, take, drop, get_or, refl, sym, ap, ◌∙◌, append_assoc, length-append, drop-cons, add-one, arith}
use Rattle.std.specs.List.{concat}
use Rattle.std.proofs.lemmas.List.{take_at, drop_at, append-nil, take_more, take_all, drop_all, map_more}
use Rattle.std.proofs.lemmas.List.Folds.{concat-append}
use Rattle.gp_alias.specs.Records.{ends_from}
use Rattle.gp_mover.proofs.Rows.{part_between, ends_at}

-- the first lists are in orders that were chosen, and the others as they were; a list begins at `start`
pub record Turn (choose : List ℕ → List ℕ) (lists : List (List ℕ)) (at : ℕ) (joined : List ℕ) (start : ℕ) : Type 0 where
  pub start_is : start ≡ length (concat (take at lists))
  pub joined_is : joined ≡ concat (map choose (take at lists)) ++ concat (drop at lists)
  pub long : length (concat (map choose (take at lists))) ≡ start

pub first_turn : (choose : List ℕ → List ℕ) (lists : List (List ℕ)) (joined : List ℕ) → joined ≡ concat lists → Turn choose lists 0 joined 0
first_turn choose lists joined is = record { start_is = refl; joined_is = is; long = refl }

-- one list more at the end
joined_more : (lists : List (List ℕ)) (list : List ℕ) → concat (lists ++ list ∷ []) ≡ concat lists ++ list
joined_more lists list = concat-append lists (list ∷ []) ∙ ap (λ l. concat lists ++ l) (append-nil list)

module _ (choose : List ℕ → List ℕ) (lists : List (List ℕ)) (at : ℕ) (joined : List ℕ) (start : ℕ) (turn : Turn choose lists at joined start) (within : at < length lists) where
  abbrev front : List ℕ
  front = concat (map choose (take at lists))

  abbrev list : List ℕ
  list = get_or lists at []

  abbrev behind : List ℕ
  behind = concat (drop (at + 1) lists)

  split : joined ≡ front ++ (list ++ behind)
  split =
      let more : suc at ≡ at + 1 = omega arith in
      turn.joined_is ∙ ap (λ ls. front ++ concat ls) (drop-cons lists at [] within ∙ ap (λ n. list ∷ drop n lists) more)

  taken : concat (take (at + 1) lists) ≡ concat (take at lists) ++ list
  taken = ap concat (take_more lists at [] within) ∙ joined_more (take at lists) list

  -- where it ends
  pub end_is : (ends : List ℕ) (end : ℕ) → ends ≡ ends_from 0 lists → end ≡ get_or ends at 0 → end ≡ start + length list
  end_is ends end are is =
      let whole : end ≡ 0 + length (concat (take (at + 1) lists)) = is ∙ ap (λ es. get_or es at 0) are ∙ ends_at 0 lists at within in
      let long : length (concat (take (at + 1) lists)) ≡ length (concat (take at lists) ++ list) = ap (λ (l : List ℕ). length l) taken in
      omega (arith, whole, long, length-append (concat (take at lists)) list, turn.start_is)

  pub ends_within : (end : ℕ) → end ≡ start + length list → end ≤ length joined
  ends_within end is =
      let whole : length joined ≡ length (front ++ (list ++ behind)) = ap (λ (l : List ℕ). length l) split in
      omega (arith, is, whole, length-append front (list ++ behind), length-append list behind, turn.long)

  -- the list is what stands between its places
  pub list_is : (end : ℕ) → end ≡ start + length list → take (end - start) (drop start joined) ≡ list
  list_is end is = ap (λ (j : List ℕ). take (end - start) (drop start j)) split ∙ part_between front list behind start end turn.long is

  pub next_turn : (end : ℕ) (now : List ℕ) → end ≡ start + length list → length (choose list) ≡ length list
      → now ≡ take start joined ++ (choose list ++ drop end joined) → Turn choose lists (at + 1) now end
  next_turn end now is same written =
      let before : take start joined ≡ front = ap (take start) split ∙ take_at front (list ++ behind) start turn.long in
      let front_and_list : length (front ++ list) ≡ end = omega (arith, length-append front list, turn.long, is) in
      let after : drop end joined ≡ behind = ap (drop end) (split ∙ sym (append_assoc front list behind)) ∙ drop_at (front ++ list) behind end front_and_list in
      let chosen : concat (map choose (take (at + 1) lists)) ≡ front ++ choose list = ap (λ (ls : List (List ℕ)). concat ls) (map_more choose lists at [] within) ∙ joined_more (map choose (take at lists)) (choose list) in
      let whole : length (concat (map choose (take (at + 1) lists))) ≡ length (front ++ choose list) = ap (λ (l : List ℕ). length l) chosen in
      let start_long : length (concat (take (at + 1) lists)) ≡ length (concat (take at lists) ++ list) = ap (λ (l : List ℕ). length l) taken in
      record {
        start_is = omega (arith, start_long, length-append (concat (take at lists)) list, turn.start_is, is);
        joined_is =
            written ∙ ap (λ l. l ++ (choose list ++ drop end joined)) before ∙ ap (λ l. front ++ (choose list ++ l)) after
            ∙ sym (append_assoc front (choose list) behind) ∙ ap (λ l. l ++ behind) (sym chosen);
        long = omega (arith, whole, length-append front (choose list), same, turn.long, is);
      }

pub last_turn : (choose : List ℕ → List ℕ) (lists : List (List ℕ)) (at : ℕ) (joined : List ℕ) (start : ℕ) → Turn choose lists at joined start → length lists ≤ at
    → joined ≡ concat (map choose lists)
last_turn choose lists at joined start turn past =
    turn.joined_is ∙ ap (λ (ls : List (List ℕ)). concat (map choose ls) ++ concat (drop at lists)) (take_all at lists past)
    ∙ ap (λ (ls : List (List ℕ)). concat (map choose lists) ++ concat ls) (drop_all at lists past) ∙ append-nil (concat (map choose lists))
