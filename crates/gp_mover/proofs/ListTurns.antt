-- The lists of a group put into better orders, one by one.
use Rattle.std.proofs.Common.{◌≡◌, ℕ, ◌+◌, ◌-◌, ◌*◌, ◌^◌, ◌<◌, ◌≤◌, List, [], ◌++◌, length, take, drop, get_or, refl, sym, ap, ◌∙◌, subst, arith}
use Rattle.std.proofs.lemmas.List.{drop-drop}
use Rattle.gp_alias.specs.Records.{ends_from}
use Rattle.gp_cache.specs.Tipsify.{better}
use Rattle.gp_cache.proofs.Orders.{better_length}
use Rattle.gp_moving.specs.Triangles.{IsTriangleList}
use Rattle.gp_mover.specs.Standing.{AreJoined}
use Rattle.gp_mover.proofs.Rows.{length-ends}
use Rattle.gp_mover.proofs.Turns.{Turn, end_is, ends_within, list_is, next_turn}

same_number : (ends : List ℕ) (lists : List (List ℕ)) → ends ≡ ends_from 0 lists → length ends ≡ length lists
same_number ends lists is = ap (λ (es : List ℕ). length es) is ∙ length-ends 0 lists

pub all_ends : (ends : List ℕ) (lists : List (List ℕ)) (at : ℕ) → ends ≡ ends_from 0 lists → length ends ≤ at → length lists ≤ at
all_ends ends lists at is past = omega (arith, same_number ends lists is, past)

module _ (count : ℕ) (lists : List (List ℕ)) (ends joined now : List ℕ) (at start : ℕ) (are : AreJoined count ends joined lists) (turn : Turn (λ list. better list count) lists at now start) (within : at < length ends) where
  inside : at < length lists
  inside = omega (arith, same_number ends lists are.places, within)

  end_here : get_or ends at 0 ≡ start + length (get_or lists at [])
  end_here = end_is (λ list. better list count) lists at now start turn inside ends (get_or ends at 0) are.places refl

  pub begins_before : start ≤ get_or ends at 0
  begins_before = omega (arith, end_here)

  pub ends_inside : get_or ends at 0 ≤ length now
  ends_inside = ends_within (λ list. better list count) lists at now start turn inside (get_or ends at 0) end_here

  part_is : take (get_or ends at 0 - start) (drop start now) ≡ get_or lists at []
  part_is = list_is (λ list. better list count) lists at now start turn inside (get_or ends at 0) end_here

  pub part_sound : IsTriangleList count (take (get_or ends at 0 - start) (drop start now))
  part_sound = subst (IsTriangleList count) (sym part_is) (are.sound at [] inside)

  pub part_few : length (take (get_or ends at 0 - start) (drop start now)) ≤ 3 * 2 ^ 25
  part_few = subst (λ (l : List ℕ). length l ≤ 3 * 2 ^ 25) (sym part_is) (are.few at [] inside)

  pub turn_more : (new : List ℕ) → new ≡ better (take (get_or ends at 0 - start) (drop start now)) count
      → Turn (λ list. better list count) lists (at + 1) (take start now ++ (new ++ drop (get_or ends at 0 - start) (drop start now))) (get_or ends at 0)
  turn_more new is =
      let list = get_or lists at [] in
      let end = get_or ends at 0 in
      let sound : IsTriangleList count list = are.sound at [] inside in
      let made : new ≡ better list count = is ∙ ap (λ (l : List ℕ). better l count) part_is in
      let whole : start + (end - start) ≡ end = omega (arith, end_here) in
      let rest : drop (end - start) (drop start now) ≡ drop end now = drop-drop (end - start) start now ∙ ap (λ n. drop n now) whole in
      next_turn (λ list. better list count) lists at now start turn inside end (take start now ++ (new ++ drop (end - start) (drop start now))) end_here (better_length list count sound.below sound.whole)
      (ap (λ (l : List ℕ). take start now ++ (l ++ drop (end - start) (drop start now))) made ∙ ap (λ (l : List ℕ). take start now ++ (better list count ++ l)) rest)
