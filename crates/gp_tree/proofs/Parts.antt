-- The parts of a sound value are sound, and a value stays sound and within a depth where a part is changed or taken out.
use Rattle.std.proofs.Common.{◌≡◌, ℕ, zero, suc, ◌<◌, ◌≤◌, Bool, true, false, List, [], ◌∷◌, ◌++◌, map, Option, Some, refl, sym, ap, ◌∙◌, subst, arith}
use Rattle.gp_tree.specs.Plain.{PlainTree, PlainTrees, no_items, item, null, truth, number, text, list, members, trees_of, members_of}
use Rattle.gp_tree.specs.Look.{item as item_at, nth_item}
use Rattle.gp_tree.specs.Key.{units}
use Rattle.gp_tree.specs.Sound.{IsSound, IsSpelled, AreMembersSpelled, AreItemsSpelled, depth, members_depth, items_depth, keys, AreDistinct, HasDistinctKeys, MembersHaveDistinctKeys, ItemsHaveDistinctKeys, max_depth}
use Rattle.gp_tree.specs.Find.{PlainMember, is_named, item_list, member_list, value_of, find_member}
use Rattle.gp_tree.specs.TreeEdits.{set_first, remove_first, change_first, change_nth, remove_nth, at_member, at_item, with_member, without, without_item, and_items}
use Rattle.gp_tree.specs.Laws.{Fits}
use Rattle.gp_tree.proofs.Inner.{members_back, trees_back}
use Rattle.gp_tree.proofs.Kept.{depth_set, depth_remove, depth_append}

-- ---- the value of the first member with a name

-- what is known of each value is known of it
found_step : (b : Bool) (P : PlainTree → Type 0) (key : List ℕ) (v : PlainTree) (m : PlainMember) (ms : List PlainMember) → is_named key m.0 ≡ b → P m.1 → (value_of key ms ≡ Some v → P v) → value_of key (m ∷ ms) ≡ Some v → P v
found_step true P key v m ms n h more e =
    let k : ◌≡◌ {A = Option PlainTree} (Some m.1) (Some v) = rw n at e in
    let s : m.1 ≡ v = cc in
    subst P s h
found_step false P key v m ms n h more e = let k : value_of key ms ≡ Some v = rw n at e in more k

found_spelled : (key : List ℕ) (v : PlainTree) (ms : List PlainMember) → AreMembersSpelled (members_of ms) → value_of key ms ≡ Some v → IsSpelled v
found_spelled key v [] h e = absurd (cc)
found_spelled key v (m ∷ ms) h e = found_step (is_named key m.0) IsSpelled key v m ms refl h.1 (found_spelled key v ms h.2) e

found_distinct : (key : List ℕ) (v : PlainTree) (ms : List PlainMember) → MembersHaveDistinctKeys (members_of ms) → value_of key ms ≡ Some v → HasDistinctKeys v
found_distinct key v [] h e = absurd (cc)
found_distinct key v (m ∷ ms) h e = found_step (is_named key m.0) HasDistinctKeys key v m ms refl h.0 (found_distinct key v ms h.1) e

found_depth : (key : List ℕ) (v : PlainTree) (ms : List PlainMember) (d : ℕ) → members_depth (members_of ms) ≤ d → value_of key ms ≡ Some v → depth v ≤ d
found_depth key v [] d h e = absurd (cc)
found_depth key v (m ∷ ms) d h e = found_step (is_named key m.0) (λ t. depth t ≤ d) key v m ms refl (omega (arith, h)) (found_depth key v ms d (omega (arith, h))) e

pub value_sound : (key : List ℕ) (v t : PlainTree) → IsSound t → find_member key t ≡ Some v → IsSound v × (depth v < depth t)
value_sound key v null h e = absurd (cc)
value_sound key v (truth b) h e = absurd (cc)
value_sound key v (number s) h e = absurd (cc)
value_sound key v (text s) h e = absurd (cc)
value_sound key v (list ts) h e = absurd (cc)
value_sound key v (members ms) h e =
    let l = member_list ms in
    let back : members_of l ≡ ms = members_back ms in
    let low : depth v ≤ members_depth ms = found_depth key v l (members_depth ms) (subst (λ y. members_depth y ≤ members_depth ms) (sym back) (omega arith)) e in (
      record { spelled = found_spelled key v l (subst AreMembersSpelled (sym back) h.spelled) e; shallow = omega (arith, low, h.shallow); distinct = found_distinct key v l (subst MembersHaveDistinctKeys (sym back) h.distinct.1) e },
      omega (arith, low),
    )

-- ---- an item

nth_spelled : (ts : PlainTrees) (i : ℕ) (v : PlainTree) → AreItemsSpelled ts → nth_item ts i ≡ Some v → IsSpelled v
nth_spelled no_items i v h e = absurd (cc)
nth_spelled (item t ts) zero v h e = let s : t ≡ v = cc in subst IsSpelled s h.0
nth_spelled (item t ts) (suc i) v h e = nth_spelled ts i v h.1 e

nth_distinct : (ts : PlainTrees) (i : ℕ) (v : PlainTree) → ItemsHaveDistinctKeys ts → nth_item ts i ≡ Some v → HasDistinctKeys v
nth_distinct no_items i v h e = absurd (cc)
nth_distinct (item t ts) zero v h e = let s : t ≡ v = cc in subst HasDistinctKeys s h.0
nth_distinct (item t ts) (suc i) v h e = nth_distinct ts i v h.1 e

nth_depth : (ts : PlainTrees) (i : ℕ) (v : PlainTree) (d : ℕ) → items_depth ts ≤ d → nth_item ts i ≡ Some v → depth v ≤ d
nth_depth no_items i v d h e = absurd (cc)
nth_depth (item t ts) zero v d h e = let s : t ≡ v = cc in subst (λ y. depth y ≤ d) s (omega (arith, h))
nth_depth (item t ts) (suc i) v d h e = nth_depth ts i v d (omega (arith, h)) e

pub item_sound : (i : ℕ) (v t : PlainTree) → IsSound t → item_at t i ≡ Some v → IsSound v × (depth v < depth t)
item_sound i v null h e = absurd (cc)
item_sound i v (truth b) h e = absurd (cc)
item_sound i v (number s) h e = absurd (cc)
item_sound i v (text s) h e = absurd (cc)
item_sound i v (members ms) h e = absurd (cc)
item_sound i v (list ts) h e =
    let low : depth v ≤ items_depth ts = nth_depth ts i v (items_depth ts) (omega arith) e in (
      record { spelled = nth_spelled ts i v h.spelled e; shallow = omega (arith, low, h.shallow); distinct = nth_distinct ts i v h.distinct e },
      omega (arith, low),
    )

-- ---- a value that was changed

abbrev Changed : List ℕ → (PlainTree → PlainTree) → (PlainTree → Type 0) → List PlainMember → Type 0
Changed key f P ms = (v : PlainTree) → value_of key ms ≡ Some v → P (f v)

spelled_step : (b : Bool) (key : List ℕ) (f : PlainTree → PlainTree) (m : PlainMember) (ms : List PlainMember) → is_named key m.0 ≡ b → Changed key f IsSpelled (m ∷ ms) → AreMembersSpelled (members_of (m ∷ ms))
    → (Changed key f IsSpelled ms → AreMembersSpelled (members_of (change_first key f ms))) → AreMembersSpelled (members_of (change_first key f (m ∷ ms)))
spelled_step true key f m ms n q h more = rw n (h.0, q m.1 (rw n refl), h.2)
spelled_step false key f m ms n q h more = rw n (h.0, h.1, more (λ v e. q v (rw n e)))

spelled_change : (key : List ℕ) (f : PlainTree → PlainTree) (ms : List PlainMember) → Changed key f IsSpelled ms → AreMembersSpelled (members_of ms) → AreMembersSpelled (members_of (change_first key f ms))
spelled_change key f [] q h = tt
spelled_change key f (m ∷ ms) q h = spelled_step (is_named key m.0) key f m ms refl q h (λ r. spelled_change key f ms r h.2)

distinct_step : (b : Bool) (key : List ℕ) (f : PlainTree → PlainTree) (m : PlainMember) (ms : List PlainMember) → is_named key m.0 ≡ b → Changed key f HasDistinctKeys (m ∷ ms) → MembersHaveDistinctKeys (members_of (m ∷ ms))
    → (Changed key f HasDistinctKeys ms → MembersHaveDistinctKeys (members_of (change_first key f ms))) → MembersHaveDistinctKeys (members_of (change_first key f (m ∷ ms)))
distinct_step true key f m ms n q h more = rw n (q m.1 (rw n refl), h.1)
distinct_step false key f m ms n q h more = rw n (h.0, more (λ v e. q v (rw n e)))

distinct_change : (key : List ℕ) (f : PlainTree → PlainTree) (ms : List PlainMember) → Changed key f HasDistinctKeys ms → MembersHaveDistinctKeys (members_of ms) → MembersHaveDistinctKeys (members_of (change_first key f ms))
distinct_change key f [] q h = tt
distinct_change key f (m ∷ ms) q h = distinct_step (is_named key m.0) key f m ms refl q h (λ r. distinct_change key f ms r h.1)

depth_step : (b : Bool) (d : ℕ) (key : List ℕ) (f : PlainTree → PlainTree) (m : PlainMember) (ms : List PlainMember) → is_named key m.0 ≡ b → Changed key f (λ t. depth t ≤ d) (m ∷ ms) → members_depth (members_of (m ∷ ms)) ≤ d
    → (Changed key f (λ t. depth t ≤ d) ms → members_depth (members_of (change_first key f ms)) ≤ d) → members_depth (members_of (change_first key f (m ∷ ms))) ≤ d
depth_step true d key f m ms n q h more = rw n (let x : depth (f m.1) ≤ d = q m.1 (rw n refl) in omega (arith, h, x))
depth_step false d key f m ms n q h more = rw n (let x = more (λ v e. q v (rw n e)) in omega (arith, h, x))

depth_change : (d : ℕ) (key : List ℕ) (f : PlainTree → PlainTree) (ms : List PlainMember) → Changed key f (λ t. depth t ≤ d) ms → members_depth (members_of ms) ≤ d → members_depth (members_of (change_first key f ms)) ≤ d
depth_change d key f [] q h = omega arith
depth_change d key f (m ∷ ms) q h = depth_step (is_named key m.0) d key f m ms refl q h (λ r. depth_change d key f ms r (omega (arith, h)))

keys_step : (b : Bool) (key : List ℕ) (f : PlainTree → PlainTree) (m : PlainMember) (ms : List PlainMember) → is_named key m.0 ≡ b → keys (members_of (change_first key f ms)) ≡ keys (members_of ms)
    → keys (members_of (change_first key f (m ∷ ms))) ≡ keys (members_of (m ∷ ms))
keys_step true key f m ms n ih = rw n refl
keys_step false key f m ms n ih = rw n (ap (λ l. m.0 ∷ l) ih)

keys_change : (key : List ℕ) (f : PlainTree → PlainTree) (ms : List PlainMember) → keys (members_of (change_first key f ms)) ≡ keys (members_of ms)
keys_change key f [] = refl
keys_change key f (m ∷ ms) = keys_step (is_named key m.0) key f m ms refl (keys_change key f ms)

pub change_depth : (n : ℕ) (key : List ℕ) (f : PlainTree → PlainTree) (t : PlainTree) → depth t ≤ n → ((v : PlainTree) → find_member key t ≡ Some v → depth (f v) < n) → depth (at_member key f t) ≤ n
change_depth n key f null h q = h
change_depth n key f (truth b) h q = h
change_depth n key f (number s) h q = h
change_depth n key f (text s) h q = h
change_depth n key f (list ts) h q = h
change_depth zero key f (members ms) h q = absurd (omega (arith, h))
change_depth (suc n) key f (members ms) h q =
    let l = member_list ms in
    let x : members_depth (members_of (change_first key f l)) ≤ n = depth_change n key f l (λ v e. omega (arith, q v e)) (subst (λ y. members_depth y ≤ n) (sym (members_back ms)) (omega (arith, h))) in
    omega (arith, x)

pub sound_change : (key : List ℕ) (f : PlainTree → PlainTree) (t : PlainTree) → IsSound t → ((v : PlainTree) → find_member key t ≡ Some v → Fits (f v)) → IsSound (at_member key f t)
sound_change key f null h q = h
sound_change key f (truth b) h q = h
sound_change key f (number s) h q = h
sound_change key f (text s) h q = h
sound_change key f (list ts) h q = h
sound_change key f (members ms) h q =
    let l = member_list ms in
    let back : members_of l ≡ ms = members_back ms in
    let same : keys (members_of (change_first key f l)) ≡ keys ms = keys_change key f l ∙ ap keys back in
    record {
      spelled = spelled_change key f l (λ v e. (q v e).0.spelled) (subst AreMembersSpelled (sym back) h.spelled);
      shallow = change_depth max_depth key f (members ms) h.shallow (λ v e. (q v e).1);
      distinct = (subst (λ y. AreDistinct (map units y)) (sym same) h.distinct.0, distinct_change key f l (λ v e. (q v e).0.distinct) (subst MembersHaveDistinctKeys (sym back) h.distinct.1));
    }

-- ---- an item that was changed

spelled_nth : (i : ℕ) (f : PlainTree → PlainTree) (ts : PlainTrees) → ((v : PlainTree) → nth_item ts i ≡ Some v → IsSpelled (f v)) → AreItemsSpelled ts → AreItemsSpelled (trees_of (change_nth i f (item_list ts)))
spelled_nth i f no_items q h = tt
spelled_nth zero f (item t ts) q h = (q t refl, subst AreItemsSpelled (sym (trees_back ts)) h.1)
spelled_nth (suc i) f (item t ts) q h = (h.0, spelled_nth i f ts q h.1)

distinct_nth : (i : ℕ) (f : PlainTree → PlainTree) (ts : PlainTrees) → ((v : PlainTree) → nth_item ts i ≡ Some v → HasDistinctKeys (f v)) → ItemsHaveDistinctKeys ts → ItemsHaveDistinctKeys (trees_of (change_nth i f (item_list ts)))
distinct_nth i f no_items q h = tt
distinct_nth zero f (item t ts) q h = (q t refl, subst ItemsHaveDistinctKeys (sym (trees_back ts)) h.1)
distinct_nth (suc i) f (item t ts) q h = (h.0, distinct_nth i f ts q h.1)

depth_nth : (d i : ℕ) (f : PlainTree → PlainTree) (ts : PlainTrees) → ((v : PlainTree) → nth_item ts i ≡ Some v → depth (f v) ≤ d) → items_depth ts ≤ d → items_depth (trees_of (change_nth i f (item_list ts))) ≤ d
depth_nth d i f no_items q h = omega arith
depth_nth d zero f (item t ts) q h =
    let x : depth (f t) ≤ d = q t refl in
    let y : items_depth (trees_of (item_list ts)) ≤ d = subst (λ y. items_depth y ≤ d) (sym (trees_back ts)) (omega (arith, h)) in
    omega (arith, x, y)
depth_nth d (suc i) f (item t ts) q h = let x = depth_nth d i f ts q (omega (arith, h)) in omega (arith, h, x)

pub item_depth : (n i : ℕ) (f : PlainTree → PlainTree) (t : PlainTree) → depth t ≤ n → ((v : PlainTree) → item_at t i ≡ Some v → depth (f v) < n) → depth (at_item i f t) ≤ n
item_depth n i f null h q = h
item_depth n i f (truth b) h q = h
item_depth n i f (number s) h q = h
item_depth n i f (text s) h q = h
item_depth n i f (members ms) h q = h
item_depth zero i f (list ts) h q = absurd (omega (arith, h))
item_depth (suc n) i f (list ts) h q = let x = depth_nth n i f ts (λ v e. omega (arith, q v e)) (omega (arith, h)) in omega (arith, x)

pub sound_item : (i : ℕ) (f : PlainTree → PlainTree) (t : PlainTree) → IsSound t → ((v : PlainTree) → item_at t i ≡ Some v → Fits (f v)) → IsSound (at_item i f t)
sound_item i f null h q = h
sound_item i f (truth b) h q = h
sound_item i f (number s) h q = h
sound_item i f (text s) h q = h
sound_item i f (members ms) h q = h
sound_item i f (list ts) h q = record {
  spelled = spelled_nth i f ts (λ v e. (q v e).0.spelled) h.spelled;
  shallow = item_depth max_depth i f (list ts) h.shallow (λ v e. (q v e).1);
  distinct = distinct_nth i f ts (λ v e. (q v e).0.distinct) h.distinct;
}

-- ---- an item that was removed

spelled_cut : (i : ℕ) (ts : List PlainTree) → AreItemsSpelled (trees_of ts) → AreItemsSpelled (trees_of (remove_nth i ts))
spelled_cut i [] h = h
spelled_cut zero (t ∷ ts) h = h.1
spelled_cut (suc i) (t ∷ ts) h = (h.0, spelled_cut i ts h.1)

distinct_cut : (i : ℕ) (ts : List PlainTree) → ItemsHaveDistinctKeys (trees_of ts) → ItemsHaveDistinctKeys (trees_of (remove_nth i ts))
distinct_cut i [] h = h
distinct_cut zero (t ∷ ts) h = h.1
distinct_cut (suc i) (t ∷ ts) h = (h.0, distinct_cut i ts h.1)

depth_cut : (i : ℕ) (ts : List PlainTree) → items_depth (trees_of (remove_nth i ts)) ≤ items_depth (trees_of ts)
depth_cut i [] = omega arith
depth_cut zero (t ∷ ts) = omega arith
depth_cut (suc i) (t ∷ ts) = omega (arith, depth_cut i ts)

pub removed_item_depth : (i : ℕ) (t : PlainTree) → depth (without_item i t) ≤ depth t
removed_item_depth i null = omega arith
removed_item_depth i (truth b) = omega arith
removed_item_depth i (number s) = omega arith
removed_item_depth i (text s) = omega arith
removed_item_depth i (members ms) = omega arith
removed_item_depth i (list ts) =
    let x : items_depth (trees_of (remove_nth i (item_list ts))) ≤ items_depth ts = subst (λ y. items_depth (trees_of (remove_nth i (item_list ts))) ≤ items_depth y) (trees_back ts) (depth_cut i (item_list ts)) in
    omega (arith, x)

pub sound_removed_item : (i : ℕ) (t : PlainTree) → IsSound t → IsSound (without_item i t)
sound_removed_item i null h = h
sound_removed_item i (truth b) h = h
sound_removed_item i (number s) h = h
sound_removed_item i (text s) h = h
sound_removed_item i (members ms) h = h
sound_removed_item i (list ts) h =
    let l = item_list ts in
    let back : trees_of l ≡ ts = trees_back ts in
    record {
      spelled = spelled_cut i l (subst AreItemsSpelled (sym back) h.spelled);
      shallow = let x : depth (without_item i (list ts)) ≤ depth (list ts) = removed_item_depth i (list ts) in omega (arith, x, h.shallow);
      distinct = distinct_cut i l (subst ItemsHaveDistinctKeys (sym back) h.distinct);
    }

nth_earlier : (ts : PlainTrees) (i j : ℕ) → j < i → nth_item (trees_of (remove_nth i (item_list ts))) j ≡ nth_item ts j
nth_earlier no_items i j h = refl
nth_earlier (item t ts) zero j h = absurd (omega (arith, h))
nth_earlier (item t ts) (suc i) zero h = refl
nth_earlier (item t ts) (suc i) (suc j) h = nth_earlier ts i j (omega (arith, h))

nth_later : (ts : PlainTrees) (i j : ℕ) → i ≤ j → nth_item (trees_of (remove_nth i (item_list ts))) j ≡ nth_item ts (suc j)
nth_later no_items i j h = refl
nth_later (item t ts) zero j h = ap (λ u. nth_item u j) (trees_back ts)
nth_later (item t ts) (suc i) zero h = absurd (omega (arith, h))
nth_later (item t ts) (suc i) (suc j) h = nth_later ts i j (omega (arith, h))

pub item_earlier : (i j : ℕ) (t : PlainTree) → j < i → item_at (without_item i t) j ≡ item_at t j
item_earlier i j null h = refl
item_earlier i j (truth b) h = refl
item_earlier i j (number s) h = refl
item_earlier i j (text s) h = refl
item_earlier i j (list ts) h = nth_earlier ts i j h
item_earlier i j (members ms) h = refl

pub item_later : (i j : ℕ) (t : PlainTree) → i ≤ j → item_at (without_item i t) j ≡ item_at t (suc j)
item_later i j null h = refl
item_later i j (truth b) h = refl
item_later i j (number s) h = refl
item_later i j (text s) h = refl
item_later i j (list ts) h = nth_later ts i j h
item_later i j (members ms) h = refl

-- ---- the depth after the other edits

pub set_depth : (n : ℕ) (key : List ℕ) (v t : PlainTree) → depth t ≤ n → depth v < n → depth (with_member key v t) ≤ n
set_depth n key v null h low = h
set_depth n key v (truth b) h low = h
set_depth n key v (number s) h low = h
set_depth n key v (text s) h low = h
set_depth n key v (list ts) h low = h
set_depth zero key v (members ms) h low = absurd (omega (arith, h))
set_depth (suc n) key v (members ms) h low =
    let l = member_list ms in
    let x : members_depth (members_of (set_first key v l)) ≤ n = depth_set key v l n (omega (arith, low)) (subst (λ y. members_depth y ≤ n) (sym (members_back ms)) (omega (arith, h))) in
    omega (arith, x)

pub removed_depth : (key : List ℕ) (t : PlainTree) → depth (without key t) ≤ depth t
removed_depth key null = omega arith
removed_depth key (truth b) = omega arith
removed_depth key (number s) = omega arith
removed_depth key (text s) = omega arith
removed_depth key (list ts) = omega arith
removed_depth key (members ms) =
    let l = member_list ms in
    let x : members_depth (members_of (remove_first key l)) ≤ members_depth ms = depth_remove key l (members_depth ms) (subst (λ y. members_depth y ≤ members_depth ms) (sym (members_back ms)) (omega arith)) in
    omega (arith, x)

pub append_depth : (n : ℕ) (v t : PlainTree) → depth t ≤ n → depth v < n → depth (and_items (v ∷ []) t) ≤ n
append_depth n v null h low = h
append_depth n v (truth b) h low = h
append_depth n v (number s) h low = h
append_depth n v (text s) h low = h
append_depth n v (members ms) h low = h
append_depth zero v (list ts) h low = absurd (omega (arith, h))
append_depth (suc n) v (list ts) h low =
    let l = item_list ts in
    let x : items_depth (trees_of (l ++ v ∷ [])) ≤ n = depth_append l v n (omega (arith, low)) (subst (λ y. items_depth y ≤ n) (sym (trees_back ts)) (omega (arith, h))) in
    omega (arith, x)
