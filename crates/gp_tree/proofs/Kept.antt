-- Laws of the edits: what is found after them, and that they keep soundness.
use Rattle.std.proofs.Common.{◌≡◌, ◌≢◌, ℕ, zero, suc, ◌<◌, ◌≤◌, Bool, true, false, List, [], ◌∷◌, ◌++◌, length, map, Some, None, option_map, slice_index_or, refl, sym, ap, ◌∙◌, subst, arith}
use Rattle.std.proofs.lemmas.Slice.Eq.{bytes_eq-Decides}
use Rattle.gp_tree.specs.Plain.{PlainTree, PlainTrees, no_items, item, null, truth, number, text, list, members, trees_of, members_of}
use Rattle.gp_tree.specs.Look.{item as item_at, items_len, items_length, nth_item}
use Rattle.gp_tree.specs.Key.{units}
use Rattle.gp_tree.specs.Lexical.{Each, IsString}
use Rattle.gp_tree.specs.Values.{IsName}
use Rattle.gp_tree.specs.Sound.{IsSound, IsSpelled, AreMembersSpelled, AreItemsSpelled, depth, members_depth, items_depth, keys, AreDistinct, HasDistinctKeys, MembersHaveDistinctKeys, ItemsHaveDistinctKeys}
use Rattle.gp_tree.specs.Find.{PlainMember, IsObject, IsList, is_named, item_list, member_list, value_of, find_member}
use Rattle.gp_tree.specs.Laws.{Fits}
use Rattle.gp_tree.specs.TreeEdits.{set_first, remove_first, change_first, change_nth, at_member, at_item, with_member, without, and_items}
use Rattle.gp_tree.proofs.Firsts.{from_false, list_of}
use Rattle.gp_tree.proofs.Names.{units_of_name, name_string}
use Rattle.gp_tree.proofs.Inner.{members_back, trees_back}

-- ---- names

is_named_true : (name k : List ℕ) → units k ≡ name → is_named name k ≡ true
is_named_true name k e = (bytes_eq-Decides (units k) name).1 e

named_units : (name k : List ℕ) → is_named name k ≡ true → units k ≡ name
named_units name k e = (bytes_eq-Decides (units k) name).0 e

own_name : (key : List ℕ) → IsName key → is_named key key ≡ true
own_name key h = is_named_true key key (units_of_name key h)

other_name : (name key k : List ℕ) → (name ≡ key → ⊥) → is_named key k ≡ true → is_named name k ≡ false
other_name name key k d e = from_false (is_named name k) (λ t. d (sym (named_units name k t) ∙ named_units key k e))

apart_units : (key k : List ℕ) → IsName key → is_named key k ≡ false → units k ≡ units key → ⊥
apart_units key k h n e = let t : is_named key k ≡ true = is_named_true key k (e ∙ units_of_name key h) in let x : false ≡ true = sym n ∙ t in cc

-- ---- what is found

same_step : (b : Bool) (key : List ℕ) (v : PlainTree) (m : PlainMember) (ms : List PlainMember) → is_named key m.0 ≡ b → value_of key (set_first key v ms) ≡ Some v → value_of key (set_first key v (m ∷ ms)) ≡ Some v
same_step true key v m ms n ih = rw n (rw n refl)
same_step false key v m ms n ih = rw n (rw n ih)

value_set : (key : List ℕ) (v : PlainTree) (ms : List PlainMember) → IsName key → value_of key (set_first key v ms) ≡ Some v
value_set key v [] h = rw (own_name key h) refl
value_set key v (m ∷ ms) h = same_step (is_named key m.0) key v m ms refl (value_set key v ms h)

skip_step : (b : Bool) (name : List ℕ) (m : PlainMember) (ls ms : List PlainMember) → is_named name m.0 ≡ b → value_of name ls ≡ value_of name ms → value_of name (m ∷ ls) ≡ value_of name (m ∷ ms)
skip_step true name m ls ms n ih = rw n refl
skip_step false name m ls ms n ih = rw n ih

set_step : (b : Bool) (name key : List ℕ) (v : PlainTree) (m : PlainMember) (ms : List PlainMember) → is_named key m.0 ≡ b → (name ≡ key → ⊥) → value_of name (set_first key v ms) ≡ value_of name ms
    → value_of name (set_first key v (m ∷ ms)) ≡ value_of name (m ∷ ms)
set_step true name key v m ms n d ih = let o = other_name name key m.0 d n in rw n (rw o refl)
set_step false name key v m ms n d ih = rw n (skip_step (is_named name m.0) name m (set_first key v ms) ms refl ih)

value_set_other : (name key : List ℕ) (v : PlainTree) (ms : List PlainMember) → (name ≡ key → ⊥) → IsName key → value_of name (set_first key v ms) ≡ value_of name ms
value_set_other name key v [] d h = rw (other_name name key key d (own_name key h)) refl
value_set_other name key v (m ∷ ms) d h = set_step (is_named key m.0) name key v m ms refl d (value_set_other name key v ms d h)

remove_step : (b : Bool) (name key : List ℕ) (m : PlainMember) (ms : List PlainMember) → is_named key m.0 ≡ b → (name ≡ key → ⊥) → value_of name (remove_first key ms) ≡ value_of name ms
    → value_of name (remove_first key (m ∷ ms)) ≡ value_of name (m ∷ ms)
remove_step true name key m ms n d ih = let o = other_name name key m.0 d n in rw n (rw o refl)
remove_step false name key m ms n d ih = rw n (skip_step (is_named name m.0) name m (remove_first key ms) ms refl ih)

value_remove_other : (name key : List ℕ) (ms : List PlainMember) → (name ≡ key → ⊥) → value_of name (remove_first key ms) ≡ value_of name ms
value_remove_other name key [] d = refl
value_remove_other name key (m ∷ ms) d = remove_step (is_named key m.0) name key m ms refl d (value_remove_other name key ms d)

-- after a member is set it is found, and every other is found as before
pub find_set : (key : List ℕ) (v t : PlainTree) → IsObject t → IsName key → find_member key (with_member key v t) ≡ Some v
find_set key v null o h = absurd o
find_set key v (truth b) o h = absurd o
find_set key v (number s) o h = absurd o
find_set key v (text s) o h = absurd o
find_set key v (list ts) o h = absurd o
find_set key v (members ms) o h = ap (value_of key) (list_of (set_first key v (member_list ms))) ∙ value_set key v (member_list ms) h

pub find_set_other : (name key : List ℕ) (v t : PlainTree) → (name ≡ key → ⊥) → IsName key → find_member name (with_member key v t) ≡ find_member name t
find_set_other name key v null d h = refl
find_set_other name key v (truth b) d h = refl
find_set_other name key v (number s) d h = refl
find_set_other name key v (text s) d h = refl
find_set_other name key v (list ts) d h = refl
find_set_other name key v (members ms) d h = ap (value_of name) (list_of (set_first key v (member_list ms))) ∙ value_set_other name key v (member_list ms) d h

-- after a member is removed every other is found as before
pub find_remove_other : (name key : List ℕ) (t : PlainTree) → (name ≡ key → ⊥) → find_member name (without key t) ≡ find_member name t
find_remove_other name key null d = refl
find_remove_other name key (truth b) d = refl
find_remove_other name key (number s) d = refl
find_remove_other name key (text s) d = refl
find_remove_other name key (list ts) d = refl
find_remove_other name key (members ms) d = ap (value_of name) (list_of (remove_first key (member_list ms))) ∙ value_remove_other name key (member_list ms) d

-- ---- soundness

string_step : (b : Bool) (key : List ℕ) (v : PlainTree) (m : PlainMember) (ms : List PlainMember) → is_named key m.0 ≡ b → IsSpelled v → AreMembersSpelled (members_of (m ∷ ms)) → AreMembersSpelled (members_of (set_first key v ms))
    → AreMembersSpelled (members_of (set_first key v (m ∷ ms)))
string_step true key v m ms n hv h ih = rw n (h.0, hv, h.2)
string_step false key v m ms n hv h ih = rw n (h.0, h.1, ih)

spelled_set : (key : List ℕ) (v : PlainTree) (ms : List PlainMember) → IsString key → IsSpelled v → AreMembersSpelled (members_of ms) → AreMembersSpelled (members_of (set_first key v ms))
spelled_set key v [] hk hv h = (hk, hv, tt)
spelled_set key v (m ∷ ms) hk hv h = string_step (is_named key m.0) key v m ms refl hv h (spelled_set key v ms hk hv h.2)

depth_step : (b : Bool) (key : List ℕ) (v : PlainTree) (m : PlainMember) (ms : List PlainMember) (d : ℕ) → is_named key m.0 ≡ b → depth v ≤ d → members_depth (members_of (m ∷ ms)) ≤ d → members_depth (members_of (set_first key v ms)) ≤ d
    → members_depth (members_of (set_first key v (m ∷ ms))) ≤ d
depth_step true key v m ms d n hv h ih = rw n (omega (arith, hv, h))
depth_step false key v m ms d n hv h ih = rw n (omega (arith, h, ih))

pub depth_set : (key : List ℕ) (v : PlainTree) (ms : List PlainMember) (d : ℕ) → depth v ≤ d → members_depth (members_of ms) ≤ d → members_depth (members_of (set_first key v ms)) ≤ d
depth_set key v [] d hv h = omega (arith, hv)
depth_set key v (m ∷ ms) d hv h = depth_step (is_named key m.0) key v m ms d refl hv h (depth_set key v ms d hv (omega (arith, h)))

-- the keys, by their units
abbrev unit_keys : List PlainMember → List (List ℕ)
unit_keys ms = map units (keys (members_of ms))

abbrev Differ : List ℕ → List ℕ → Type 0
Differ k l = k ≢ l

each_step : (b : Bool) (P : List ℕ → Type 0) (key : List ℕ) (v : PlainTree) (m : PlainMember) (ms : List PlainMember) → is_named key m.0 ≡ b → Each P (unit_keys (m ∷ ms)) → Each P (unit_keys (set_first key v ms))
    → Each P (unit_keys (set_first key v (m ∷ ms)))
each_step true P key v m ms n h ih = rw n h
each_step false P key v m ms n h ih = rw n (h.0, ih)

each_set : (P : List ℕ → Type 0) (key : List ℕ) (v : PlainTree) (ms : List PlainMember) → P (units key) → Each P (unit_keys ms) → Each P (unit_keys (set_first key v ms))
each_set P key v [] hk h = (hk, tt)
each_set P key v (m ∷ ms) hk h = each_step (is_named key m.0) P key v m ms refl h (each_set P key v ms hk h.1)

each_rest_step : (b : Bool) (P : List ℕ → Type 0) (key : List ℕ) (m : PlainMember) (ms : List PlainMember) → is_named key m.0 ≡ b → Each P (unit_keys (m ∷ ms)) → Each P (unit_keys (remove_first key ms))
    → Each P (unit_keys (remove_first key (m ∷ ms)))
each_rest_step true P key m ms n h ih = rw n h.1
each_rest_step false P key m ms n h ih = rw n (h.0, ih)

each_remove : (P : List ℕ → Type 0) (key : List ℕ) (ms : List PlainMember) → Each P (unit_keys ms) → Each P (unit_keys (remove_first key ms))
each_remove P key [] h = tt
each_remove P key (m ∷ ms) h = each_rest_step (is_named key m.0) P key m ms refl h (each_remove P key ms h.1)

-- distinctness, one key at a time
abbrev Apart : List (List ℕ) → Type 0
Apart [] = Unit {0}
Apart (x ∷ xs) = Each (Differ x) xs × Apart xs

each_at : (P : List ℕ → Type 0) (xs : List (List ℕ)) (i : ℕ) (d : List ℕ) → Each P xs → i < length xs → P (slice_index_or xs i d)
each_at P [] i d h k = absurd (omega arith)
each_at P (x ∷ xs) zero d h k = h.0
each_at P (x ∷ xs) (suc i) d h k = each_at P xs i d h.1 (omega arith)

from_at : (P : List ℕ → Type 0) (xs : List (List ℕ)) → ((i : ℕ) (d : List ℕ) → i < length xs → P (slice_index_or xs i d)) → Each P xs
from_at P [] h = tt
from_at P (x ∷ xs) h = (h 0 x (omega arith), from_at P xs (λ i d k. h (suc i) d (omega arith)))

pub apart_pairs : (xs : List (List ℕ)) → Apart xs → AreDistinct xs
apart_pairs [] h i j d l k = absurd (omega arith)
apart_pairs (x ∷ xs) h zero zero d l k = absurd (omega arith)
apart_pairs (x ∷ xs) h zero (suc j) d l k = each_at (Differ x) xs j d h.0 (omega arith)
apart_pairs (x ∷ xs) h (suc i) zero d l k = absurd (omega arith)
apart_pairs (x ∷ xs) h (suc i) (suc j) d l k = apart_pairs xs h.1 i j d (omega arith) (omega arith)

pub pairs_apart : (xs : List (List ℕ)) → AreDistinct xs → Apart xs
pairs_apart [] h = tt
pairs_apart (x ∷ xs) h = (from_at (Differ x) xs (λ j d k. h 0 (suc j) d (omega arith) (omega arith)), pairs_apart xs (λ i j d l k. h (suc i) (suc j) d (omega arith) (omega arith)))

apart_step : (b : Bool) (key : List ℕ) (v : PlainTree) (m : PlainMember) (ms : List PlainMember) → IsName key → is_named key m.0 ≡ b → Apart (unit_keys (m ∷ ms)) → Apart (unit_keys (set_first key v ms)) → Apart (unit_keys (set_first key v (m ∷ ms)))
apart_step true key v m ms name n h ih = rw n h
apart_step false key v m ms name n h ih = rw n (each_set (Differ (units m.0)) key v ms (apart_units key m.0 name n) h.0, ih)

apart_set : (key : List ℕ) (v : PlainTree) (ms : List PlainMember) → IsName key → Apart (unit_keys ms) → Apart (unit_keys (set_first key v ms))
apart_set key v [] name h = (tt, tt)
apart_set key v (m ∷ ms) name h = apart_step (is_named key m.0) key v m ms name refl h (apart_set key v ms name h.1)

deep_step : (b : Bool) (key : List ℕ) (v : PlainTree) (m : PlainMember) (ms : List PlainMember) → is_named key m.0 ≡ b → HasDistinctKeys v → MembersHaveDistinctKeys (members_of (m ∷ ms)) → MembersHaveDistinctKeys (members_of (set_first key v ms))
    → MembersHaveDistinctKeys (members_of (set_first key v (m ∷ ms)))
deep_step true key v m ms n hv h ih = rw n (hv, h.1)
deep_step false key v m ms n hv h ih = rw n (h.0, ih)

deep_set : (key : List ℕ) (v : PlainTree) (ms : List PlainMember) → HasDistinctKeys v → MembersHaveDistinctKeys (members_of ms) → MembersHaveDistinctKeys (members_of (set_first key v ms))
deep_set key v [] hv h = (hv, tt)
deep_set key v (m ∷ ms) hv h = deep_step (is_named key m.0) key v m ms refl hv h (deep_set key v ms hv h.1)

-- an object stays sound when a sound value that is not too deep is set
pub sound_set : (key : List ℕ) (v t : PlainTree) → IsName key → IsSound t → Fits v → IsSound (with_member key v t)
sound_set key v null name h fit = h
sound_set key v (truth b) name h fit = h
sound_set key v (number s) name h fit = h
sound_set key v (text s) name h fit = h
sound_set key v (list ts) name h fit = h
sound_set key v (members ms) name h (hv, low) =
    let l = member_list ms in
    let back : members_of l ≡ ms = members_back ms in
    record {
      spelled = spelled_set key v l (name_string key name) hv.spelled (subst AreMembersSpelled (sym back) h.spelled);
      shallow = omega (arith, depth_set key v l 127 (omega (arith, low)) (let x : members_depth (members_of l) ≤ 127 = subst (λ y. members_depth y ≤ 127) (sym back) (omega (arith, h.shallow)) in x));
      distinct = (apart_pairs (unit_keys (set_first key v l)) (apart_set key v l name (pairs_apart (unit_keys l) (subst (λ y. AreDistinct (map units (keys y))) (sym back) h.distinct.0))), deep_set key v l hv.distinct (subst MembersHaveDistinctKeys (sym back) h.distinct.1));
    }

spelled_rest_step : (b : Bool) (key : List ℕ) (m : PlainMember) (ms : List PlainMember) → is_named key m.0 ≡ b → AreMembersSpelled (members_of (m ∷ ms)) → AreMembersSpelled (members_of (remove_first key ms)) → AreMembersSpelled (members_of (remove_first key (m ∷ ms)))
spelled_rest_step true key m ms n h ih = rw n h.2
spelled_rest_step false key m ms n h ih = rw n (h.0, h.1, ih)

spelled_remove : (key : List ℕ) (ms : List PlainMember) → AreMembersSpelled (members_of ms) → AreMembersSpelled (members_of (remove_first key ms))
spelled_remove key [] h = tt
spelled_remove key (m ∷ ms) h = spelled_rest_step (is_named key m.0) key m ms refl h (spelled_remove key ms h.2)

depth_rest_step : (b : Bool) (key : List ℕ) (m : PlainMember) (ms : List PlainMember) (d : ℕ) → is_named key m.0 ≡ b → members_depth (members_of (m ∷ ms)) ≤ d → members_depth (members_of (remove_first key ms)) ≤ d → members_depth (members_of (remove_first key (m ∷ ms))) ≤ d
depth_rest_step true key m ms d n h ih = rw n (omega (arith, h))
depth_rest_step false key m ms d n h ih = rw n (omega (arith, h, ih))

pub depth_remove : (key : List ℕ) (ms : List PlainMember) (d : ℕ) → members_depth (members_of ms) ≤ d → members_depth (members_of (remove_first key ms)) ≤ d
depth_remove key [] d h = omega arith
depth_remove key (m ∷ ms) d h = depth_rest_step (is_named key m.0) key m ms d refl h (depth_remove key ms d (omega (arith, h)))

apart_rest_step : (b : Bool) (key : List ℕ) (m : PlainMember) (ms : List PlainMember) → is_named key m.0 ≡ b → Apart (unit_keys (m ∷ ms)) → Apart (unit_keys (remove_first key ms)) → Apart (unit_keys (remove_first key (m ∷ ms)))
apart_rest_step true key m ms n h ih = rw n h.1
apart_rest_step false key m ms n h ih = rw n (each_remove (Differ (units m.0)) key ms h.0, ih)

apart_remove : (key : List ℕ) (ms : List PlainMember) → Apart (unit_keys ms) → Apart (unit_keys (remove_first key ms))
apart_remove key [] h = tt
apart_remove key (m ∷ ms) h = apart_rest_step (is_named key m.0) key m ms refl h (apart_remove key ms h.1)

deep_rest_step : (b : Bool) (key : List ℕ) (m : PlainMember) (ms : List PlainMember) → is_named key m.0 ≡ b → MembersHaveDistinctKeys (members_of (m ∷ ms)) → MembersHaveDistinctKeys (members_of (remove_first key ms)) → MembersHaveDistinctKeys (members_of (remove_first key (m ∷ ms)))
deep_rest_step true key m ms n h ih = rw n h.1
deep_rest_step false key m ms n h ih = rw n (h.0, ih)

deep_remove : (key : List ℕ) (ms : List PlainMember) → MembersHaveDistinctKeys (members_of ms) → MembersHaveDistinctKeys (members_of (remove_first key ms))
deep_remove key [] h = tt
deep_remove key (m ∷ ms) h = deep_rest_step (is_named key m.0) key m ms refl h (deep_remove key ms h.1)

-- an object stays sound when a member is removed
pub sound_remove : (key : List ℕ) (t : PlainTree) → IsSound t → IsSound (without key t)
sound_remove key null h = h
sound_remove key (truth b) h = h
sound_remove key (number s) h = h
sound_remove key (text s) h = h
sound_remove key (list ts) h = h
sound_remove key (members ms) h =
    let l = member_list ms in
    let back : members_of l ≡ ms = members_back ms in
    record {
      spelled = spelled_remove key l (subst AreMembersSpelled (sym back) h.spelled);
      shallow = omega (arith, depth_remove key l 127 (let x : members_depth (members_of l) ≤ 127 = subst (λ y. members_depth y ≤ 127) (sym back) (omega (arith, h.shallow)) in x));
      distinct = (apart_pairs (unit_keys (remove_first key l)) (apart_remove key l (pairs_apart (unit_keys l) (subst (λ y. AreDistinct (map units (keys y))) (sym back) h.distinct.0))), deep_remove key l (subst MembersHaveDistinctKeys (sym back) h.distinct.1));
    }

spelled_append : (ts : List PlainTree) (v : PlainTree) → IsSpelled v → AreItemsSpelled (trees_of ts) → AreItemsSpelled (trees_of (ts ++ v ∷ []))
spelled_append [] v hv h = (hv, tt)
spelled_append (t ∷ ts) v hv h = (h.0, spelled_append ts v hv h.1)

pub depth_append : (ts : List PlainTree) (v : PlainTree) (d : ℕ) → depth v ≤ d → items_depth (trees_of ts) ≤ d → items_depth (trees_of (ts ++ v ∷ [])) ≤ d
depth_append [] v d hv h = omega (arith, hv)
depth_append (t ∷ ts) v d hv h = omega (arith, h, depth_append ts v d hv (omega (arith, h)))

deep_append : (ts : List PlainTree) (v : PlainTree) → HasDistinctKeys v → ItemsHaveDistinctKeys (trees_of ts) → ItemsHaveDistinctKeys (trees_of (ts ++ v ∷ []))
deep_append [] v hv h = (hv, tt)
deep_append (t ∷ ts) v hv h = (h.0, deep_append ts v hv h.1)

-- a list stays sound when a sound value that is not too deep is appended
pub sound_append : (v t : PlainTree) → IsSound t → Fits v → IsSound (and_items (v ∷ []) t)
sound_append v null h fit = h
sound_append v (truth b) h fit = h
sound_append v (number s) h fit = h
sound_append v (text s) h fit = h
sound_append v (members ms) h fit = h
sound_append v (list ts) h (hv, low) =
    let l = item_list ts in
    let back : trees_of l ≡ ts = trees_back ts in
    record {
      spelled = spelled_append l v hv.spelled (subst AreItemsSpelled (sym back) h.spelled);
      shallow = omega (arith, depth_append l v 127 (omega (arith, low)) (let x : items_depth (trees_of l) ≤ 127 = subst (λ y. items_depth y ≤ 127) (sym back) (omega (arith, h.shallow)) in x));
      distinct = deep_append l v hv.distinct (subst ItemsHaveDistinctKeys (sym back) h.distinct);
    }

-- ---- a value that was changed, and a member that was removed

change_step : (b : Bool) (name key : List ℕ) (f : PlainTree → PlainTree) (m : PlainMember) (ms : List PlainMember) → is_named key m.0 ≡ b → (name ≡ key → ⊥) → value_of name (change_first key f ms) ≡ value_of name ms
    → value_of name (change_first key f (m ∷ ms)) ≡ value_of name (m ∷ ms)
change_step true name key f m ms n d ih = let o = other_name name key m.0 d n in rw n (rw o refl)
change_step false name key f m ms n d ih = rw n (skip_step (is_named name m.0) name m (change_first key f ms) ms refl ih)

value_change_other : (name key : List ℕ) (f : PlainTree → PlainTree) (ms : List PlainMember) → (name ≡ key → ⊥) → value_of name (change_first key f ms) ≡ value_of name ms
value_change_other name key f [] d = refl
value_change_other name key f (m ∷ ms) d = change_step (is_named key m.0) name key f m ms refl d (value_change_other name key f ms d)

own_step : (b : Bool) (key : List ℕ) (f : PlainTree → PlainTree) (m : PlainMember) (ms : List PlainMember) → is_named key m.0 ≡ b → value_of key (change_first key f ms) ≡ option_map f (value_of key ms)
    → value_of key (change_first key f (m ∷ ms)) ≡ option_map f (value_of key (m ∷ ms))
own_step true key f m ms n ih = rw n (rw n refl)
own_step false key f m ms n ih = rw n (rw n ih)

value_change : (key : List ℕ) (f : PlainTree → PlainTree) (ms : List PlainMember) → value_of key (change_first key f ms) ≡ option_map f (value_of key ms)
value_change key f [] = refl
value_change key f (m ∷ ms) = own_step (is_named key m.0) key f m ms refl (value_change key f ms)

none_apart : (key u : List ℕ) (ms : List PlainMember) → u ≡ key → Each (Differ u) (unit_keys ms) → value_of key ms ≡ None
none_apart key u [] e h = refl
none_apart key u (m ∷ ms) e h =
    let n : is_named key m.0 ≡ false = from_false (is_named key m.0) (λ t. h.0 (e ∙ sym (named_units key m.0 t))) in
    rw n (none_apart key u ms e h.1)

gone_step : (b : Bool) (key : List ℕ) (m : PlainMember) (ms : List PlainMember) → is_named key m.0 ≡ b → Apart (unit_keys (m ∷ ms)) → value_of key (remove_first key ms) ≡ None → value_of key (remove_first key (m ∷ ms)) ≡ None
gone_step true key m ms n h ih = rw n (none_apart key (units m.0) ms (named_units key m.0 n) h.0)
gone_step false key m ms n h ih = rw n (rw n ih)

value_gone : (key : List ℕ) (ms : List PlainMember) → Apart (unit_keys ms) → value_of key (remove_first key ms) ≡ None
value_gone key [] h = refl
value_gone key (m ∷ ms) h = gone_step (is_named key m.0) key m ms refl h (value_gone key ms h.1)

pub find_change : (key : List ℕ) (f : PlainTree → PlainTree) (t : PlainTree) → find_member key (at_member key f t) ≡ option_map f (find_member key t)
find_change key f null = refl
find_change key f (truth b) = refl
find_change key f (number s) = refl
find_change key f (text s) = refl
find_change key f (list ts) = refl
find_change key f (members ms) = ap (value_of key) (list_of (change_first key f (member_list ms))) ∙ value_change key f (member_list ms)

pub find_change_other : (name key : List ℕ) (f : PlainTree → PlainTree) (t : PlainTree) → (name ≡ key → ⊥) → find_member name (at_member key f t) ≡ find_member name t
find_change_other name key f null d = refl
find_change_other name key f (truth b) d = refl
find_change_other name key f (number s) d = refl
find_change_other name key f (text s) d = refl
find_change_other name key f (list ts) d = refl
find_change_other name key f (members ms) d = ap (value_of name) (list_of (change_first key f (member_list ms))) ∙ value_change_other name key f (member_list ms) d

pub find_removed : (key : List ℕ) (t : PlainTree) → HasDistinctKeys t → find_member key (without key t) ≡ None
find_removed key null h = refl
find_removed key (truth b) h = refl
find_removed key (number s) h = refl
find_removed key (text s) h = refl
find_removed key (list ts) h = refl
find_removed key (members ms) h =
    let l = member_list ms in
    let back : members_of l ≡ ms = members_back ms in
    ap (value_of key) (list_of (remove_first key l)) ∙ value_gone key l (pairs_apart (unit_keys l) (subst (λ y. AreDistinct (map units (keys y))) (sym back) h.0))

-- ---- items

nth_before : (ts : PlainTrees) (v : PlainTree) (i : ℕ) → i < items_length ts → nth_item (trees_of (item_list ts ++ v ∷ [])) i ≡ nth_item ts i
nth_before no_items v i h = absurd (omega arith)
nth_before (item t ts) v zero h = refl
nth_before (item t ts) v (suc i) h = nth_before ts v i (omega arith)

nth_last : (ts : PlainTrees) (v : PlainTree) → nth_item (trees_of (item_list ts ++ v ∷ [])) (items_length ts) ≡ Some v
nth_last no_items v = refl
nth_last (item t ts) v = nth_last ts v

nth_own : (ts : PlainTrees) (i : ℕ) (f : PlainTree → PlainTree) → nth_item (trees_of (change_nth i f (item_list ts))) i ≡ option_map f (nth_item ts i)
nth_own no_items i f = refl
nth_own (item t ts) zero f = refl
nth_own (item t ts) (suc i) f = nth_own ts i f

nth_back : (ts : PlainTrees) (i : ℕ) → nth_item (trees_of (item_list ts)) i ≡ nth_item ts i
nth_back ts i = ap (λ u. nth_item u i) (trees_back ts)

nth_other : (ts : PlainTrees) (i j : ℕ) (f : PlainTree → PlainTree) → (i ≡ j → ⊥) → nth_item (trees_of (change_nth i f (item_list ts))) j ≡ nth_item ts j
nth_other no_items i j f d = refl
nth_other (item t ts) zero zero f d = absurd (d refl)
nth_other (item t ts) zero (suc j) f d = nth_back ts j
nth_other (item t ts) (suc i) zero f d = refl
nth_other (item t ts) (suc i) (suc j) f d = nth_other ts i j f (λ e. d (ap suc e))

pub item_before : (v t : PlainTree) (i : ℕ) → i < items_len t → item_at (and_items (v ∷ []) t) i ≡ item_at t i
item_before v null i h = refl
item_before v (truth b) i h = refl
item_before v (number s) i h = refl
item_before v (text s) i h = refl
item_before v (list ts) i h = nth_before ts v i h
item_before v (members ms) i h = refl

pub item_last : (v t : PlainTree) → IsList t → item_at (and_items (v ∷ []) t) (items_len t) ≡ Some v
item_last v null o = absurd o
item_last v (truth b) o = absurd o
item_last v (number s) o = absurd o
item_last v (text s) o = absurd o
item_last v (list ts) o = nth_last ts v
item_last v (members ms) o = absurd o

pub item_own : (i : ℕ) (f : PlainTree → PlainTree) (t : PlainTree) → item_at (at_item i f t) i ≡ option_map f (item_at t i)
item_own i f null = refl
item_own i f (truth b) = refl
item_own i f (number s) = refl
item_own i f (text s) = refl
item_own i f (list ts) = nth_own ts i f
item_own i f (members ms) = refl

pub item_other : (i j : ℕ) (f : PlainTree → PlainTree) (t : PlainTree) → (i ≡ j → ⊥) → item_at (at_item i f t) j ≡ item_at t j
item_other i j f null d = refl
item_other i j f (truth b) d = refl
item_other i j f (number s) d = refl
item_other i j f (text s) d = refl
item_other i j f (list ts) d = nth_other ts i j f d
item_other i j f (members ms) d = refl
