-- The edits of packing add no other extension than this one to those in use.
use Rattle.std.specs.Prelude.{if◌then◌else◌, unwrap_or, codes}
use Rattle.std.specs.Str.{chars}
use Rattle.std.specs.List.{list_any, filter_map, cons_option}
use Rattle.std.proofs.Common.{◌≡◌, ℕ, Bool, true, false, ◌||◌, ◌&&◌, cond, List, [], ◌∷◌, ◌++◌, Option, Some, None, option_map, Ok, refl, sym, ap, ◌∙◌, subst}
use Rattle.std.proofs.lemmas.List.Folds.{list_any-append}
use Rattle.gp_tree.specs.Plain.{PlainTree, PlainTrees, null, truth, number, text, list, members, no_items, item, no_members, trees_of}
use Rattle.gp_tree.specs.Find.{PlainMember, is_named, item_list, member_list, object_members, find_member}
use Rattle.gp_tree.specs.Anywhere.{own_keys, members_keys_under}
use Rattle.gp_tree.specs.Values.{IsName}
use Rattle.gp_tree.specs.TreeEdits.{set_first, change_first, with_member, at_member, with_items}
use Rattle.gp_tree.proofs.Firsts.{list_of}
use Rattle.gp_tree.proofs.Inner.{members_back, trees_back}
use Rattle.gp_tree.proofs.Edited.{items_of}
use Rattle.gp_tree.proofs.Kept.{find_set, find_change}
use Rattle.gp_fields.specs.Shapes.{a_text}
use Rattle.gp_asset.specs.declared.purpose.Form.TheVariants.{Plain, Any}
use Rattle.gp_rules.specs.declared.fault.AssetFault.TheVariants.{AlreadyPacked, Foreign}
use Rattle.gp_rules.specs.Checks.{Checked, unless}
use Rattle.gp_asset.specs.Extensions.{texts_in, listed, extensions_in_use, is_among, supported}
use Rattle.gp_edits.specs.Changes.{change_each}
use Rattle.gp_edits.specs.Edits.{extension_name, compression_object, compressed, with_two_buffers, with_extension_named}
use Rattle.gp_edits.specs.PackLaws.{UsesOneMore}
use Rattle.gp_edits.specs.declared.compression.Compression.{Compression}
use Rattle.gp_edits.proofs.Members.{IsOwn, IsApart, names_apart, made, changed_is, find_kept, find_set_kept}
use Rattle.gp_edits.proofs.Defaults.{with_default, default_none, default_some}
use Rattle.gp_edits.proofs.Compressions.{given, compressed_is, and_name}
use Rattle.gp_edits.proofs.PackCommon.{two_buffers, with_name, named_is}
use Rattle.gp_edits.proofs.Named.{AreAmong, or_both, same_among, rest_among, still_false, listed_same, under, members_under, keys_of, from_member, items_under, set_no_more}
use Rattle.gp_edits.proofs.Sounds.{a_name}
use Rattle.gp_edits.proofs.KeyNames.{extensions_key, used_key, required_key, buffers_key, views_key, used_is_own, required_is_own, buffers_is_own, name_is_own}

-- ---- lists of which one has nothing more than the other, save this name

abbrev pub HasOneMore : List (List ℕ) → List (List ℕ) → Type 0
HasOneMore us vs = AreAmong us (extension_name ∷ vs)

or_shared : (n a b c d : Bool) → (a ≡ true → (n || c) ≡ true) → (b ≡ true → (n || d) ≡ true) → (a || b) ≡ true → (n || (c || d)) ≡ true
or_shared true a b c d f g h = refl
or_shared false a b c d f g h = or_both a b c d f g h

or_absorbed : (n a b : Bool) → (a ≡ true → (n || b) ≡ true) → (n || a) ≡ true → (n || b) ≡ true
or_absorbed true a b f h = refl
or_absorbed false a b f h = f h

pub same_one : (us : List (List ℕ)) → HasOneMore us us
same_one us = rest_among extension_name us us (same_among us)

pub both_one : (us vs ws xs : List (List ℕ)) → HasOneMore us ws → HasOneMore vs xs → HasOneMore (us ++ vs) (ws ++ xs)
both_one us vs ws xs f g q h =
    ap (λ b. q extension_name || b) (list_any-append q ws xs)
    ∙ or_shared (q extension_name) (list_any q us) (list_any q vs) (list_any q ws) (list_any q xs) (f q) (g q) (sym (list_any-append q us vs) ∙ h)

-- one more twice is one more
pub one_after_one : (us vs ws : List (List ℕ)) → HasOneMore us vs → HasOneMore vs ws → HasOneMore us ws
one_after_one us vs ws f g q h = or_absorbed (q extension_name) (list_any q vs) (list_any q ws) (g q) (f q h)

-- ---- the keys under `extensions`

-- of a value: its own keys, and those under it
abbrev pub GainsOne : PlainTree → PlainTree → Type 0
GainsOne w v = HasOneMore (under w) (under v) × HasOneMore (keys_of (object_members w)) (keys_of (object_members v))

pub gains_same : (t : PlainTree) → GainsOne t t
gains_same t = (same_one (under t), same_one (keys_of (object_members t)))

own_one : (b : Bool) (us vs : List (List ℕ)) → HasOneMore us vs → HasOneMore (cond b us []) (cond b vs [])
own_one true us vs h = h
own_one false us vs h = same_one []

from_one : (s : List ℕ) (w v : PlainTree) → GainsOne w v → HasOneMore (from_member s w) (from_member s v)
from_one s w v h =
    both_one (own_keys extensions_key s w) (under w) (own_keys extensions_key s v) (under v)
    (own_one (is_named extensions_key s) (keys_of (object_members w)) (keys_of (object_members v)) h.1) h.0

-- a member's value changed
change_step : (b : Bool) (k : List ℕ) (f : PlainTree → PlainTree) (m : PlainMember) (ms : List PlainMember) → is_named k m.0 ≡ b → GainsOne (f m.1) m.1
    → HasOneMore (members_under (change_first k f ms)) (members_under ms) → HasOneMore (members_under (change_first k f (m ∷ ms))) (members_under (m ∷ ms))
change_step true k f m ms n h ih =
    subst (λ b. HasOneMore (members_under (if b then (m.0, f m.1) ∷ ms else m ∷ change_first k f ms)) (members_under (m ∷ ms))) (sym n)
    (both_one (from_member m.0 (f m.1)) (members_under ms) (from_member m.0 m.1) (members_under ms) (from_one m.0 (f m.1) m.1 h) (same_one (members_under ms)))
change_step false k f m ms n h ih =
    subst (λ b. HasOneMore (members_under (if b then (m.0, f m.1) ∷ ms else m ∷ change_first k f ms)) (members_under (m ∷ ms))) (sym n)
    (both_one (from_member m.0 m.1) (members_under (change_first k f ms)) (from_member m.0 m.1) (members_under ms) (same_one (from_member m.0 m.1)) ih)

members_changed : (k : List ℕ) (f : PlainTree → PlainTree) (ms : List PlainMember) → ((v : PlainTree) → GainsOne (f v) v) → HasOneMore (members_under (change_first k f ms)) (members_under ms)
members_changed k f [] h = same_one []
members_changed k f (m ∷ ms) h = change_step (is_named k m.0) k f m ms refl (h m.1) (members_changed k f ms h)

pub changed_one : (k : List ℕ) (f : PlainTree → PlainTree) (t : PlainTree) → ((v : PlainTree) → GainsOne (f v) v) → HasOneMore (under (at_member k f t)) (under t)
changed_one k f null h = same_one []
changed_one k f (truth b) h = same_one []
changed_one k f (number s) h = same_one []
changed_one k f (text s) h = same_one []
changed_one k f (list ts) h = same_one (under (list ts))
changed_one k f (members ms) h =
    subst (λ y. HasOneMore (members_under (change_first k f (member_list ms))) (members_keys_under extensions_key y)) (members_back ms) (members_changed k f (member_list ms) h)

-- a member set whose value brings no more than the name
abbrev pub BringsOne : PlainTree → Type 0
BringsOne v = HasOneMore (under v) [] × HasOneMore (keys_of (object_members v)) []

from_new : (s : List ℕ) (v : PlainTree) → BringsOne v → HasOneMore (from_member s v) []
from_new s v h = both_one (own_keys extensions_key s v) (under v) [] [] (own_case (is_named extensions_key s)) h.0
  where
    own_case : (b : Bool) → HasOneMore (cond b (keys_of (object_members v)) []) []
    own_case true = h.1
    own_case false = same_one []

-- what is new, before what stays
new_before : (us vs ws xs : List (List ℕ)) → HasOneMore us [] → HasOneMore vs xs → HasOneMore (us ++ vs) (ws ++ xs)
new_before us vs ws xs f g = both_one us vs ws xs (λ q h. or_absorbed (q extension_name) false (list_any q ws) (λ e. absurd (cc)) (f q h)) g

set_step : (b : Bool) (k : List ℕ) (v : PlainTree) (m : PlainMember) (ms : List PlainMember) → is_named k m.0 ≡ b → BringsOne v
    → HasOneMore (members_under (set_first k v ms)) (members_under ms) → HasOneMore (members_under (set_first k v (m ∷ ms))) (members_under (m ∷ ms))
set_step true k v m ms n h ih =
    subst (λ b. HasOneMore (members_under (if b then (m.0, v) ∷ ms else m ∷ set_first k v ms)) (members_under (m ∷ ms))) (sym n)
    (new_before (from_member m.0 v) (members_under ms) (from_member m.0 m.1) (members_under ms) (from_new m.0 v h) (same_one (members_under ms)))
set_step false k v m ms n h ih =
    subst (λ b. HasOneMore (members_under (if b then (m.0, v) ∷ ms else m ∷ set_first k v ms)) (members_under (m ∷ ms))) (sym n)
    (both_one (from_member m.0 m.1) (members_under (set_first k v ms)) (from_member m.0 m.1) (members_under ms) (same_one (from_member m.0 m.1)) ih)

members_set : (k : List ℕ) (v : PlainTree) (ms : List PlainMember) → BringsOne v → HasOneMore (members_under (set_first k v ms)) (members_under ms)
members_set k v [] h = new_before (from_member k v) [] [] [] (from_new k v h) (same_one [])
members_set k v (m ∷ ms) h = set_step (is_named k m.0) k v m ms refl h (members_set k v ms h)

pub set_one : (k : List ℕ) (v t : PlainTree) → BringsOne v → HasOneMore (under (with_member k v t)) (under t)
set_one k v null h = same_one []
set_one k v (truth b) h = same_one []
set_one k v (number s) h = same_one []
set_one k v (text s) h = same_one []
set_one k v (list ts) h = same_one (under (list ts))
set_one k v (members ms) h =
    subst (λ y. HasOneMore (members_under (set_first k v (member_list ms))) (members_keys_under extensions_key y)) (members_back ms) (members_set k v (member_list ms) h)

default_case : (k : List ℕ) (change : PlainTree → PlainTree) (default t : PlainTree) (found : Option PlainTree) → find_member k t ≡ found → BringsOne (change default)
    → ((v : PlainTree) → GainsOne (change v) v) → HasOneMore (under (with_default k change default t)) (under t)
default_case k change default t None e made h = subst (λ u. HasOneMore (under u) (under t)) (sym (default_none k change default t e)) (set_one k (change default) t made)
default_case k change default t (Some v) e made h = subst (λ u. HasOneMore (under u) (under t)) (sym (default_some k change default v t e)) (changed_one k change t h)

pub default_one : (k : List ℕ) (change : PlainTree → PlainTree) (default t : PlainTree) → BringsOne (change default)
    → ((v : PlainTree) → GainsOne (change v) v) → HasOneMore (under (with_default k change default t)) (under t)
default_one k change default t made h = default_case k change default t (find_member k t) refl made h

-- ---- a view

key_step : (b : Bool) (k : List ℕ) (v : PlainTree) (m : PlainMember) (ms : List PlainMember) → is_named k m.0 ≡ b
    → AreAmong (keys_of (set_first k v ms)) (k ∷ keys_of ms) → AreAmong (keys_of (set_first k v (m ∷ ms))) (k ∷ keys_of (m ∷ ms))
key_step true k v m ms n ih =
    subst (λ b. AreAmong (keys_of (if b then (m.0, v) ∷ ms else m ∷ set_first k v ms)) (k ∷ keys_of (m ∷ ms))) (sym n) (rest_among k (m.0 ∷ keys_of ms) (m.0 ∷ keys_of ms) (same_among (m.0 ∷ keys_of ms)))
key_step false k v m ms n ih =
    subst (λ b. AreAmong (keys_of (if b then (m.0, v) ∷ ms else m ∷ set_first k v ms)) (k ∷ keys_of (m ∷ ms))) (sym n) (λ q h. swapped (q k) (q m.0) (list_any q (keys_of (set_first k v ms))) (list_any q (keys_of ms)) (ih q) h)
  where
    swapped : (a b c d : Bool) → (c ≡ true → (a || d) ≡ true) → (b || c) ≡ true → (a || (b || d)) ≡ true
    swapped true b c d f h = refl
    swapped false true c d f h = refl
    swapped false false c d f h = f h

keys_set : (k : List ℕ) (v : PlainTree) (ms : List PlainMember) → AreAmong (keys_of (set_first k v ms)) (k ∷ keys_of ms)
keys_set k v [] = same_among (k ∷ [])
keys_set k v (m ∷ ms) = key_step (is_named k m.0) k v m ms refl (keys_set k v ms)

own_key : (v t : PlainTree) → HasOneMore (keys_of (object_members (with_member extension_name v t))) (keys_of (object_members t))
own_key v null = same_one []
own_key v (truth b) = same_one []
own_key v (number s) = same_one []
own_key v (text s) = same_one []
own_key v (list ts) = same_one []
own_key v (members ms) =
    let l = member_list ms in
    subst (λ y. HasOneMore (keys_of y) (keys_of l)) (sym (list_of (set_first extension_name v l))) (keys_set extension_name v l)

pub given_one : (object t : PlainTree) → under object ≡ [] → GainsOne (given object t) t
given_one object t none =
    let h = set_no_more extension_name object t (names_apart extensions_key extension_name refl) name_is_own none in
    (rest_among extension_name (under (given object t)) (under t) h, own_key object t)

object_none : (c : Compression) → under (compression_object c) ≡ []
unfolding chars
object_none c = refl

pub compressed_one : (c : Compression) (v : PlainTree) → HasOneMore (under (compressed c v)) (under v)
compressed_one c v =
    let object = compression_object c in
    subst (λ u. HasOneMore (under u) (under v)) (sym (compressed_is c v))
    (default_one extensions_key (given object) (members no_members) v (given_one object (members no_members) (object_none c)) (λ w. given_one object w (object_none c)))

-- ---- the views

items_one : {A : Type 0} (change : A → PlainTree → PlainTree) (values : List A) (ts : PlainTrees)
    → ((a : A) (v : PlainTree) → HasOneMore (under (change a v)) (under v)) → HasOneMore (items_under (trees_of (change_each change values (item_list ts)))) (items_under ts)
items_one change [] ts h = subst (λ us. HasOneMore (items_under us) (items_under ts)) (sym (trees_back ts)) (same_one (items_under ts))
items_one change (a ∷ values) no_items h = same_one []
items_one change (a ∷ values) (item t ts) h =
    both_one (under (change a t)) (items_under (trees_of (change_each change values (item_list ts)))) (under t) (items_under ts) (h a t) (items_one change values ts h)

list_one : {A : Type 0} (change : A → PlainTree → PlainTree) (values : List A)
    → ((a : A) (v : PlainTree) → HasOneMore (under (change a v)) (under v)) → (t : PlainTree) → GainsOne (with_items (change_each change values) t) t
list_one change values h null = gains_same null
list_one change values h (truth b) = gains_same (truth b)
list_one change values h (number s) = gains_same (number s)
list_one change values h (text s) = gains_same (text s)
list_one change values h (members ms) = gains_same (members ms)
list_one change values h (list ts) = (items_one change values ts h, same_one [])

-- ---- the extensions in use

pub in_use_one : (u t : PlainTree) → HasOneMore (listed used_key u) (listed used_key t) → HasOneMore (listed required_key u) (listed required_key t)
    → HasOneMore (under u) (under t) → HasOneMore (extensions_in_use u) (extensions_in_use t)
unfolding extensions_in_use
in_use_one u t used required keys =
    both_one (listed used_key u ++ listed required_key u) (under u) (listed used_key t ++ listed required_key t) (under t)
    (both_one (listed used_key u) (listed required_key u) (listed used_key t) (listed required_key t) used required) keys

listed_kept : (key : List ℕ) (u t : PlainTree) → find_member key u ≡ find_member key t → HasOneMore (listed key u) (listed key t)
listed_kept key u t e = rest_among extension_name (listed key u) (listed key t) (listed_same key u t e)

find_changed_kept : (j k : List ℕ) (f : PlainTree → PlainTree) (t : PlainTree) → IsApart j k → find_member j (at_member k f t) ≡ find_member j t
find_changed_kept j k f t apart = ap (find_member j) (changed_is k f t) ∙ find_kept j k (made f) t apart

pub views_one : {A : Type 0} (change : A → PlainTree → PlainTree) (values : List A) (t : PlainTree)
    → ((a : A) (v : PlainTree) → HasOneMore (under (change a v)) (under v))
    → HasOneMore (extensions_in_use (at_member views_key (with_items (change_each change values)) t)) (extensions_in_use t)
views_one change values t h =
    let f = with_items (change_each change values) in
    let u = at_member views_key f t in
    in_use_one u t
    (listed_kept used_key u t (find_changed_kept used_key views_key f t (names_apart used_key views_key refl)))
    (listed_kept required_key u t (find_changed_kept required_key views_key f t (names_apart required_key views_key refl)))
    (changed_one views_key f t (list_one change values h))

two_bring_one : (length fallback : ℕ) → BringsOne (two_buffers length fallback)
unfolding chars
two_bring_one length fallback = (same_among (extension_name ∷ []), same_one [])

pub two_buffers_one : (length fallback : ℕ) (t : PlainTree) → HasOneMore (extensions_in_use (with_two_buffers length fallback t)) (extensions_in_use t)
unfolding with_two_buffers
two_buffers_one length fallback t =
    let b = two_buffers length fallback in
    let u = with_member buffers_key b t in
    in_use_one u t
    (listed_kept used_key u t (find_set_kept used_key buffers_key b t (names_apart used_key buffers_key refl) buffers_is_own))
    (listed_kept required_key u t (find_set_kept required_key buffers_key b t (names_apart required_key buffers_key refl) buffers_is_own))
    (set_one buffers_key b t (two_bring_one length fallback))

-- ---- the names

texts_step : (o : Option (List ℕ)) (us vs : List (List ℕ)) → HasOneMore us vs → HasOneMore (cons_option o us) (cons_option o vs)
texts_step None us vs h = h
texts_step (Some s) us vs h = both_one (s ∷ []) us (s ∷ []) vs (same_one (s ∷ [])) h

texts_more : (ts : List PlainTree) → HasOneMore (filter_map a_text (ts ++ text extension_name ∷ [])) (filter_map a_text ts)
texts_more [] = same_among (extension_name ∷ [])
texts_more (t ∷ ts) = texts_step (a_text t) (filter_map a_text (ts ++ text extension_name ∷ [])) (filter_map a_text ts) (texts_more ts)

texts_one : (t : PlainTree) → HasOneMore (texts_in (Some (and_name t))) (texts_in (Some t))
texts_one null = same_one []
texts_one (truth b) = same_one []
texts_one (number s) = same_one []
texts_one (text s) = same_one []
texts_one (members ms) = same_one []
texts_one (list ts) =
    subst (λ us. HasOneMore (filter_map a_text us) (filter_map a_text (item_list ts))) (sym (items_of (item_list ts ++ text extension_name ∷ []))) (texts_more (item_list ts))

-- what is set is found, but in a tree that is no object
set_found_or_none : (P : Option PlainTree → Type 0) (key : List ℕ) (v t : PlainTree) → IsName key → P None → P (Some v) → P (find_member key (with_member key v t))
set_found_or_none P key v null name n s = n
set_found_or_none P key v (truth b) name n s = n
set_found_or_none P key v (number d) name n s = n
set_found_or_none P key v (text d) name n s = n
set_found_or_none P key v (list ts) name n s = n
set_found_or_none P key v (members ms) name n s = subst P (sym (find_set key v (members ms) tt name)) s

listed_case : (key : List ℕ) (t : PlainTree) (found : Option PlainTree) → find_member key t ≡ found → IsName key → HasOneMore (texts_in (find_member key (with_name key t))) (texts_in found)
listed_case key t None e name =
    subst (λ u. HasOneMore (texts_in (find_member key u)) []) (sym (default_none key and_name (list no_items) t e))
    (set_found_or_none (λ found. HasOneMore (texts_in found) []) key (and_name (list no_items)) t name (same_one []) (same_among (extension_name ∷ [])))
listed_case key t (Some v) e name =
    subst (λ found. HasOneMore (texts_in found) (texts_in (Some v)))
    (sym (ap (find_member key) (default_some key and_name (list no_items) v t e) ∙ find_change key and_name t ∙ ap (option_map and_name) e)) (texts_one v)

listed_one : (key : List ℕ) (t : PlainTree) → IsName key → HasOneMore (listed key (with_name key t)) (listed key t)
listed_one key t name = listed_case key t (find_member key t) refl name

under_named : (ts : List PlainTree) → items_under (trees_of (ts ++ text extension_name ∷ [])) ≡ items_under (trees_of ts)
under_named [] = refl
under_named (t ∷ ts) = ap (λ us. under t ++ us) (under_named ts)

and_name_gains : (t : PlainTree) → GainsOne (and_name t) t
and_name_gains null = gains_same null
and_name_gains (truth b) = gains_same (truth b)
and_name_gains (number s) = gains_same (number s)
and_name_gains (text s) = gains_same (text s)
and_name_gains (members ms) = gains_same (members ms)
and_name_gains (list ts) =
    let e : items_under (trees_of (item_list ts ++ text extension_name ∷ [])) ≡ items_under ts = under_named (item_list ts) ∙ ap items_under (trees_back ts) in
    (subst (λ us. HasOneMore us (items_under ts)) (sym e) (same_one (items_under ts)), same_one [])

under_name : (key : List ℕ) (t : PlainTree) → HasOneMore (under (with_name key t)) (under t)
under_name key t = default_one key and_name (list no_items) t (same_one [], same_one []) and_name_gains

name_kept : (j k : List ℕ) (t : PlainTree) → IsApart j k → IsOwn k → HasOneMore (listed j (with_name k t)) (listed j t)
name_kept j k t apart own = listed_kept j (with_name k t) t (find_set_kept j k (and_name (unwrap_or (find_member k t) (list no_items))) t apart own)

pub names_one : (t : PlainTree) → HasOneMore (extensions_in_use (with_extension_named t)) (extensions_in_use t)
names_one t =
    let u = with_name used_key t in
    let w = with_name required_key u in
    let first = in_use_one u t (listed_one used_key t (a_name used_key refl)) (name_kept required_key used_key t (names_apart required_key used_key refl) used_is_own) (under_name used_key t) in
    let second = in_use_one w u (name_kept used_key required_key u (names_apart used_key required_key refl) required_is_own) (listed_one required_key u (a_name required_key refl)) (under_name required_key u) in
    subst (λ x. HasOneMore (extensions_in_use x) (extensions_in_use t)) (sym (named_is t)) (one_after_one (extensions_in_use w) (extensions_in_use u) (extensions_in_use t) second first)

-- ---- what was supported as a plain asset stays supported

khronos_unnamed : is_named (codes "KHR_meshopt_compression") extension_name ≡ false
unfolding chars
khronos_unnamed = refl

foreign_or_not : (a b : Bool) (us vs : List (List ℕ)) → is_among (codes "EXT_meshopt_compression") us ≡ a → is_among (codes "KHR_meshopt_compression") us ≡ b
    → supported Plain us ≡ Ok vs → is_among (codes "KHR_meshopt_compression") us ≡ false
unfolding supported
foreign_or_not true b us vs d e h =
    let x : ◌≡◌ {A = Checked (List (List ℕ))} (unless (true && true) AlreadyPacked (unless (is_among (codes "KHR_meshopt_compression") us) Foreign (Ok us))) (Ok vs) =
    subst (λ b. unless (true && b) AlreadyPacked (unless (is_among (codes "KHR_meshopt_compression") us) Foreign (Ok us)) ≡ Ok vs) d h in
    absurd (cc)
foreign_or_not false true us vs d e h =
    let x : ◌≡◌ {A = Checked (List (List ℕ))} (unless (true && false) AlreadyPacked (unless true Foreign (Ok us))) (Ok vs) =
    subst (λ b. unless (true && false) AlreadyPacked (unless b Foreign (Ok us)) ≡ Ok vs) e (subst (λ b. unless (true && b) AlreadyPacked (unless (is_among (codes "KHR_meshopt_compression") us) Foreign (Ok us)) ≡ Ok vs) d h) in
    absurd (cc)
foreign_or_not false false us vs d e h = e

pub supported_one : (us ws vs : List (List ℕ)) → HasOneMore ws us → supported Plain us ≡ Ok vs → supported Any ws ≡ Ok ws
unfolding supported
supported_one us ws vs among h =
    let khronos = codes "KHR_meshopt_compression" in
    let none : list_any (is_named khronos) (extension_name ∷ us) ≡ false =
    ap (λ b. b || is_among khronos us) khronos_unnamed ∙ foreign_or_not (is_among (codes "EXT_meshopt_compression") us) (is_among khronos us) us vs refl refl h in
    ap (λ b. unless b Foreign (Ok ws)) (still_false (list_any (is_named khronos) (extension_name ∷ us)) (is_among khronos ws) (among (is_named khronos)) none)

pub one_more : (u t : PlainTree) → HasOneMore (extensions_in_use u) (extensions_in_use t) → UsesOneMore u t
one_more u t h = record { among = λ name. h (is_named name); supported = λ used. supported_one (extensions_in_use t) (extensions_in_use u) used h }
