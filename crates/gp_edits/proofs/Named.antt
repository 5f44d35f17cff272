-- The edits add no extension to those in use.
use Rattle.std.specs.Prelude.{if◌then◌else◌, codes}
use Rattle.std.specs.List.{list_any, filter_map, cons_option}
use Rattle.std.proofs.Common.{◌≡◌, ℕ, Bool, true, false, not, ◌||◌, cond, List, [], ◌∷◌, ◌++◌, map, filter, Option, Some, None, Ok, refl, sym, ap, ◌∙◌, subst}
use Rattle.std.proofs.lemmas.List.Folds.{list_any-append}
use Rattle.gp_tree.specs.Plain.{PlainTree, PlainTrees, null, truth, number, text, list, members, no_items, item, trees_of, members_of}
use Rattle.gp_tree.specs.Sound.{HasDistinctKeys}
use Rattle.gp_tree.specs.Find.{PlainMember, is_named, item_list, member_list, array_items, object_members, find_member}
use Rattle.gp_tree.specs.Anywhere.{own_keys, keys_under, items_keys_under, members_keys_under}
use Rattle.gp_tree.specs.TreeEdits.{set_first, with_member, without, at_member, with_items}
use Rattle.gp_tree.proofs.Firsts.{list_of}
use Rattle.gp_tree.proofs.Inner.{members_back, trees_back}
use Rattle.gp_tree.proofs.Edited.{items_of}
use Rattle.gp_fields.specs.Shapes.{a_text}
use Rattle.gp_asset.specs.declared.purpose.Form.TheVariants.{Any}
use Rattle.gp_rules.specs.declared.fault.AssetFault.TheVariants.{Foreign}
use Rattle.gp_rules.specs.Checks.{Checked, unless}
use Rattle.gp_asset.specs.Extensions.{texts_in, listed, extensions_in_use, is_among, supported}
use Rattle.gp_edits.specs.Changes.{whole_number, is_emptied, is_text_named, without_text, change_each}
use Rattle.gp_edits.specs.Edits.{plain_view, with_plain_views, extension_name, placed, without_compression, sized_buffer, with_one_buffer, without_extension_named}
use Rattle.gp_edits.specs.NameLaws.{UsesNoMore}
use Rattle.gp_edits.proofs.Members.{IsOwn, IsApart, HasOnce, names_apart, put, alter_first, alter, gone, made, after, once, once_kept, once_removed, once_changed, removed_is, changed_is, find_kept, find_set_kept, find_altered}
use Rattle.gp_edits.proofs.Emptied.{unless_emptied, emptied_is}
use Rattle.gp_edits.proofs.CommonRoots.{names_out_are, once_one_buffer}
use Rattle.gp_edits.proofs.KeyNames.{extensions_key, used_key, required_key, buffers_key, views_key, buffer_key, offset_key, length_key, buffers_is_own, buffer_is_own, offset_is_own, length_is_own}

-- ---- lists of which one has nothing that the other hasn't, whatever is asked

abbrev pub AreAmong : List (List ℕ) → List (List ℕ) → Type 0
AreAmong us vs = (q : List ℕ → Bool) → list_any q us ≡ true → list_any q vs ≡ true

pub or_right : (a b : Bool) → b ≡ true → (a || b) ≡ true
or_right true b h = refl
or_right false b h = h

pub or_both : (a b c d : Bool) → (a ≡ true → c ≡ true) → (b ≡ true → d ≡ true) → (a || b) ≡ true → (c || d) ≡ true
or_both true b c d f g h = ap (λ x. x || d) (f refl)
or_both false b c d f g h = or_right c d (g h)

pub same_among : (us : List (List ℕ)) → AreAmong us us
same_among us q h = h

pub none_among : (vs : List (List ℕ)) → AreAmong [] vs
none_among vs q h = absurd (cc)

pub both_among : (us vs ws xs : List (List ℕ)) → AreAmong us ws → AreAmong vs xs → AreAmong (us ++ vs) (ws ++ xs)
both_among us vs ws xs f g q h = list_any-append q ws xs ∙ or_both (list_any q us) (list_any q vs) (list_any q ws) (list_any q xs) (f q) (g q) (sym (list_any-append q us vs) ∙ h)

pub later_among : (us vs : List (List ℕ)) → AreAmong vs (us ++ vs)
later_among us vs q h = list_any-append q us vs ∙ or_right (list_any q us) (list_any q vs) h

pub rest_among : (k : List ℕ) (us vs : List (List ℕ)) → AreAmong us vs → AreAmong us (k ∷ vs)
rest_among k us vs f q h = or_right (q k) (list_any q vs) (f q h)

pub more_among : (k : List ℕ) (us vs : List (List ℕ)) → AreAmong us vs → AreAmong (k ∷ us) (k ∷ vs)
more_among k us vs f q h = or_both (q k) (list_any q us) (q k) (list_any q vs) (λ e. e) (f q) h

-- ---- the keys under `extensions`

abbrev pub under : PlainTree → List (List ℕ)
under t = keys_under extensions_key t

abbrev pub members_under : List PlainMember → List (List ℕ)
members_under ms = members_keys_under extensions_key (members_of ms)

abbrev pub keys_of : List PlainMember → List (List ℕ)
keys_of ms = map (λ (m : PlainMember). m.0) ms

abbrev pub from_member : List ℕ → PlainTree → List (List ℕ)
from_member s v = own_keys extensions_key s v ++ under v

-- a value that has no key, of its own or under `extensions`, that the other hasn't
abbrev pub HasNoMore : PlainTree → PlainTree → Type 0
HasNoMore w v = AreAmong (under w) (under v) × AreAmong (keys_of (object_members w)) (keys_of (object_members v))

abbrev NoMore : Option PlainTree → PlainTree → Type 0
NoMore None v = Unit {0}
NoMore (Some w) v = HasNoMore w v

own_among : (b : Bool) (w v : PlainTree) → AreAmong (keys_of (object_members w)) (keys_of (object_members v))
    → AreAmong (cond b (keys_of (object_members w)) []) (cond b (keys_of (object_members v)) [])
own_among true w v h = h
own_among false w v h = same_among []

put_under : (s : List ℕ) (o : Option PlainTree) (v : PlainTree) (ms : List PlainMember) → NoMore o v
    → AreAmong (members_under (put s o ms)) (members_under ((s, v) ∷ ms))
put_under s None v ms h = later_among (from_member s v) (members_under ms)
put_under s (Some w) v ms h =
    both_among (from_member s w) (members_under ms) (from_member s v) (members_under ms)
    (both_among (own_keys extensions_key s w) (under w) (own_keys extensions_key s v) (under v) (own_among (is_named extensions_key s) w v h.1) h.0)
    (same_among (members_under ms))

put_keys : (s : List ℕ) (o : Option PlainTree) (v : PlainTree) (ms : List PlainMember) → AreAmong (keys_of (put s o ms)) (keys_of ((s, v) ∷ ms))
put_keys s None v ms = rest_among s (keys_of ms) (keys_of ms) (same_among (keys_of ms))
put_keys s (Some w) v ms = same_among (s ∷ keys_of ms)

under_step : (b : Bool) (k : List ℕ) (g : PlainTree → Option PlainTree) (m : PlainMember) (ms : List PlainMember) → is_named k m.0 ≡ b
    → NoMore (g m.1) m.1 → AreAmong (members_under (alter_first k g ms)) (members_under ms)
    → AreAmong (members_under (alter_first k g (m ∷ ms))) (members_under (m ∷ ms))
under_step true k g m ms n h ih = subst (λ b. AreAmong (members_under (if b then put m.0 (g m.1) ms else m ∷ alter_first k g ms)) (members_under (m ∷ ms))) (sym n) (put_under m.0 (g m.1) m.1 ms h)
under_step false k g m ms n h ih =
    subst (λ b. AreAmong (members_under (if b then put m.0 (g m.1) ms else m ∷ alter_first k g ms)) (members_under (m ∷ ms))) (sym n)
    (both_among (from_member m.0 m.1) (members_under (alter_first k g ms)) (from_member m.0 m.1) (members_under ms) (same_among (from_member m.0 m.1)) ih)

members_no_more : (k : List ℕ) (g : PlainTree → Option PlainTree) (ms : List PlainMember) → ((v : PlainTree) → NoMore (g v) v)
    → AreAmong (members_under (alter_first k g ms)) (members_under ms)
members_no_more k g [] h = same_among []
members_no_more k g (m ∷ ms) h = under_step (is_named k m.0) k g m ms refl (h m.1) (members_no_more k g ms h)

keys_step : (b : Bool) (k : List ℕ) (g : PlainTree → Option PlainTree) (m : PlainMember) (ms : List PlainMember) → is_named k m.0 ≡ b
    → AreAmong (keys_of (alter_first k g ms)) (keys_of ms) → AreAmong (keys_of (alter_first k g (m ∷ ms))) (keys_of (m ∷ ms))
keys_step true k g m ms n ih = subst (λ b. AreAmong (keys_of (if b then put m.0 (g m.1) ms else m ∷ alter_first k g ms)) (keys_of (m ∷ ms))) (sym n) (put_keys m.0 (g m.1) m.1 ms)
keys_step false k g m ms n ih =
    subst (λ b. AreAmong (keys_of (if b then put m.0 (g m.1) ms else m ∷ alter_first k g ms)) (keys_of (m ∷ ms))) (sym n) (more_among m.0 (keys_of (alter_first k g ms)) (keys_of ms) ih)

keys_no_more : (k : List ℕ) (g : PlainTree → Option PlainTree) (ms : List PlainMember) → AreAmong (keys_of (alter_first k g ms)) (keys_of ms)
keys_no_more k g [] = same_among []
keys_no_more k g (m ∷ ms) = keys_step (is_named k m.0) k g m ms refl (keys_no_more k g ms)

no_more_same : (t : PlainTree) → HasNoMore t t
no_more_same t = (same_among (under t), same_among (keys_of (object_members t)))

pub altered_no_more : (k : List ℕ) (g : PlainTree → Option PlainTree) (t : PlainTree) → ((v : PlainTree) → NoMore (g v) v) → HasNoMore (alter k g t) t
altered_no_more k g null h = no_more_same null
altered_no_more k g (truth b) h = no_more_same (truth b)
altered_no_more k g (number s) h = no_more_same (number s)
altered_no_more k g (text s) h = no_more_same (text s)
altered_no_more k g (list ts) h = no_more_same (list ts)
altered_no_more k g (members ms) h =
    let l = member_list ms in (
      subst (λ y. AreAmong (members_under (alter_first k g l)) (members_keys_under extensions_key y)) (members_back ms) (members_no_more k g l h),
      subst (λ y. AreAmong (keys_of y) (keys_of l)) (sym (list_of (alter_first k g l))) (keys_no_more k g l),
    )

removed_no_more : (k : List ℕ) (t : PlainTree) → HasNoMore (without k t) t
removed_no_more k t = subst (λ u. HasNoMore u t) (sym (removed_is k t)) (altered_no_more k gone t (λ v. tt))

unless_case : (b : Bool) (f : PlainTree → PlainTree) (v : PlainTree) → is_emptied v (f v) ≡ b → HasNoMore (f v) v → NoMore (unless_emptied f v) v
unless_case true f v e h = subst (λ b. NoMore (if b then None else Some (f v)) v) (sym e) tt
unless_case false f v e h = subst (λ b. NoMore (if b then None else Some (f v)) v) (sym e) h

unless_no_more : (f : PlainTree → PlainTree) → ((v : PlainTree) → HasNoMore (f v) v) → (v : PlainTree) → NoMore (unless_emptied f v) v
unless_no_more f h v = unless_case (is_emptied v (f v)) f v refl (h v)

-- a member that brings no such key
from_none : (s : List ℕ) (v : PlainTree) → is_named extensions_key s ≡ false → under v ≡ [] → from_member s v ≡ []
from_none s v n e = ap (λ b. cond b (keys_of (object_members v)) [] ++ under v) n ∙ e

set_step : (b : Bool) (k : List ℕ) (v : PlainTree) (m : PlainMember) (ms : List PlainMember) → is_named k m.0 ≡ b
    → IsApart extensions_key k → under v ≡ [] → AreAmong (members_under (set_first k v ms)) (members_under ms)
    → AreAmong (members_under (set_first k v (m ∷ ms))) (members_under (m ∷ ms))
set_step true k v m ms n apart e ih =
    subst (λ b. AreAmong (members_under (if b then (m.0, v) ∷ ms else m ∷ set_first k v ms)) (members_under (m ∷ ms))) (sym n)
    (subst (λ us. AreAmong (us ++ members_under ms) (members_under (m ∷ ms))) (sym (from_none m.0 v (apart m.0 n) e)) (later_among (from_member m.0 m.1) (members_under ms)))
set_step false k v m ms n apart e ih =
    subst (λ b. AreAmong (members_under (if b then (m.0, v) ∷ ms else m ∷ set_first k v ms)) (members_under (m ∷ ms))) (sym n)
    (both_among (from_member m.0 m.1) (members_under (set_first k v ms)) (from_member m.0 m.1) (members_under ms) (same_among (from_member m.0 m.1)) ih)

members_set : (k : List ℕ) (v : PlainTree) (ms : List PlainMember) → IsApart extensions_key k → IsOwn k → under v ≡ []
    → AreAmong (members_under (set_first k v ms)) (members_under ms)
members_set k v [] apart own e = subst (λ us. AreAmong (us ++ []) []) (sym (from_none k v (apart k own) e)) (same_among [])
members_set k v (m ∷ ms) apart own e = set_step (is_named k m.0) k v m ms refl apart e (members_set k v ms apart own e)

pub set_no_more : (k : List ℕ) (v t : PlainTree) → IsApart extensions_key k → IsOwn k → under v ≡ []
    → AreAmong (under (with_member k v t)) (under t)
set_no_more k v null apart own e = same_among []
set_no_more k v (truth b) apart own e = same_among []
set_no_more k v (number s) apart own e = same_among []
set_no_more k v (text s) apart own e = same_among []
set_no_more k v (list ts) apart own e = same_among (under (list ts))
set_no_more k v (members ms) apart own e =
    subst (λ y. AreAmong (members_under (set_first k v (member_list ms))) (members_keys_under extensions_key y)) (members_back ms) (members_set k v (member_list ms) apart own e)

-- ---- items

abbrev pub items_under : PlainTrees → List (List ℕ)
items_under ts = items_keys_under extensions_key ts

items_no_more : (change : ℕ → PlainTree → PlainTree) (values : List ℕ) (ts : PlainTrees)
    → ((a : ℕ) (v : PlainTree) → AreAmong (under (change a v)) (under v))
    → AreAmong (items_under (trees_of (change_each change values (item_list ts)))) (items_under ts)
items_no_more change [] ts h = subst (λ us. AreAmong (items_under us) (items_under ts)) (sym (trees_back ts)) (same_among (items_under ts))
items_no_more change (a ∷ values) no_items h = same_among []
items_no_more change (a ∷ values) (item t ts) h = both_among (under (change a t)) (items_under (trees_of (change_each change values (item_list ts)))) (under t) (items_under ts) (h a t) (items_no_more change values ts h)

pub list_no_more : (change : ℕ → PlainTree → PlainTree) (values : List ℕ)
    → ((a : ℕ) (v : PlainTree) → AreAmong (under (change a v)) (under v)) → (t : PlainTree)
    → HasNoMore (with_items (change_each change values) t) t
list_no_more change values h null = no_more_same null
list_no_more change values h (truth b) = no_more_same (truth b)
list_no_more change values h (number s) = no_more_same (number s)
list_no_more change values h (text s) = no_more_same (text s)
list_no_more change values h (members ms) = no_more_same (members ms)
list_no_more change values h (list ts) = (items_no_more change values ts h, same_among [])

filtered_case : (b : Bool) (q : PlainTree → Bool) (t : PlainTree) (ts : List PlainTree) → q t ≡ b
    → AreAmong (items_under (trees_of (filter q ts))) (items_under (trees_of ts))
    → AreAmong (items_under (trees_of (filter q (t ∷ ts)))) (items_under (trees_of (t ∷ ts)))
filtered_case true q t ts e ih =
    subst (λ b. AreAmong (items_under (trees_of (cond b (t ∷ filter q ts) (filter q ts)))) (items_under (trees_of (t ∷ ts)))) (sym e)
    (both_among (under t) (items_under (trees_of (filter q ts))) (under t) (items_under (trees_of ts)) (same_among (under t)) ih)
filtered_case false q t ts e ih =
    subst (λ b. AreAmong (items_under (trees_of (cond b (t ∷ filter q ts) (filter q ts)))) (items_under (trees_of (t ∷ ts)))) (sym e)
    (λ p h. later_among (under t) (items_under (trees_of ts)) p (ih p h))

filtered_no_more : (q : PlainTree → Bool) (ts : List PlainTree) → AreAmong (items_under (trees_of (filter q ts))) (items_under (trees_of ts))
filtered_no_more q [] = same_among []
filtered_no_more q (t ∷ ts) = filtered_case (q t) q t ts refl (filtered_no_more q ts)

text_out_no_more : (name : List ℕ) (t : PlainTree) → HasNoMore (without_text name t) t
text_out_no_more name null = no_more_same null
text_out_no_more name (truth b) = no_more_same (truth b)
text_out_no_more name (number s) = no_more_same (number s)
text_out_no_more name (text s) = no_more_same (text s)
text_out_no_more name (members ms) = no_more_same (members ms)
text_out_no_more name (list ts) =
    let q = λ (item : PlainTree). not (is_text_named name item) in
    (subst (λ us. AreAmong (items_under (trees_of (filter q (item_list ts)))) (items_under us)) (trees_back ts) (filtered_no_more q (item_list ts)), same_among [])

-- ---- views and buffers

pub placed_no_more : (buffer offset : ℕ) (v : PlainTree) → AreAmong (under (placed buffer offset v)) (under v)
unfolding placed
placed_no_more buffer offset v q h =
    set_no_more buffer_key (whole_number buffer) v (names_apart extensions_key buffer_key refl) buffer_is_own refl q
    (set_no_more offset_key (whole_number offset) (with_member buffer_key (whole_number buffer) v) (names_apart extensions_key offset_key refl) offset_is_own refl q h)

pub uncompressed_no_more : (v : PlainTree) → AreAmong (under (without_compression v)) (under v)
unfolding without_compression
uncompressed_no_more v =
    subst (λ u. AreAmong (under u) (under v)) (sym (emptied_is extensions_key (without extension_name) v))
    (altered_no_more extensions_key (unless_emptied (without extension_name)) v (unless_no_more (without extension_name) (removed_no_more extension_name))).0

one_buffer_none : (length : ℕ) → under (list (item (sized_buffer length) no_items)) ≡ []
one_buffer_none length =
    ap (λ us. (us ++ []) ++ []) (from_none length_key (whole_number length) (names_apart extensions_key length_key refl length_key length_is_own) refl)

-- ---- the texts of the lists

texts_case : (b : Bool) (q : PlainTree → Bool) (t : PlainTree) (ts : List PlainTree) → q t ≡ b
    → AreAmong (filter_map a_text (filter q ts)) (filter_map a_text ts)
    → AreAmong (filter_map a_text (filter q (t ∷ ts))) (filter_map a_text (t ∷ ts))
texts_case true q t ts e ih = subst (λ b. AreAmong (filter_map a_text (cond b (t ∷ filter q ts) (filter q ts))) (filter_map a_text (t ∷ ts))) (sym e) (with_text (a_text t))
  where
    with_text : (o : Option (List ℕ)) → AreAmong (cons_option o (filter_map a_text (filter q ts))) (cons_option o (filter_map a_text ts))
    with_text None = ih
    with_text (Some s) = more_among s (filter_map a_text (filter q ts)) (filter_map a_text ts) ih
texts_case false q t ts e ih = subst (λ b. AreAmong (filter_map a_text (cond b (t ∷ filter q ts) (filter q ts))) (filter_map a_text (t ∷ ts))) (sym e) (with_text (a_text t))
  where
    with_text : (o : Option (List ℕ)) → AreAmong (filter_map a_text (filter q ts)) (cons_option o (filter_map a_text ts))
    with_text None = ih
    with_text (Some s) = rest_among s (filter_map a_text (filter q ts)) (filter_map a_text ts) ih

texts_filtered : (q : PlainTree → Bool) (ts : List PlainTree) → AreAmong (filter_map a_text (filter q ts)) (filter_map a_text ts)
texts_filtered q [] = same_among []
texts_filtered q (t ∷ ts) = texts_case (q t) q t ts refl (texts_filtered q ts)

texts_out : (name : List ℕ) (t : PlainTree) → AreAmong (filter_map a_text (array_items (without_text name t))) (filter_map a_text (array_items t))
texts_out name null = same_among []
texts_out name (truth b) = same_among []
texts_out name (number s) = same_among []
texts_out name (text s) = same_among []
texts_out name (members ms) = same_among []
texts_out name (list ts) =
    let q = λ (item : PlainTree). not (is_text_named name item) in
    subst (λ us. AreAmong (filter_map a_text us) (filter_map a_text (item_list ts))) (sym (items_of (filter q (item_list ts)))) (texts_filtered q (item_list ts))

unless_texts : (b : Bool) (f : PlainTree → PlainTree) (v : PlainTree) → is_emptied v (f v) ≡ b
    → AreAmong (filter_map a_text (array_items (f v))) (filter_map a_text (array_items v))
    → AreAmong (texts_in (unless_emptied f v)) (texts_in (Some v))
unless_texts true f v e h = subst (λ b. AreAmong (texts_in (if b then None else Some (f v))) (texts_in (Some v))) (sym e) (none_among (texts_in (Some v)))
unless_texts false f v e h = subst (λ b. AreAmong (texts_in (if b then None else Some (f v))) (texts_in (Some v))) (sym e) h

abbrev unnamed : PlainTree → PlainTree
unnamed t = without_text extension_name t

emptied_texts : (found : Option PlainTree) → AreAmong (texts_in (after (unless_emptied unnamed) found)) (texts_in found)
emptied_texts None = same_among []
emptied_texts (Some v) = unless_texts (is_emptied v (unnamed v)) unnamed v refl (texts_out extension_name v)

listed_altered : (key : List ℕ) (t : PlainTree) → HasOnce key t → AreAmong (listed key (alter key (unless_emptied unnamed) t)) (listed key t)
listed_altered key t one = subst (λ found. AreAmong (texts_in found) (listed key t)) (sym (find_altered key (unless_emptied unnamed) t one)) (emptied_texts (find_member key t))

-- ---- the extensions in use

pub in_use_among : (u t : PlainTree) → AreAmong (listed used_key u) (listed used_key t)
    → AreAmong (listed required_key u) (listed required_key t) → AreAmong (under u) (under t)
    → AreAmong (extensions_in_use u) (extensions_in_use t)
unfolding extensions_in_use
in_use_among u t used required keys =
    both_among (listed used_key u ++ listed required_key u) (under u) (listed used_key t ++ listed required_key t) (under t)
    (both_among (listed used_key u) (listed required_key u) (listed used_key t) (listed required_key t) used required) keys

pub listed_same : (key : List ℕ) (u t : PlainTree) → find_member key u ≡ find_member key t → AreAmong (listed key u) (listed key t)
listed_same key u t e = subst (λ found. AreAmong (texts_in found) (listed key t)) (sym e) (same_among (listed key t))

pub names_out_no_more : (t : PlainTree) → HasOnce used_key t → HasOnce required_key t
    → AreAmong (extensions_in_use (without_extension_named t)) (extensions_in_use t)
names_out_no_more t used required =
    let E = unless_emptied unnamed in
    let u = alter used_key E t in
    let w = alter required_key E u in
    let apart = names_apart required_key used_key refl in
    let each : (v : PlainTree) → NoMore (E v) v = unless_no_more unnamed (text_out_no_more extension_name) in
    let first : AreAmong (extensions_in_use u) (extensions_in_use t) =
    in_use_among u t (listed_altered used_key t used) (listed_same required_key u t (find_kept required_key used_key E t apart)) (altered_no_more used_key E t each).0 in
    let second : AreAmong (extensions_in_use w) (extensions_in_use u) =
    in_use_among
    w
    u
    (listed_same used_key w u (find_kept used_key required_key E u (names_apart used_key required_key refl)))
    (listed_altered required_key u (once_kept required_key used_key E t apart required))
    (altered_no_more required_key E u each).0 in
    subst (λ x. AreAmong (extensions_in_use x) (extensions_in_use t)) (sym (names_out_are t)) (λ q h. first q (second q h))

pub buffer_no_more : (length : ℕ) (t : PlainTree) → AreAmong (extensions_in_use (with_one_buffer length t)) (extensions_in_use t)
unfolding with_one_buffer
buffer_no_more length t =
    let b = list (item (sized_buffer length) no_items) in
    let u = with_member buffers_key b t in
    in_use_among
    u
    t
    (listed_same used_key u t (find_set_kept used_key buffers_key b t (names_apart used_key buffers_key refl) buffers_is_own))
    (listed_same required_key u t (find_set_kept required_key buffers_key b t (names_apart required_key buffers_key refl) buffers_is_own))
    (set_no_more buffers_key b t (names_apart extensions_key buffers_key refl) buffers_is_own (one_buffer_none length))

-- another member of the root altered
pub altered_in_use : (k : List ℕ) (g : PlainTree → Option PlainTree) (t : PlainTree) → IsApart used_key k
    → IsApart required_key k → ((v : PlainTree) → NoMore (g v) v) → AreAmong (extensions_in_use (alter k g t)) (extensions_in_use t)
altered_in_use k g t a b h =
    in_use_among
    (alter k g t)
    t
    (listed_same used_key (alter k g t) t (find_kept used_key k g t a))
    (listed_same required_key (alter k g t) t (find_kept required_key k g t b))
    (altered_no_more k g t h).0

pub buffers_no_more : (t : PlainTree) → AreAmong (extensions_in_use (without buffers_key t)) (extensions_in_use t)
buffers_no_more t =
    subst (λ u. AreAmong (extensions_in_use u) (extensions_in_use t)) (sym (removed_is buffers_key t))
    (altered_in_use buffers_key gone t (names_apart used_key buffers_key refl) (names_apart required_key buffers_key refl) (λ v. tt))

pub views_no_more : (change : ℕ → PlainTree → PlainTree) (values : List ℕ) (t : PlainTree)
    → ((a : ℕ) (v : PlainTree) → AreAmong (under (change a v)) (under v))
    → AreAmong (extensions_in_use (at_member views_key (with_items (change_each change values)) t)) (extensions_in_use t)
views_no_more change values t h =
    let f = with_items (change_each change values) in
    subst (λ u. AreAmong (extensions_in_use u) (extensions_in_use t)) (sym (changed_is views_key f t))
    (altered_in_use views_key (made f) t (names_apart used_key views_key refl) (names_apart required_key views_key refl) (list_no_more change values h))

plain_views_no_more : (starts : List ℕ) (t : PlainTree) → AreAmong (extensions_in_use (with_plain_views starts t)) (extensions_in_use t)
plain_views_no_more starts t = views_no_more plain_view starts t (λ start v q h. uncompressed_no_more v q (placed_no_more 0 start (without_compression v) q h))

-- ---- all of them

once_viewed : (key : List ℕ) (starts : List ℕ) (t : PlainTree) → IsApart key views_key → HasDistinctKeys t
    → HasOnce key (with_plain_views starts t)
once_viewed key starts t apart h = once_changed key views_key (with_items (change_each plain_view starts)) t apart (once key t h)

pub with_buffer_no_more : (length : ℕ) (starts : List ℕ) (t : PlainTree) → HasDistinctKeys t
    → AreAmong (extensions_in_use (without_extension_named (with_one_buffer length (with_plain_views starts t)))) (extensions_in_use t)
with_buffer_no_more length starts t h q e =
    let u = with_plain_views starts t in
    plain_views_no_more starts t q
    (buffer_no_more length u q
    (names_out_no_more (with_one_buffer length u)
    (once_one_buffer used_key length u (names_apart used_key buffers_key refl) (once_viewed used_key starts t (names_apart used_key views_key refl) h))
    (once_one_buffer required_key length u (names_apart required_key buffers_key refl) (once_viewed required_key starts t (names_apart required_key views_key refl) h))
    q e))

pub without_buffers_no_more : (starts : List ℕ) (t : PlainTree) → HasDistinctKeys t
    → AreAmong (extensions_in_use (without_extension_named (without buffers_key (with_plain_views starts t)))) (extensions_in_use t)
without_buffers_no_more starts t h q e =
    let u = with_plain_views starts t in
    plain_views_no_more starts t q
    (buffers_no_more u q
    (names_out_no_more (without buffers_key u)
    (once_removed used_key buffers_key u (names_apart used_key buffers_key refl) (once_viewed used_key starts t (names_apart used_key views_key refl) h))
    (once_removed required_key buffers_key u (names_apart required_key buffers_key refl) (once_viewed required_key starts t (names_apart required_key views_key refl) h))
    q e))

-- ---- what is supported stays so

foreign_or_not : (b : Bool) (vs us : List (List ℕ)) → is_among (codes "KHR_meshopt_compression") us ≡ b → supported Any us ≡ Ok vs
    → is_among (codes "KHR_meshopt_compression") us ≡ false
unfolding supported
foreign_or_not true vs us e h =
    let x : ◌≡◌ {A = Checked (List (List ℕ))} (unless true Foreign (Ok us)) (Ok vs) = subst (λ b. unless b Foreign (Ok us) ≡ Ok vs) e h in
    absurd (cc)
foreign_or_not false vs us e h = e

pub still_false : (a b : Bool) → (b ≡ true → a ≡ true) → a ≡ false → b ≡ false
still_false a true f e = let x : true ≡ false = sym (f refl) ∙ e in cc
still_false a false f e = refl

pub supported_still : (us ws vs : List (List ℕ)) → AreAmong ws us → supported Any us ≡ Ok vs → supported Any ws ≡ Ok ws
unfolding supported
supported_still us ws vs among h =
    let khronos = codes "KHR_meshopt_compression" in
    ap (λ b. unless b Foreign (Ok ws))
    (still_false (is_among khronos us) (is_among khronos ws) (among (is_named khronos)) (foreign_or_not (is_among khronos us) vs us refl h))

pub no_more : (u t : PlainTree) → AreAmong (extensions_in_use u) (extensions_in_use t) → UsesNoMore u t
no_more u t h = record { among = λ name. h (is_named name); supported = λ used. supported_still (extensions_in_use t) (extensions_in_use u) used h }
