-- The edits keep a tree sound.
use Rattle.std.specs.Prelude.{if◌then◌else◌}
use Rattle.std.proofs.Common.{◌≡◌, ℕ, ◌+◌, ◌<◌, ◌≤◌, ◌^◌, Bool, true, false, not, ◌&&◌, nat_lt, ◌==◌, List, [], ◌∷◌, Option, Some, None, filter, refl, sym, subst, arith}
use Rattle.std.proofs.lemmas.Bool.Decides.{nat_tests}
use Rattle.gp_tree.specs.Plain.{PlainTree, PlainTrees, null, truth, number, text, list, members, no_items, item, no_members, trees_of}
use Rattle.gp_tree.specs.Lexical.{Each}
use Rattle.gp_tree.specs.Values.{IsName, IsNameByte}
use Rattle.gp_tree.specs.Sound.{IsSound, AreItemsSpelled, ItemsHaveDistinctKeys, depth, items_depth}
use Rattle.gp_tree.specs.Find.{item_list, find_member}
use Rattle.gp_tree.specs.TreeEdits.{with_member, without, at_member, with_items}
use Rattle.gp_tree.specs.Laws.{Fits}
use Rattle.gp_tree.proofs.Wholes.{decimal_number}
use Rattle.gp_tree.proofs.Inner.{trees_back}
use Rattle.gp_tree.proofs.Kept.{sound_set, sound_remove, sound_append}
use Rattle.gp_tree.proofs.Parts.{value_sound, sound_change, change_depth, set_depth, removed_depth}
use Rattle.gp_edits.specs.Changes.{whole_number, is_emptied, emptied_by, emptied, is_text_named, without_text, change_each}
use Rattle.gp_edits.specs.Edits.{plain_view, with_plain_views, extension_name, placed, without_compression, sized_buffer, with_one_buffer, without_extension_named}
use Rattle.gp_edits.proofs.KeyNames.{extensions_key, used_key, required_key, buffers_key, views_key, buffer_key, offset_key, length_key}

-- ---- names and numbers

abbrev pub is_plain_byte : ℕ → Bool
is_plain_byte x = nat_lt 31 x && nat_lt x 127 && not (x == 34) && not (x == 92)

abbrev pub are_plain : List ℕ → Bool
are_plain [] = true
are_plain (x ∷ s) = is_plain_byte x && are_plain s

byte_in_name : (x : ℕ) → is_plain_byte x ≡ true → IsNameByte x
byte_in_name x h = (grind (arith, nat_tests), grind (arith, nat_tests), grind (arith, nat_tests), grind (arith, nat_tests))

pub both_0 : (a b : Bool) → (a && b) ≡ true → a ≡ true
both_0 true b h = refl
both_0 false b h = h

both_1 : (a b : Bool) → (a && b) ≡ true → b ≡ true
both_1 true b h = h
both_1 false b h = absurd (cc)

pub a_name : (s : List ℕ) → are_plain s ≡ true → IsName s
a_name [] h = tt
a_name (x ∷ s) h = (byte_in_name x (both_0 (is_plain_byte x) (are_plain s) h), a_name s (both_1 (is_plain_byte x) (are_plain s) h))

pub number_fits : (n : ℕ) → n < 2 ^ 64 → Fits (whole_number n)
number_fits n h = (record { spelled = decimal_number n h; shallow = omega arith; distinct = tt }, omega arith)

-- ---- a value that stays sound, and within a depth

abbrev pub IsWithin : ℕ → PlainTree → Type 0
IsWithin n v = IsSound v × (depth v ≤ n)

removed_within : (n : ℕ) (key : List ℕ) (v : PlainTree) → IsWithin n v → IsWithin n (without key v)
removed_within n key v h = (sound_remove key v h.0, omega (arith, removed_depth key v, h.1))

pub found_within : (n : ℕ) (key : List ℕ) (v w : PlainTree) → IsWithin n v → find_member key v ≡ Some w → IsSound w × (depth w < n)
found_within n key v w h e = let x = value_sound key w v h.0 e in (x.0, omega (arith, x.1, h.1))

changed_within : (n : ℕ) (key : List ℕ) (f : PlainTree → PlainTree) (v : PlainTree) → n ≤ 128 → IsWithin n v
    → ((w : PlainTree) → find_member key v ≡ Some w → IsSound (f w) × (depth (f w) < n)) → IsWithin n (at_member key f v)
changed_within n key f v low h q = (
  sound_change key f v h.0 (λ w e. let x = q w e in (x.0, omega (arith, x.1, low))),
  change_depth n key f v h.1 (λ w e. (q w e).1),
)

emptied_case : (b : Bool) (n : ℕ) (key : List ℕ) (f : PlainTree → PlainTree) (v w : PlainTree) → is_emptied w (f w) ≡ b
    → IsWithin n (without key v) → IsWithin n (at_member key f v) → IsWithin n (emptied_by key f (Some w) v)
emptied_case true n key f v w e out in_place = subst (λ b. IsWithin n (if b then without key v else at_member key f v)) (sym e) out
emptied_case false n key f v w e out in_place = subst (λ b. IsWithin n (if b then without key v else at_member key f v)) (sym e) in_place

emptied_step : (n : ℕ) (key : List ℕ) (f : PlainTree → PlainTree) (v : PlainTree) (found : Option PlainTree) → IsWithin n v
    → IsWithin n (without key v) → IsWithin n (at_member key f v) → IsWithin n (emptied_by key f found v)
emptied_step n key f v None h out in_place = h
emptied_step n key f v (Some w) h out in_place = emptied_case (is_emptied w (f w)) n key f v w refl out in_place

pub emptied_within : (n : ℕ) (key : List ℕ) (f : PlainTree → PlainTree) (v : PlainTree) → n ≤ 128 → IsWithin n v
    → ((w : PlainTree) → find_member key v ≡ Some w → IsSound (f w) × (depth (f w) < n)) → IsWithin n (emptied key f v)
unfolding emptied
emptied_within n key f v low h q = emptied_step n key f v (find_member key v) h (removed_within n key v h) (changed_within n key f v low h q)

-- ---- a view

pub placed_within : (n buffer offset : ℕ) (v : PlainTree) → buffer < 2 ^ 64 → offset < 2 ^ 64 → 0 < n → IsWithin n v
    → IsWithin n (placed buffer offset v)
unfolding placed
placed_within n buffer offset v b o some h =
    let u = with_member buffer_key (whole_number buffer) v in
    let s : IsSound u = sound_set buffer_key (whole_number buffer) v (a_name buffer_key refl) h.0 (number_fits buffer b) in
    let d : depth u ≤ n = set_depth n buffer_key (whole_number buffer) v h.1 some in (
      sound_set offset_key (whole_number offset) u (a_name offset_key refl) s (number_fits offset o),
      set_depth n offset_key (whole_number offset) u d some,
    )

pub uncompressed_within : (n : ℕ) (v : PlainTree) → n ≤ 128 → IsWithin n v → IsWithin n (without_compression v)
unfolding without_compression
uncompressed_within n v low h =
    emptied_within n extensions_key (without extension_name) v low h (λ w e. let x = found_within n extensions_key v w h e in (sound_remove extension_name w x.0, omega (arith, removed_depth extension_name w, x.1)))

-- ---- items

abbrev pub AreWithin : ℕ → PlainTrees → Type 0
AreWithin n ts = AreItemsSpelled ts × (items_depth ts ≤ n) × ItemsHaveDistinctKeys ts

-- a change keeps a value so, with each value of which P holds
abbrev pub KeepsWithin : {A : Type 0} → (A → Type 0) → ℕ → (A → PlainTree → PlainTree) → Type 0
KeepsWithin {A} P n change = (a : A) (v : PlainTree) → P a → IsWithin n v → IsWithin n (change a v)

items_within : {A : Type 0} (P : A → Type 0) (n : ℕ) (change : A → PlainTree → PlainTree) (values : List A) (ts : PlainTrees) → n ≤ 128 → Each P values
    → KeepsWithin P n change → AreWithin n ts → AreWithin n (trees_of (change_each change values (item_list ts)))
items_within P n change [] ts low small keeps h = subst (AreWithin n) (sym (trees_back ts)) h
items_within P n change (a ∷ values) no_items low small keeps h = h
items_within P n change (a ∷ values) (item t ts) low small keeps h =
    let s : IsWithin n t = (record { spelled = h.0.0; shallow = omega (arith, h.1, low); distinct = h.2.0 }, omega (arith, h.1)) in
    let k : IsWithin n (change a t) = keeps a t small.0 s in
    let r : AreWithin n (trees_of (change_each change values (item_list ts))) = items_within P n change values ts low small.1 keeps (h.0.1, omega (arith, h.1), h.2.1) in
    ((k.0.spelled, r.0), omega (arith, k.1, r.1), (k.0.distinct, r.2))

filtered_case : (b : Bool) (n : ℕ) (q : PlainTree → Bool) (t : PlainTree) (ts : List PlainTree) → q t ≡ b
    → AreWithin n (item t (trees_of ts)) → AreWithin n (trees_of (filter q ts)) → AreWithin n (trees_of (filter q (t ∷ ts)))
filtered_case true n q t ts e h r = rw e ((h.0.0, r.0), omega (arith, h.1, r.1), (h.2.0, r.2))
filtered_case false n q t ts e h r = rw e r

filtered_within : (n : ℕ) (q : PlainTree → Bool) (ts : List PlainTree) → AreWithin n (trees_of ts) → AreWithin n (trees_of (filter q ts))
filtered_within n q [] h = h
filtered_within n q (t ∷ ts) h = filtered_case (q t) n q t ts refl h (filtered_within n q ts (h.0.1, omega (arith, h.1), h.2.1))

pub list_within : (n : ℕ) (ts us : PlainTrees) → n < 128 → IsSound (list ts) → depth (list ts) < n + 2 → (AreWithin n ts → AreWithin n us)
    → IsSound (list us) × (depth (list us) < n + 2)
list_within n ts us low h d q =
    let r : AreWithin n us = q (h.spelled, omega (arith, d), h.distinct) in
    (record { spelled = r.0; shallow = omega (arith, r.1, low); distinct = r.2 }, omega (arith, r.1))

pub views_fit : {A : Type 0} (P : A → Type 0) (change : A → PlainTree → PlainTree) (values : List A) (v : PlainTree) → Each P values
    → KeepsWithin P 126 change → Fits v → Fits (with_items (change_each change values) v)
views_fit P change values null small keeps h = h
views_fit P change values (truth b) small keeps h = h
views_fit P change values (number s) small keeps h = h
views_fit P change values (text s) small keeps h = h
views_fit P change values (members ms) small keeps h = h
views_fit P change values (list ts) small keeps h = list_within 126 ts (trees_of (change_each change values (item_list ts))) (omega arith) h.0 h.1 (items_within P 126 change values ts (omega arith) small keeps)

text_out_fits : (name : List ℕ) (v : PlainTree) → Fits v → Fits (without_text name v)
text_out_fits name null h = h
text_out_fits name (truth b) h = h
text_out_fits name (number s) h = h
text_out_fits name (text s) h = h
text_out_fits name (members ms) h = h
text_out_fits name (list ts) h =
    let q = λ (item : PlainTree). not (is_text_named name item) in
    list_within 126 ts (trees_of (filter q (item_list ts))) (omega arith) h.0 h.1 (λ k. filtered_within 126 q (item_list ts) (subst (AreWithin 126) (sym (trees_back ts)) k))

-- ---- the root

pub found_fits : (key : List ℕ) (t v : PlainTree) → IsSound t → find_member key t ≡ Some v → Fits v
found_fits key t v h e = let x = value_sound key v t h e in (x.0, omega (arith, x.1, h.shallow))

pub views_sound : {A : Type 0} (P : A → Type 0) (change : A → PlainTree → PlainTree) (values : List A) (t : PlainTree) → Each P values
    → KeepsWithin P 126 change → IsSound t → IsSound (at_member views_key (with_items (change_each change values)) t)
views_sound P change values t small keeps h =
    sound_change views_key (with_items (change_each change values)) t h (λ v e. views_fit P change values v small keeps (found_fits views_key t v h e))

pub plain_views_sound : (starts : List ℕ) (t : PlainTree) → Each (λ a. a < 2 ^ 64) starts → IsSound t → IsSound (with_plain_views starts t)
plain_views_sound starts t small h =
    views_sound (λ start. start < 2 ^ 64) plain_view starts t small (λ start v a k. placed_within 126 0 start (without_compression v) (omega arith) a (omega arith) (uncompressed_within 126 v (omega arith) k)) h

pub empty_object : IsSound (members no_members)
empty_object = record { spelled = tt; shallow = omega arith; distinct = (λ i j d l k. absurd (omega arith), tt) }

pub empty_list : IsSound (list no_items)
empty_list = record { spelled = tt; shallow = omega arith; distinct = tt }

one_buffer_sound : (length : ℕ) → length < 2 ^ 64 → IsSound (list (item (sized_buffer length) no_items))
one_buffer_sound length h =
    sound_append (sized_buffer length) (list no_items) empty_list
    (sound_set length_key (whole_number length) (members no_members) (a_name length_key refl) empty_object (number_fits length h), omega arith)

pub buffer_sound : (length : ℕ) (t : PlainTree) → length < 2 ^ 64 → IsSound t → IsSound (with_one_buffer length t)
unfolding with_one_buffer
buffer_sound length t small h =
    sound_set buffers_key (list (item (sized_buffer length) no_items)) t (a_name buffers_key refl) h (one_buffer_sound length small, omega arith)

name_out_sound : (key : List ℕ) (t : PlainTree) → IsSound t → IsSound (emptied key (without_text extension_name) t)
name_out_sound key t h = (emptied_within 128 key (without_text extension_name) t (omega arith) (h, h.shallow) (λ v e. text_out_fits extension_name v (found_fits key t v h e))).0

pub names_out_sound : (t : PlainTree) → IsSound t → IsSound (without_extension_named t)
unfolding without_extension_named
names_out_sound t h = name_out_sound required_key (emptied used_key (without_text extension_name) t) (name_out_sound used_key t h)

-- ---- all of them

pub with_buffer_sound : (length : ℕ) (starts : List ℕ) (t : PlainTree) → length < 2 ^ 64 → Each (λ a. a < 2 ^ 64) starts → IsSound t
    → IsSound (without_extension_named (with_one_buffer length (with_plain_views starts t)))
with_buffer_sound length starts t low small h = names_out_sound (with_one_buffer length (with_plain_views starts t)) (buffer_sound length (with_plain_views starts t) low (plain_views_sound starts t small h))

pub without_buffers_sound : (starts : List ℕ) (t : PlainTree) → Each (λ a. a < 2 ^ 64) starts → IsSound t
    → IsSound (without_extension_named (without buffers_key (with_plain_views starts t)))
without_buffers_sound starts t small h = names_out_sound (without buffers_key (with_plain_views starts t)) (sound_remove buffers_key (with_plain_views starts t) (plain_views_sound starts t small h))
