-- A tree stays sound where a view is compressed, a second buffer is there or the extension is named.
use Rattle.std.specs.Prelude.{unwrap_or, codes}
use Rattle.std.proofs.Common.{◌≡◌, ℕ, zero, suc, ◌<◌, ◌≤◌, ◌^◌, true, List, Option, Some, None, refl, sym, ap, subst, arith}
use Rattle.gp_tree.specs.Plain.{PlainTree, null, truth, number, text, list, members, no_items, item, no_members, trees_of}
use Rattle.gp_tree.specs.Values.{IsName}
use Rattle.gp_tree.specs.Sound.{IsSound, items_depth, depth}
use Rattle.gp_tree.specs.Find.{item_list, find_member}
use Rattle.gp_tree.specs.TreeEdits.{with_member}
use Rattle.gp_tree.specs.Laws.{Fits}
use Rattle.gp_tree.proofs.Inner.{trees_back}
use Rattle.gp_tree.proofs.Names.{name_string}
use Rattle.gp_tree.proofs.Kept.{sound_set, sound_append, depth_append}
use Rattle.gp_tree.proofs.Parts.{set_depth}
use Rattle.gp_rules.specs.declared.storage.StreamMode.{StreamMode}
use Rattle.gp_rules.specs.declared.storage.StreamMode.TheVariants.{Attributes, Triangles, Indices}
use Rattle.gp_rules.specs.Kinds.{mode_name}
use Rattle.gp_edits.specs.Changes.{whole_number}
use Rattle.gp_edits.specs.Edits.{extension_name, placed, compression_object, compressed, sized_buffer, fallback_buffer, with_two_buffers, with_extension_named}
use Rattle.gp_edits.specs.PackLaws.{HasSmallNumbers}
use Rattle.gp_edits.specs.declared.compression.Compression.{Compression}
use Rattle.gp_edits.proofs.Defaults.{with_default, default_none}
use Rattle.gp_edits.proofs.Compressions.{given, compressed_is, and_name}
use Rattle.gp_edits.proofs.MadeValues.{compression_made, fallback_made}
use Rattle.gp_edits.proofs.PackCommon.{two_buffers, with_name, named_is}
use Rattle.gp_edits.proofs.Sounds.{IsWithin, a_name, number_fits, found_within, found_fits, placed_within, empty_object, empty_list}
use Rattle.gp_edits.proofs.KeyNames.{extensions_key, used_key, required_key, buffers_key, length_key}

-- ---- a member with a default

set_within : (n : ℕ) (key : List ℕ) (value v : PlainTree) → IsName key → n ≤ 128 → IsWithin n v → IsSound value × (depth value < n) → IsWithin n (with_member key value v)
set_within n key value v name low h fit = (sound_set key value v name h.0 (fit.0, omega (arith, fit.1, low)), set_depth n key value v h.1 fit.1)

default_case : (n : ℕ) (key : List ℕ) (change : PlainTree → PlainTree) (default v : PlainTree) (found : Option PlainTree) → find_member key v ≡ found → IsName key → n ≤ 128 → IsWithin n v
    → IsSound (change default) × (depth (change default) < n)
    → ((w : PlainTree) → find_member key v ≡ Some w → IsSound (change w) × (depth (change w) < n)) → IsWithin n (with_default key change default v)
default_case n key change default v None e name low h made keeps = subst (IsWithin n) (sym (default_none key change default v e)) (set_within n key (change default) v name low h made)
default_case n key change default v (Some w) e name low h made keeps = subst (IsWithin n) (sym (ap (λ found. with_member key (change (unwrap_or found default)) v) e)) (set_within n key (change w) v name low h (keeps w e))

pub default_within : (n : ℕ) (key : List ℕ) (change : PlainTree → PlainTree) (default v : PlainTree) → IsName key → n ≤ 128 → IsWithin n v
    → IsSound (change default) × (depth (change default) < n)
    → ((w : PlainTree) → find_member key v ≡ Some w → IsSound (change w) × (depth (change w) < n)) → IsWithin n (with_default key change default v)
default_within n key change default v name low h made keeps = default_case n key change default v (find_member key v) refl name low h made keeps

-- ---- a view

number_small : (n : ℕ) → n < 2 ^ 64 → IsWithin 0 (whole_number n)
number_small n h = ((number_fits n h).0, omega arith)

mode_is_name : (m : StreamMode) → IsName (mode_name m)
mode_is_name Attributes = a_name (codes "ATTRIBUTES") refl
mode_is_name Triangles = a_name (codes "TRIANGLES") refl
mode_is_name Indices = a_name (codes "INDICES") refl

text_small : (s : List ℕ) → IsName s → IsWithin 0 (text s)
text_small s h = (record { spelled = name_string s h; shallow = omega arith; distinct = tt }, omega arith)

set_leaf : (key : List ℕ) (value v : PlainTree) → IsName key → IsWithin 0 value → IsWithin 1 v → IsWithin 1 (with_member key value v)
set_leaf key value v name small h = set_within 1 key value v name (omega arith) h (small.0, omega (arith, small.1))

pub object_within : (c : Compression) → HasSmallNumbers c → IsWithin 1 (compression_object c)
object_within c small =
    subst (IsWithin 1) (compression_made c)
    (set_leaf (codes "mode") _ _ (a_name (codes "mode") refl) (text_small (mode_name c.mode) (mode_is_name c.mode))
    (set_leaf (codes "count") _ _ (a_name (codes "count") refl) (number_small c.count small.count)
    (set_leaf (codes "byteStride") _ _ (a_name (codes "byteStride") refl) (number_small c.stride small.stride)
    (set_leaf (codes "byteLength") _ _ (a_name (codes "byteLength") refl) (number_small c.length small.length)
    (set_leaf (codes "byteOffset") _ _ (a_name (codes "byteOffset") refl) (number_small c.offset small.offset)
    (set_leaf (codes "buffer") _ _ (a_name (codes "buffer") refl) (number_small 0 (omega arith)) (empty_object, omega arith)))))))

name_name : IsName extension_name
name_name = a_name extension_name refl

pub compressed_within : (n : ℕ) (c : Compression) (v : PlainTree) → HasSmallNumbers c → 2 < n → n ≤ 128 → IsWithin n v → IsWithin n (compressed c v)
compressed_within n c v small some low h =
    let o = object_within c small in
    let first = set_within 2 extension_name (compression_object c) (members no_members) name_name (omega arith) (empty_object, omega arith) (o.0, omega (arith, o.1)) in
    subst (IsWithin n) (sym (compressed_is c v))
    (default_within n extensions_key (given (compression_object c)) (members no_members) v (a_name extensions_key refl) low h (first.0, omega (arith, first.1, some)) (λ w e.
    let x = found_within n extensions_key v w h e in
    given_within n c w o low some x.0 x.1))
  where
    given_within : (n : ℕ) (c : Compression) (w : PlainTree) → IsWithin 1 (compression_object c) → n ≤ 128 → 2 < n → IsSound w → depth w < n
        → IsSound (given (compression_object c) w) × (depth (given (compression_object c) w) < n)
    given_within (suc n) c w o low some sound shallow =
        let k : IsWithin n (given (compression_object c) w) = set_within n extension_name (compression_object c) w name_name (omega (arith, low)) (sound, omega (arith, shallow)) (o.0, omega (arith, o.1, some)) in
        (k.0, omega (arith, k.1))
    given_within zero c w o low some sound shallow = absurd (omega (arith, some))

pub placed_sound : (buffer offset : ℕ) (v : PlainTree) → buffer < 2 ^ 64 → offset < 2 ^ 64 → IsSound v → IsSound (placed buffer offset v)
placed_sound buffer offset v b o h = (placed_within 128 buffer offset v b o (omega arith) (h, h.shallow)).0

pub compressed_sound : (c : Compression) (v : PlainTree) → HasSmallNumbers c → IsSound v → IsSound (compressed c v)
compressed_sound c v small h = (compressed_within 128 c v small (omega arith) (omega arith) (h, h.shallow)).0

-- ---- the buffers

sized_within : (length : ℕ) → length < 2 ^ 64 → IsWithin 1 (sized_buffer length)
sized_within length h = set_leaf length_key (whole_number length) (members no_members) (a_name length_key refl) (number_small length h) (empty_object, omega arith)

fallback_within : (length : ℕ) → length < 2 ^ 64 → IsWithin 3 (fallback_buffer length)
fallback_within length h =
    let truth_small : IsWithin 0 (truth true) = (record { spelled = tt; shallow = omega arith; distinct = tt }, omega arith) in
    let mark = set_leaf (codes "fallback") (truth true) (members no_members) (a_name (codes "fallback") refl) truth_small (empty_object, omega arith) in
    let extensions = set_within 2 extension_name _ (members no_members) name_name (omega arith) (empty_object, omega arith) (mark.0, omega (arith, mark.1)) in
    let sized = sized_within length h in
    subst (IsWithin 3) (fallback_made length) (set_within 3 extensions_key _ (sized_buffer length) (a_name extensions_key refl) (omega arith) (sized.0, omega (arith, sized.1)) (extensions.0, omega (arith, extensions.1)))

pub two_buffers_sound : (length fallback : ℕ) (t : PlainTree) → length < 2 ^ 64 → fallback < 2 ^ 64 → IsSound t → IsSound (with_two_buffers length fallback t)
unfolding with_two_buffers
two_buffers_sound length fallback t l f h =
    let a = sized_within length l in
    let b = fallback_within fallback f in
    let one : IsSound (list (item (sized_buffer length) no_items)) = sound_append (sized_buffer length) (list no_items) empty_list (a.0, omega (arith, a.1)) in
    let two : IsSound (two_buffers length fallback) = sound_append (fallback_buffer fallback) (list (item (sized_buffer length) no_items)) one (b.0, omega (arith, b.1)) in
    sound_set buffers_key (two_buffers length fallback) t (a_name buffers_key refl) h (two, omega (arith, a.1, b.1))

-- ---- the names

name_text : IsWithin 0 (text extension_name)
name_text = text_small extension_name name_name

and_name_fits : (t : PlainTree) → Fits t → Fits (and_name t)
and_name_fits null h = h
and_name_fits (truth b) h = h
and_name_fits (number s) h = h
and_name_fits (text s) h = h
and_name_fits (members ms) h = h
and_name_fits (list ts) h =
    let low : items_depth (trees_of (item_list ts)) ≤ 126 = subst (λ us. items_depth us ≤ 126) (sym (trees_back ts)) (omega (arith, h.1)) in
    (sound_append (text extension_name) (list ts) h.0 (name_text.0, omega (arith, name_text.1)), omega (arith, depth_append (item_list ts) (text extension_name) 126 (omega (arith, name_text.1)) low))

name_sound : (key : List ℕ) (t : PlainTree) → IsName key → IsSound t → IsSound (with_name key t)
name_sound key t name h =
    let first : Fits (and_name (list no_items)) = and_name_fits (list no_items) (empty_list, omega arith) in
    (default_within 128 key and_name (list no_items) t name (omega arith) (h, h.shallow) first (λ w e. and_name_fits w (found_fits key t w h e))).0

pub named_sound : (t : PlainTree) → IsSound t → IsSound (with_extension_named t)
named_sound t h =
    subst IsSound (sym (named_is t)) (name_sound required_key (with_name used_key t) (a_name required_key refl) (name_sound used_key t (a_name used_key refl) h))
