-- A view without an extension object, one that gets such an object, and a buffer to fall back on read back.
use Rattle.std.specs.Prelude.{codes, option_map, option_and_then, unwrap_or}
use Rattle.std.specs.Str.{chars}
use Rattle.std.proofs.Common.{◌≡◌, ℕ, ◌<◌, ◌^◌, true, map, Option, Some, None, refl, sym, ap, ◌∙◌, arith}
use Rattle.gp_tree.specs.Plain.{PlainTree, null, truth, number, text, list, members, no_members, member}
use Rattle.gp_tree.specs.Values.{whole, IsName}
use Rattle.gp_tree.specs.Find.{IsObject, object_members, find_member}
use Rattle.gp_tree.specs.TreeEdits.{set_first, with_member}
use Rattle.gp_tree.proofs.Kept.{find_set, find_set_other}
use Rattle.gp_fields.specs.Shapes.{Shaped, object_of, an_object, a_text, reference, required, optional, defaulted}
use Rattle.gp_fields.specs.Fields.{ViewFields, PackedFields, buffer_fields, view_fields, packed_fields, packed_of, key_of, empty_object}
use Rattle.gp_rules.specs.Kinds.{mode_name}
use Rattle.gp_edits.specs.declared.compression.Compression.{Compression}
use Rattle.gp_edits.specs.Changes.{whole_number}
use Rattle.gp_edits.specs.Edits.{extension_name, placed, compressed, compression_object, fallback_buffer}
use Rattle.gp_edits.specs.PackedBack.{plain_view_in, ReadsBack, compression_fields, compressed_view, fallback_fields}
use Rattle.gp_edits.proofs.FieldsBack.{whole_again, reference_again, a_name, apart, required_same, required_found, optional_is, optional_same, defaulted_same}
use Rattle.gp_edits.proofs.KeysBack.{object_after}
use Rattle.gp_edits.proofs.ViewsBack.{object_again, object_read, view_parts, view_of_parts, placed_read, packed_in, packed_is, object_in, none_in_empty, none_in}

-- ---- a view without an extension object

read_some : {A : Type 0} (shape : Shaped A) (x : PlainTree) → ◌≡◌ {A = Option (Option A)} (option_map Some (shape x)) (Some None) → ⊥
read_some {A} shape x e = by_answer (shape x) e
  where
    by_answer : (o : Option A) → ◌≡◌ {A = Option (Option A)} (option_map Some o) (Some None) → ⊥
    by_answer None h = absurd (cc)
    by_answer (Some a) h = absurd (cc)

absent_by : (n : ℕ) (value : PlainTree) (found : Option PlainTree) → find_member extension_name value ≡ found
    → optional value extension_name (object_of (packed_fields n)) ≡ Some None → find_member extension_name value ≡ None
absent_by n value None e h = e
absent_by n value (Some x) e h = absurd (read_some (object_of (packed_fields n)) x (sym (optional_is extension_name (object_of (packed_fields n)) value (Some x) e) ∙ h))

-- where nothing is read of it, there is no such member
pub absent_in : (n : ℕ) (value : PlainTree) → packed_in n (Some value) ≡ Some None → find_member extension_name value ≡ None
absent_in n null e = absurd (cc)
absent_in n (truth b) e = absurd (cc)
absent_in n (number s) e = absurd (cc)
absent_in n (text s) e = absurd (cc)
absent_in n (list ts) e = absurd (cc)
absent_in n (members ms) e = absent_by n (members ms) (find_member extension_name (members ms)) refl e

none_by : (n m : ℕ) (found : Option PlainTree) → packed_in n found ≡ Some None → packed_in m found ≡ Some None
none_by n m None e = none_in_empty m
none_by n m (Some value) e = none_in m value (object_in n value None e) (absent_in n value e)

-- it is read so by any number of buffers
pub none_stays : (n m : ℕ) (v : PlainTree) → packed_of n v ≡ Some None → packed_of m v ≡ Some None
none_stays n m v e = packed_is m v ∙ none_by n m (find_member (codes "extensions") v) (sym (packed_is n v) ∙ e)

pub unpacked_again : (buffers others buffer offset : ℕ) (v : PlainTree) (f : ViewFields)
    → object_of (view_fields buffers) v ≡ Some f → f.packed ≡ None → buffer < others → buffer < 2 ^ 32 → offset < 2 ^ 32
    → object_of (view_fields others) (placed buffer offset v) ≡ Some (plain_view_in buffer offset f)
unpacked_again buffers others buffer offset v f e none within small low =
    let r = object_read (view_fields buffers) v f e in
    let p = view_parts buffers v f r.1 in
    placed_read others buffer offset v f None r.0 within small low p.length p.stride (none_stays buffers others v (p.packed ∙ ap Some none))

-- ---- the extension object

-- the fields that were read of it, one by one
record IsCompression (n : ℕ) (o : PlainTree) (f : PackedFields) : Type 0 where
  buffer : required o (codes "buffer") (reference n) ≡ Some f.buffer
  length : required o (codes "byteLength") whole ≡ Some f.length
  stride : required o (codes "byteStride") whole ≡ Some f.stride
  count : required o (codes "count") whole ≡ Some f.count
  offset : defaulted o (codes "byteOffset") 0 whole ≡ Some f.offset
  mode : required o (codes "mode") a_text ≡ Some f.mode
  filter : defaulted o (codes "filter") (codes "NONE") a_text ≡ Some f.filter

compression_of_parts : (n : ℕ) (o : PlainTree) (f : PackedFields) → IsCompression n o f → packed_fields n o ≡ Some f
compression_of_parts n o f h =
    ap (option_and_then _) h.buffer ∙ ap (option_and_then _) h.length ∙ ap (option_and_then _) h.stride ∙ ap (option_and_then _) h.count
    ∙ ap (option_and_then _) h.offset ∙ ap (option_and_then _) h.mode ∙ ap (option_and_then _) h.filter

compression_parts : (n : ℕ) (c : Compression) → 0 < n → ReadsBack c → IsCompression n (compression_object c) (compression_fields c)
unfolding chars
compression_parts n c some h =
    let o = compression_object c in
    record {
      buffer = required_found (codes "buffer") (reference n) (whole_number 0) o refl ∙ reference_again n 0 some (omega arith);
      length = required_found (codes "byteLength") whole (whole_number c.length) o refl ∙ whole_again c.length h.length;
      stride = required_found (codes "byteStride") whole (whole_number c.stride) o refl ∙ whole_again c.stride h.stride;
      count = required_found (codes "count") whole (whole_number c.count) o refl ∙ whole_again c.count h.count;
      offset = ap (option_map (λ found. unwrap_or found 0)) (optional_is (codes "byteOffset") whole o (Some (whole_number c.offset)) refl ∙ ap (option_map Some) (whole_again c.offset h.offset));
      mode = required_found (codes "mode") a_text (text (mode_name c.mode)) o refl;
      filter = ap (option_map (λ found. unwrap_or found (codes "NONE"))) (optional_is (codes "filter") a_text o None refl);
    }

compression_again : (n : ℕ) (c : Compression) → 0 < n → ReadsBack c → object_of (packed_fields n) (compression_object c) ≡ Some (compression_fields c)
compression_again n c some h = compression_of_parts n (compression_object c) (compression_fields c) (compression_parts n c some h)

extensions_name : IsName (codes "extensions")
extensions_name = a_name (codes "extensions") refl

own_name : IsName extension_name
own_name = a_name extension_name refl

present_in : (n : ℕ) (value x : PlainTree) → IsObject value → find_member extension_name value ≡ Some x → packed_in n (Some value) ≡ option_map Some (object_of (packed_fields n) x)
present_in n null x o e = absurd o
present_in n (truth b) x o e = absurd o
present_in n (number s) x o e = absurd o
present_in n (text s) x o e = absurd o
present_in n (list ts) x o e = absurd o
present_in n (members ms) x o e = optional_is extension_name (object_of (packed_fields n)) (members ms) (Some x) e

-- the value of `extensions`, or the one that is made
abbrev extensions_or : Option PlainTree → PlainTree
extensions_or found = unwrap_or found (members no_members)

extensions_object : (n : ℕ) (found : Option PlainTree) (pack : Option PackedFields) → packed_in n found ≡ Some pack → IsObject (extensions_or found)
extensions_object n None pack e = tt
extensions_object n (Some value) pack e = object_in n value pack e

-- ---- a view that gets one

pub compressed_again : (buffers : ℕ) (c : Compression) (v : PlainTree) (f : ViewFields)
    → object_of (view_fields buffers) v ≡ Some f → 0 < buffers → ReadsBack c
    → object_of (view_fields buffers) (compressed c v) ≡ Some (compressed_view c f)
unfolding compressed
compressed_again buffers c v f e some h =
    let key = codes "extensions" in
    let r = object_read (view_fields buffers) v f e in
    let p = view_parts buffers v f r.1 in
    let found = find_member key v in
    let before = extensions_or found in
    let object = compression_object c in
    let value = with_member extension_name object before in
    let u = with_member key value v in
    let o = extensions_object buffers found f.packed (sym (packed_is buffers v) ∙ p.packed) in
    let pack : packed_of buffers u ≡ Some (Some (compression_fields c)) =
    packed_is buffers u
    ∙ ap (packed_in buffers) (find_set key value v r.0 extensions_name)
    ∙ present_in buffers value object (object_after (set_first extension_name object) before o) (find_set extension_name object before o own_name)
    ∙ ap (option_map Some) (compression_again buffers c some h) in
    object_again (view_fields buffers) u (object_after (set_first key value) v r.0)
    ∙ view_of_parts buffers u (compressed_view c f) (record {
      buffer = required_same (codes "buffer") (reference buffers) v u (find_set_other (codes "buffer") key value v (apart _ _ refl) extensions_name) ∙ p.buffer;
      length = required_same (codes "byteLength") whole v u (find_set_other (codes "byteLength") key value v (apart _ _ refl) extensions_name) ∙ p.length;
      offset = defaulted_same (codes "byteOffset") 0 whole v u (find_set_other (codes "byteOffset") key value v (apart _ _ refl) extensions_name) ∙ p.offset;
      stride = optional_same (codes "byteStride") whole v u (find_set_other (codes "byteStride") key value v (apart _ _ refl) extensions_name) ∙ p.stride;
      packed = pack;
    })

-- ---- a buffer to fall back on

record IsBuffer (b : PlainTree) (n : ℕ) (held : PlainTree) : Type 0 where
  length : required b (codes "byteLength") whole ≡ Some n
  uri : optional b (codes "uri") a_text ≡ Some None
  extensions : defaulted b (codes "extensions") empty_object an_object ≡ Some held

buffer_of_parts : (b : PlainTree) (n : ℕ) (held : PlainTree) → IsBuffer b n held
    → buffer_fields b ≡ Some (record { length = n; uri = None; extensions = map key_of (object_members held) })
buffer_of_parts b n held h = ap (option_and_then _) h.length ∙ ap (option_and_then _) h.uri ∙ ap (option_and_then _) h.extensions

-- the value of its `extensions`
abbrev mark : PlainTree
mark = members (member extension_name (members (member (codes "fallback") (truth true) no_members)) no_members)

fallback_parts : (n : ℕ) → n < 2 ^ 32 → IsBuffer (fallback_buffer n) n mark
unfolding chars
fallback_parts n small =
    let b = fallback_buffer n in
    record {
      length = required_found (codes "byteLength") whole (whole_number n) b refl ∙ whole_again n small;
      uri = optional_is (codes "uri") a_text b None refl;
      extensions = ap (option_map (λ found. unwrap_or found empty_object)) (optional_is (codes "extensions") an_object b (Some mark) refl);
    }

pub fallback_again : (n : ℕ) → n < 2 ^ 32 → object_of buffer_fields (fallback_buffer n) ≡ Some (fallback_fields n)
fallback_again n small = buffer_of_parts (fallback_buffer n) n mark (fallback_parts n small)
