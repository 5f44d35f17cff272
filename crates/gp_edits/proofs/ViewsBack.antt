-- A view and a buffer read back after edits.
use Rattle.std.specs.Prelude.{codes, option_map, option_and_then, unwrap_or}
use Rattle.std.proofs.Common.{◌≡◌, ℕ, ◌<◌, ◌^◌, List, Option, Some, None, refl, sym, ap, ◌∙◌, arith}
use Rattle.gp_tree.specs.Plain.{PlainTree, null, truth, number, text, list, members}
use Rattle.gp_tree.specs.Values.{whole, IsName}
use Rattle.gp_tree.specs.Sound.{HasDistinctKeys}
use Rattle.gp_tree.specs.Find.{IsObject, find_member}
use Rattle.gp_tree.specs.TreeEdits.{set_first, remove_first, with_member, without}
use Rattle.gp_tree.proofs.Kept.{find_set, find_set_other, find_removed}
use Rattle.gp_fields.specs.Shapes.{Shaped, object_of, an_object, a_text, reference, required, optional, defaulted}
use Rattle.gp_fields.specs.Fields.{ViewFields, PackedFields, buffer_fields, view_fields, packed_fields, packed_of, empty_object}
use Rattle.gp_edits.specs.Changes.{whole_number}
use Rattle.gp_edits.specs.Edits.{placed, without_compression, extension_name, sized_buffer}
use Rattle.gp_edits.specs.ReadingBack.{plain_view_fields, view_at, buffer_of_length}
use Rattle.gp_edits.proofs.FieldsBack.{whole_again, reference_again, a_name, apart, required_same, required_found, read_of, optional_is, optional_same, defaulted_same}
use Rattle.gp_edits.proofs.Emptied.{value_distinct}
use Rattle.gp_edits.proofs.KeysBack.{object_after, emptied_object, emptied_other, emptied_found}

-- a step that gave a value
pub and_then_some : {A B : Type 0} (f : A → Option B) (o : Option A) (b : B) → option_and_then f o ≡ Some b → (a : A) × (o ≡ Some a) × (f a ≡ Some b)
and_then_some f None b e = absurd (cc)
and_then_some f (Some a) b e = (a, refl, e)

-- ---- objects

pub object_again : {A : Type 0} (fields : Shaped A) (t : PlainTree) → IsObject t → object_of fields t ≡ fields t
object_again fields null o = absurd o
object_again fields (truth b) o = absurd o
object_again fields (number s) o = absurd o
object_again fields (text s) o = absurd o
object_again fields (list ts) o = absurd o
object_again fields (members ms) o = refl

pub object_read : {A : Type 0} (fields : Shaped A) (t : PlainTree) (a : A) → object_of fields t ≡ Some a → IsObject t × (fields t ≡ Some a)
object_read fields null a e = absurd (cc)
object_read fields (truth b) a e = absurd (cc)
object_read fields (number s) a e = absurd (cc)
object_read fields (text s) a e = absurd (cc)
object_read fields (list ts) a e = absurd (cc)
object_read fields (members ms) a e = (tt, e)

-- ---- the fields of a view, one by one

pub record IsView (n : ℕ) (v : PlainTree) (f : ViewFields) : Type 0 where
  pub buffer : required v (codes "buffer") (reference n) ≡ Some f.buffer
  pub length : required v (codes "byteLength") whole ≡ Some f.length
  pub offset : defaulted v (codes "byteOffset") 0 whole ≡ Some f.offset
  pub stride : optional v (codes "byteStride") whole ≡ Some f.stride
  pub packed : packed_of n v ≡ Some f.packed

pub view_parts : (n : ℕ) (v : PlainTree) (f : ViewFields) → view_fields n v ≡ Some f → IsView n v f
view_parts n v f e =
    let s1 = and_then_some _ (required v (codes "buffer") (reference n)) f e in
    let s2 = and_then_some _ (required v (codes "byteLength") whole) f s1.2 in
    let s3 = and_then_some _ (defaulted v (codes "byteOffset") 0 whole) f s2.2 in
    let s4 = and_then_some _ (optional v (codes "byteStride") whole) f s3.2 in
    let s5 = and_then_some _ (packed_of n v) f s4.2 in
    let same : record { buffer = s1.0; offset = s3.0; length = s2.0; stride = s4.0; packed = s5.0 } ≡ f = ap (λ o. unwrap_or o f) s5.2 in
    record {
      buffer = s1.1 ∙ ap (λ w. Some w.buffer) same;
      length = s2.1 ∙ ap (λ w. Some w.length) same;
      offset = s3.1 ∙ ap (λ w. Some w.offset) same;
      stride = s4.1 ∙ ap (λ w. Some w.stride) same;
      packed = s5.1 ∙ ap (λ w. Some w.packed) same;
    }

pub view_of_parts : (n : ℕ) (v : PlainTree) (f : ViewFields) → IsView n v f → view_fields n v ≡ Some f
view_of_parts n v f h = ap (option_and_then _) h.buffer ∙ ap (option_and_then _) h.length ∙ ap (option_and_then _) h.offset ∙ ap (option_and_then _) h.stride ∙ ap (option_and_then _) h.packed

-- ---- a view that was placed

buffer_name : IsName (codes "buffer")
buffer_name = a_name (codes "buffer") refl

offset_name : IsName (codes "byteOffset")
offset_name = a_name (codes "byteOffset") refl

-- another member is found as before
placed_other : (name : List ℕ) (buffer offset : ℕ) (v : PlainTree) → (name ≡ codes "buffer" → ⊥) → (name ≡ codes "byteOffset" → ⊥) → find_member name (placed buffer offset v) ≡ find_member name v
unfolding placed
placed_other name buffer offset v d e =
    find_set_other name (codes "byteOffset") (whole_number offset) (with_member (codes "buffer") (whole_number buffer) v) e offset_name
    ∙ find_set_other name (codes "buffer") (whole_number buffer) v d buffer_name

placed_object : (buffer offset : ℕ) (v : PlainTree) → IsObject v → IsObject (placed buffer offset v)
unfolding placed
placed_object buffer offset v o =
    object_after (set_first (codes "byteOffset") (whole_number offset)) (with_member (codes "buffer") (whole_number buffer) v) (object_after (set_first (codes "buffer") (whole_number buffer)) v o)

placed_buffer : (buffer offset : ℕ) (v : PlainTree) → IsObject v → find_member (codes "buffer") (placed buffer offset v) ≡ Some (whole_number buffer)
unfolding placed
placed_buffer buffer offset v o =
    find_set_other (codes "buffer") (codes "byteOffset") (whole_number offset) (with_member (codes "buffer") (whole_number buffer) v) (apart (codes "buffer") (codes "byteOffset") refl) offset_name
    ∙ find_set (codes "buffer") (whole_number buffer) v o buffer_name

placed_offset : (buffer offset : ℕ) (v : PlainTree) → IsObject v → find_member (codes "byteOffset") (placed buffer offset v) ≡ Some (whole_number offset)
unfolding placed
placed_offset buffer offset v o =
    let inner = with_member (codes "buffer") (whole_number buffer) v in
    find_set (codes "byteOffset") (whole_number offset) inner (object_after (set_first (codes "buffer") (whole_number buffer)) v o) offset_name

packed_same : (n : ℕ) (t u : PlainTree) → find_member (codes "extensions") u ≡ find_member (codes "extensions") t → packed_of n u ≡ packed_of n t
packed_same n t u e = ap (option_and_then (λ extensions. optional extensions (codes "EXT_meshopt_compression") (object_of (packed_fields n)))) (defaulted_same (codes "extensions") empty_object an_object t u e)

-- where its other members are as those of a view that was read
pub placed_read : (n buffer offset : ℕ) (v : PlainTree) (f : ViewFields) (pack : Option PackedFields) → IsObject v → buffer < n → buffer < 2 ^ 32 → offset < 2 ^ 32
    → required v (codes "byteLength") whole ≡ Some f.length → optional v (codes "byteStride") whole ≡ Some f.stride → packed_of n v ≡ Some pack
    → object_of (view_fields n) (placed buffer offset v) ≡ Some (record { buffer = buffer; offset = offset; length = f.length; stride = f.stride; packed = pack })
placed_read n buffer offset v f pack o within small low length stride packed =
    let u = placed buffer offset v in
    object_again (view_fields n) u (placed_object buffer offset v o)
    ∙ view_of_parts n u (record { buffer = buffer; offset = offset; length = f.length; stride = f.stride; packed = pack }) (record {
      buffer = required_found (codes "buffer") (reference n) (whole_number buffer) u (placed_buffer buffer offset v o) ∙ reference_again n buffer within small;
      length =
          required_same (codes "byteLength") whole v u (placed_other (codes "byteLength") buffer offset v (apart (codes "byteLength") (codes "buffer") refl) (apart (codes "byteLength") (codes "byteOffset") refl))
          ∙ length;
      offset =
          ap (option_map (λ found. unwrap_or found 0)) (optional_is (codes "byteOffset") whole u (Some (whole_number offset)) (placed_offset buffer offset v o) ∙ ap (option_map Some) (whole_again offset low));
      stride =
          optional_same (codes "byteStride") whole v u (placed_other (codes "byteStride") buffer offset v (apart (codes "byteStride") (codes "buffer") refl) (apart (codes "byteStride") (codes "byteOffset") refl))
          ∙ stride;
      packed =
          packed_same n v u (placed_other (codes "extensions") buffer offset v (apart (codes "extensions") (codes "buffer") refl) (apart (codes "extensions") (codes "byteOffset") refl))
          ∙ packed;
    })

pub placed_again : (buffers buffer offset : ℕ) (v : PlainTree) (f : ViewFields)
    → object_of (view_fields buffers) v ≡ Some f → buffer < buffers → buffer < 2 ^ 32 → offset < 2 ^ 32
    → object_of (view_fields buffers) (placed buffer offset v) ≡ Some (view_at buffer offset f)
placed_again buffers buffer offset v f e within small low =
    let r = object_read (view_fields buffers) v f e in
    let p = view_parts buffers v f r.1 in
    placed_read buffers buffer offset v f f.packed r.0 within small low p.length p.stride p.packed

-- ---- a view without its extension object

plain_object : (v : PlainTree) → IsObject v → IsObject (without_compression v)
unfolding without_compression
plain_object v o = emptied_object (codes "extensions") (without extension_name) v o

plain_other : (name : List ℕ) (v : PlainTree) → (name ≡ codes "extensions" → ⊥) → find_member name (without_compression v) ≡ find_member name v
unfolding without_compression
plain_other name v d = emptied_other name (codes "extensions") (without extension_name) v d

-- what is read of the extension object, by the value of `extensions`
abbrev pub packed_in : ℕ → Option PlainTree → Option (Option PackedFields)
packed_in n found = option_and_then (λ extensions. optional extensions (codes "EXT_meshopt_compression") (object_of (packed_fields n))) (option_map (λ o. unwrap_or o empty_object) (read_of an_object found))

pub packed_is : (n : ℕ) (v : PlainTree) → packed_of n v ≡ packed_in n (find_member (codes "extensions") v)
packed_is n v =
    ap (λ read. option_and_then (λ extensions. optional extensions (codes "EXT_meshopt_compression") (object_of (packed_fields n))) (option_map (λ o. unwrap_or o empty_object) read))
    (optional_is (codes "extensions") an_object v (find_member (codes "extensions") v) refl)

pub none_in_empty : (n : ℕ) → packed_in n None ≡ Some None
none_in_empty n = refl

-- a value that is no object isn't read
pub object_in : (n : ℕ) (value : PlainTree) (pack : Option PackedFields) → packed_in n (Some value) ≡ Some pack → IsObject value
object_in n null pack e = absurd (cc)
object_in n (truth b) pack e = absurd (cc)
object_in n (number s) pack e = absurd (cc)
object_in n (text s) pack e = absurd (cc)
object_in n (list ts) pack e = absurd (cc)
object_in n (members ms) pack e = tt

pub none_in : (m : ℕ) (value : PlainTree) → IsObject value → find_member extension_name value ≡ None → packed_in m (Some value) ≡ Some None
none_in m null o e = absurd o
none_in m (truth b) o e = absurd o
none_in m (number s) o e = absurd o
none_in m (text s) o e = absurd o
none_in m (list ts) o e = absurd o
none_in m (members ms) o e = optional_is extension_name (object_of (packed_fields m)) (members ms) None e

plain_packed : (n m : ℕ) (v : PlainTree) (pack : Option PackedFields) → HasDistinctKeys v → packed_of n v ≡ Some pack → packed_of m (without_compression v) ≡ Some None
unfolding without_compression
plain_packed n m v pack keys e =
    packed_is m (without_compression v)
    ∙ emptied_found (codes "extensions") (without extension_name) v (λ found. packed_in m found ≡ Some None) (record { gone = find_removed (codes "extensions") v keys }) (none_in_empty m) (λ value found.
    let read : packed_in n (Some value) ≡ Some pack = ap (packed_in n) (sym found) ∙ sym (packed_is n v) ∙ e in
    let o = object_in n value pack read in
    none_in m (without extension_name value) (object_after (remove_first extension_name) value o) (find_removed extension_name value (value_distinct (codes "extensions") value v keys found)))

pub plain_again : (buffers others offset : ℕ) (v : PlainTree) (f : ViewFields)
    → HasDistinctKeys v → object_of (view_fields buffers) v ≡ Some f → 0 < others → offset < 2 ^ 32
    → object_of (view_fields others) (placed 0 offset (without_compression v)) ≡ Some (plain_view_fields offset f)
plain_again buffers others offset v f keys e some low =
    let r = object_read (view_fields buffers) v f e in
    let p = view_parts buffers v f r.1 in
    let u = without_compression v in
    placed_read others 0 offset u f None (plain_object v r.0) some (omega arith) low
    (required_same (codes "byteLength") whole v u (plain_other (codes "byteLength") v (apart (codes "byteLength") (codes "extensions") refl)) ∙ p.length)
    (optional_same (codes "byteStride") whole v u (plain_other (codes "byteStride") v (apart (codes "byteStride") (codes "extensions") refl)) ∙ p.stride)
    (plain_packed buffers others v f.packed keys p.packed)

-- ---- a buffer

pub buffer_again : (n : ℕ) → n < 2 ^ 32 → object_of buffer_fields (sized_buffer n) ≡ Some (buffer_of_length n)
buffer_again n small =
    let b = sized_buffer n in
    let name = a_name (codes "byteLength") refl in
    let length : required b (codes "byteLength") whole ≡ Some n = required_found (codes "byteLength") whole (whole_number n) b (find_set (codes "byteLength") (whole_number n) empty_object tt name) ∙ whole_again n small in
    let uri : optional b (codes "uri") a_text ≡ Some None = optional_same (codes "uri") a_text empty_object b (find_set_other (codes "uri") (codes "byteLength") (whole_number n) empty_object (apart (codes "uri") (codes "byteLength") refl) name) in
    let extensions : defaulted b (codes "extensions") empty_object an_object ≡ Some empty_object = defaulted_same (codes "extensions") empty_object an_object empty_object b (find_set_other (codes "extensions") (codes "byteLength") (whole_number n) empty_object (apart (codes "extensions") (codes "byteLength") refl) name) in
    ap (option_and_then _) length ∙ ap (option_and_then _) uri ∙ ap (option_and_then _) extensions
