-- What the fields of an asset are after the edits of `Edits` that say that a view is compressed, as they are read from its tree again.
use Rattle.std.specs.Prelude.{◌≡◌, ℕ, ◌<◌, ◌^◌, [], ◌∷◌, Some, None, codes}
use Rattle.gp_tree.specs.Plain.{PlainTree}
use Rattle.gp_tree.specs.Find.{IsObject}
use Rattle.gp_fields.specs.Shapes.{object_of}
use Rattle.gp_fields.specs.Fields.{BufferFields, ViewFields, PackedFields, buffer_fields, view_fields}
use Rattle.gp_rules.specs.Kinds.{mode_name}
use Rattle.gp_edits.specs.declared.compression.Compression.{Compression}
use Rattle.gp_edits.specs.ReadingBack.{StaysListsOfNames, KeepsOthers}
use Rattle.gp_edits.specs.Edits.{extension_name, placed, compressed, fallback_buffer, with_extension_named}

-- ---- a view

-- the fields of a plain view in this buffer, from this byte on
abbrev pub plain_view_in : ℕ → ℕ → ViewFields → ViewFields
plain_view_in buffer offset f = record { buffer = buffer; offset = offset; length = f.length; stride = f.stride; packed = None }

-- a view without an extension object reads back where it was placed, by any number of buffers
abbrev pub UnpackedViewsReadBack : Type 0
UnpackedViewsReadBack = (buffers others buffer offset : ℕ) (v : PlainTree) (f : ViewFields)
    → object_of (view_fields buffers) v ≡ Some f → f.packed ≡ None → buffer < others → buffer < 2 ^ 32 → offset < 2 ^ 32
    → object_of (view_fields others) (placed buffer offset v) ≡ Some (plain_view_in buffer offset f)

-- each number reads back
pub record ReadsBack (c : Compression) : Type 0 where
  pub offset : c.offset < 2 ^ 32
  pub length : c.length < 2 ^ 32
  pub stride : c.stride < 2 ^ 32
  pub count : c.count < 2 ^ 32

-- the fields of an extension object, which has no filter
abbrev pub compression_fields : Compression → PackedFields
compression_fields c = record {
  buffer = 0;
  offset = c.offset;
  length = c.length;
  stride = c.stride;
  count = c.count;
  mode = mode_name c.mode;
  filter = codes "NONE";
}

abbrev pub compressed_view : Compression → ViewFields → ViewFields
compressed_view c f = record { buffer = f.buffer; offset = f.offset; length = f.length; stride = f.stride; packed = Some (compression_fields c) }

-- a view reads back with its new extension object
abbrev pub CompressedViewsReadBack : Type 0
CompressedViewsReadBack = (buffers : ℕ) (c : Compression) (v : PlainTree) (f : ViewFields)
    → object_of (view_fields buffers) v ≡ Some f → 0 < buffers → ReadsBack c
    → object_of (view_fields buffers) (compressed c v) ≡ Some (compressed_view c f)

-- ---- a buffer

abbrev pub fallback_fields : ℕ → BufferFields
fallback_fields n = record { length = n; uri = None; extensions = extension_name ∷ [] }

abbrev pub FallbackBuffersReadBack : Type 0
FallbackBuffersReadBack = (n : ℕ) → n < 2 ^ 32 → object_of buffer_fields (fallback_buffer n) ≡ Some (fallback_fields n)

-- ---- the root

-- where the lists of extensions are lists of texts, they are so with the name
abbrev pub AddedNamesReadBack : Type 0
AddedNamesReadBack = (t : PlainTree) → IsObject t → StaysListsOfNames t (with_extension_named t)

-- every other member is found as before
abbrev pub AddedNamesKeepOthers : Type 0
AddedNamesKeepOthers = KeepsOthers with_extension_named
