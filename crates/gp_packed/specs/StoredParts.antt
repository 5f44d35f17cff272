-- The fields of views that are stored in one buffer, plain or as streams, and the views that they stand for.
use Rattle.std.specs.Prelude.{⊤, ◌≡◌, ℕ, ◌<◌, ◌*◌, ◌/◌, Bool, true, false, List, [], ◌∷◌, ◌++◌, map, length, Option, Some, None, IfSome, Ok, codes}
use Rattle.std.specs.List.{All, list_any}
use Rattle.gp_fields.specs.Fields.{BufferFields, ViewFields, PackedFields}
use Rattle.gp_fields.specs.Record.{AssetFields}
use Rattle.gp_layout.specs.Layout.{end, laid}
use Rattle.gp_edits.specs.Edits.{extension_name}
use Rattle.gp_edits.specs.ReadingBack.{buffer_of_length}
use Rattle.gp_rules.specs.declared.storage.View.{View}
use Rattle.gp_rules.specs.declared.storage.Packed.{Packed}
use Rattle.gp_rules.specs.Kinds.{mode_name}
use Rattle.gp_asset.specs.Extensions.{are_closed}
use Rattle.gp_rules.specs.Views.{is_stride_in, is_count_in, agrees}
use Rattle.gp_asset.specs.Asset.{AssetParts}
use Rattle.gp_unpack.specs.Contents.{decoded}
use Rattle.gp_storage.specs.declared.coding.Stream.{Stream}
use Rattle.gp_packed.specs.Plan.{Stored, Place, parts, is_stream, fallback_end}

-- bytes as a file has them
abbrev pub AreBytes : List ℕ → Type 0
AreBytes bytes = All (λ byte. byte < 256) bytes

-- ---- buffers

abbrev pub fallback_of_length : ℕ → BufferFields
fallback_of_length n = record { length = n; uri = None; extensions = extension_name ∷ [] }

abbrev pub buffers_for : Bool → ℕ → ℕ → List BufferFields
buffers_for false size fallback = buffer_of_length size ∷ []
buffers_for true size fallback = buffer_of_length size ∷ fallback_of_length fallback ∷ []

unfoldable pub stored_buffers : List Stored → List BufferFields
stored_buffers [] = []
stored_buffers (s ∷ views) = buffers_for (list_any is_stream (s ∷ views)) (end (map length (parts (s ∷ views)))) (fallback_end (s ∷ views))

-- the first has the parts, and maybe more bytes; the second has none
abbrev pub bytes_for : Bool → List ℕ → List (Option (List ℕ))
bytes_for false bytes = Some bytes ∷ []
bytes_for true bytes = Some bytes ∷ None ∷ []

unfoldable pub stored_bytes : List Stored → List ℕ → List (Option (List ℕ))
stored_bytes [] more = []
stored_bytes (s ∷ views) more = bytes_for (list_any is_stream (s ∷ views)) (laid (parts (s ∷ views)) ++ more)

-- ---- views

abbrev pub packed_fields_of : ℕ → ℕ → Stream → PackedFields
packed_fields_of start size stream = record {
  buffer = 0;
  offset = start;
  length = length stream.bytes;
  stride = stream.coding.stride;
  count = size / stream.coding.stride;
  mode = mode_name stream.coding.mode;
  filter = codes "NONE";
}

abbrev pub view_fields_by : ℕ → Option Stream → Place → ViewFields → ViewFields
view_fields_by size None place f = record { buffer = 0; offset = place.start; length = f.length; stride = f.stride; packed = None }
view_fields_by size (Some stream) place f = record {
  buffer = 1;
  offset = place.fallback;
  length = f.length;
  stride = f.stride;
  packed = Some (packed_fields_of place.start size stream);
}

abbrev pub stored_fields_of : Stored × Place → ViewFields → ViewFields
stored_fields_of v f = view_fields_by (length v.0.contents) v.0.stream v.1 f

abbrev pub stored_views_fields : List (Stored × Place) → List ViewFields → List ViewFields
stored_views_fields [] fs = []
stored_views_fields (v ∷ vs) [] = []
stored_views_fields (v ∷ vs) (f ∷ fs) = stored_fields_of v f ∷ stored_views_fields vs fs

abbrev pub packed_part_of : ℕ → ℕ → Stream → Packed
packed_part_of start size stream = record {
  buffer = 0;
  offset = start;
  length = length stream.bytes;
  stride = stream.coding.stride;
  count = size / stream.coding.stride;
  mode = stream.coding.mode;
}

abbrev pub view_part_by : ℕ → Option Stream → Place → View → View
view_part_by size None place v = record { buffer = 0; offset = place.start; length = v.length; stride = v.stride; packed = None }
view_part_by size (Some stream) place v = record {
  buffer = 1;
  offset = place.fallback;
  length = v.length;
  stride = v.stride;
  packed = Some (packed_part_of place.start size stream);
}

abbrev pub stored_part_of : Stored × Place → View → View
stored_part_of s v = view_part_by (length s.0.contents) s.0.stream s.1 v

abbrev pub stored_views_parts : List (Stored × Place) → List View → List View
stored_views_parts [] vs = []
stored_views_parts (s ∷ ss) [] = []
stored_views_parts (s ∷ ss) (v ∷ vs) = stored_part_of s v ∷ stored_views_parts ss vs

-- ---- what suits a view

-- the stream is one of the extension's, of whole elements, and means the contents
pub record IsStreamOf (stride : Option ℕ) (contents : List ℕ) (stream : Stream) : Type 0 where
  pub strides : is_stride_in stream.coding.mode stream.coding.stride ≡ true
  pub counts : is_count_in stream.coding.mode (length contents / stream.coding.stride) ≡ true
  pub whole : stream.coding.stride * (length contents / stream.coding.stride) ≡ length contents
  pub agree : agrees stride stream.coding.stride ≡ true
  pub shorter : length stream.bytes < length contents
  pub longer : 5 < length stream.bytes
  pub means : decoded stream.coding.mode stream.bytes (length contents / stream.coding.stride) stream.coding.stride ≡ Ok contents

-- what is stored are the bytes of a view of this length and stride
pub record Suits (length_of : ℕ) (stride : Option ℕ) (s : Stored) : Type 0 where
  pub whole : length s.contents ≡ length_of
  pub stream : IfSome s.stream (IsStreamOf stride s.contents)

abbrev pub SuitEach : List View → List Stored → Type 0
SuitEach [] [] = ⊤
SuitEach [] (s ∷ ss) = ⊥
SuitEach (v ∷ vs) [] = ⊥
SuitEach (v ∷ vs) (s ∷ ss) = Suits v.length v.stride s × SuitEach vs ss

-- ---- a whole asset

abbrev pub stored_fields : List Stored → List (Stored × Place) → AssetFields → AssetFields
stored_fields views placed f = record f { buffers = stored_buffers views; views = stored_views_fields placed f.views }

abbrev pub stored_parts : List Stored → List (Stored × Place) → List ℕ → List (List ℕ) → AssetParts → AssetParts
stored_parts views placed more used a = record a {
  buffers = stored_bytes views more;
  views = stored_views_parts placed a.views;
  closed = are_closed used;
}
