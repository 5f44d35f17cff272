-- The tree's views, buffers and names of extensions after packing (glTF 2.0, sections 5.10, 5.11 and 5.17).
use Rattle.std.specs.Prelude.{ℕ, ◌/◌, true, false, Bool, List, [], ◌∷◌, length, zip, Option, Some, None, codes}
use Rattle.std.specs.List.{list_any}
use Rattle.gp_tree.specs.Plain.{PlainTree, members, members_of}
use Rattle.gp_tree.specs.Find.{PlainMember}
use Rattle.gp_tree.specs.TreeEdits.{at_member, with_items}
use Rattle.gp_rules.specs.declared.storage.StreamMode.{StreamMode}
use Rattle.gp_rules.specs.declared.storage.StreamMode.TheVariants.{Attributes, Triangles, Indices}
use Rattle.gp_layout.specs.Row.{buffer_length}
use Rattle.gp_edits.specs.Changes.{whole_number, change_each}
use Rattle.gp_edits.specs.Edits.{placed, compressed, with_buffers_of, with_extension_named}
use Rattle.gp_edits.specs.declared.compression.Compression.{Compression}
use Rattle.gp_storage.specs.declared.coding.Stream.{Stream}
use Rattle.gp_packed.specs.MadeViews.{Made}
use Rattle.gp_packed.specs.Plan.{Stored, Place, places, parts, is_stream, fallback_end}

-- ---- a view

-- where its stream is, and what it holds
abbrev pub compression_of : ℕ → ℕ → Stream → Compression
compression_of start size stream = record {
  offset = start;
  length = length stream.bytes;
  stride = stream.coding.stride;
  count = size / stream.coding.stride;
  mode = stream.coding.mode;
}

-- a plain view stands in the first buffer; a stream's view in the second, and says where its stream is in the first
unfoldable pub stored_view : ℕ → Option Stream → Place → PlainTree → PlainTree
stored_view size None place view = placed 0 place.start view
stored_view size (Some stream) place view = compressed (compression_of place.start size stream) (placed 1 place.fallback view)

abbrev pub view_edit : Stored × Place → PlainTree → PlainTree
view_edit v view = stored_view (length v.0.contents) v.0.stream v.1 view

abbrev pub view_edits : List Stored → List (Stored × Place)
view_edits views = zip views (places views)

-- ---- views that are made

abbrev pub purpose : StreamMode → ℕ → List PlainMember
purpose Attributes stride = (codes "byteStride", whole_number stride) ∷ (codes "target", whole_number 34962) ∷ []
purpose Triangles stride = (codes "target", whole_number 34963) ∷ []
purpose Indices stride = (codes "target", whole_number 34963) ∷ []

-- one that has no place yet
abbrev pub unplaced : Made → PlainTree
unplaced v = members (members_of (
    (codes "buffer", whole_number 0)
    ∷ (codes "byteOffset", whole_number 0)
    ∷ (codes "byteLength", whole_number (length v.contents))
    ∷ purpose v.coding.mode v.coding.stride))

-- ---- the root

-- how long the buffer to fall back on is, which is there where a view is a stream
abbrev pub fallback_if : Bool → ℕ → Option ℕ
fallback_if false size = None
fallback_if true size = Some size

abbrev pub fallback_length : List Stored → Option ℕ
fallback_length views = fallback_if (list_any is_stream views) (fallback_end views)

-- a buffer for the parts, and that one; none where there are no views
unfoldable pub with_buffers : List Stored → PlainTree → PlainTree
with_buffers views root = with_buffers_of (buffer_length (parts views)) (fallback_length views) root

-- the extension is named where a view is a stream
abbrev pub named_if : Bool → PlainTree → PlainTree
named_if false root = root
named_if true root = with_extension_named root

unfoldable pub with_names : List Stored → PlainTree → PlainTree
with_names views root = named_if (list_any is_stream views) root

-- ---- where nothing moves: the views, then the buffers, then the names

unfoldable pub with_views : List Stored → PlainTree → PlainTree
with_views views root = at_member (codes "bufferViews") (with_items (change_each view_edit (view_edits views))) root

unfoldable pub with_stored : List Stored → PlainTree → PlainTree
with_stored views root = with_names views (with_buffers views (with_views views root))
