-- How an asset of glTF 2.0 says where its bytes are, and that it uses EXT_meshopt_compression.
use Rattle.std.specs.Prelude.{ℕ, true, List, [], ◌∷◌, Option, Some, None, unwrap_or, codes}
use Rattle.gp_tree.specs.Plain.{PlainTree, truth, text, list, members, no_items, item, no_members, member}
use Rattle.gp_tree.specs.Find.{find_member}
use Rattle.gp_tree.specs.TreeEdits.{with_member, without, at_member, and_items, with_items}
use Rattle.gp_rules.specs.Kinds.{mode_name}
use Rattle.gp_edits.specs.Changes.{whole_number, emptied, change_each, without_text}
use Rattle.gp_edits.specs.declared.compression.Compression.{Compression}

abbrev pub extension_name : List ℕ
extension_name = codes "EXT_meshopt_compression"

-- ---- a buffer view (section 5.11)

-- in this buffer, from this byte on
unfoldable pub placed : ℕ → ℕ → PlainTree → PlainTree
placed buffer offset view = with_member (codes "byteOffset") (whole_number offset) (with_member (codes "buffer") (whole_number buffer) view)

-- without its extension object
unfoldable pub without_compression : PlainTree → PlainTree
without_compression view = emptied (codes "extensions") (without extension_name) view

-- at its place in the first buffer, without its extension object
abbrev pub plain_view : ℕ → PlainTree → PlainTree
plain_view start view = placed 0 start (without_compression view)

-- where its stream is in the first buffer, and what it holds
abbrev pub compression_object : Compression → PlainTree
compression_object c = members (
    member (codes "buffer") (whole_number 0)
    (member (codes "byteOffset") (whole_number c.offset)
    (member (codes "byteLength") (whole_number c.length)
    (member (codes "byteStride") (whole_number c.stride)
    (member (codes "count") (whole_number c.count)
    (member (codes "mode") (text (mode_name c.mode)) no_members))))))

-- with this extension object, in its `extensions` or in a new member of this name
unfoldable pub compressed : Compression → PlainTree → PlainTree
compressed c view =
    with_member (codes "extensions") (with_member extension_name (compression_object c) (unwrap_or (find_member (codes "extensions") view) (members no_members))) view

-- ---- the root (section 5.17)

-- a buffer of this length, and nothing else (section 5.10)
abbrev pub sized_buffer : ℕ → PlainTree
sized_buffer length = members (member (codes "byteLength") (whole_number length) no_members)

-- this buffer alone
unfoldable pub with_one_buffer : ℕ → PlainTree → PlainTree
with_one_buffer length root = with_member (codes "buffers") (list (item (sized_buffer length) no_items)) root

-- a buffer of this length without bytes, marked as one that is only fallen back on
abbrev pub fallback_buffer : ℕ → PlainTree
fallback_buffer length = members (
    member (codes "byteLength") (whole_number length)
    (member (codes "extensions") (members (member extension_name (members (member (codes "fallback") (truth true) no_members)) no_members)) no_members))

-- a buffer of bytes, and one to fall back on
unfoldable pub with_two_buffers : ℕ → ℕ → PlainTree → PlainTree
with_two_buffers length fallback root = with_member (codes "buffers") (list (item (sized_buffer length) (item (fallback_buffer fallback) no_items))) root

-- the buffers of an asset's views: none, one of this length for their bytes, or also one of another length to fall back on
abbrev pub with_buffers_of : Option ℕ → Option ℕ → PlainTree → PlainTree
with_buffers_of None fallback root = without (codes "buffers") root
with_buffers_of (Some length) None root = with_one_buffer length root
with_buffers_of (Some length) (Some fallback) root = with_two_buffers length fallback root

-- each view at its place there, without its extension object
abbrev pub with_plain_views : List ℕ → PlainTree → PlainTree
with_plain_views starts root = at_member (codes "bufferViews") (with_items (change_each plain_view starts)) root

-- the name of the extension at the end of a list, which is made where it isn't there
abbrev pub with_name_in : List ℕ → PlainTree → PlainTree
with_name_in key root = with_member key (and_items (text extension_name ∷ []) (unwrap_or (find_member key root) (list no_items))) root

unfoldable pub with_extension_named : PlainTree → PlainTree
with_extension_named root = with_name_in (codes "extensionsRequired") (with_name_in (codes "extensionsUsed") root)

-- the name of the extension taken out of both lists
abbrev pub without_name_in : List ℕ → PlainTree → PlainTree
without_name_in key root = emptied key (without_text extension_name) root

unfoldable pub without_extension_named : PlainTree → PlainTree
without_extension_named root = without_name_in (codes "extensionsRequired") (without_name_in (codes "extensionsUsed") root)
