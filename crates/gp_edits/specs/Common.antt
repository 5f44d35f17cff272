-- What the trees of two assets have in common that differ in where their bytes are and how they are stored.
use Rattle.std.specs.Prelude.{map, codes}
use Rattle.gp_tree.specs.Plain.{PlainTree}
use Rattle.gp_tree.specs.TreeEdits.{without, at_member, with_items}
use Rattle.gp_edits.specs.Changes.{left_out, without_text}
use Rattle.gp_edits.specs.Edits.{extension_name}

-- a buffer view without its place and its extension object
unfoldable pub common_view : PlainTree → PlainTree
common_view view = without (codes "byteOffset") (without (codes "buffer") (left_out (codes "extensions") (without extension_name) view))

-- both lists without the name of the extension
unfoldable pub common_names : PlainTree → PlainTree
common_names root = left_out (codes "extensionsRequired") (without_text extension_name) (left_out (codes "extensionsUsed") (without_text extension_name) root)

-- all but the buffers, the places of views, and the extension
unfoldable pub common : PlainTree → PlainTree
common root = common_names (at_member (codes "bufferViews") (with_items (map common_view)) (without (codes "buffers") root))
