-- Small documents with a strip, by computing.
use Rattle.std.proofs.Common.{◌≡◌, ℕ, true, List, [], ◌∷◌, ◌++◌, Some, None, refl}
use Rattle.std.specs.Prelude.{codes}
use Rattle.std.specs.Str.{chars}
use Rattle.gp_tree.specs.Plain.{PlainTree, text, list, members, members_of, trees_of}
use Rattle.gp_tree.specs.Find.{PlainMember}
use Rattle.gp_rules.specs.declared.accessing.Component.TheVariants.{U8}
use Rattle.gp_rules.specs.declared.accessing.Shape.TheVariants.{Vec4}
use Rattle.gp_asset.specs.Asset.{AssetParts}
use Rattle.gp_edits.specs.Changes.{whole_number, emptied}
use Rattle.gp_edits.specs.Edits.{placed, without_compression, without_extension_named, with_one_buffer}
use Rattle.gp_moves.specs.MadeTrees.{list_tree}
use Rattle.gp_layout.specs.Row.{laid_buffer, buffer_length}
use Rattle.gp_unpack.specs.Unpacked.{unpacked_views, unpacked_tree}
use Rattle.gp_strips.specs.Strips.{corners_in_row}
use Rattle.gp_strips.specs.ListedTree.{with_accessors, with_primitives, with_views, view_tree}
use Rattle.gp_strips.specs.ListedDocument.{all_lists, made_lists, output_contents, listed_tree}

-- one view of so many bytes, an accessor of a quarter as many elements in it, and a strip of them
abbrev asset : ℕ → ℕ → ℕ → AssetParts
asset size count mode = record {
  buffers = [];
  views = record { buffer = 0; offset = 0; length = size; stride = None; packed = None } ∷ [];
  accessors = record { view = Some 0; offset = 0; component = U8; shape = Vec4; count = count; sparse = None } ∷ [];
  primitives = record { mesh = 0; at = 0; mode = mode; attributes = record { name = []; accessor = 0 } ∷ []; targets = []; indices = None } ∷ [];
  uses = [];
  images = [];
  closed = true;
}

abbrev sixteen : List ℕ
sixteen = 0 ∷ 1 ∷ 2 ∷ 3 ∷ 4 ∷ 5 ∷ 6 ∷ 7 ∷ 8 ∷ 9 ∷ 10 ∷ 11 ∷ 12 ∷ 13 ∷ 14 ∷ 15 ∷ []

strip_is_listed : all_lists (asset 16 4 5) (sixteen ∷ []) ≡ Some (0 ∷ 1 ∷ 2 ∷ 1 ∷ 3 ∷ 2 ∷ []) ∷ []
unfolding corners_in_row
strip_is_listed = refl

-- two vertices make no triangle
two_are_not : all_lists (asset 8 2 5) ((0 ∷ 1 ∷ 2 ∷ 3 ∷ 4 ∷ 5 ∷ 6 ∷ 7 ∷ []) ∷ []) ≡ None ∷ []
two_are_not = refl

-- a loop of lines is no strip
line_loop_is_not : all_lists (asset 16 4 2) (sixteen ∷ []) ≡ None ∷ []
line_loop_is_not = refl

-- ---- trees

abbrev object : List PlainMember → PlainTree
object ms = members (members_of ms)

abbrev items : List PlainTree → PlainTree
items ts = list (trees_of ts)

abbrev root_of : ℕ → List PlainTree → List PlainTree → List PlainMember → PlainTree
root_of bytes views accessors drawn = object (
    (codes "buffers", items (object ((codes "byteLength", whole_number bytes) ∷ []) ∷ []))
    ∷ (codes "bufferViews", items views)
    ∷ (codes "accessors", items accessors)
    ∷ (codes "meshes", items (object ((codes "primitives", items (object drawn ∷ [])) ∷ []) ∷ []))
    ∷ [])

abbrev vertices : ℕ → PlainTree
vertices count = object ((codes "bufferView", whole_number 0) ∷ (codes "count", whole_number count) ∷ [])

abbrev position : PlainMember
position = (codes "attributes", object ((codes "POSITION", whole_number 0) ∷ []))

-- the view of the vertices, at its place
abbrev first_view : ℕ → PlainTree
first_view size = object ((codes "byteLength", whole_number size) ∷ (codes "buffer", whole_number 0) ∷ (codes "byteOffset", whole_number 0) ∷ [])

abbrev before : ℕ → ℕ → PlainTree
before size count = root_of size (object ((codes "byteLength", whole_number size) ∷ (codes "buffer", whole_number 0) ∷ []) ∷ []) (vertices count ∷ []) (position ∷ (codes "mode", whole_number 5) ∷ [])

-- the list has a view and an accessor of its own
strip_in_tree : listed_tree (asset 16 4 5) (sixteen ∷ []) (before 16 4) ≡ root_of 40
    (first_view 16
    ∷ object ((codes "buffer", whole_number 0) ∷ (codes "byteOffset", whole_number 16) ∷ (codes "byteLength", whole_number 24) ∷ (codes "target", whole_number 34963) ∷ [])
    ∷ [])
    (vertices 4 ∷ object ((codes "bufferView", whole_number 1) ∷ (codes "componentType", whole_number 5125) ∷ (codes "count", whole_number 6) ∷ (codes "type", text (codes "SCALAR")) ∷ []) ∷ [])
    (position ∷ (codes "mode", whole_number 4) ∷ (codes "indices", whole_number 1) ∷ [])
unfolding chars corners_in_row listed_tree unpacked_views with_accessors with_primitives with_views view_tree list_tree placed without_compression emptied without_extension_named with_one_buffer buffer_length
strip_in_tree = refl

strip_in_bytes : laid_buffer (output_contents (sixteen ∷ []) (made_lists (all_lists (asset 16 4 5) (sixteen ∷ []))))
    ≡ Some (sixteen ++ 0 ∷ 0 ∷ 0 ∷ 0 ∷ 1 ∷ 0 ∷ 0 ∷ 0 ∷ 2 ∷ 0 ∷ 0 ∷ 0 ∷ 1 ∷ 0 ∷ 0 ∷ 0 ∷ 3 ∷ 0 ∷ 0 ∷ 0 ∷ 2 ∷ 0 ∷ 0 ∷ 0 ∷ [])
unfolding corners_in_row laid_buffer
strip_in_bytes = refl

-- where nothing is listed the tree is unpacked and no more
two_in_tree : listed_tree (asset 8 2 5) ((0 ∷ 1 ∷ 2 ∷ 3 ∷ 4 ∷ 5 ∷ 6 ∷ 7 ∷ []) ∷ []) (before 8 2) ≡ unpacked_tree ((0 ∷ 1 ∷ 2 ∷ 3 ∷ 4 ∷ 5 ∷ 6 ∷ 7 ∷ []) ∷ []) (before 8 2)
unfolding chars listed_tree unpacked_tree unpacked_views with_accessors with_primitives with_views placed without_compression emptied without_extension_named with_one_buffer buffer_length
two_in_tree = refl
