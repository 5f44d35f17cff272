-- A square of two triangles without `indices`, whose six vertices have four positions: its group moves. An image's view stays, and becomes the first.
use Rattle.std.proofs.Common.{◌≡◌, ℕ, true, List, [], ◌∷◌, ◌++◌, Some, None, codes, Ok, refl}
use Rattle.std.specs.Fmt.{digits}
use Rattle.std.specs.Str.{chars}
use Rattle.gp_tree.specs.Plain.{PlainTree, text, list, members, trees_of, members_of}
use Rattle.gp_tree.specs.Find.{PlainMember}
use Rattle.gp_rules.specs.declared.accessing.Component.TheVariants.{U16}
use Rattle.gp_rules.specs.declared.accessing.Shape.TheVariants.{Vec3}
use Rattle.gp_rules.specs.Kinds.{component_of, shape_of}
use Rattle.gp_rules.specs.Views.{is_bad_view, view_of}
use Rattle.gp_rules.specs.Accessors.{known_accessor, is_bad_accessor, accessor_of, load}
use Rattle.gp_fields.specs.Record.{asset_fields}
use Rattle.gp_asset.specs.declared.purpose.Form.TheVariants.{Plain}
use Rattle.gp_asset.specs.declared.usage.Role.TheVariants.{Attribute}
use Rattle.gp_asset.specs.Extensions.{extensions_in_use, supported}
use Rattle.gp_asset.specs.Buffers.{is_needed, buffer_bytes, buffer_of}
use Rattle.gp_asset.specs.Primitives.{primitives_of}
use Rattle.gp_asset.specs.Uses.{use_as, uses_of_all}
use Rattle.gp_asset.specs.Asset.{AssetParts, by_rules, asset}
use Rattle.gp_edits.specs.Changes.{whole_number, left_out}
use Rattle.gp_edits.specs.Edits.{placed, with_one_buffer}
use Rattle.gp_edits.specs.Common.{common_view, common_names, common}
use Rattle.gp_groups.specs.WrittenAttributes.{written_part, encoded_attributes}
use Rattle.gp_groups.specs.WrittenGroup.{written_group}
use Rattle.gp_groups.specs.WrittenTriangles.{piece, encoded_triangles}
use Rattle.gp_layout.specs.Row.{buffer_length}
use Rattle.gp_storage.specs.Shared.{usage_in, shared_by, coding_with}
use Rattle.gp_storage.specs.Coding.{coding_of}
use Rattle.gp_storage.specs.Streams.{encoded, stream_of, stored_views}
use Rattle.gp_sameness.specs.Moved.{Moved}
use Rattle.gp_packed.specs.Plan.{all_stored, output_views, places}
use Rattle.gp_packed.specs.ViewEdits.{stored_view, with_buffers, with_names, with_views, with_stored}
use Rattle.gp_sameness.specs.Survivors.{survives, renumbered}
use Rattle.gp_sameness.specs.References.{with_new_references}
use Rattle.gp_packed.specs.GroupEdits.{with_moved_accessors, with_list_accessors, with_all_indices}
use Rattle.gp_sameness.specs.Common.{common_before, common_after}
use Rattle.gp_packed.specs.Packed.{with_made_views, packed_tree}

-- ---- the tree

abbrev object : List PlainMember → PlainTree
object ms = members (members_of ms)

abbrev items : List PlainTree → PlainTree
items ts = list (trees_of ts)

abbrev corner : ℕ → List PlainTree
corner n = whole_number n ∷ whole_number n ∷ whole_number 0 ∷ []

-- `{"bufferView":0,"componentType":5123,"count":..,"type":"VEC3","min":[0,0,0],"max":[1,1,0]}`
abbrev positions : ℕ → PlainTree
positions count = object (
    (codes "bufferView", whole_number 0)
    ∷ (codes "componentType", whole_number 5123)
    ∷ (codes "count", whole_number count)
    ∷ (codes "type", text (codes "VEC3"))
    ∷ (codes "min", items (corner 0))
    ∷ (codes "max", items (corner 1))
    ∷ [])

-- the same but for what may be written
abbrev common_positions : PlainTree
common_positions = object (
    (codes "componentType", whole_number 5123)
    ∷ (codes "type", text (codes "VEC3"))
    ∷ (codes "min", items (corner 0))
    ∷ (codes "max", items (corner 1))
    ∷ [])

-- `[{"primitives":[{"attributes":{"POSITION":0},..}]}]`
abbrev meshes : List PlainMember → PlainTree
meshes more = items (object ((codes "primitives", items (object ((codes "attributes", object ((codes "POSITION", whole_number 0) ∷ [])) ∷ more) ∷ [])) ∷ []) ∷ [])

-- `[{"bufferView":..}]`
abbrev images : ℕ → PlainTree
images view = items (object ((codes "bufferView", whole_number view) ∷ []) ∷ [])

-- `[{"byteLength":..}]`
abbrev buffers : ℕ → PlainTree
buffers size = items (object ((codes "byteLength", whole_number size) ∷ []) ∷ [])

abbrev square : PlainTree
square = object (
    (codes "meshes", meshes [])
    ∷ (codes "accessors", items (positions 6 ∷ []))
    ∷ (codes "images", images 1)
    ∷ (
      codes "bufferViews",
      items (
          object ((codes "buffer", whole_number 0) ∷ (codes "byteLength", whole_number 48) ∷ (codes "byteStride", whole_number 8) ∷ [])
          ∷ object ((codes "buffer", whole_number 0) ∷ (codes "byteOffset", whole_number 48) ∷ (codes "byteLength", whole_number 4) ∷ [])
          ∷ []),
    )
    ∷ (codes "buffers", buffers 52)
    ∷ [])

-- ---- its asset

abbrev at_point : ℕ → ℕ → List ℕ
at_point x y = x ∷ 0 ∷ y ∷ 0 ∷ 0 ∷ 0 ∷ 0 ∷ 0 ∷ []

abbrev bytes : List ℕ
bytes = at_point 0 0 ++ at_point 1 0 ++ at_point 1 1 ++ at_point 0 0 ++ at_point 1 1 ++ at_point 0 1 ++ 9 ∷ 9 ∷ 9 ∷ 9 ∷ []

abbrev square_asset : AssetParts
square_asset = record {
  buffers = Some bytes ∷ [];
  views =
      record { buffer = 0; offset = 0; length = 48; stride = Some 8; packed = None }
      ∷ record { buffer = 0; offset = 48; length = 4; stride = None; packed = None }
      ∷ [];
  accessors = record { view = Some 0; offset = 0; component = U16; shape = Vec3; count = 6; sparse = None } ∷ [];
  primitives = record { mesh = 0; at = 0; mode = 4; attributes = record { name = codes "POSITION"; accessor = 0 } ∷ []; targets = []; indices = None } ∷ [];
  uses = use_as Attribute 0 0 ∷ [];
  images = Some 1 ∷ [];
  closed = true;
}

stands : asset Plain square (Some bytes) ≡ Ok square_asset
unfolding chars digits asset asset_fields extensions_in_use supported by_rules is_needed buffer_bytes buffer_of is_bad_view view_of component_of shape_of known_accessor is_bad_accessor accessor_of load primitives_of uses_of_all
stands = refl

-- its group in its new order
abbrev at_corner : ℕ → ℕ → List ℕ
at_corner x y = x ∷ 0 ∷ y ∷ 0 ∷ 0 ∷ 0 ∷ []

abbrev moved : List Moved
moved = record {
  primitives = 0 ∷ [];
  columns = 0 ∷ [];
  lists = [];
  list_accessor = Some 1;
  count = 6;
  records = at_corner 0 0 ∷ at_corner 1 0 ∷ at_corner 1 1 ∷ at_corner 0 1 ∷ [];
  ordered = (0 ∷ 1 ∷ 2 ∷ 0 ∷ 2 ∷ 3 ∷ []) ∷ [];
} ∷ []

-- ---- before and after

abbrev square_common : PlainTree
square_common = object (
    (codes "meshes", meshes [])
    ∷ (codes "accessors", items (common_positions ∷ []))
    ∷ (codes "images", images 0)
    ∷ (codes "bufferViews", items (object ((codes "byteLength", whole_number 4) ∷ []) ∷ []))
    ∷ [])

before : common_before moved square_asset square ≡ square_common
unfolding common_before with_new_references renumbered survives common common_names common_view left_out digits chars
before = refl

abbrev square_packed : PlainTree
square_packed = object (
    (codes "meshes", meshes ((codes "indices", whole_number 1) ∷ []))
    ∷ (
      codes "accessors",
      items (
          object (
          (codes "bufferView", whole_number 1)
          ∷ (codes "componentType", whole_number 5123)
          ∷ (codes "count", whole_number 4)
          ∷ (codes "type", text (codes "VEC3"))
          ∷ (codes "min", items (corner 0))
          ∷ (codes "max", items (corner 1))
          ∷ [])
          ∷ object (
          (codes "bufferView", whole_number 2)
          ∷ (codes "componentType", whole_number 5123)
          ∷ (codes "count", whole_number 6)
          ∷ (codes "type", text (codes "SCALAR"))
          ∷ [])
          ∷ []),
    )
    ∷ (codes "images", images 0)
    ∷ (
      codes "bufferViews",
      items (
          object ((codes "buffer", whole_number 0) ∷ (codes "byteOffset", whole_number 0) ∷ (codes "byteLength", whole_number 4) ∷ [])
          ∷ object ((codes "buffer", whole_number 0) ∷ (codes "byteOffset", whole_number 4) ∷ (codes "byteLength", whole_number 32) ∷ (codes "byteStride", whole_number 8) ∷ (codes "target", whole_number 34962) ∷ [])
          ∷ object ((codes "buffer", whole_number 0) ∷ (codes "byteOffset", whole_number 36) ∷ (codes "byteLength", whole_number 12) ∷ (codes "target", whole_number 34963) ∷ [])
          ∷ []),
    )
    ∷ (codes "buffers", buffers 48)
    ∷ [])

after : common_after moved square_asset square_packed ≡ square_common
unfolding common_after survives common common_names common_view left_out digits chars
after = refl

packed : packed_tree moved square_asset square ≡ square_packed
unfolding packed_tree with_moved_accessors with_list_accessors with_all_indices with_new_references with_made_views renumbered survives with_stored with_views with_buffers with_names output_views all_stored stored_views coding_of coding_with shared_by usage_in stream_of encoded stored_view places placed with_one_buffer buffer_length digits chars encoded_attributes encoded_triangles written_part written_group piece
packed = refl
