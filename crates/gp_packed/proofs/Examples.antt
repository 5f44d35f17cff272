-- Worked values of packing.
use Rattle.std.proofs.Common.{◌≡◌, ℕ, true, false, List, [], ◌∷◌, Some, None, codes, refl}
use Rattle.std.specs.Str.{chars}
use Rattle.gp_tree.specs.Plain.{PlainTree, truth, text, list, members, trees_of, members_of}
use Rattle.gp_rules.specs.declared.storage.StreamMode.TheVariants.{Attributes}
use Rattle.gp_rules.specs.declared.storage.View.{View}
use Rattle.gp_rules.specs.declared.accessing.Accessor.{Accessor}
use Rattle.gp_rules.specs.declared.accessing.Component.TheVariants.{U8, F32}
use Rattle.gp_rules.specs.declared.accessing.Shape.TheVariants.{Vec3}
use Rattle.gp_asset.specs.Asset.{AssetParts}
use Rattle.gp_fields.specs.Fields.{AccessorFields}
use Rattle.gp_edits.specs.Changes.{whole_number}
use Rattle.gp_edits.specs.Edits.{extension_name, placed, compressed, with_one_buffer, with_two_buffers, with_extension_named}
use Rattle.gp_storage.specs.declared.coding.Stream.{Stream}
use Rattle.gp_sameness.specs.Moved.{Moved, moved_flags}
use Rattle.gp_sameness.specs.Survivors.{survives, renumbered}
use Rattle.gp_packed.specs.GroupEdits.{moved_column, moved_list}
use Rattle.gp_packed.specs.AccessorsBack.{all_accessors_fields}
use Rattle.gp_layout.specs.Row.{laid_buffer, buffer_length}
use Rattle.gp_packed.specs.Plan.{Stored, places, fallback_end, count_streams, packed_bin}
use Rattle.gp_packed.specs.ViewEdits.{compression_of, stored_view, view_edit, with_buffers, with_names}

-- ---- a plain view of 5 bytes, then streams of 3 and 2 bytes for views of 8 and 12

abbrev first_stream : Stream
first_stream = record { coding = record { mode = Attributes; stride = 4 }; bytes = 21 ∷ 22 ∷ 23 ∷ [] }

abbrev second_stream : Stream
second_stream = record { coding = record { mode = Attributes; stride = 4 }; bytes = 31 ∷ 32 ∷ [] }

abbrev plain_view : Stored
plain_view = record { contents = 1 ∷ 2 ∷ 3 ∷ 4 ∷ 5 ∷ []; stream = None }

abbrev first_streamed : Stored
first_streamed = record { contents = 6 ∷ 6 ∷ 6 ∷ 6 ∷ 6 ∷ 6 ∷ 6 ∷ 6 ∷ []; stream = Some first_stream }

abbrev second_streamed : Stored
second_streamed = record { contents = 7 ∷ 7 ∷ 7 ∷ 7 ∷ 7 ∷ 7 ∷ 7 ∷ 7 ∷ 7 ∷ 7 ∷ 7 ∷ 7 ∷ []; stream = Some second_stream }

abbrev three_views : List Stored
three_views = plain_view ∷ first_streamed ∷ second_streamed ∷ []

three_places : places three_views
    ≡ record { start = 0; fallback = 0 } ∷ record { start = 8; fallback = 0 } ∷ record { start = 12; fallback = 8 } ∷ []
unfolding places
three_places = refl

three_fallback_end : fallback_end three_views ≡ 20
three_fallback_end = refl

two_streams : count_streams three_views ≡ 2
unfolding count_streams
two_streams = refl

three_parts : packed_bin three_views ≡ Some (1 ∷ 2 ∷ 3 ∷ 4 ∷ 5 ∷ 0 ∷ 0 ∷ 0 ∷ 21 ∷ 22 ∷ 23 ∷ 0 ∷ 31 ∷ 32 ∷ [])
unfolding laid_buffer
three_parts = refl

no_bin : packed_bin [] ≡ None
unfolding laid_buffer
no_bin = refl

-- ---- the edit of a view

first_compression : compression_of 8 8 first_stream ≡ record { offset = 8; length = 3; stride = 4; count = 2; mode = Attributes }
first_compression = refl

-- `{"buffer":0,"name":"v","byteLength":..}`
abbrev small_view : ℕ → PlainTree
small_view size = members (members_of (
    (codes "buffer", whole_number 0)
    ∷ (codes "name", text (codes "v"))
    ∷ (codes "byteLength", whole_number size)
    ∷ []))

-- the object of the extension
abbrev first_object : PlainTree
first_object = members (members_of (
    (codes "buffer", whole_number 0)
    ∷ (codes "byteOffset", whole_number 8)
    ∷ (codes "byteLength", whole_number 3)
    ∷ (codes "byteStride", whole_number 4)
    ∷ (codes "count", whole_number 2)
    ∷ (codes "mode", text (codes "ATTRIBUTES"))
    ∷ []))

streamed_edit : view_edit (first_streamed, record { start = 8; fallback = 24 }) (small_view 8)
    ≡ members (members_of (
    (codes "buffer", whole_number 1)
    ∷ (codes "name", text (codes "v"))
    ∷ (codes "byteLength", whole_number 8)
    ∷ (codes "byteOffset", whole_number 24)
    ∷ (codes "extensions", members (members_of ((extension_name, first_object) ∷ [])))
    ∷ []))
unfolding stored_view placed compressed chars
streamed_edit = refl

plain_edit : view_edit (plain_view, record { start = 16; fallback = 24 }) (small_view 5)
    ≡ members (members_of (
    (codes "buffer", whole_number 0)
    ∷ (codes "name", text (codes "v"))
    ∷ (codes "byteLength", whole_number 5)
    ∷ (codes "byteOffset", whole_number 16)
    ∷ []))
unfolding stored_view placed chars
plain_edit = refl

-- ---- the root

abbrev unlit : PlainTree
unlit = text (codes "KHR_materials_unlit")

-- `{"extensionsUsed":["KHR_materials_unlit"]}`
abbrev unlit_root : PlainTree
unlit_root = members (members_of ((codes "extensionsUsed", list (trees_of (unlit ∷ []))) ∷ []))

both_names : with_names three_views unlit_root
    ≡ members (members_of (
    (codes "extensionsUsed", list (trees_of (unlit ∷ text extension_name ∷ [])))
    ∷ (codes "extensionsRequired", list (trees_of (text extension_name ∷ [])))
    ∷ []))
unfolding with_names with_extension_named chars
both_names = refl

no_name : with_names (plain_view ∷ []) unlit_root ≡ unlit_root
unfolding with_names with_extension_named chars
no_name = refl

-- `{"buffers":[]}`
abbrev buffers_root : PlainTree
buffers_root = members (members_of ((codes "buffers", list (trees_of [])) ∷ []))

-- `{"byteLength":..}`
abbrev buffer_object : ℕ → PlainTree
buffer_object size = members (members_of ((codes "byteLength", whole_number size) ∷ []))

-- `{"byteLength":..,"extensions":{"EXT_meshopt_compression":{"fallback":true}}}`
abbrev marked_buffer : ℕ → PlainTree
marked_buffer size = members (members_of (
    (codes "byteLength", whole_number size)
    ∷ (codes "extensions", members (members_of ((extension_name, members (members_of ((codes "fallback", truth true) ∷ []))) ∷ [])))
    ∷ []))

no_buffer : with_buffers [] buffers_root ≡ members (members_of [])
unfolding with_buffers buffer_length with_one_buffer with_two_buffers chars
no_buffer = refl

one_buffer : with_buffers (plain_view ∷ []) buffers_root ≡ members (members_of ((codes "buffers", list (trees_of (buffer_object 5 ∷ []))) ∷ []))
unfolding with_buffers buffer_length with_one_buffer with_two_buffers chars
one_buffer = refl

two_buffers : with_buffers three_views buffers_root
    ≡ members (members_of ((codes "buffers", list (trees_of (buffer_object 14 ∷ marked_buffer 20 ∷ []))) ∷ []))
unfolding with_buffers buffer_length with_one_buffer with_two_buffers chars
two_buffers = refl

-- ---- what moves

-- the accessors 0 and 2 are its columns, and 3 its list
abbrev group : List ℕ → List ℕ → Moved
group columns lists = record {
  primitives = 0 ∷ [];
  columns = columns;
  lists = lists;
  list_accessor = None;
  count = 0;
  records = [];
  ordered = [];
}

flags_of_five : moved_flags (group (0 ∷ 2 ∷ []) (3 ∷ []) ∷ []) 5 ≡ true ∷ false ∷ true ∷ true ∷ false ∷ []
flags_of_five = refl

-- an accessor that reads this view
abbrev reader_of : ℕ → Accessor
reader_of view = record { view = Some view; offset = 0; component = F32; shape = Vec3; count = 1; sparse = None }

-- accessors 0, 1 and 2 read views 0, 1 and 2
abbrev three_readers : AssetParts
three_readers = record {
  buffers = [];
  views = [];
  accessors = reader_of 0 ∷ reader_of 1 ∷ reader_of 2 ∷ [];
  primitives = [];
  uses = [];
  images = [];
  closed = true;
}

-- the second accessor moves
abbrev second_moves : List Moved
second_moves = group (1 ∷ []) [] ∷ []

first_stays : renumbered second_moves three_readers 0 ≡ Some 0
unfolding renumbered survives
first_stays = refl

second_dropped : renumbered second_moves three_readers 1 ≡ None
unfolding renumbered survives
second_dropped = refl

third_moves_up : renumbered second_moves three_readers 2 ≡ Some 1
unfolding renumbered survives
third_moves_up = refl

-- ---- views of a sparse accessor

-- accessor 0 reads view 0, with places in view 1 and values in view 2; accessor 1 reads view 3
abbrev sparse_reader : Accessor
sparse_reader = record (reader_of 0) {
  sparse = Some (record { count = 1; index_view = 1; index_offset = 0; index_component = U8; value_view = 2; value_offset = 0 });
}

abbrev eight_bytes : View
eight_bytes = record { buffer = 0; offset = 0; length = 8; stride = None; packed = None }

abbrev sparse_asset : AssetParts
sparse_asset = record three_readers {
  views = eight_bytes ∷ eight_bytes ∷ eight_bytes ∷ eight_bytes ∷ [];
  accessors = sparse_reader ∷ reader_of 3 ∷ [];
}

abbrev first_moves : List Moved
first_moves = group (0 ∷ []) [] ∷ []

-- all three views go
own_goes : renumbered first_moves sparse_asset 0 ≡ None
unfolding renumbered survives
own_goes = refl

places_go : renumbered first_moves sparse_asset 1 ≡ None
unfolding renumbered survives
places_go = refl

values_go : renumbered first_moves sparse_asset 2 ≡ None
unfolding renumbered survives
values_go = refl

fourth_is_first : renumbered first_moves sparse_asset 3 ≡ Some 0
unfolding renumbered survives
fourth_is_first = refl

-- none where another one moves
places_stay : renumbered second_moves sparse_asset 1 ≡ Some 1
unfolding renumbered survives
places_stay = refl

-- ---- the edits of a sparse accessor

abbrev sparse_accessor : PlainTree
sparse_accessor = members (members_of (
    (codes "sparse", members (members_of []))
    ∷ (codes "byteOffset", whole_number 4)
    ∷ (codes "bufferView", whole_number 0)
    ∷ (codes "componentType", whole_number 5121)
    ∷ (codes "count", whole_number 9)
    ∷ (codes "type", text (codes "SCALAR"))
    ∷ (codes "max", list (trees_of (whole_number 8 ∷ [])))
    ∷ []))

-- two vertices
abbrev two_records : Moved
two_records = record (group (0 ∷ []) []) { records = [] ∷ [] ∷ [] }

column_edit : moved_column 7 two_records sparse_accessor
    ≡ members (members_of (
    (codes "bufferView", whole_number 7)
    ∷ (codes "componentType", whole_number 5121)
    ∷ (codes "count", whole_number 2)
    ∷ (codes "type", text (codes "SCALAR"))
    ∷ (codes "max", list (trees_of (whole_number 8 ∷ [])))
    ∷ []))
unfolding chars
column_edit = refl

list_edit : moved_list 7 two_records sparse_accessor
    ≡ members (members_of (
    (codes "bufferView", whole_number 7)
    ∷ (codes "componentType", whole_number 5123)
    ∷ (codes "count", whole_number 9)
    ∷ (codes "type", text (codes "SCALAR"))
    ∷ []))
unfolding chars
list_edit = refl

-- ---- what accessors read as

abbrev plain_fields : ℕ → AccessorFields
plain_fields view = record { view = Some view; offset = 4; component = 5126; shape = codes "VEC3"; count = 1; sparse = None }

abbrev sparse_fields_of : AccessorFields
sparse_fields_of = record (plain_fields 0) {
  sparse = Some (record { count = 1; indices = record { view = 1; offset = 0; component = 5121 }; values = record { view = 2; offset = 0 } });
}

-- accessor 1 reads the one view that stays, and accessor 0 the view behind it
both_fields : all_accessors_fields first_moves sparse_asset (sparse_fields_of ∷ plain_fields 3 ∷ [])
    ≡ record { view = Some 1; offset = 0; component = 5126; shape = codes "VEC3"; count = 0; sparse = None } ∷ plain_fields 0 ∷ []
unfolding renumbered survives
both_fields = refl

-- where accessor 1 moves, accessor 0 keeps its three views
kept_numbers : all_accessors_fields second_moves sparse_asset (sparse_fields_of ∷ plain_fields 3 ∷ [])
    ≡ sparse_fields_of ∷ record { view = Some 3; offset = 0; component = 5126; shape = codes "VEC3"; count = 0; sparse = None } ∷ []
unfolding renumbered survives
kept_numbers = refl

-- accessor 1 is the column, and a third accessor is made for primitives without indices
abbrev bare_moves : List Moved
bare_moves = record (group (1 ∷ []) []) { list_accessor = Some 2; count = 6; records = [] ∷ [] ∷ []; ordered = (0 ∷ 1 ∷ 0 ∷ []) ∷ [] } ∷ []

three_fields : all_accessors_fields bare_moves sparse_asset (sparse_fields_of ∷ plain_fields 3 ∷ [])
    ≡ sparse_fields_of
    ∷ record { view = Some 3; offset = 0; component = 5126; shape = codes "VEC3"; count = 2; sparse = None }
    ∷ record { view = Some 4; offset = 0; component = 5123; shape = codes "SCALAR"; count = 6; sparse = None }
    ∷ []
unfolding renumbered survives
three_fields = refl
