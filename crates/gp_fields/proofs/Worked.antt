-- Small assets, as the definitions see them, by computing.
use Prim.Native.String.{String}
use Rattle.std.specs.Prelude.{◌≡◌, [], ◌∷◌, Option, Some, None}
use Rattle.std.proofs.Common.{refl}
use Rattle.std.specs.Str.{chars}
use Rattle.gp_tree.specs.Plain.{PlainTree, null}
use Rattle.gp_fields.specs.declared.fault.Place.TheVariants.{Root, ExtensionsUsed, Buffers, BufferViews, Accessors, Meshes, Skins, Animations, Images}
use Rattle.gp_fields.specs.declared.fault.FieldFault.{FieldFault}
use Rattle.gp_fields.specs.Fields.{mesh_fields}
use Rattle.gp_fields.specs.Record.{asset_fields, fault_of, lacking}
use Rattle.gp_fields.proofs.SmallValues.{n, word, array, object, ◌is◌}

-- a buffer of 4 bytes, a buffer view of buffer b, and an accessor of floats in view 0
abbrev buffer : PlainTree
buffer = object ("byteLength" is n "4" ∷ [])

abbrev view_of : String → PlainTree
view_of b = object ("buffer" is n b ∷ "byteLength" is n "4" ∷ [])

abbrev floats : String → PlainTree
floats count = object ("bufferView" is n "0" ∷ "componentType" is n "5126" ∷ "count" is n count ∷ "type" is word "SCALAR" ∷ [])

abbrev with_floats : String → PlainTree
with_floats count = object ("buffers" is array (buffer ∷ []) ∷ "bufferViews" is array (view_of "0" ∷ []) ∷ "accessors" is array (floats count ∷ []) ∷ [])

abbrev fault : PlainTree → Option FieldFault
fault t = fault_of (asset_fields t)

-- ---- fields

-- `[]`
root_is_no_object : fault (array []) ≡ Some (lacking Root 0)
unfolding chars asset_fields
root_is_no_object = refl

-- `{}`
nothing_there : fault (object []) ≡ None
unfolding chars asset_fields
nothing_there = refl

-- `{"buffers":null}`: not absent
null_member : fault (object ("buffers" is null ∷ [])) ≡ Some (lacking Buffers 0)
unfolding chars asset_fields
null_member = refl

-- `{"bufferViews":[{"buffer":0,"byteLength":4}]}`
no_buffers : fault (object ("bufferViews" is array (view_of "0" ∷ []) ∷ [])) ≡ Some (lacking BufferViews 0)
unfolding chars asset_fields
no_buffers = refl

-- of one buffer, 0 is the last reference; of two broken items the first is named
reference_past_the_end : fault (object ("buffers" is array (buffer ∷ []) ∷ "bufferViews" is array (view_of "0" ∷ view_of "1" ∷ view_of "2" ∷ []) ∷ [])) ≡ Some (lacking BufferViews 1)
unfolding chars asset_fields
reference_past_the_end = refl

one_float : fault (with_floats "1") ≡ None
unfolding chars asset_fields
one_float = refl

count_as_a_fraction : fault (with_floats "1.0") ≡ Some (lacking Accessors 0)
unfolding chars asset_fields
count_as_a_fraction = refl

count_with_an_exponent : fault (with_floats "1e0") ≡ Some (lacking Accessors 0)
unfolding chars asset_fields
count_with_an_exponent = refl

count_past_32_bits : fault (with_floats "4294967296") ≡ Some (lacking Accessors 0)
unfolding chars asset_fields
count_past_32_bits = refl

-- `{"extensionsRequired":[0],"extensionsUsed":["a",0]}`: the order of the table, and not of the text
used_before_required : fault (object ("extensionsRequired" is array (n "0" ∷ []) ∷ "extensionsUsed" is array (word "a" ∷ n "0" ∷ []) ∷ [])) ≡ Some (lacking ExtensionsUsed 1)
unfolding chars asset_fields
used_before_required = refl

-- `{"skins":null,"meshes":[{}]}`
mesh_without_primitives : fault (object ("skins" is null ∷ "meshes" is array (object [] ∷ []) ∷ [])) ≡ Some (lacking Meshes 0)
unfolding chars asset_fields
mesh_without_primitives = refl

skins_no_list : fault (object ("animations" is array (object [] ∷ []) ∷ "skins" is object [] ∷ [])) ≡ Some (lacking Skins 0)
unfolding chars asset_fields
skins_no_list = refl

animation_without_samplers : fault (object ("images" is array (n "0" ∷ []) ∷ "animations" is array (object [] ∷ []) ∷ [])) ≡ Some (lacking Animations 0)
unfolding chars asset_fields
animation_without_samplers = refl

image_no_object : fault (object ("images" is array (object [] ∷ n "0" ∷ []) ∷ [])) ≡ Some (lacking Images 1)
unfolding chars asset_fields
image_no_object = refl

-- `{"primitives":[{"attributes":{}}]}`: a list of triangles, without targets and indices
defaults_of_a_primitive : mesh_fields 0 (object ("primitives" is array (object ("attributes" is object [] ∷ []) ∷ []) ∷ []))
    ≡ Some (record { mode = 4; attributes = []; targets = []; indices = None } ∷ [])
unfolding chars
defaults_of_a_primitive = refl
