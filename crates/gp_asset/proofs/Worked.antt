-- Small assets, as the definitions see them, by computing.
use Prim.Native.String.{String}
use Rattle.std.specs.Prelude.{◌≡◌, ℕ, Bool, true, false, List, [], ◌∷◌, Option, Some, None, Ok, Err, codes}
use Rattle.std.proofs.Common.{refl}
use Rattle.std.specs.Str.{chars}
use Rattle.gp_tree.specs.Plain.{PlainTree, null}
use Rattle.gp_tree.specs.Find.{PlainMember}
use Rattle.gp_glb.specs.Uri.{code_of, strip_prefix}
use Rattle.gp_fields.specs.declared.geometry.Entry.{Entry}
use Rattle.gp_fields.specs.declared.geometry.PrimitiveFields.{PrimitiveFields}
use Rattle.gp_fields.specs.Record.{asset_fields}
use Rattle.gp_fields.proofs.SmallValues.{n, word, array, object, ◌is◌}
use Rattle.gp_asset.specs.declared.purpose.Form.TheVariants.{Plain, Any}
use Rattle.gp_rules.specs.declared.fault.AssetFault.{AssetFault}
use Rattle.gp_rules.specs.declared.fault.AssetFault.TheVariants.{AlreadyPacked, Foreign, Buffer, Scheme, View as BadView, Accessor as BadAccessor, TooMuchData}
use Rattle.gp_rules.specs.declared.accessing.Accessor.{Accessor}
use Rattle.gp_rules.specs.declared.accessing.Component.TheVariants.{U8, F32}
use Rattle.gp_rules.specs.declared.accessing.Shape.TheVariants.{Scalar}
use Rattle.gp_asset.specs.declared.usage.Role.TheVariants.{Attribute, Target, Indices, InverseBind, SamplerInput, SamplerOutput}
use Rattle.gp_rules.specs.Checks.{Checked}
use Rattle.gp_rules.specs.Kinds.{component_of, shape_of}
use Rattle.gp_asset.specs.Extensions.{extensions_in_use, supported}
use Rattle.gp_asset.specs.Buffers.{is_needed, buffer_bytes, buffer_of}
use Rattle.gp_rules.specs.Views.{is_bad_view, view_of}
use Rattle.gp_rules.specs.Accessors.{known_accessor, is_bad_accessor, accessor_of, load}
use Rattle.gp_asset.specs.Primitives.{primitives_of}
use Rattle.gp_asset.specs.Uses.{use_as, uses_of_all, references, of_accessor, of_sparse_indices, of_sparse_values, of_image}
use Rattle.gp_asset.specs.Asset.{AssetParts, by_rules, asset}

abbrev fault_in : Checked AssetParts → Option AssetFault
fault_in (Ok parts) = None
fault_in (Err fault) = Some fault

abbrev closed_in : Checked AssetParts → Option Bool
closed_in (Ok parts) = Some parts.closed
closed_in (Err fault) = None

-- ---- extensions

abbrev with_extension : String → PlainTree
with_extension name = object ("extensionsUsed" is array (word name ∷ []) ∷ [])

-- `{"extensionsUsed":["KHR_meshopt_compression"]}`
foreign : (fault_in (asset Any (with_extension "KHR_meshopt_compression") None) ≡ Some Foreign)
    × (fault_in (asset Plain (with_extension "KHR_meshopt_compression") None) ≡ Some Foreign)
unfolding chars asset asset_fields extensions_in_use supported by_rules load
foreign = (refl, refl)

packed_already : (fault_in (asset Any (with_extension "EXT_meshopt_compression") None) ≡ None)
    × (fault_in (asset Plain (with_extension "EXT_meshopt_compression") None) ≡ Some AlreadyPacked)
unfolding chars asset asset_fields extensions_in_use supported by_rules load
packed_already = (refl, refl)

-- `{"extras":[{"extensions":{"\u004BHR_meshopt_compression":null}}]}`
abbrev under_extras : PlainTree
under_extras = object ("extras" is array (object ("extensions" is object ((92 ∷ codes "u004BHR_meshopt_compression", null) ∷ []) ∷ []) ∷ []) ∷ [])

foreign_under_extras : fault_in (asset Any under_extras None) ≡ Some Foreign
unfolding chars asset asset_fields extensions_in_use supported
foreign_under_extras = refl

closed : (closed_in (asset Any (with_extension "KHR_texture_transform") None) ≡ Some true)
    × (closed_in (asset Any (with_extension "EXT_mesh_gpu_instancing") None) ≡ Some false)
unfolding chars asset asset_fields extensions_in_use supported by_rules load primitives_of uses_of_all
closed = (refl, refl)

-- ---- buffers and views

-- a buffer of 4 bytes with these members beside, and a view of so many of them
abbrev one_view : List PlainMember → String → PlainTree
one_view beside count = object (
    "buffers" is array (object ("byteLength" is n "4" ∷ beside) ∷ [])
    ∷ "bufferViews" is array (object ("buffer" is n "0" ∷ "byteLength" is n count ∷ []) ∷ [])
    ∷ [])

abbrev chunk : Option (List ℕ)
chunk = Some (1 ∷ 2 ∷ 3 ∷ 4 ∷ [])

no_chunk : fault_in (asset Any (one_view [] "4") None) ≡ Some (Buffer 0)
unfolding chars asset asset_fields extensions_in_use supported by_rules is_needed buffer_bytes buffer_of
no_chunk = refl

whole_buffer : fault_in (asset Any (one_view [] "4") chunk) ≡ None
unfolding chars asset asset_fields extensions_in_use supported by_rules is_needed buffer_bytes buffer_of is_bad_view view_of load
whole_buffer = refl

past_its_buffer : fault_in (asset Any (one_view [] "5") chunk) ≡ Some (BadView 0)
unfolding chars asset asset_fields extensions_in_use supported by_rules is_needed buffer_bytes buffer_of is_bad_view view_of
past_its_buffer = refl

-- a `uri` is read, and the BIN chunk isn't
other_scheme : fault_in (asset Any (one_view ("uri" is word "a.bin" ∷ []) "4") chunk) ≡ Some (Scheme 0)
unfolding chars asset asset_fields extensions_in_use supported by_rules is_needed buffer_bytes buffer_of code_of strip_prefix
other_scheme = refl

-- ---- accessors

-- a view of 4 bytes, and so many floats in it
abbrev floats_in_view : String → PlainTree
floats_in_view count = object (
    "buffers" is array (object ("byteLength" is n "4" ∷ []) ∷ [])
    ∷ "bufferViews" is array (object ("buffer" is n "0" ∷ "byteLength" is n "4" ∷ []) ∷ [])
    ∷ "accessors" is array (object ("bufferView" is n "0" ∷ "componentType" is n "5126" ∷ "count" is n count ∷ "type" is word "SCALAR" ∷ []) ∷ [])
    ∷ [])

two_floats_in_four_bytes : fault_in (asset Any (floats_in_view "2") chunk) ≡ Some (BadAccessor 0)
unfolding chars asset asset_fields extensions_in_use supported by_rules is_needed buffer_bytes buffer_of is_bad_view view_of component_of shape_of known_accessor is_bad_accessor accessor_of
two_floats_in_four_bytes = refl

-- so many floats without a view
abbrev floats : String → PlainTree
floats count = object ("accessors" is array (object ("componentType" is n "5126" ∷ "count" is n count ∷ "type" is word "SCALAR" ∷ []) ∷ []) ∷ [])

most_floats : fault_in (asset Any (floats "536870912") None) ≡ None
unfolding chars asset asset_fields extensions_in_use supported by_rules component_of shape_of known_accessor is_bad_accessor accessor_of load
most_floats = refl

too_many_floats : fault_in (asset Any (floats "536870913") None) ≡ Some TooMuchData
unfolding chars asset asset_fields extensions_in_use supported by_rules component_of shape_of known_accessor is_bad_accessor accessor_of load
too_many_floats = refl

-- ---- uses and references

abbrev entry : String → ℕ → Entry
entry name accessor = record { name = codes name; accessor = accessor }

abbrev with_target : PrimitiveFields
with_target = record { mode = 4; attributes = entry "POSITION" 0 ∷ entry "NORMAL" 1 ∷ []; targets = (entry "POSITION" 2 ∷ []) ∷ []; indices = Some 3 }

-- of one primitive, behind a mesh without any; of the second skin; of one sampler
uses : uses_of_all (primitives_of ([] ∷ (with_target ∷ []) ∷ [])) (None ∷ Some 4 ∷ []) ((record { input = 5; output = 6 } ∷ []) ∷ [])
    ≡ use_as Attribute 0 0 ∷ use_as Attribute 0 1 ∷ use_as Target 0 2 ∷ use_as Indices 0 3 ∷ use_as InverseBind 1 4 ∷ use_as SamplerInput 0 5 ∷ use_as SamplerOutput 0 6 ∷ []
unfolding chars primitives_of uses_of_all
uses = refl

abbrev with_sparse : Accessor
with_sparse = record {
  view = Some 7;
  offset = 0;
  component = F32;
  shape = Scalar;
  count = 2;
  sparse = Some (record { count = 1; index_view = 5; index_offset = 0; index_component = U8; value_view = 6; value_offset = 0 });
}

-- of one accessor, and of the second image
references_in_order : references (with_sparse ∷ []) (None ∷ Some 8 ∷ []) ≡ (7, of_accessor 0) ∷ (5, of_sparse_indices 0) ∷ (6, of_sparse_values 0) ∷ (8, of_image 1) ∷ []
references_in_order = refl
