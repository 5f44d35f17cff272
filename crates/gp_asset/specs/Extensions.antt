-- Which extensions an asset uses (glTF 2.0, section 3.12), and those that tell nothing of vertices.
use Prim.Native.String.{String}
use Rattle.std.specs.Prelude.{ℕ, Bool, true, false, ◌&&◌, ◌||◌, List, [], ◌∷◌, ◌++◌, filter_map, Option, Some, None, Ok, codes}
use Rattle.std.specs.List.{list_any, list_all}
use Rattle.gp_tree.specs.Plain.{PlainTree}
use Rattle.gp_tree.specs.Find.{array_items, is_named, find_member}
use Rattle.gp_tree.specs.Anywhere.{keys_under}
use Rattle.gp_fields.specs.Shapes.{a_text}
use Rattle.gp_asset.specs.declared.purpose.Form.{Form}
use Rattle.gp_asset.specs.declared.purpose.Form.TheVariants.{Plain, Any}
use Rattle.gp_rules.specs.declared.fault.AssetFault.TheVariants.{AlreadyPacked, Foreign}
use Rattle.gp_rules.specs.Checks.{Checked, unless}

-- the texts of a list that is a member of this name
abbrev pub texts_in : Option PlainTree → List (List ℕ)
texts_in None = []
texts_in (Some found) = filter_map a_text (array_items found)

abbrev pub listed : List ℕ → PlainTree → List (List ℕ)
listed name t = texts_in (find_member name t)

-- the items of both lists, and the keys of each object that is the value of a member named `extensions`, at any place
-- of the JSON, also under `extras`; as they are spelled
unfoldable pub extensions_in_use : PlainTree → List (List ℕ)
extensions_in_use t = listed (codes "extensionsUsed") t ++ listed (codes "extensionsRequired") t ++ keys_under (codes "extensions") t

abbrev pub is_among : List ℕ → List (List ℕ) → Bool
is_among name used = list_any (is_named name) used

-- ---- the closed list: extensions by which a vertex is no more than what its accessors say

abbrev pub general_extensions : List String
general_extensions =
    "EXT_meshopt_compression" ∷ "EXT_texture_webp" ∷ "KHR_lights_punctual"
    ∷ "KHR_mesh_quantization" ∷ "KHR_texture_basisu" ∷ "KHR_texture_transform" ∷ []

abbrev pub material_extensions : List String
material_extensions =
    "KHR_materials_anisotropy" ∷ "KHR_materials_clearcoat" ∷ "KHR_materials_dispersion" ∷ "KHR_materials_emissive_strength"
    ∷ "KHR_materials_ior" ∷ "KHR_materials_iridescence" ∷ "KHR_materials_pbrSpecularGlossiness" ∷ "KHR_materials_sheen"
    ∷ "KHR_materials_specular" ∷ "KHR_materials_transmission" ∷ "KHR_materials_unlit" ∷ "KHR_materials_variants"
    ∷ "KHR_materials_volume" ∷ []

abbrev pub is_one_of : List String → List ℕ → Bool
is_one_of known spelling = list_any (λ name. is_named (codes name) spelling) known

abbrev pub is_on_closed_list : List ℕ → Bool
is_on_closed_list spelling = is_one_of general_extensions spelling || is_one_of material_extensions spelling

-- every extension in use is on the list
abbrev pub are_closed : List (List ℕ) → Bool
are_closed used = list_all is_on_closed_list used

-- ---- what is wrong with them

abbrev pub is_plain : Form → Bool
is_plain Plain = true
is_plain Any = false

-- what is packed isn't packed again, and the Khronos form of the extension is another format
unfoldable pub supported : Form → List (List ℕ) → Checked (List (List ℕ))
supported form used =
    unless (is_plain form && is_among (codes "EXT_meshopt_compression") used) AlreadyPacked
    (unless (is_among (codes "KHR_meshopt_compression") used) Foreign
    (Ok used))
