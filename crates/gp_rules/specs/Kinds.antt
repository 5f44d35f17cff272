-- Numbers and names of the standard, and the components, types of elements and modes of streams that they stand for.
use Rattle.std.specs.Prelude.{ℕ, ◌==◌, List, [], ◌∷◌, find, Option, codes}
use Rattle.gp_tree.specs.Find.{is_named}
use Rattle.gp_rules.specs.declared.accessing.Component.{Component}
use Rattle.gp_rules.specs.declared.accessing.Component.TheVariants.{I8, U8, I16, U16, U32, F32}
use Rattle.gp_rules.specs.declared.accessing.Shape.{Shape}
use Rattle.gp_rules.specs.declared.accessing.Shape.TheVariants.{Scalar, Vec2, Vec3, Vec4, Mat2, Mat3, Mat4}
use Rattle.gp_rules.specs.declared.storage.StreamMode.{StreamMode}
use Rattle.gp_rules.specs.declared.storage.StreamMode.TheVariants.{Attributes, Triangles, Indices}

-- ---- components (glTF 2.0, section 5.1.3, `componentType`)

abbrev pub component_number : Component → ℕ
component_number I8 = 5120
component_number U8 = 5121
component_number I16 = 5122
component_number U16 = 5123
component_number U32 = 5125
component_number F32 = 5126

abbrev pub components : List Component
components = I8 ∷ U8 ∷ I16 ∷ U16 ∷ U32 ∷ F32 ∷ []

unfoldable pub component_of : ℕ → Option Component
component_of number = find (λ c. component_number c == number) components

-- ---- types of elements (section 5.1.6, `type`)

abbrev pub shape_name : Shape → List ℕ
shape_name Scalar = codes "SCALAR"
shape_name Vec2 = codes "VEC2"
shape_name Vec3 = codes "VEC3"
shape_name Vec4 = codes "VEC4"
shape_name Mat2 = codes "MAT2"
shape_name Mat3 = codes "MAT3"
shape_name Mat4 = codes "MAT4"

abbrev pub shapes : List Shape
shapes = Scalar ∷ Vec2 ∷ Vec3 ∷ Vec4 ∷ Mat2 ∷ Mat3 ∷ Mat4 ∷ []

-- the type with the name that is spelled so
unfoldable pub shape_of : List ℕ → Option Shape
shape_of spelling = find (λ s. is_named (shape_name s) spelling) shapes

-- ---- modes of streams (EXT_meshopt_compression, `mode`)

abbrev pub mode_name : StreamMode → List ℕ
mode_name Attributes = codes "ATTRIBUTES"
mode_name Triangles = codes "TRIANGLES"
mode_name Indices = codes "INDICES"

abbrev pub modes : List StreamMode
modes = Attributes ∷ Triangles ∷ Indices ∷ []

unfoldable pub mode_of : List ℕ → Option StreamMode
mode_of spelling = find (λ m. is_named (mode_name m) spelling) modes
