-- How many bytes an element takes (glTF 2.0, sections 3.6.2.2 and 3.6.2.4).
use Rattle.std.specs.Prelude.{ℕ, ◌+◌, ◌*◌, ◌/◌}
use Rattle.gp_rules.specs.declared.accessing.Component.{Component}
use Rattle.gp_rules.specs.declared.accessing.Component.TheVariants.{I8, U8, I16, U16, U32, F32}
use Rattle.gp_rules.specs.declared.accessing.Shape.{Shape}
use Rattle.gp_rules.specs.declared.accessing.Shape.TheVariants.{Scalar, Vec2, Vec3, Vec4, Mat2, Mat3, Mat4}

abbrev pub component_size : Component → ℕ
component_size I8 = 1
component_size U8 = 1
component_size I16 = 2
component_size U16 = 2
component_size U32 = 4
component_size F32 = 4

-- up to the next multiple of 4
abbrev pub padded : ℕ → ℕ
padded n = (n + 3) / 4 * 4

-- the columns of a matrix begin at multiples of 4
abbrev pub element_size : Component → Shape → ℕ
element_size c Scalar = component_size c
element_size c Vec2 = 2 * component_size c
element_size c Vec3 = 3 * component_size c
element_size c Vec4 = 4 * component_size c
element_size c Mat2 = 2 * padded (2 * component_size c)
element_size c Mat3 = 3 * padded (3 * component_size c)
element_size c Mat4 = 4 * padded (4 * component_size c)
