-- Sizes of elements, as the definitions see them, by computing.
use Rattle.std.specs.Prelude.{◌≡◌}
use Rattle.std.proofs.Common.{refl}
use Rattle.gp_rules.specs.declared.accessing.Component.TheVariants.{U8, I16, U16, F32}
use Rattle.gp_rules.specs.declared.accessing.Shape.TheVariants.{Vec3, Mat2, Mat3, Mat4}
use Rattle.gp_rules.specs.Sizes.{element_size}

sizes : (element_size U8 Mat2 ≡ 8) × (element_size U8 Mat3 ≡ 12) × (element_size I16 Mat3 ≡ 24) × (element_size F32 Mat4 ≡ 64) × (element_size U16 Vec3 ≡ 6)
sizes = (refl, refl, refl, refl, refl)
