use Rattle.std.proofs.Common.{◌≡◌, ℕ, List}
use Rattle.std.specs.List.{flat_map}
use Rattle.gp_fields.specs.declared.geometry.PrimitiveFields.{PrimitiveFields}
use Rattle.gp_asset.specs.Primitives.{primitives_of_mesh}
use Rattle.gp_asset.proofs.primitives.read_primitives.Given as goal

abbrev pub invariant-meshes : goal.invariant-meshes
invariant-meshes l = l.primitives.items ≡ flat_map (λ (m : ℕ × List PrimitiveFields). primitives_of_mesh m.0 m.1) l.yielded
