use Rattle.std.proofs.Common.{◌≡◌, ◌++◌, ℕ, map}
use Rattle.gp_fields.specs.declared.geometry.PrimitiveFields.{PrimitiveFields}
use Rattle.gp_asset.specs.Primitives.{primitive_of}
use Rattle.gp_asset.proofs.primitives.push_primitives.Given as goal

abbrev pub invariant-primitives : goal.invariant-primitives
invariant-primitives l = l.primitives.items ≡ l.fn.primitives.items ++ map (λ (p : ℕ × PrimitiveFields). primitive_of l.mesh p.0 p.1) l.yielded
