-- The primitives of all meshes (glTF 2.0, sections 5.23 and 5.24).
use Rattle.std.specs.Prelude.{ℕ, List, map, flat_map}
use Rattle.std.specs.List.{enumerate_from}
use Rattle.gp_fields.specs.declared.geometry.PrimitiveFields.{PrimitiveFields}
use Rattle.gp_asset.specs.declared.geometry.Primitive.{Primitive}

-- primitive `at` of a mesh
abbrev pub primitive_of : ℕ → ℕ → PrimitiveFields → Primitive
primitive_of mesh at p = record { mesh = mesh; at = at; mode = p.mode; attributes = p.attributes; targets = p.targets; indices = p.indices }

abbrev pub primitives_of_mesh : ℕ → List PrimitiveFields → List Primitive
primitives_of_mesh mesh ps = map (λ (p : ℕ × PrimitiveFields). primitive_of mesh p.0 p.1) (enumerate_from 0 ps)

-- by mesh, and then by place in it
unfoldable pub primitives_of : List (List PrimitiveFields) → List Primitive
primitives_of meshes = flat_map (λ (m : ℕ × List PrimitiveFields). primitives_of_mesh m.0 m.1) (enumerate_from 0 meshes)
