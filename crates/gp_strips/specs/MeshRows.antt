-- The accessors of primitives laid out by mesh, one primitive after another. These are helpers' words: no public contract cites them.
use Rattle.std.specs.Prelude.{ℕ, zero, suc, ◌+◌, ◌-◌, ◌<◌, ◌⊎◌, ◌≡◌, List, [], ◌∷◌, ◌++◌, length, Option}
use Rattle.gp_asset.specs.declared.geometry.Primitive.{Primitive}
use Rattle.gp_strips.specs.declared.mesh_tables.MeshRow.{MeshRow}

-- of each mesh that is done, and of the primitives so far of the one behind them
pub record Rows : Type 0 where
  pub meshes : List (List (Option ℕ))
  pub last : List (Option ℕ)

abbrev pub rows : MeshRow → Rows
rows r = record { meshes = r.meshes.items; last = r.last.items }

abbrev pub no_rows : Rows
no_rows = record { meshes = []; last = [] }

-- so many meshes on
abbrev pub next_mesh : Rows → Rows
next_mesh r = record { meshes = r.meshes ++ r.last ∷ []; last = [] }

abbrev pub meshes_on : ℕ → Rows → Rows
meshes_on zero r = r
meshes_on (suc n) r = meshes_on n (next_mesh r)

-- the mesh with this number begun, where it isn't yet
abbrev pub at_mesh : ℕ → Rows → Rows
at_mesh mesh r = meshes_on (mesh - length r.meshes) r

abbrev pub with_number : Rows → Option ℕ → Rows
with_number r number = record { meshes = r.meshes; last = r.last ++ number ∷ [] }

abbrev pub all_rows : Rows → List (List (Option ℕ))
all_rows r = r.meshes ++ r.last ∷ []

-- the primitives from this place on behind those that are laid out
abbrev pub laid : (ℕ → Option ℕ) → Rows → ℕ → List Primitive → List (List (Option ℕ))
laid number r k [] = all_rows r
laid number r k (p ∷ ps) = laid number (with_number (at_mesh p.mesh r) (number k)) (k + 1) ps

-- ---- primitives in order

-- the next of the same mesh, or the first of a later one
abbrev pub IsNext : ℕ → ℕ → Primitive → Type 0
IsNext mesh at p = ((p.mesh ≡ mesh) × (p.at ≡ at)) ⊎ ((mesh < p.mesh) × (p.at ≡ 0))

-- each is the next one behind so many of a mesh
abbrev pub AreInOrder : ℕ → ℕ → List Primitive → Type 0
AreInOrder mesh at [] = Unit {0}
AreInOrder mesh at (p ∷ ps) = IsNext mesh at p × AreInOrder p.mesh (p.at + 1) ps
