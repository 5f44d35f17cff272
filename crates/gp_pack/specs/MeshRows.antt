-- The indices of primitives laid out by mesh, one primitive after another.
use Rattle.std.specs.Prelude.{ℕ, zero, suc, ◌+◌, ◌-◌, List, [], ◌∷◌, ◌++◌, length, slice_get, Option, option_and_then}
use Rattle.gp_asset.specs.declared.geometry.Primitive.{Primitive}
use Rattle.gp_moves.specs.declared.group_edit.GroupEdit.{GroupEdit}
use Rattle.gp_moves.specs.declared.group_edit.Part.TheVariants.{Primitives}
use Rattle.gp_moves.specs.Firsts.{first_value, entries_of}
use Rattle.gp_pack.specs.declared.mesh_tables.MeshRow.{MeshRow}

-- ---- the accessor that a primitive gets

-- of the primitives of the group at this place, where it makes one
abbrev pub list_of_owner : List GroupEdit → Option ℕ → Option ℕ
list_of_owner groups place = option_and_then (λ (g : GroupEdit). g.list_accessor) (option_and_then (slice_get groups) place)

-- of the primitive at this place among all, by the first group that has it
abbrev pub list_of_place : List GroupEdit → ℕ → Option ℕ
list_of_place groups at = list_of_owner groups (first_value (entries_of Primitives groups) at)

-- ---- rows

-- of each mesh that is done, and of the primitives so far of the one behind them
pub record Rows : Type 0 where
  pub meshes : List (List (Option ℕ))
  pub last : List (Option ℕ)

abbrev pub rows : MeshRow → Rows
rows r = record { meshes = r.meshes.items; last = r.last.items }

abbrev pub no_rows : Rows
no_rows = record { meshes = []; last = [] }

-- so many meshes on
abbrev pub next_mesh : Rows → Rows
next_mesh r = record { meshes = r.meshes ++ r.last ∷ []; last = [] }

abbrev pub meshes_on : ℕ → Rows → Rows
meshes_on zero r = r
meshes_on (suc n) r = meshes_on n (next_mesh r)

-- the mesh with this number begun, where it isn't yet
abbrev pub at_mesh : ℕ → Rows → Rows
at_mesh mesh r = meshes_on (mesh - length r.meshes) r

abbrev pub with_list : Rows → Option ℕ → Rows
with_list r list = record { meshes = r.meshes; last = r.last ++ list ∷ [] }

abbrev pub all_rows : Rows → List (List (Option ℕ))
all_rows r = r.meshes ++ r.last ∷ []

-- the primitives from this place on behind those that are laid out
abbrev pub laid : (ℕ → Option ℕ) → Rows → ℕ → List Primitive → List (List (Option ℕ))
laid list r k [] = all_rows r
laid list r k (p ∷ ps) = laid list (with_list (at_mesh p.mesh r) (list k)) (k + 1) ps
