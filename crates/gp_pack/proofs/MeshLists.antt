-- Of each mesh the accessors that its primitives get are those of the groups that have these primitives.
use Rattle.std.specs.Prelude.{cond, flat_map, option_map, option_and_then, unwrap_or}
use Rattle.std.specs.List.{All, enumerate_from}
use Rattle.std.proofs.Common.{◌≡◌, ℕ, suc, ◌+◌, ◌<◌, ◌||◌, inl, inr, false, ◌==◌, List, [], ◌∷◌, ◌++◌, length, map, slice_get, Option, Some, None, refl, sym, ap, ◌∙◌, subst, arith}
use Rattle.std.proofs.lemmas.Bool.Decides.{nat_tests}
use Rattle.std.proofs.lemmas.Option.{slice_get-map, unwrap_or-slice_get}
use Rattle.std.proofs.lemmas.List.FromFn.{get_or-map-range_with_len}
use Rattle.gp_fields.specs.declared.geometry.PrimitiveFields.{PrimitiveFields}
use Rattle.gp_asset.specs.declared.geometry.Primitive.{Primitive}
use Rattle.gp_asset.specs.Asset.{AssetParts}
use Rattle.gp_asset.specs.Primitives.{primitive_of, primitives_of_mesh, primitives_of}
use Rattle.gp_moves.specs.declared.group_edit.GroupEdit.{GroupEdit}
use Rattle.gp_moves.specs.declared.group_edit.Part.TheVariants.{Primitives}
use Rattle.gp_moves.specs.declared.firsts.Entry.{Entry}
use Rattle.gp_moves.specs.Firsts.{first_value, first_values, entries_of}
use Rattle.gp_moves.specs.MadeTrees.{list_at as table_at}
use Rattle.gp_sameness.specs.Moved.{Moved, is_number_in, group_with}
use Rattle.gp_sameness.specs.Common.{primitive_place}
use Rattle.gp_packed.specs.MeshesBack.{list_of_group, list_at}
use Rattle.gp_pack.specs.MoveTables.{group_edit_of}
use Rattle.gp_pack.specs.Making.{NamesWhatIs}
use Rattle.gp_pack.specs.MeshRows.{list_of_owner, list_of_place, no_rows, laid}
use Rattle.gp_pack.proofs.FirstGroups.{first_found}
use Rattle.gp_pack.proofs.MeshRows.{AreInOrder, read_at}

-- ---- primitives of meshes are in order

abbrev mesh_from : ℕ → ℕ → List PrimitiveFields → List Primitive
mesh_from mesh at ps = map (λ (p : ℕ × PrimitiveFields). primitive_of mesh p.0 p.1) (enumerate_from at ps)

abbrev meshes_from : ℕ → List (List PrimitiveFields) → List Primitive
meshes_from mesh meshes = flat_map (λ (m : ℕ × List PrimitiveFields). primitives_of_mesh m.0 m.1) (enumerate_from mesh meshes)

mesh_in_order : (mesh at : ℕ) (ps : List PrimitiveFields) (rest : List Primitive) → ((n : ℕ) → AreInOrder mesh n rest) → AreInOrder mesh at (mesh_from mesh at ps ++ rest)
mesh_in_order mesh at [] rest go = go at
mesh_in_order mesh at (p ∷ ps) rest go = (inl (refl, refl), mesh_in_order mesh (at + 1) ps rest go)

-- behind any primitives of the meshes before
abbrev ComesLater : ℕ → List Primitive → Type 0
ComesLater mesh ps = (m n : ℕ) → m < mesh → AreInOrder m n ps

later_mesh : (mesh : ℕ) (ps : List PrimitiveFields) (rest : List Primitive) → ComesLater (mesh + 1) rest → ComesLater mesh (mesh_from mesh 0 ps ++ rest)
later_mesh mesh [] rest go m n less = go m n (omega (arith, less))
later_mesh mesh (p ∷ ps) rest go m n less = (inr (less, refl), mesh_in_order mesh 1 ps rest (λ k. go mesh k (omega arith)))

later_meshes : (mesh : ℕ) (meshes : List (List PrimitiveFields)) → ComesLater mesh (meshes_from mesh meshes)
later_meshes mesh [] = λ m n less. tt
later_meshes mesh (ps ∷ meshes) = later_mesh mesh ps (meshes_from (mesh + 1) meshes) (later_meshes (mesh + 1) meshes)

in_order : (meshes : List (List PrimitiveFields)) → AreInOrder 0 0 (primitives_of meshes)
unfolding primitives_of
in_order [] = tt
in_order (ps ∷ meshes) = mesh_in_order 0 0 ps (meshes_from 1 meshes) (λ n. later_meshes 1 meshes 0 n (omega arith))

-- ---- what a place gets

pub owner_read : (entries : List Entry) (count at : ℕ) (owners : List (Option ℕ)) → owners ≡ first_values entries count → at < count
    → unwrap_or (slice_get owners at) None ≡ first_value entries at
owner_read entries count at owners e h =
    ap (λ l. unwrap_or (slice_get l at) None) e
    ∙ unwrap_or-slice_get (first_values entries count) at None
    ∙ get_or-map-range_with_len (first_value entries) 0 count at at None h (omega arith)

by_group : (moved : List Moved) (o : Option ℕ) → list_of_owner (map group_edit_of moved) o ≡ list_of_group (option_and_then (slice_get moved) o)
by_group moved None = refl
by_group moved (Some k) = ap (option_and_then (λ (g : GroupEdit). g.list_accessor)) (slice_get-map group_edit_of moved k) ∙ by_found (slice_get moved k)
  where
    by_found : (o : Option Moved) → option_and_then (λ (g : GroupEdit). g.list_accessor) (option_map group_edit_of o) ≡ list_of_group o
    by_found None = refl
    by_found (Some m) = refl

same_list : (moved : List Moved) (at : ℕ) → list_of_place (map group_edit_of moved) at ≡ list_at moved at
same_list moved at =
    by_group moved (first_value (entries_of Primitives (map group_edit_of moved)) at)
    ∙ ap list_of_group (first_found moved (map group_edit_of moved) Primitives at refl)

-- ---- the place past all

none_past : (n : ℕ) (numbers : List ℕ) → All (λ at. at < n) numbers → is_number_in numbers n ≡ false
none_past n [] h = refl
none_past n (k ∷ numbers) h =
    let here : (k == n) ≡ false = let less = h 0 k (omega arith) in grind (arith, nat_tests, less) in
    ap (λ b. b || is_number_in numbers n) here ∙ none_past n numbers (λ i d within. h (suc i) d (omega (arith, within)))

no_group_past : (n : ℕ) (moved : List Moved) → All (λ (m : Moved). All (λ at. at < n) m.primitives) moved → group_with (λ (m : Moved). m.primitives) moved n ≡ None
no_group_past n [] h = refl
no_group_past n (m ∷ moved) h =
    ap (λ b. cond b (Some m) (group_with (λ (x : Moved). x.primitives) moved n)) (none_past n m.primitives (h 0 m (omega arith)))
    ∙ no_group_past n moved (λ i d within. h (suc i) d (omega (arith, within)))

-- ---- all of them

pub lists_read : (moved : List Moved) (a : AssetParts) (primitives : List Primitive) (groups : List GroupEdit) (lists : List (List (Option ℕ)))
    → lists ≡ laid (list_of_place groups) no_rows 0 primitives → primitives ≡ a.primitives → groups ≡ map group_edit_of moved → NamesWhatIs a moved
    → (mesh at : ℕ) → table_at lists mesh at ≡ list_at moved (primitive_place a mesh at)
lists_read moved a primitives groups lists e same are named mesh at =
    let edits = map group_edit_of moved in
    ap (λ l. table_at l mesh at) (e ∙ ap (λ gs. laid (list_of_place gs) no_rows 0 primitives) are ∙ ap (laid (list_of_place edits) no_rows 0) same)
    ∙ read_at (list_of_place edits) a.primitives mesh at (subst (AreInOrder 0 0) (sym named.by_mesh) (in_order named.meshes))
    (same_list moved (length a.primitives) ∙ ap list_of_group (no_group_past (length a.primitives) moved named.primitives))
    ∙ same_list moved (primitive_place a mesh at)
