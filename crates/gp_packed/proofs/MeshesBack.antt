-- The meshes of a packed asset read back.
use Rattle.std.specs.Prelude.{cond, codes, option_map, IfSome}
use Rattle.std.specs.List.{enumerate_from}
use Rattle.std.proofs.Common.{◌≡◌, ℕ, ◌≤◌, Bool, true, false, List, [], ◌∷◌, map, Option, Some, refl, sym, ap, ◌∙◌}
use Rattle.gp_tree.specs.Lexical.{Each}
use Rattle.gp_tree.specs.Plain.{PlainTree}
use Rattle.gp_tree.specs.Find.{find_member}
use Rattle.gp_tree.specs.TreeEdits.{change_first, at_member}
use Rattle.gp_tree.proofs.Kept.{find_change}
use Rattle.gp_fields.specs.declared.fault.Place.TheVariants.{Meshes}
use Rattle.gp_fields.specs.declared.geometry.PrimitiveFields.{PrimitiveFields}
use Rattle.gp_fields.specs.Shapes.{object_of, list_of}
use Rattle.gp_fields.specs.Fields.{primitive_fields, mesh_fields}
use Rattle.gp_edits.proofs.FieldsBack.{required_found}
use Rattle.gp_edits.proofs.KeysBack.{object_after}
use Rattle.gp_edits.proofs.ViewsBack.{and_then_some, object_again, object_read}
use Rattle.gp_edits.proofs.ItemsBack.{items_are, items_same}
use Rattle.gp_unpack.proofs.EachItem.{each_of_all}
use Rattle.gp_asset.specs.Asset.{AssetParts}
use Rattle.gp_sameness.specs.Moved.{Moved, is_number_in, group_with}
use Rattle.gp_sameness.specs.References.{each_item}
use Rattle.gp_sameness.specs.Common.{primitive_place}
use Rattle.gp_packed.specs.GroupEdits.{indexed_primitive, with_all_indices}
use Rattle.gp_packed.specs.Packed.{packed_tree}
use Rattle.gp_packed.specs.MeshesBack.{list_of_group, list_at, indexed_fields, IsAccessorOf, indexed_mesh, indexed_meshes, HasListIn, IndexedMeshesReadBack, MeshesReadBack}
use Rattle.gp_packed.proofs.NumberedItems.{numbered_reads, list_after, found_after}
use Rattle.gp_packed.proofs.PrimitivesBack.{primitive_again}
use Rattle.gp_packed.proofs.PackedRoots.{meshes_found}

-- the group that is found has a list that reads back
found_step : (m : ℕ) (b : Bool) (group : Moved) (found : Option Moved) → HasListIn m group → IfSome (list_of_group found) (IsAccessorOf m) → IfSome (list_of_group (cond b (Some group) found)) (IsAccessorOf m)
found_step m true group found h more = h
found_step m false group found h more = more

list_found : (m at : ℕ) (moved : List Moved) → Each (HasListIn m) moved → IfSome (list_at moved at) (IsAccessorOf m)
list_found m at [] h = tt
list_found m at (group ∷ moved) h = found_step m (is_number_in group.primitives at) group (group_with (λ (g : Moved). g.primitives) moved at) h.0 (list_found m at moved h.1)

-- ---- one mesh

mesh_again : (moved : List Moved) (a : AssetParts) (n m mesh : ℕ) (t : PlainTree) (ps : List PrimitiveFields) → object_of (mesh_fields n) t ≡ Some ps → n ≤ m → Each (HasListIn m) moved
    → object_of (mesh_fields m) (at_member (codes "primitives") (each_item (λ at. indexed_primitive moved (primitive_place a mesh at))) t) ≡ Some (indexed_mesh moved a mesh ps)
mesh_again moved a n m mesh t ps e le lists =
    let key = codes "primitives" in
    let change : ℕ → PlainTree → PlainTree = λ at. indexed_primitive moved (primitive_place a mesh at) in
    let value : ℕ → PrimitiveFields → PrimitiveFields = λ at. indexed_fields (list_at moved (primitive_place a mesh at)) in
    let less = object_of (primitive_fields n) in
    let more = object_of (primitive_fields m) in
    let r = object_read (mesh_fields n) t ps e in
    let s = and_then_some (list_of less) (find_member key t) ps r.1 in
    let u = at_member key (each_item change) t in
    let one : (at : ℕ) (t : PlainTree) (p : PrimitiveFields) → less t ≡ Some p → more (change at t) ≡ Some (value at p) =
    λ at t p h. primitive_again n m (group_with (λ (g : Moved). g.primitives) moved (primitive_place a mesh at)) t p h le (list_found m (primitive_place a mesh at) moved lists) in
    object_again (mesh_fields m) u (object_after (change_first key (each_item change)) t r.0)
    ∙ required_found key (list_of more) (each_item change s.0) u (find_change key (each_item change) t ∙ ap (option_map (each_item change)) s.1)
    ∙ list_after less more (λ ts. map (λ (p : ℕ × PlainTree). change p.0 p.1) (enumerate_from 0 ts)) ps (indexed_mesh moved a mesh ps)
    (λ ts h. numbered_reads less more change value one 0 ts ps h) s.0 s.2

-- ---- all meshes

abbrev indexed_in : List Moved → AssetParts → ℕ → PlainTree → PlainTree
indexed_in moved a mesh = at_member (codes "primitives") (each_item (λ at. indexed_primitive moved (primitive_place a mesh at)))

none_indexed : (moved : List Moved) (a : AssetParts) (meshes : List (List PrimitiveFields)) → meshes ≡ [] → indexed_meshes moved a meshes ≡ []
none_indexed moved a meshes e = ap (indexed_meshes moved a) e

pub indexed_again : IndexedMeshesReadBack
unfolding with_all_indices
indexed_again moved a n m root meshes e le lists =
    let key = codes "meshes" in
    let less = object_of (mesh_fields n) in
    let more = object_of (mesh_fields m) in
    let found = find_member key root in
    let each = each_of_all (HasListIn m) moved lists in
    items_are Meshes key more (with_all_indices moved a root) (option_map (each_item (indexed_in moved a)) found) (find_change key (each_item (indexed_in moved a)) root)
    ∙ found_after Meshes less more (λ ts. map (λ (p : ℕ × PlainTree). indexed_in moved a p.0 p.1) (enumerate_from 0 ts)) meshes (indexed_meshes moved a meshes)
    (λ ts h. numbered_reads less more (indexed_in moved a) (indexed_mesh moved a) (λ mesh t ps read. mesh_again moved a n m mesh t ps read le each) 0 ts meshes h)
    (none_indexed moved a meshes)
    found
    (sym (items_are Meshes key less root found refl) ∙ e)

pub meshes_again : MeshesReadBack
meshes_again moved a n m root meshes e le lists =
    items_same Meshes (codes "meshes") (object_of (mesh_fields m)) (with_all_indices moved a root) (packed_tree moved a root) (meshes_found moved a root)
    ∙ indexed_again moved a n m root meshes e le lists
