-- The primitives of an asset that was read refer to accessors that it has.
use Rattle.std.specs.Prelude.{codes, option_map, option_to_list, unwrap_or, IfSome}
use Rattle.std.proofs.Common.{◌≡◌, ℕ, ◌+◌, ◌<◌, List, [], ◌∷◌, ◌++◌, length, map, Option, Some, None, refl, sym, ap, ◌∙◌, subst}
use Rattle.std.specs.List.{All, flat_map, enumerate_from}
use Rattle.std.proofs.lemmas.List.Elements.{All-nil, All-cons, All-append, All-map, All-head, All-tail}
use Rattle.gp_tree.specs.Plain.{PlainTree, null, truth, number, text, list, members}
use Rattle.gp_tree.specs.Find.{PlainMember, item_list, object_members, find_member}
use Rattle.gp_fields.specs.declared.geometry.Entry.{Entry}
use Rattle.gp_fields.specs.declared.geometry.PrimitiveFields.{PrimitiveFields}
use Rattle.gp_fields.specs.declared.fault.Place.TheVariants.{Meshes}
use Rattle.gp_fields.specs.Shapes.{Shaped, object_of, each, list_of, reference, required, defaulted}
use Rattle.gp_fields.specs.Fields.{entry_of, entries_of, entries_fields, primitive_fields, mesh_fields}
use Rattle.gp_edits.proofs.AssetsBack.{asset_parts}
use Rattle.gp_edits.proofs.FieldsBack.{read_of, optional_is}
use Rattle.gp_edits.proofs.ItemsBack.{items_are}
use Rattle.gp_edits.proofs.ViewsBack.{and_then_some, object_read}
use Rattle.gp_rules.specs.Accessors.{accessor_of}
use Rattle.gp_asset.specs.Asset.{AssetParts}
use Rattle.gp_asset.specs.Primitives.{primitive_of, primitives_of_mesh, primitives_of}
use Rattle.gp_elements.proofs.Sound.{accessors_are_sound}
use Rattle.gp_unpack.proofs.Drawn.{asset_holds, rules_hold}
use Rattle.gp_unpack.proofs.EachItem.{all_of_each}
use Rattle.gp_alias.specs.Groups.{vertex_accessors, index_accessors}
use Rattle.gp_kept.specs.TrianglesMoved.{RefersBelow, AssetsAreRead}
use Rattle.gp_sameness.proofs.AnySize.{each_counted}
use Rattle.gp_packed.proofs.NewReferences.{reference_below, found_below, member_holds}
use Rattle.gp_packed.proofs.Wider.{map_some, primitive_parts}

-- ---- lists of shapes

abbrev Gives : {A : Type 0} → Shaped A → (A → Type 0) → Type 0
Gives {A} shape P = (t : PlainTree) (x : A) → shape t ≡ Some x → P x

each_gives : {A : Type 0} (shape : Shaped A) (P : A → Type 0) → Gives shape P → (ts : List PlainTree) (xs : List A) → each shape ts ≡ Some xs → All P xs
each_gives shape P one [] xs e = let none : [] ≡ xs = ap (λ o. unwrap_or o []) e in subst (All P) none (All-nil P)
each_gives shape P one (t ∷ ts) xs e =
    let s = and_then_some (λ x. option_map (λ rest. x ∷ rest) (each shape ts)) (shape t) xs e in
    let r = map_some (λ rest. s.0 ∷ rest) (each shape ts) xs s.2 in
    subst (All P) r.2 (All-cons P s.0 r.0 (one t s.0 s.1) (each_gives shape P one ts r.0 r.1))

list_gives : {A : Type 0} (shape : Shaped A) (P : A → Type 0) → Gives shape P → Gives (list_of shape) (All P)
list_gives shape P one (list ts) xs e = each_gives shape P one (item_list ts) xs e
list_gives shape P one null xs e = absurd (cc)
list_gives shape P one (truth b) xs e = absurd (cc)
list_gives shape P one (number s) xs e = absurd (cc)
list_gives shape P one (text s) xs e = absurd (cc)
list_gives shape P one (members ms) xs e = absurd (cc)

object_gives : {A : Type 0} (shape : Shaped A) (P : A → Type 0) → Gives shape P → Gives (object_of shape) P
object_gives shape P one t x e = one t x (object_read shape t x e).1

required_gives : {A : Type 0} (name : List ℕ) (shape : Shaped A) (P : A → Type 0) → Gives shape P → (t : PlainTree) (x : A) → required t name shape ≡ Some x → P x
required_gives name shape P one t x e =
    let s = and_then_some shape (find_member name t) x e in
    one s.0 x s.2

-- a member that may be absent, with a value for where it is
found_gives : {A : Type 0} (value : A) (shape : Shaped A) (P : A → Type 0) → P value → Gives shape P → (found : Option PlainTree) (x : A) → option_map (λ o. unwrap_or o value) (read_of shape found) ≡ Some x → P x
found_gives value shape P own one None x e = let same : value ≡ x = ap (λ o. unwrap_or o value) e in subst P same own
found_gives value shape P own one (Some t) x e =
    let s = map_some (λ o. unwrap_or o value) (read_of shape (Some t)) x e in
    let r = map_some Some (shape t) s.0 s.1 in
    let same : r.0 ≡ x = ap (λ o. unwrap_or o value) r.2 ∙ s.2 in
    one t x (r.1 ∙ ap Some same)

defaulted_gives : {A : Type 0} (name : List ℕ) (value : A) (shape : Shaped A) (P : A → Type 0) → P value → Gives shape P → (t : PlainTree) (x : A) → defaulted t name value shape ≡ Some x → P x
defaulted_gives name value shape P own one t x e =
    let found = find_member name t in
    found_gives value shape P own one found x (ap (option_map (λ o. unwrap_or o value)) (sym (optional_is name shape t found refl)) ∙ e)

-- ---- the accessors of a primitive

abbrev EntryBelow : ℕ → Entry → Type 0
EntryBelow n e = e.accessor < n

entry_below : (n : ℕ) (m : PlainMember) (e : Entry) → entry_of n m ≡ Some e → EntryBelow n e
entry_below n m e h =
    let named : ℕ → Entry = λ at. record { name = m.0; accessor = at } in
    let s = map_some named (reference n m.1) e h in
    subst (EntryBelow n) s.2 (reference_below n s.0 m.1 s.1)

entries_below : (n : ℕ) (ms : List PlainMember) (es : List Entry) → entries_of n ms ≡ Some es → All (EntryBelow n) es
entries_below n [] es h = let none : [] ≡ es = ap (λ o. unwrap_or o []) h in subst (All (EntryBelow n)) none (All-nil (EntryBelow n))
entries_below n (m ∷ ms) es h =
    let s = and_then_some (λ e. option_map (λ rest. e ∷ rest) (entries_of n ms)) (entry_of n m) es h in
    let r = map_some (λ rest. s.0 ∷ rest) (entries_of n ms) es s.2 in
    subst (All (EntryBelow n)) r.2 (All-cons (EntryBelow n) s.0 r.0 (entry_below n m s.0 s.1) (entries_below n ms r.0 r.1))

pub record FieldsBelow (n : ℕ) (p : PrimitiveFields) : Type 0 where
  pub attributes : All (EntryBelow n) p.attributes
  pub targets : All (All (EntryBelow n)) p.targets
  pub indices : IfSome p.indices (λ at. at < n)

entries_gives : (n : ℕ) → Gives (object_of (entries_fields n)) (All (EntryBelow n))
entries_gives n = object_gives (entries_fields n) (All (EntryBelow n)) (λ t es e. entries_below n (object_members t) es e)

primitive_below : (n : ℕ) → Gives (primitive_fields n) (FieldsBelow n)
primitive_below n t p e =
    let h = primitive_parts n t p e in
    let found = find_member (codes "indices") t in
    record {
      attributes = required_gives (codes "attributes") (object_of (entries_fields n)) (All (EntryBelow n)) (entries_gives n) t p.attributes h.attributes;
      targets = defaulted_gives (codes "targets") [] (list_of (object_of (entries_fields n))) (All (All (EntryBelow n))) (All-nil (All (EntryBelow n)))
          (list_gives (object_of (entries_fields n)) (All (EntryBelow n)) (entries_gives n)) t p.targets h.targets;
      indices = found_below n p.indices found (sym (optional_is (codes "indices") (reference n) t found refl) ∙ h.indices);
    }

mesh_below : (n : ℕ) → Gives (object_of (mesh_fields n)) (All (FieldsBelow n))
mesh_below n = object_gives (mesh_fields n) (All (FieldsBelow n)) (λ t ps e.
    required_gives (codes "primitives") (list_of (object_of (primitive_fields n))) (All (FieldsBelow n))
    (list_gives (object_of (primitive_fields n)) (FieldsBelow n) (object_gives (primitive_fields n) (FieldsBelow n) (primitive_below n))) t ps e)

-- ---- all primitives

all_joined : {A B : Type 0} (P : B → Type 0) (f : A → List B) (xs : List A) → All (λ x. All P (f x)) xs → All P (flat_map f xs)
all_joined P f [] h = All-nil P
all_joined {A} P f (x ∷ xs) h =
    let Q = λ (y : A). All P (f y) in
    All-append P (f x) (flat_map f xs) (All-head Q x xs h) (all_joined P f xs (All-tail Q x xs h))

one_index : (n : ℕ) (indices : Option ℕ) → IfSome indices (λ at. at < n) → All (λ at. at < n) (option_to_list indices)
one_index n None h = All-nil (λ at. at < n)
one_index n (Some at) h = All-cons (λ k. k < n) at [] h (All-nil (λ k. k < n))

refers_below : (n mesh at : ℕ) (p : PrimitiveFields) → FieldsBelow n p → RefersBelow n (primitive_of mesh at p)
refers_below n mesh at p h =
    All-append (λ k. k < n) (vertex_accessors (primitive_of mesh at p)) (index_accessors (primitive_of mesh at p))
    (All-map (λ k. k < n) (λ (e : Entry). e.accessor) (p.attributes ++ flat_map (λ target. target) p.targets)
    (All-append (EntryBelow n) p.attributes (flat_map (λ target. target) p.targets) h.attributes (all_joined (EntryBelow n) (λ target. target) p.targets h.targets)))
    (one_index n p.indices h.indices)

of_mesh_below : (n mesh k : ℕ) (ps : List PrimitiveFields) → All (FieldsBelow n) ps → All (RefersBelow n) (map (λ (p : ℕ × PrimitiveFields). primitive_of mesh p.0 p.1) (enumerate_from k ps))
of_mesh_below n mesh k [] h = All-nil (RefersBelow n)
of_mesh_below n mesh k (p ∷ ps) h =
    All-cons (RefersBelow n) (primitive_of mesh k p) (map (λ (q : ℕ × PrimitiveFields). primitive_of mesh q.0 q.1) (enumerate_from (k + 1) ps))
    (refers_below n mesh k p (All-head (FieldsBelow n) p ps h)) (of_mesh_below n mesh (k + 1) ps (All-tail (FieldsBelow n) p ps h))

of_meshes_below : (n k : ℕ) (meshes : List (List PrimitiveFields)) → All (All (FieldsBelow n)) meshes → All (RefersBelow n) (flat_map (λ (m : ℕ × List PrimitiveFields). primitives_of_mesh m.0 m.1) (enumerate_from k meshes))
of_meshes_below n k [] h = All-nil (RefersBelow n)
of_meshes_below n k (ps ∷ meshes) h =
    All-append (RefersBelow n) (primitives_of_mesh k ps) (flat_map (λ (m : ℕ × List PrimitiveFields). primitives_of_mesh m.0 m.1) (enumerate_from (k + 1) meshes))
    (of_mesh_below n k 0 ps (All-head (All (FieldsBelow n)) ps meshes h)) (of_meshes_below n (k + 1) meshes (All-tail (All (FieldsBelow n)) ps meshes h))

primitives_below : (n : ℕ) (meshes : List (List PrimitiveFields)) → All (All (FieldsBelow n)) meshes → All (RefersBelow n) (primitives_of meshes)
unfolding primitives_of
primitives_below n meshes h = of_meshes_below n 0 meshes h

-- ---- the law

pub assets_are_read : AssetsAreRead
assets_are_read form t bin a contents e long = record { views = long; accessors = accessors_are_sound form t bin a e; primitives = refer }
  where
    refer : All (RefersBelow (length a.accessors)) a.primitives
    refer = asset_holds form t bin a e (λ f used r h all.
        let rules = rules_hold f.buffers f.views f.accessors bin r h.by_rule in
        let n = length f.accessors in
        let many : n ≡ length r.accessors = each_counted (accessor_of r.views) 0 f.accessors r.accessors rules.all_accessors in
        let shape = object_of (mesh_fields n) in
        let found = find_member (codes "meshes") t in
        let read = sym (items_are Meshes (codes "meshes") shape t found refl) ∙ (asset_parts t f h.has_fields).meshes in
        let below = all_of_each (All (FieldsBelow n)) f.meshes (member_holds Meshes shape (All (FieldsBelow n)) (mesh_below n) found f.meshes read) in
        subst (λ (x : AssetParts). All (RefersBelow (length x.accessors)) x.primitives) all (subst (λ k. All (RefersBelow k) (primitives_of f.meshes)) many (primitives_below n f.meshes below)))
