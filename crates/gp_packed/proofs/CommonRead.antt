-- An asset that is read from a tree has as many views and accessors, and knows which of its primitives have `indices`.
use Rattle.std.specs.Prelude.{codes, find, option_and_then, option_map}
use Rattle.std.specs.List.{enumerate_from, flat_map, position_or_len}
use Rattle.std.specs.Option.{option_or}
use Rattle.std.proofs.Common.{◌≡◌, ℕ, zero, suc, ◌+◌, ◌==◌, ◌&&◌, Bool, true, false, List, [], ◌∷◌, length, map, slice_get, Option, Some, None, is_some, Result, Ok, Err, refl, sym, ap, ◌∙◌, subst, arith}
use Rattle.std.proofs.lemmas.Bool.{eq-eqb, ne_eqb}
use Rattle.std.proofs.lemmas.List.Folds.{find-append, find_at}
use Rattle.gp_tree.specs.Plain.{PlainTree, null, truth, number, text, list, members}
use Rattle.gp_tree.specs.Find.{item_list, find_member}
use Rattle.gp_tree.specs.Values.{whole}
use Rattle.gp_fields.specs.declared.fault.Place.{Place}
use Rattle.gp_fields.specs.declared.fault.Place.TheVariants.{BufferViews, Accessors, Meshes}
use Rattle.gp_fields.specs.declared.fault.FieldFault.{FieldFault}
use Rattle.gp_fields.specs.declared.geometry.PrimitiveFields.{PrimitiveFields}
use Rattle.gp_fields.specs.Shapes.{Shaped, object_of, each as each_shaped, list_of, reference, required, optional, defaulted}
use Rattle.gp_fields.specs.Fields.{view_fields, accessor_fields, entries_fields, primitive_fields, mesh_fields}
use Rattle.gp_fields.specs.Record.{AssetFields, items_of_shape, items_of_member}
use Rattle.gp_rules.specs.declared.fault.AssetFault.{AssetFault}
use Rattle.gp_rules.specs.Checks.{joined, each}
use Rattle.gp_rules.specs.Views.{view_of}
use Rattle.gp_rules.specs.Accessors.{accessor_of}
use Rattle.gp_asset.specs.declared.geometry.Primitive.{Primitive}
use Rattle.gp_asset.specs.Primitives.{primitive_of, primitives_of_mesh, primitives_of}
use Rattle.gp_edits.proofs.AssetsBack.{asset_parts}
use Rattle.gp_edits.proofs.ItemsBack.{AreRead, items_are_read}
use Rattle.gp_unpack.proofs.Drawn.{asset_holds, rules_hold}
use Rattle.gp_packed.specs.CommonMoved.{items_in, items_at, primitive_at, IsAssetOf, ReadIsAssetOf}

-- ---- items that are read

member_read : {A : Type 0} (place : Place) (shape : Shaped A) (found : Option PlainTree) (values : List A)
    → ◌≡◌ {A = Result (List A) FieldFault} (elim found [ None ↦ Ok [] | Some t ↦ items_of_shape place shape t ]) (Ok values) → AreRead shape (items_in found) values
member_read {A} place shape None values e =
    let same : [] ≡ values = (let x : ◌≡◌ {A = Result (List A) FieldFault} (Ok []) (Ok values) = e in cc) in
    subst (AreRead shape []) same tt
member_read place shape (Some null) values e = absurd (cc)
member_read place shape (Some (truth b)) values e = absurd (cc)
member_read place shape (Some (number s)) values e = absurd (cc)
member_read place shape (Some (text s)) values e = absurd (cc)
member_read place shape (Some (members ms)) values e = absurd (cc)
member_read place shape (Some (list ts)) values e = items_are_read place shape ts values e

items_read : {A : Type 0} (place : Place) (name : List ℕ) (shape : Shaped A) (t : PlainTree) (values : List A)
    → items_of_member place name shape t ≡ Ok values → AreRead shape (items_at name t) values
items_read place name shape t values e = member_read place shape (find_member name t) values e

read_long : {A : Type 0} (shape : Shaped A) (ts : List PlainTree) (values : List A) → AreRead shape ts values → length ts ≡ length values
read_long shape [] [] h = refl
read_long shape [] (a ∷ values) h = absurd h
read_long shape (t ∷ ts) [] h = absurd h
read_long shape (t ∷ ts) (a ∷ values) h = ap suc (read_long shape ts values h.1)

-- the value of an item
read_at : {A P : Type 0} (shape : Shaped A) (ts : List PlainTree) (values : List A) (i : ℕ) (t : PlainTree) → AreRead shape ts values → slice_get ts i ≡ Some t
    → ((a : A) → slice_get values i ≡ Some a → shape t ≡ Some a → P) → P
read_at shape [] values i t h e go = absurd (let x : ◌≡◌ {A = Option PlainTree} None (Some t) = e in cc)
read_at shape (u ∷ ts) [] i t h e go = absurd h
read_at shape (u ∷ ts) (a ∷ values) zero t h e go =
    let same : u ≡ t = (let x : ◌≡◌ {A = Option PlainTree} (Some u) (Some t) = e in cc) in
    go a refl (subst (λ u. shape u ≡ Some a) same h.0)
read_at shape (u ∷ ts) (a ∷ values) (suc i) t h e go = read_at shape ts values i t h.1 e go

-- ---- what rules let through is as long

joined_long : {A B : Type 0} (one : Result B AssetFault) (others : Result (List B) AssetFault) (xs : List A) (ys : List B)
    → ((zs : List B) → others ≡ Ok zs → length xs ≡ length zs) → joined one others ≡ Ok ys → suc (length xs) ≡ length ys
joined_long (Err fault) others xs ys more e = absurd (cc)
joined_long (Ok y) (Err fault) xs ys more e = absurd (cc)
joined_long {A} {B} (Ok y) (Ok zs) xs ys more e =
    let same : y ∷ zs ≡ ys = (let x : ◌≡◌ {A = Result (List B) AssetFault} (Ok (y ∷ zs)) (Ok ys) = e in cc) in
    ap suc (more zs refl) ∙ ap length same

passed_long : {A B : Type 0} (f : ℕ → A → Result B AssetFault) (at : ℕ) (xs : List A) (ys : List B) → each f at xs ≡ Ok ys → length xs ≡ length ys
passed_long {A} {B} f at [] ys e =
    let same : [] ≡ ys = (let x : ◌≡◌ {A = Result (List B) AssetFault} (Ok []) (Ok ys) = e in cc) in
    ap length same
passed_long f at (x ∷ xs) ys e = joined_long (f at x) (each f (at + 1) xs) xs ys (λ zs e. passed_long f (at + 1) xs zs e) e

-- ---- primitives

object_fields : {A : Type 0} (fields : Shaped A) (t : PlainTree) (a : A) → object_of fields t ≡ Some a → fields t ≡ Some a
object_fields fields null a e = absurd (cc)
object_fields fields (truth b) a e = absurd (cc)
object_fields fields (number s) a e = absurd (cc)
object_fields fields (text s) a e = absurd (cc)
object_fields fields (list ts) a e = absurd (cc)
object_fields fields (members ms) a e = e

each_joined : {A : Type 0} (one : Option A) (others : Option (List A)) (shape : Shaped A) (t : PlainTree) (ts : List PlainTree) (values : List A) → shape t ≡ one
    → ((xs : List A) → others ≡ Some xs → AreRead shape ts xs)
    → option_and_then (λ a. option_map (λ rest. a ∷ rest) others) one ≡ Some values → AreRead shape (t ∷ ts) values
each_joined None others shape t ts values found more e = absurd (cc)
each_joined (Some a) None shape t ts values found more e = absurd (cc)
each_joined {A} (Some a) (Some xs) shape t ts values found more e =
    let same : a ∷ xs ≡ values = (let x : ◌≡◌ {A = Option (List A)} (Some (a ∷ xs)) (Some values) = e in cc) in
    subst (AreRead shape (t ∷ ts)) same (found, more xs refl)

each_read : {A : Type 0} (shape : Shaped A) (ts : List PlainTree) (values : List A) → each_shaped shape ts ≡ Some values → AreRead shape ts values
each_read {A} shape [] values e =
    let same : [] ≡ values = (let x : ◌≡◌ {A = Option (List A)} (Some []) (Some values) = e in cc) in
    subst (AreRead shape []) same tt
each_read shape (t ∷ ts) values e = each_joined (shape t) (each_shaped shape ts) shape t ts values refl (λ xs e. each_read shape ts xs e) e

-- a list that has to be there
list_read : {A : Type 0} (shape : Shaped A) (found : Option PlainTree) (values : List A) → option_and_then (list_of shape) found ≡ Some values → AreRead shape (items_in found) values
list_read shape None values e = absurd (cc)
list_read shape (Some null) values e = absurd (cc)
list_read shape (Some (truth b)) values e = absurd (cc)
list_read shape (Some (number s)) values e = absurd (cc)
list_read shape (Some (text s)) values e = absurd (cc)
list_read shape (Some (members ms)) values e = absurd (cc)
list_read shape (Some (list ts)) values e = each_read shape (item_list ts) values e

-- the fields of a primitive have `indices` where the tree has
indices_in : {A : Type 0} (shape : Shaped A) (found : Option PlainTree) (o : Option A) → elim found [ None ↦ Some None | Some value ↦ option_map Some (shape value) ] ≡ Some o → is_some found ≡ is_some o
indices_in {A} shape None o e = let same : None ≡ o = (let x : ◌≡◌ {A = Option (Option A)} (Some None) (Some o) = e in cc) in ap is_some same
indices_in {A} shape (Some value) o e = with_shape (shape value) e
  where
    with_shape : (one : Option A) → option_map Some one ≡ Some o → true ≡ is_some o
    with_shape None e = absurd (cc)
    with_shape (Some a) e = let same : Some a ≡ o = (let x : ◌≡◌ {A = Option (Option A)} (Some (Some a)) (Some o) = e in cc) in ap is_some same

some_step : {A B P : Type 0} (f : A → Option B) (o : Option A) (b : B) → option_and_then f o ≡ Some b → ((a : A) → o ≡ Some a → f a ≡ Some b → P) → P
some_step f None b e go = absurd (cc)
some_step f (Some a) b e go = go a refl e

indices_read : (n : ℕ) (t : PlainTree) (p : PrimitiveFields) → object_of (primitive_fields n) t ≡ Some p → is_some (find_member (codes "indices") t) ≡ is_some p.indices
indices_read n t p e =
    some_step _ (required t (codes "attributes") (object_of (entries_fields n))) p (object_fields (primitive_fields n) t p e) (λ attributes e1 r1.
    some_step _ (optional t (codes "indices") (reference n)) p r1 (λ indices e2 r2.
    some_step _ (defaulted t (codes "mode") 4 whole) p r2 (λ mode e3 r3.
    some_step _ (defaulted t (codes "targets") [] (list_of (object_of (entries_fields n)))) p r3 (λ targets e4 r4.
    let same : record { mode = mode; attributes = attributes; targets = targets; indices = indices } ≡ p =
    (let x : ◌≡◌ {A = Option PrimitiveFields} (Some (record { mode = mode; attributes = attributes; targets = targets; indices = indices })) (Some p) = r4 in cc) in
    indices_in (reference n) (find_member (codes "indices") t) indices e2 ∙ ap (λ (p : PrimitiveFields). is_some p.indices) same))))

-- ---- a primitive among those of all meshes

abbrev is_at : ℕ → ℕ → Primitive → Bool
is_at mesh at p = p.mesh == mesh && p.at == at

abbrev of_mesh : ℕ → ℕ → List PrimitiveFields → List Primitive
of_mesh mesh k ps = map (λ (p : ℕ × PrimitiveFields). primitive_of mesh p.0 p.1) (enumerate_from k ps)

abbrev of_meshes : ℕ → List (List PrimitiveFields) → List Primitive
of_meshes n ms = flat_map (λ (m : ℕ × List PrimitiveFields). primitives_of_mesh m.0 m.1) (enumerate_from n ms)

own_number : (n : ℕ) → (n == n) ≡ true
own_number n = eq-eqb n n refl

in_other_mesh : (mesh at n k : ℕ) (ps : List PrimitiveFields) → (n ≡ mesh → ⊥) → find (is_at mesh at) (of_mesh n k ps) ≡ None
in_other_mesh mesh at n k [] d = refl
in_other_mesh mesh at n k (p ∷ ps) d = let other : (n == mesh) ≡ false = ne_eqb n mesh d in rw other (in_other_mesh mesh at n (k + 1) ps d)

in_own_mesh : (mesh k i : ℕ) (ps : List PrimitiveFields) (p : PrimitiveFields) → slice_get ps i ≡ Some p
    → find (is_at mesh (k + i)) (of_mesh mesh k ps) ≡ Some (primitive_of mesh (k + i) p)
in_own_mesh mesh k i [] p e = absurd (let x : ◌≡◌ {A = Option PrimitiveFields} None (Some p) = e in cc)
in_own_mesh mesh k zero (q ∷ ps) p e =
    let same : q ≡ p = (let x : ◌≡◌ {A = Option PrimitiveFields} (Some q) (Some p) = e in cc) in
    let here : k + 0 ≡ k = omega arith in
    rw here (rw (own_number mesh) (rw (own_number k) (ap (λ q. Some (primitive_of mesh k q)) same)))
in_own_mesh mesh k (suc i) (q ∷ ps) p e =
    let later : (k == (k + suc i)) ≡ false = ne_eqb k (k + suc i) (λ same. omega (arith, same)) in
    let next : k + suc i ≡ (k + 1) + i = omega arith in
    rw (own_number mesh) (rw later (subst (λ at. find (is_at mesh at) (of_mesh mesh (k + 1) ps) ≡ Some (primitive_of mesh at p)) (sym next) (in_own_mesh mesh (k + 1) i ps p e)))

in_meshes : (n j i : ℕ) (ms : List (List PrimitiveFields)) (ps : List PrimitiveFields) (p : PrimitiveFields) → slice_get ms j ≡ Some ps → slice_get ps i ≡ Some p
    → find (is_at (n + j) i) (of_meshes n ms) ≡ Some (primitive_of (n + j) i p)
in_meshes n j i [] ps p e f = absurd (let x : ◌≡◌ {A = Option (List PrimitiveFields)} None (Some ps) = e in cc)
in_meshes n zero i (qs ∷ ms) ps p e f =
    let same : qs ≡ ps = (let x : ◌≡◌ {A = Option (List PrimitiveFields)} (Some qs) (Some ps) = e in cc) in
    let here : n + 0 ≡ n = omega arith in
    let from_0 : 0 + i ≡ i = omega arith in
    let own : find (is_at n i) (of_mesh n 0 qs) ≡ Some (primitive_of n i p) =
    subst (λ at. find (is_at n at) (of_mesh n 0 qs) ≡ Some (primitive_of n at p)) from_0 (in_own_mesh n 0 i qs p (ap (λ qs. slice_get qs i) same ∙ f)) in
    rw here (find-append (is_at n i) (of_mesh n 0 qs) (of_meshes (n + 1) ms) ∙ ap (λ o. option_or o (find (is_at n i) (of_meshes (n + 1) ms))) own)
in_meshes n (suc j) i (qs ∷ ms) ps p e f =
    let next : n + suc j ≡ (n + 1) + j = omega arith in
    find-append (is_at (n + suc j) i) (of_mesh n 0 qs) (of_meshes (n + 1) ms)
    ∙ ap (λ o. option_or o (find (is_at (n + suc j) i) (of_meshes (n + 1) ms))) (in_other_mesh (n + suc j) i n 0 qs (λ same. omega (arith, same)))
    ∙ subst (λ mesh. find (is_at mesh i) (of_meshes (n + 1) ms) ≡ Some (primitive_of mesh i p)) (sym next) (in_meshes (n + 1) j i ms ps p e f)

place_found : (meshes : List (List PrimitiveFields)) (mesh at : ℕ) (ps : List PrimitiveFields) (p : PrimitiveFields) → slice_get meshes mesh ≡ Some ps → slice_get ps at ≡ Some p
    → slice_get (primitives_of meshes) (position_or_len (is_at mesh at) (primitives_of meshes)) ≡ Some (primitive_of mesh at p)
unfolding primitives_of
place_found meshes mesh at ps p e f =
    let from_0 : 0 + mesh ≡ mesh = omega arith in
    sym (find_at (is_at mesh at) (of_meshes 0 meshes))
    ∙ subst (λ n. find (is_at n at) (of_meshes 0 meshes) ≡ Some (primitive_of n at p)) from_0 (in_meshes 0 mesh at meshes ps p e f)

-- ---- the asset

primitives_known : (root : PlainTree) (f : AssetFields) (n : ℕ) → AreRead (object_of (mesh_fields n)) (items_at (codes "meshes") root) f.meshes
    → (mesh at : ℕ) (t : PlainTree) → primitive_at root mesh at ≡ Some t
    → (p : PrimitiveFields) × (slice_get (primitives_of f.meshes) (position_or_len (is_at mesh at) (primitives_of f.meshes)) ≡ Some (primitive_of mesh at p)) × (is_some (find_member (codes "indices") t) ≡ is_some p.indices)
primitives_known root f n are_read mesh at t e =
    some_step (λ u. slice_get (items_at (codes "primitives") u) at) (slice_get (items_at (codes "meshes") root) mesh) t e (λ u in_root in_mesh.
    read_at (object_of (mesh_fields n)) (items_at (codes "meshes") root) f.meshes mesh u are_read in_root (λ ps there mesh_read.
    let primitives_read : AreRead (object_of (primitive_fields n)) (items_at (codes "primitives") u) ps =
    list_read (object_of (primitive_fields n)) (find_member (codes "primitives") u) ps (object_fields (mesh_fields n) u ps mesh_read) in
    read_at (object_of (primitive_fields n)) (items_at (codes "primitives") u) ps at t primitives_read in_mesh (λ p here primitive_read.
    (p, place_found f.meshes mesh at ps p there here, indices_read n t p primitive_read))))

pub is_asset_of : ReadIsAssetOf
is_asset_of form root bin a e =
    asset_holds form root bin a e (λ f used ruled holds is.
    let fields = asset_parts root f holds.has_fields in
    let rules = rules_hold f.buffers f.views f.accessors bin ruled holds.by_rule in
    subst (IsAssetOf root) is (record {
      views = read_long (object_of (view_fields (length f.buffers))) (items_at (codes "bufferViews") root) f.views (items_read BufferViews (codes "bufferViews") (object_of (view_fields (length f.buffers))) root f.views fields.views)
          ∙ passed_long (view_of f.buffers) 0 f.views ruled.views rules.all_views;
      accessors = read_long (object_of (accessor_fields (length f.views))) (items_at (codes "accessors") root) f.accessors (items_read Accessors (codes "accessors") (object_of (accessor_fields (length f.views))) root f.accessors fields.accessors)
          ∙ passed_long (accessor_of ruled.views) 0 f.accessors ruled.accessors rules.all_accessors;
      primitives = λ mesh at t there.
          let known = primitives_known root f (length f.accessors) (items_read Meshes (codes "meshes") (object_of (mesh_fields (length f.accessors))) root f.meshes fields.meshes) mesh at t there in
          known.2 ∙ sym (ap (λ o. is_some (option_and_then (λ (p : Primitive). p.indices) o)) known.1);
    }))
