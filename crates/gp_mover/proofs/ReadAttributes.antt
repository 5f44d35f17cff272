-- The attributes of an asset that was read are accessors of the asset.
use Rattle.std.specs.Prelude.{codes}
use Rattle.std.proofs.Common.{◌≡◌, ℕ, suc, ◌+◌, ◌<◌, Bool, true, false, nat_lt, cond, List, [], ◌∷◌, ◌++◌, map, flat_map, length, Option, Some, None, Result, Ok, Err, refl, ap, ◌∙◌, sym, subst}
use Rattle.std.specs.List.{All, filter_map, position, cons_option, enumerate_from}
use Rattle.std.specs.Option.{option_map, option_and_then}
use Rattle.std.proofs.lemmas.Bool.{ltb-true}
use Rattle.std.proofs.lemmas.Option.{option_and_then_some}
use Rattle.std.proofs.lemmas.List.Elements.{All-nil, All-cons, All-head, All-tail, All-append}
use Rattle.gp_tree.specs.Plain.{PlainTree, null, truth, number, text, list, members}
use Rattle.gp_tree.specs.Find.{PlainMember, item_list, find_member, object_members}
use Rattle.gp_tree.specs.Values.{whole}
use Rattle.gp_fields.specs.declared.fault.Place.{Place}
use Rattle.gp_fields.specs.declared.fault.Place.TheVariants.{ExtensionsUsed, ExtensionsRequired, Buffers, BufferViews, Accessors, Meshes, Skins, Animations, Images}
use Rattle.gp_fields.specs.declared.fault.FieldFault.{FieldFault}
use Rattle.gp_fields.specs.declared.geometry.Entry.{Entry}
use Rattle.gp_fields.specs.declared.geometry.PrimitiveFields.{PrimitiveFields}
use Rattle.gp_fields.specs.Shapes.{Shaped, object_of, list_of, each as each_item, a_text, below, reference, required, optional, defaulted}
use Rattle.gp_fields.specs.Fields.{BufferFields, ViewFields, AccessorFields, buffer_fields, view_fields, accessor_fields, entry_of, entries_of, entries_fields, primitive_fields, mesh_fields, skin_fields, animation_fields, image_fields}
use Rattle.gp_fields.specs.Left.{names_on}
use Rattle.gp_fields.specs.Record.{AssetFields, ◌>>=◌, root_object, unless as found_unless, lacks, items_of_shape, items_of_member, asset_fields}
use Rattle.gp_rules.specs.declared.fault.AssetFault.{AssetFault}
use Rattle.gp_rules.specs.declared.fault.AssetFault.TheVariants.{TooMuchData}
use Rattle.gp_rules.specs.Checks.{Checked, unless, each}
use Rattle.gp_rules.specs.Views.{view_of}
use Rattle.gp_rules.specs.Accessors.{accessor_of, is_too_much}
use Rattle.gp_asset.specs.declared.geometry.Primitive.{Primitive}
use Rattle.gp_asset.specs.Buffers.{buffer_of}
use Rattle.gp_asset.specs.Extensions.{extensions_in_use, supported}
use Rattle.gp_asset.specs.Primitives.{primitive_of, primitives_of_mesh, primitives_of}
use Rattle.gp_asset.specs.Asset.{AssetParts, RuledParts, asset, by_rules, parts, in_shape}
use Rattle.gp_mover.specs.Laws.{AttributesAreThere, ReadAttributesAreThere}

-- ---- steps

-- a step that gave a value
with_value : {A B P E : Type 0} (f : A → Result B E) (r : Result A E) {b : B} → (r >>= f) ≡ Ok b → ((a : A) → r ≡ Ok a → f a ≡ Ok b → P) → P
with_value f (Ok a) e go = go a refl e
with_value f (Err fault) e go = absurd (cc)

same : {A E : Type 0} (x y : A) → ◌≡◌ {A = Result A E} (Ok x) (Ok y) → x ≡ y
same x y e = cc

same_found : {A : Type 0} (x y : A) → ◌≡◌ {A = Option A} (Some x) (Some y) → x ≡ y
same_found x y e = cc

passes : {A P : Type 0} (condition : Bool) (fault : AssetFault) (rest : Checked A) (a : A) → unless condition fault rest ≡ Ok a → (condition ≡ false → rest ≡ Ok a → P) → P
passes true fault rest a e go = absurd (cc)
passes false fault rest a e go = go refl e

as_many : {A B : Type 0} (f : ℕ → A → Checked B) (at : ℕ) (xs : List A) (ys : List B) → each f at xs ≡ Ok ys → length ys ≡ length xs
as_many f at [] ys e = let none : [] ≡ ys = cc in sym (ap length none)
as_many f at (x ∷ xs) ys e =
    with_value (λ y. each f (at + 1) xs >>= λ zs. Ok (y ∷ zs)) (f at x) e (λ y one more.
    with_value (λ zs. Ok (y ∷ zs)) (each f (at + 1) xs) more (λ zs others whole.
    sym (ap length (same (y ∷ zs) ys whole)) ∙ ap suc (as_many f (at + 1) xs zs others)))

-- ---- entries

below_is : (n at : ℕ) (b : Bool) (found : ℕ) → nat_lt at n ≡ b → cond b (Some at) None ≡ Some found → found < n
below_is n at true found is e = let is_at : at ≡ found = cc in subst (λ (k : ℕ). k < n) is_at (ltb-true at n is)
below_is n at false found is e = absurd (cc)

reference_below : (n : ℕ) (t : PlainTree) (found : ℕ) → reference n t ≡ Some found → found < n
reference_below n t found e = option_and_then_some (below n) (whole t) found e (λ at is more. below_is n at (nat_lt at n) found refl more)

abbrev Refers : ℕ → Entry → Type 0
Refers n e = e.accessor < n

entry_refers : (n : ℕ) (m : PlainMember) (e : Entry) → entry_of n m ≡ Some e → Refers n e
entry_refers n m e is = by_reference (reference n m.1) refl is
  where
    by_reference : (o : Option ℕ) → reference n m.1 ≡ o → option_map (λ at. record { name = m.0; accessor = at }) o ≡ Some e → Refers n e
    by_reference None found more = absurd (cc)
    by_reference (Some at) found more = subst (Refers n) (same_found (record { name = m.0; accessor = at }) e more) (reference_below n m.1 at found)

entries_refer : (n : ℕ) (ms : List PlainMember) (es : List Entry) → entries_of n ms ≡ Some es → All (Refers n) es
entries_refer n [] es is = subst (All (Refers n)) (same_found [] es is) (All-nil (Refers n))
entries_refer n (m ∷ ms) es is =
    option_and_then_some (λ e. option_map (λ rest. e ∷ rest) (entries_of n ms)) (entry_of n m) es is (λ e one more.
    by_rest e one (entries_of n ms) more (λ rest found. entries_refer n ms rest found))
  where
    by_rest : (e : Entry) → entry_of n m ≡ Some e → (o : Option (List Entry)) → option_map (λ rest. e ∷ rest) o ≡ Some es → ((rest : List Entry) → o ≡ Some rest → All (Refers n) rest) → All (Refers n) es
    by_rest e one None more later = absurd (cc)
    by_rest e one (Some rest) more later = subst (All (Refers n)) (same_found (e ∷ rest) es more) (All-cons (Refers n) e rest (entry_refers n m e one) (later rest refl))

-- ---- objects and lists of a shape

object_has : {A : Type 0} (P : A → Type 0) (shape : Shaped A) (given : (t : PlainTree) (a : A) → shape t ≡ Some a → P a) (t : PlainTree) (a : A) → object_of shape t ≡ Some a → P a
object_has P shape given null a e = absurd (cc)
object_has P shape given (truth b) a e = absurd (cc)
object_has P shape given (number s) a e = absurd (cc)
object_has P shape given (text s) a e = absurd (cc)
object_has P shape given (list ts) a e = absurd (cc)
object_has P shape given (members ms) a e = given (members ms) a e

each_has : {A : Type 0} (P : A → Type 0) (shape : Shaped A) (given : (t : PlainTree) (a : A) → shape t ≡ Some a → P a) (ts : List PlainTree) (found : List A) → each_item shape ts ≡ Some found → All P found
each_has P shape given [] found e = subst (All P) (same_found [] found e) (All-nil P)
each_has {A} P shape given (t ∷ ts) found e =
    option_and_then_some (λ a. option_map (λ rest. a ∷ rest) (each_item shape ts)) (shape t) found e (λ a one more.
    by_rest a one (each_item shape ts) more (λ rest is. each_has P shape given ts rest is))
  where
    by_rest : (a : A) → shape t ≡ Some a → (o : Option (List A)) → option_map (λ rest. a ∷ rest) o ≡ Some found → ((rest : List A) → o ≡ Some rest → All P rest) → All P found
    by_rest a one None more later = absurd (cc)
    by_rest a one (Some rest) more later = subst (All P) (same_found (a ∷ rest) found more) (All-cons P a rest (given t a one) (later rest refl))

list_has : {A : Type 0} (P : A → Type 0) (shape : Shaped A) (given : (t : PlainTree) (a : A) → shape t ≡ Some a → P a) (t : PlainTree) (found : List A) → list_of shape t ≡ Some found → All P found
list_has P shape given null found e = absurd (cc)
list_has P shape given (truth b) found e = absurd (cc)
list_has P shape given (number s) found e = absurd (cc)
list_has P shape given (text s) found e = absurd (cc)
list_has P shape given (members ms) found e = absurd (cc)
list_has P shape given (list ts) found e = each_has P shape given (item_list ts) found e

-- ---- primitives and meshes

-- its attributes are below n
abbrev Attributes : ℕ → PrimitiveFields → Type 0
Attributes n p = All (Refers n) p.attributes

primitive_refers : (n : ℕ) (t : PlainTree) (p : PrimitiveFields) → primitive_fields n t ≡ Some p → Attributes n p
primitive_refers n t p e =
    option_and_then_some _ (required t (codes "attributes") (object_of (entries_fields n))) p e (λ attributes e1 r1.
    option_and_then_some _ (optional t (codes "indices") (reference n)) p r1 (λ indices e2 r2.
    option_and_then_some _ (defaulted t (codes "mode") 4 whole) p r2 (λ mode e3 r3.
    option_and_then_some _ (defaulted t (codes "targets") [] (list_of (object_of (entries_fields n)))) p r3 (λ targets e4 r4.
    subst (Attributes n) (same_found (record { mode = mode; attributes = attributes; targets = targets; indices = indices }) p r4)
    (option_and_then_some (object_of (entries_fields n)) (find_member (codes "attributes") t) attributes e1 (λ u is more.
    object_has (All (Refers n)) (entries_fields n) (λ v es found. entries_refer n (object_members v) es found) u attributes more))))))

mesh_refers : (n : ℕ) (t : PlainTree) (ps : List PrimitiveFields) → mesh_fields n t ≡ Some ps → All (Attributes n) ps
mesh_refers n t ps e =
    option_and_then_some (list_of (object_of (primitive_fields n))) (find_member (codes "primitives") t) ps e (λ u is more.
    list_has (Attributes n) (object_of (primitive_fields n)) (λ v p found. object_has (Attributes n) (primitive_fields n) (primitive_refers n) v p found) u ps more)

-- ---- what holds of each item of a shape holds of those that are found

with_item : {A : Type 0} (P : A → Type 0) (o : Option A) (rest : List A) → ((a : A) → o ≡ Some a → P a) → All P rest → All P (cons_option o rest)
with_item P None rest given have = have
with_item P (Some a) rest given have = All-cons P a rest (given a refl) have

filtered_have : {A : Type 0} (P : A → Type 0) (shape : Shaped A) (given : (t : PlainTree) (a : A) → shape t ≡ Some a → P a) (ts : List PlainTree) → All P (filter_map shape ts)
filtered_have P shape given [] = All-nil P
filtered_have P shape given (t ∷ ts) = with_item P (shape t) (filter_map shape ts) (given t) (filtered_have P shape given ts)

shape_have : {A : Type 0} (P : A → Type 0) (place : Place) (shape : Shaped A) (given : (t : PlainTree) (a : A) → shape t ≡ Some a → P a) (t : PlainTree) (found : List A) → items_of_shape place shape t ≡ Ok found → All P found
shape_have P place shape given null found e = absurd (cc)
shape_have P place shape given (truth b) found e = absurd (cc)
shape_have P place shape given (number s) found e = absurd (cc)
shape_have P place shape given (text s) found e = absurd (cc)
shape_have P place shape given (members ms) found e = absurd (cc)
shape_have P place shape given (list ts) found e = by_place (position (lacks shape) (item_list ts)) e
  where
    by_place : (o : Option ℕ) → found_unless place (filter_map shape (item_list ts)) o ≡ Ok found → All P found
    by_place None is = subst (All P) (same (filter_map shape (item_list ts)) found is) (filtered_have P shape given (item_list ts))
    by_place (Some at) is = absurd (cc)

items_have : {A : Type 0} (P : A → Type 0) (place : Place) (name : List ℕ) (shape : Shaped A) (given : (t : PlainTree) (a : A) → shape t ≡ Some a → P a) (t : PlainTree) (found : List A) → items_of_member place name shape t ≡ Ok found → All P found
items_have {A} P place name shape given t found e = by_member (find_member name t) e
  where
    by_member : (o : Option PlainTree) → elim o as (λ _. Result (List A) FieldFault) [ None ↦ Ok [] | Some found ↦ items_of_shape place shape found ] ≡ Ok found → All P found
    by_member None is = let none : [] ≡ found = cc in subst (All P) none (All-nil P)
    by_member (Some member) is = shape_have P place shape given member found is

-- ---- all fields

abbrev AllRefer : AssetFields → Type 0
AllRefer f = All (All (Attributes (length f.accessors))) f.meshes

named : (t : PlainTree) (f : AssetFields) → names_on t ≡ Ok f → AllRefer f
named t f e =
    with_value _ (items_of_member ExtensionsUsed (codes "extensionsUsed") a_text t) e (λ used e1 r1.
    with_value _ (items_of_member ExtensionsRequired (codes "extensionsRequired") a_text t) r1 (λ required e2 r2.
    with_value _ (items_of_member Buffers (codes "buffers") (object_of buffer_fields) t) r2 (λ buffers e3 r3.
    with_value _ (items_of_member BufferViews (codes "bufferViews") (object_of (view_fields (length buffers))) t) r3 (λ views e4 r4.
    with_value _ (items_of_member Accessors (codes "accessors") (object_of (accessor_fields (length views))) t) r4 (λ accessors e5 r5.
    with_value _ (items_of_member Meshes (codes "meshes") (object_of (mesh_fields (length accessors))) t) r5 (λ meshes e6 r6.
    with_value _ (items_of_member Skins (codes "skins") (object_of (skin_fields (length accessors))) t) r6 (λ skins e7 r7.
    with_value _ (items_of_member Animations (codes "animations") (object_of (animation_fields (length accessors))) t) r7 (λ animations e8 r8.
    with_value _ (items_of_member Images (codes "images") (object_of (image_fields (length views))) t) r8 (λ images e9 r9.
    let n = length accessors in
    subst AllRefer (same _ f r9)
    (items_have (All (Attributes n)) Meshes (codes "meshes") (object_of (mesh_fields n)) (λ u ps found. object_has (All (Attributes n)) (mesh_fields n) (mesh_refers n) u ps found) t meshes e6))))))))))

fields_refer : (t : PlainTree) (f : AssetFields) → asset_fields t ≡ Ok f → AllRefer f
unfolding asset_fields
fields_refer t f e = with_value names_on (root_object t) e (λ root e1 r1. named root f r1)

-- ---- primitives of all meshes

abbrev Own : ℕ → Primitive → Type 0
Own n p = All (λ (e : Entry). e.accessor < n) p.attributes

mesh_have : (n mesh at : ℕ) (ps : List PrimitiveFields) → All (Attributes n) ps → All (Own n) (map (λ (p : ℕ × PrimitiveFields). primitive_of mesh p.0 p.1) (enumerate_from at ps))
mesh_have n mesh at [] have = All-nil (Own n)
mesh_have n mesh at (p ∷ ps) have = All-cons (Own n) (primitive_of mesh at p) _ (All-head (Attributes n) p ps have) (mesh_have n mesh (at + 1) ps (All-tail (Attributes n) p ps have))

meshes_have : (n at : ℕ) (meshes : List (List PrimitiveFields)) → All (All (Attributes n)) meshes → All (Own n) (flat_map (λ (m : ℕ × List PrimitiveFields). primitives_of_mesh m.0 m.1) (enumerate_from at meshes))
meshes_have n at [] have = All-nil (Own n)
meshes_have n at (ps ∷ meshes) have =
    All-append (Own n) (primitives_of_mesh at ps) _ (mesh_have n at 0 ps (All-head (All (Attributes n)) ps meshes have)) (meshes_have n (at + 1) meshes (All-tail (All (Attributes n)) ps meshes have))

all_have : (n : ℕ) (meshes : List (List PrimitiveFields)) → All (All (Attributes n)) meshes → All (Own n) (primitives_of meshes)
unfolding primitives_of
all_have n meshes have = meshes_have n 0 meshes have

-- ---- all of an asset

ruled_count : (buffers : List BufferFields) (views : List ViewFields) (accessors : List AccessorFields) (bin : Option (List ℕ)) (ruled : RuledParts) → by_rules buffers views accessors bin ≡ Ok ruled → length ruled.accessors ≡ length accessors
unfolding by_rules
ruled_count buffers views accessors bin ruled e =
    with_value _ (each (buffer_of views bin) 0 buffers) e (λ bs e1 r1.
    with_value _ (each (view_of buffers) 0 views) r1 (λ vs e2 r2.
    with_value _ (each (accessor_of vs) 0 accessors) r2 (λ xs e3 r3.
    passes (is_too_much vs xs) TooMuchData (Ok (record { buffers = bs; views = vs; accessors = xs })) ruled r3 (λ little whole.
    subst (λ (r : RuledParts). length r.accessors ≡ length accessors) (same (record { buffers = bs; views = vs; accessors = xs }) ruled whole) (as_many (accessor_of vs) 0 accessors xs e3)))))

in_shape_ok : (r : Result AssetFields FieldFault) (f : AssetFields) → in_shape r ≡ Ok f → r ≡ Ok f
in_shape_ok (Ok g) f e = cc
in_shape_ok (Err fault) f e = absurd (cc)

pub read_attributes_are_there : ReadAttributesAreThere
unfolding asset
read_attributes_are_there form t bin a e =
    with_value _ (in_shape (asset_fields t)) e (λ fields e1 r1.
    with_value _ (supported form (extensions_in_use t)) r1 (λ used e2 r2.
    with_value _ (by_rules fields.buffers fields.views fields.accessors bin) r2 (λ ruled e3 whole.
    let count = ruled_count fields.buffers fields.views fields.accessors bin ruled e3 in
    subst AttributesAreThere (same (parts fields used ruled) a whole)
    (subst (λ n. All (Own n) (primitives_of fields.meshes)) (sym count) (all_have (length fields.accessors) fields.meshes (fields_refer t fields (in_shape_ok (asset_fields t) fields e1)))))))
