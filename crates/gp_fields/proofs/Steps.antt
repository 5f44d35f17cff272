-- A chain of calls that each answer a part of what is wanted, by the number of items of a part before.
use Rattle.std.specs.Prelude.{codes}
use Rattle.std.proofs.Common.{◌≡◌, ℕ, List, length, Option, Result, Ok, Err, sym, ap, subst}
use Rattle.gp_tree.specs.Plain.{PlainTree}
use Rattle.gp_fields.specs.declared.fault.Place.TheVariants.{BufferViews, Accessors, Meshes, Skins, Animations, Images}
use Rattle.gp_fields.specs.declared.fault.FieldFault.{FieldFault}
use Rattle.gp_fields.specs.declared.fault.FieldRefusal.{FieldRefusal}
use Rattle.gp_fields.specs.declared.fault.FieldRefusal.TheVariants.{Fault, Memory}
use Rattle.gp_fields.specs.declared.geometry.PrimitiveFields.{PrimitiveFields}
use Rattle.gp_fields.specs.declared.sampling.SamplerFields.{SamplerFields}
use Rattle.gp_fields.specs.Shapes.{object_of}
use Rattle.gp_fields.specs.Fields.{BufferFields, ViewFields, AccessorFields, view_fields, accessor_fields, mesh_fields, skin_fields, animation_fields, image_fields}
use Rattle.gp_fields.specs.Record.{AssetFields, Answers, ◌>>=◌, items_of_member}
use Rattle.gp_fields.specs.Left.{meshes_on}

-- ---- the parts

abbrev pub views : PlainTree → ℕ → Result (List ViewFields) FieldFault
views root n = items_of_member BufferViews (codes "bufferViews") (object_of (view_fields n)) root

abbrev pub accessors : PlainTree → ℕ → Result (List AccessorFields) FieldFault
accessors root n = items_of_member Accessors (codes "accessors") (object_of (accessor_fields n)) root

abbrev pub meshes : PlainTree → ℕ → Result (List (List PrimitiveFields)) FieldFault
meshes root n = items_of_member Meshes (codes "meshes") (object_of (mesh_fields n)) root

abbrev pub skins : PlainTree → ℕ → Result (List (Option ℕ)) FieldFault
skins root n = items_of_member Skins (codes "skins") (object_of (skin_fields n)) root

abbrev pub animations : PlainTree → ℕ → Result (List (List SamplerFields)) FieldFault
animations root n = items_of_member Animations (codes "animations") (object_of (animation_fields n)) root

abbrev pub images : PlainTree → ℕ → Result (List (Option ℕ)) FieldFault
images root n = items_of_member Images (codes "images") (object_of (image_fields n)) root

-- ---- what is left after some of them

abbrev pub images_on : List BufferFields → List ViewFields → List AccessorFields → List (List PrimitiveFields) → List (Option ℕ) → List (List SamplerFields) → PlainTree → Result AssetFields FieldFault
images_on bs vs xs ms ss ns root = images root (length vs) >>= (λ is. Ok (record { buffers = bs; views = vs; accessors = xs; meshes = ms; skins = ss; animations = ns; images = is }))

abbrev pub animations_on : List BufferFields → List ViewFields → List AccessorFields → List (List PrimitiveFields) → List (Option ℕ) → PlainTree → Result AssetFields FieldFault
animations_on bs vs xs ms ss root = animations root (length xs) >>= (λ ns. images_on bs vs xs ms ss ns root)

abbrev pub skins_on : List BufferFields → List ViewFields → List AccessorFields → List (List PrimitiveFields) → PlainTree → Result AssetFields FieldFault
skins_on bs vs xs ms root = skins root (length xs) >>= (λ ss. animations_on bs vs xs ms ss root)

abbrev pub accessors_on : List BufferFields → List ViewFields → PlainTree → Result AssetFields FieldFault
accessors_on bs vs root = accessors root (length vs) >>= (λ xs. meshes_on bs vs xs root)

abbrev pub views_on : List BufferFields → PlainTree → Result AssetFields FieldFault
views_on bs root = views root (length bs) >>= (λ vs. accessors_on bs vs root)

-- ---- one step

-- a part was found
pub found : {A : Type 0} {wanted : Result A FieldFault} {a : A} (f : A → Result AssetFields FieldFault) (result : Result AssetFields FieldRefusal)
    → wanted ≡ Ok a → Answers (f a) (λ x. x) result → Answers (wanted >>= f) (λ x. x) result
found f result e h = subst (λ w. Answers (w >>= f) (λ x. x) result) (sym e) h

-- the same, where the part hangs on a number
pub counted : {A : Type 0} {a : A} {n m : ℕ} (part : ℕ → Result A FieldFault) (f : A → Result AssetFields FieldFault) (result : Result AssetFields FieldRefusal)
    → n ≡ m → part n ≡ Ok a → Answers (f a) (λ x. x) result → Answers (part m >>= f) (λ x. x) result
counted {a = a} part f result s e h = found f result (subst (λ k. part k ≡ Ok a) s e) h

-- a part was refused
pub failed : {A : Type 0} {n m : ℕ} (part : ℕ → Result A FieldFault) (f : A → Result AssetFields FieldFault) (e : FieldRefusal)
    → n ≡ m → Answers {B = A} (part n) (λ a. a) (Err e) → Answers {B = AssetFields} (part m >>= f) (λ x. x) (Err e)
failed part f (Fault fault) s h = ap (λ w. w >>= f) (subst (λ k. part k ≡ Err fault) s h)
failed part f Memory s h = tt
