-- The fields of an asset, member by member, and those of another root with other buffers and views.
use Rattle.std.specs.Prelude.{is_ok, codes, IsOk}
use Rattle.std.proofs.Common.{◌≡◌, List, length, Result, Ok, Err, refl, sym, ap, ◌∙◌, subst}
use Rattle.gp_tree.specs.Plain.{PlainTree, null, truth, number, text, list, members}
use Rattle.gp_tree.specs.Find.{IsObject, find_member}
use Rattle.gp_fields.specs.declared.fault.Place.TheVariants.{ExtensionsUsed, ExtensionsRequired, Buffers, BufferViews, Accessors, Meshes, Skins, Animations, Images}
use Rattle.gp_fields.specs.declared.fault.FieldFault.{FieldFault}
use Rattle.gp_fields.specs.Shapes.{object_of, a_text}
use Rattle.gp_fields.specs.Fields.{BufferFields, ViewFields, buffer_fields, view_fields, accessor_fields, mesh_fields, skin_fields, animation_fields, image_fields}
use Rattle.gp_fields.specs.Left.{names_on}
use Rattle.gp_fields.specs.Record.{AssetFields, ◌>>=◌, root_object, items_of_member, asset_fields}
use Rattle.gp_edits.specs.ReadingBack.{fields_with}
use Rattle.gp_edits.proofs.ItemsBack.{items_same}

-- ---- the fields of an asset, member by member

pub record IsAsset (t : PlainTree) (f : AssetFields) : Type 0 where
  pub object : IsObject t
  pub used : IsOk (items_of_member ExtensionsUsed (codes "extensionsUsed") a_text t)
  pub required : IsOk (items_of_member ExtensionsRequired (codes "extensionsRequired") a_text t)
  pub buffers : items_of_member Buffers (codes "buffers") (object_of buffer_fields) t ≡ Ok f.buffers
  pub views : items_of_member BufferViews (codes "bufferViews") (object_of (view_fields (length f.buffers))) t ≡ Ok f.views
  pub accessors : items_of_member Accessors (codes "accessors") (object_of (accessor_fields (length f.views))) t ≡ Ok f.accessors
  pub meshes : items_of_member Meshes (codes "meshes") (object_of (mesh_fields (length f.accessors))) t ≡ Ok f.meshes
  pub skins : items_of_member Skins (codes "skins") (object_of (skin_fields (length f.accessors))) t ≡ Ok f.skins
  pub animations : items_of_member Animations (codes "animations") (object_of (animation_fields (length f.accessors))) t ≡ Ok f.animations
  pub images : items_of_member Images (codes "images") (object_of (image_fields (length f.views))) t ≡ Ok f.images

-- a step that gave a value
with_value : {A B P : Type 0} (f : A → Result B FieldFault) (r : Result A FieldFault) {b : B} → (r >>= f) ≡ Ok b → ((a : A) → r ≡ Ok a → f a ≡ Ok b → P) → P
with_value f (Ok a) e go = go a refl e
with_value f (Err fault) e go = absurd (cc)

ok_step : {A B : Type 0} (f : A → Result B FieldFault) (r : Result A FieldFault) (b : B) → IsOk r → ((a : A) → f a ≡ Ok b) → (r >>= f) ≡ Ok b
ok_step f (Ok a) b h e = e a
ok_step f (Err fault) b h e = absurd (cc)

value_step : {A B : Type 0} (f : A → Result B FieldFault) (b : B) {r : Result A FieldFault} {a : A} → r ≡ Ok a → f a ≡ Ok b → (r >>= f) ≡ Ok b
value_step f b e h = ap (λ r. r >>= f) e ∙ h

root_again : (t : PlainTree) → IsObject t → root_object t ≡ Ok t
root_again null o = absurd o
root_again (truth b) o = absurd o
root_again (number s) o = absurd o
root_again (text s) o = absurd o
root_again (list ts) o = absurd o
root_again (members ms) o = refl

root_read : (t r : PlainTree) → root_object t ≡ Ok r → IsObject t
root_read null r e = absurd (cc)
root_read (truth b) r e = absurd (cc)
root_read (number s) r e = absurd (cc)
root_read (text s) r e = absurd (cc)
root_read (list ts) r e = absurd (cc)
root_read (members ms) r e = tt

asset_steps : (t : PlainTree) → asset_fields t ≡ (root_object t >>= names_on)
unfolding asset_fields
asset_steps t = refl

from_ok : {A : Type 0} → Result A FieldFault → A → A
from_ok (Ok a) b = a
from_ok (Err fault) b = b

named_parts : (t : PlainTree) (f : AssetFields) → IsObject t → names_on t ≡ Ok f → IsAsset t f
unfolding from_ok
named_parts t f o e =
    with_value _ (items_of_member ExtensionsUsed (codes "extensionsUsed") a_text t) e (λ used e1 r1.
    with_value _ (items_of_member ExtensionsRequired (codes "extensionsRequired") a_text t) r1 (λ required e2 r2.
    with_value _ (items_of_member Buffers (codes "buffers") (object_of buffer_fields) t) r2 (λ buffers e3 r3.
    with_value _ (items_of_member BufferViews (codes "bufferViews") (object_of (view_fields (length buffers))) t) r3 (λ views e4 r4.
    with_value _ (items_of_member Accessors (codes "accessors") (object_of (accessor_fields (length views))) t) r4 (λ accessors e5 r5.
    with_value _ (items_of_member Meshes (codes "meshes") (object_of (mesh_fields (length accessors))) t) r5 (λ meshes e6 r6.
    with_value _ (items_of_member Skins (codes "skins") (object_of (skin_fields (length accessors))) t) r6 (λ skins e7 r7.
    with_value _ (items_of_member Animations (codes "animations") (object_of (animation_fields (length accessors))) t) r7 (λ animations e8 r8.
    with_value _ (items_of_member Images (codes "images") (object_of (image_fields (length views))) t) r8 (λ images e9 r9.
    subst (IsAsset t) (ap (λ r. from_ok r f) r9) (record {
      object = o;
      used = ap is_ok e1;
      required = ap is_ok e2;
      buffers = e3;
      views = e4;
      accessors = e5;
      meshes = e6;
      skins = e7;
      animations = e8;
      images = e9;
    }))))))))))

pub asset_parts : (t : PlainTree) (f : AssetFields) → asset_fields t ≡ Ok f → IsAsset t f
asset_parts t f e =
    with_value names_on (root_object t) (sym (asset_steps t) ∙ e) (λ root e1 r1.
    let o = root_read t root e1 in
    named_parts t f o (ap (λ r. r >>= names_on) (sym (root_again t o)) ∙ sym (asset_steps t) ∙ e))

pub asset_of_parts : (t : PlainTree) (f : AssetFields) → IsAsset t f → asset_fields t ≡ Ok f
asset_of_parts t f h =
    asset_steps t
    ∙ ap (λ r. r >>= names_on) (root_again t h.object)
    ∙ ok_step _ (items_of_member ExtensionsUsed (codes "extensionsUsed") a_text t) f h.used (λ used.
    ok_step _ (items_of_member ExtensionsRequired (codes "extensionsRequired") a_text t) f h.required (λ required.
    value_step _ _ h.buffers (
    value_step _ _ h.views (value_step _ _ h.accessors (value_step _ _ h.meshes (value_step _ _ h.skins (value_step _ _ h.animations (value_step _ _ h.images refl))))))))

-- ---- another root with the same members but for buffers and views, of which there are as many

pub record KeepsMembers (t u : PlainTree) : Type 0 where
  pub accessors : find_member (codes "accessors") u ≡ find_member (codes "accessors") t
  pub meshes : find_member (codes "meshes") u ≡ find_member (codes "meshes") t
  pub skins : find_member (codes "skins") u ≡ find_member (codes "skins") t
  pub animations : find_member (codes "animations") u ≡ find_member (codes "animations") t
  pub images : find_member (codes "images") u ≡ find_member (codes "images") t

pub asset_with : (t u : PlainTree) (f : AssetFields) (buffers : List BufferFields) (views : List ViewFields) → IsAsset t f → IsObject u
    → IsOk (items_of_member ExtensionsUsed (codes "extensionsUsed") a_text u)
    → IsOk (items_of_member ExtensionsRequired (codes "extensionsRequired") a_text u)
    → items_of_member Buffers (codes "buffers") (object_of buffer_fields) u ≡ Ok buffers
    → items_of_member BufferViews (codes "bufferViews") (object_of (view_fields (length buffers))) u ≡ Ok views
    → length views ≡ length f.views → KeepsMembers t u → asset_fields u ≡ Ok (fields_with buffers views f)
asset_with t u f buffers views a o used required bs vs count k =
    asset_of_parts u (fields_with buffers views f) (record {
      object = o;
      used = used;
      required = required;
      buffers = bs;
      views = vs;
      accessors =
          items_same Accessors (codes "accessors") (object_of (accessor_fields (length views))) t u k.accessors
          ∙ ap (λ n. items_of_member Accessors (codes "accessors") (object_of (accessor_fields n)) t) count
          ∙ a.accessors;
      meshes = items_same Meshes (codes "meshes") (object_of (mesh_fields (length f.accessors))) t u k.meshes ∙ a.meshes;
      skins = items_same Skins (codes "skins") (object_of (skin_fields (length f.accessors))) t u k.skins ∙ a.skins;
      animations = items_same Animations (codes "animations") (object_of (animation_fields (length f.accessors))) t u k.animations ∙ a.animations;
      images =
          items_same Images (codes "images") (object_of (image_fields (length views))) t u k.images
          ∙ ap (λ n. items_of_member Images (codes "images") (object_of (image_fields n)) t) count
          ∙ a.images;
    })
