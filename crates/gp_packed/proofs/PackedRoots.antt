-- What is found and read of the root of a packed asset.
use Rattle.std.specs.Prelude.{codes, option_map, IsOk}
use Rattle.std.proofs.Common.{◌≡◌, ℕ, List, Ok, refl, sym, ap, ◌∙◌, subst}
use Rattle.gp_tree.specs.Plain.{PlainTree}
use Rattle.gp_tree.specs.Find.{IsObject, find_member}
use Rattle.gp_tree.specs.TreeEdits.{change_first, at_member}
use Rattle.gp_tree.proofs.Kept.{find_change, find_change_other, find_removed}
use Rattle.gp_fields.specs.declared.fault.Place.{Place}
use Rattle.gp_fields.specs.declared.fault.Place.TheVariants.{ExtensionsUsed, ExtensionsRequired, Buffers, Skins, Animations}
use Rattle.gp_fields.specs.Shapes.{Shaped, object_of, a_text}
use Rattle.gp_fields.specs.Fields.{buffer_fields, skin_fields, animation_fields}
use Rattle.gp_fields.specs.Record.{items_of_member}
use Rattle.gp_edits.proofs.FieldsBack.{apart}
use Rattle.gp_edits.proofs.KeysBack.{IsLone, lone_change, object_after}
use Rattle.gp_edits.proofs.ItemsBack.{items_are, items_same}
use Rattle.gp_asset.specs.Asset.{AssetParts}
use Rattle.gp_sameness.specs.Moved.{Moved}
use Rattle.gp_packed.specs.Plan.{Stored, output_views}
use Rattle.gp_sameness.specs.References.{each_item, new_accessor_references, with_new_references}
use Rattle.gp_sameness.specs.Common.{primitive_place}
use Rattle.gp_packed.specs.GroupEdits.{indexed_primitive, with_moved_accessors, with_list_accessors, with_all_indices}
use Rattle.gp_packed.specs.ViewEdits.{view_edits, with_views, with_buffers, with_names, with_stored}
use Rattle.gp_packed.specs.Packed.{with_made_views, packed_tree}
use Rattle.gp_packed.specs.AccessorsBack.{with_groups_moved}
use Rattle.gp_packed.specs.MeshesBack.{BuffersReadBack, RootStaysObject, UsedNamesReadBack, RequiredNamesReadBack, SkinsReadBack, AnimationsReadBack}
use Rattle.gp_packed.proofs.StoredFields.{with_stored_items}
use Rattle.gp_packed.proofs.StoredRoots.{names_kept, names_object, names_used, names_required, buffers_kept, buffers_object, buffers_read, views_kept, views_object}
use Rattle.gp_packed.proofs.StoredFieldsBack.{stored_kept}
use Rattle.gp_packed.proofs.Wider.{Widens, items_more, skin_more, animation_more}

-- ---- one edit after another, each of one member of the root

accessors_kept : (moved : List Moved) (a : AssetParts) (name : List ℕ) (root : PlainTree) → (name ≡ codes "accessors" → ⊥)
    → find_member name (with_list_accessors moved a (with_moved_accessors moved a root)) ≡ find_member name root
unfolding with_moved_accessors with_list_accessors
accessors_kept moved a name root d = find_change_other name (codes "accessors") _ (with_moved_accessors moved a root) d ∙ find_change_other name (codes "accessors") _ root d

indices_kept : (moved : List Moved) (a : AssetParts) (name : List ℕ) (root : PlainTree) → (name ≡ codes "meshes" → ⊥) → find_member name (with_all_indices moved a root) ≡ find_member name root
unfolding with_all_indices
indices_kept moved a name root d = find_change_other name (codes "meshes") _ root d

references_kept : (moved : List Moved) (a : AssetParts) (name : List ℕ) (root : PlainTree) → (name ≡ codes "accessors" → ⊥) → (name ≡ codes "images" → ⊥)
    → find_member name (with_new_references moved a root) ≡ find_member name root
unfolding with_new_references
references_kept moved a name root d e =
    find_change_other name (codes "images") _ (at_member (codes "accessors") (each_item (new_accessor_references moved a)) root) e
    ∙ find_change_other name (codes "accessors") _ root d

made_kept : (moved : List Moved) (a : AssetParts) (name : List ℕ) (root : PlainTree) → (name ≡ codes "bufferViews" → ⊥) → find_member name (with_made_views moved a root) ≡ find_member name root
unfolding with_made_views
made_kept moved a name root d = find_change_other name (codes "bufferViews") _ root d

-- a member that the edits of groups leave as it is
pub record IsBesideGroups (name : List ℕ) : Type 0 where
  pub accessors : name ≡ codes "accessors" → ⊥
  pub meshes : name ≡ codes "meshes" → ⊥
  pub images : name ≡ codes "images" → ⊥

pub groups_kept : (moved : List Moved) (a : AssetParts) (name : List ℕ) (root : PlainTree) → IsBesideGroups name → find_member name (with_groups_moved moved a root) ≡ find_member name root
groups_kept moved a name root h =
    let listed = with_list_accessors moved a (with_moved_accessors moved a root) in
    references_kept moved a name (with_all_indices moved a listed) h.accessors h.images
    ∙ indices_kept moved a name listed h.meshes
    ∙ accessors_kept moved a name root h.accessors

-- one that all later edits leave as it is
pub record IsBesideViews (name : List ℕ) : Type 0 where
  pub used : name ≡ codes "extensionsUsed" → ⊥
  pub required : name ≡ codes "extensionsRequired" → ⊥
  pub buffers : name ≡ codes "buffers" → ⊥
  pub views : name ≡ codes "bufferViews" → ⊥

pub packed_kept : (moved : List Moved) (a : AssetParts) (name : List ℕ) (root : PlainTree) → IsBesideViews name → find_member name (packed_tree moved a root) ≡ find_member name (with_groups_moved moved a root)
unfolding packed_tree
packed_kept moved a name root h =
    let grouped = with_groups_moved moved a root in
    stored_kept (output_views moved a) name (with_made_views moved a grouped) h.used h.required h.buffers h.views ∙ made_kept moved a name grouped h.views

-- meshes are found as after the one edit of theirs
pub meshes_found : (moved : List Moved) (a : AssetParts) (root : PlainTree) → find_member (codes "meshes") (packed_tree moved a root) ≡ find_member (codes "meshes") (with_all_indices moved a root)
unfolding with_all_indices
meshes_found moved a root =
    let name = codes "meshes" in
    let listed = with_list_accessors moved a (with_moved_accessors moved a root) in
    let indexed : PlainTree → PlainTree = each_item (λ mesh. at_member (codes "primitives") (each_item (λ at. indexed_primitive moved (primitive_place a mesh at)))) in
    packed_kept moved a name root (record { used = apart _ _ refl; required = apart _ _ refl; buffers = apart _ _ refl; views = apart _ _ refl })
    ∙ references_kept moved a name (with_all_indices moved a listed) (apart _ _ refl) (apart _ _ refl)
    ∙ find_change name indexed listed
    ∙ ap (option_map indexed) (accessors_kept moved a name root (apart _ _ refl))
    ∙ sym (find_change name indexed root)

-- ---- an object stays one, and has one `buffers` as before

change_object : (key : List ℕ) (change : PlainTree → PlainTree) (t : PlainTree) → IsObject t → IsObject (at_member key change t)
change_object key change t o = object_after (change_first key change) t o

groups_object : (moved : List Moved) (a : AssetParts) (root : PlainTree) → IsObject root → IsObject (with_groups_moved moved a root)
unfolding with_moved_accessors with_list_accessors with_all_indices with_new_references
groups_object moved a root o =
    change_object (codes "images") _ _
    (change_object (codes "accessors") _ _ (change_object (codes "meshes") _ _ (change_object (codes "accessors") _ _ (change_object (codes "accessors") _ root o))))

groups_lone : (moved : List Moved) (a : AssetParts) (root : PlainTree) → IsLone (codes "buffers") root → IsLone (codes "buffers") (with_groups_moved moved a root)
unfolding with_moved_accessors with_list_accessors with_all_indices with_new_references
groups_lone moved a root h =
    lone_change (codes "buffers") (codes "images") _ _ (apart _ _ refl)
    (lone_change (codes "buffers") (codes "accessors") _ _ (apart _ _ refl)
    (lone_change (codes "buffers") (codes "meshes") _ _ (apart _ _ refl)
    (lone_change (codes "buffers") (codes "accessors") _ _ (apart _ _ refl) (lone_change (codes "buffers") (codes "accessors") _ root (apart _ _ refl) h))))

-- the root before it says where its views stand
abbrev unstored : List Moved → AssetParts → PlainTree → PlainTree
unstored moved a root = with_made_views moved a (with_groups_moved moved a root)

unstored_kept : (moved : List Moved) (a : AssetParts) (name : List ℕ) (root : PlainTree) → IsBesideGroups name → (name ≡ codes "bufferViews" → ⊥) → find_member name (unstored moved a root) ≡ find_member name root
unstored_kept moved a name root h d = made_kept moved a name (with_groups_moved moved a root) d ∙ groups_kept moved a name root h

unstored_object : (moved : List Moved) (a : AssetParts) (root : PlainTree) → IsObject root → IsObject (unstored moved a root)
unfolding with_made_views
unstored_object moved a root o = change_object (codes "bufferViews") _ _ (groups_object moved a root o)

unstored_lone : (moved : List Moved) (a : AssetParts) (root : PlainTree) → IsLone (codes "buffers") root → IsLone (codes "buffers") (unstored moved a root)
unfolding with_made_views
unstored_lone moved a root h = lone_change (codes "buffers") (codes "bufferViews") _ _ (apart _ _ refl) (groups_lone moved a root h)

views_lone : (views : List Stored) (root : PlainTree) → IsLone (codes "buffers") root → IsLone (codes "buffers") (with_views views root)
unfolding with_views
views_lone views root h = lone_change (codes "buffers") (codes "bufferViews") (with_stored_items (view_edits views)) root (apart _ _ refl) h

-- before the names of extensions are added
abbrev unnamed : List Moved → AssetParts → PlainTree → PlainTree
unnamed moved a root = with_buffers (output_views moved a) (with_views (output_views moved a) (unstored moved a root))

unnamed_object : (moved : List Moved) (a : AssetParts) (root : PlainTree) → IsObject root → IsObject (unnamed moved a root)
unnamed_object moved a root o =
    let views = output_views moved a in
    let u = unstored moved a root in
    buffers_object views (with_views views u) (views_object views u (unstored_object moved a root o))

unnamed_kept : (moved : List Moved) (a : AssetParts) (name : List ℕ) (root : PlainTree) → IsBesideGroups name → (name ≡ codes "buffers" → ⊥) → (name ≡ codes "bufferViews" → ⊥)
    → find_member name (unnamed moved a root) ≡ find_member name root
unnamed_kept moved a name root h d e =
    let views = output_views moved a in
    let u = unstored moved a root in
    buffers_kept views name (with_views views u) d ∙ views_kept views name u e ∙ unstored_kept moved a name root h e

-- ---- names of extensions, and buffers

pub packed_object : RootStaysObject
unfolding packed_tree with_stored
packed_object moved a root o = names_object (output_views moved a) (unnamed moved a root) (unnamed_object moved a root o)

unnamed_names : (place : Place) (name : List ℕ) (moved : List Moved) (a : AssetParts) (root : PlainTree) → IsBesideGroups name → (name ≡ codes "buffers" → ⊥) → (name ≡ codes "bufferViews" → ⊥)
    → IsOk (items_of_member place name a_text root) → IsOk (items_of_member place name a_text (unnamed moved a root))
unnamed_names place name moved a root h d e names = subst IsOk (sym (items_same place name a_text root (unnamed moved a root) (unnamed_kept moved a name root h d e))) names

pub packed_used : UsedNamesReadBack
unfolding packed_tree with_stored
packed_used moved a root o names =
    names_used (output_views moved a) (unnamed moved a root) (unnamed_object moved a root o)
    (unnamed_names ExtensionsUsed (codes "extensionsUsed") moved a root (record { accessors = apart _ _ refl; meshes = apart _ _ refl; images = apart _ _ refl }) (apart _ _ refl) (apart _ _ refl) names)

pub packed_required : RequiredNamesReadBack
unfolding packed_tree with_stored
packed_required moved a root o names =
    names_required (output_views moved a) (unnamed moved a root) (unnamed_object moved a root o)
    (unnamed_names ExtensionsRequired (codes "extensionsRequired") moved a root (record { accessors = apart _ _ refl; meshes = apart _ _ refl; images = apart _ _ refl }) (apart _ _ refl) (apart _ _ refl) names)

pub packed_buffers : BuffersReadBack
unfolding packed_tree with_stored
packed_buffers moved a root o keys small low =
    let views = output_views moved a in
    let u = unstored moved a root in
    let v = with_views views u in
    let named = with_buffers views v in
    let lone = views_lone views u (unstored_lone moved a root (record { gone = find_removed (codes "buffers") root keys })) in
    items_same Buffers (codes "buffers") (object_of buffer_fields) named (with_names views named) (names_kept views (codes "buffers") named (apart _ _ refl) (apart _ _ refl))
    ∙ buffers_read views v (views_object views u (unstored_object moved a root o)) lone.gone small low

-- ---- members that no edit names

-- read by a wider shape
other_again : {A : Type 0} (place : Place) (name : List ℕ) (f g : Shaped A) (moved : List Moved) (a : AssetParts) (root : PlainTree) (values : List A)
    → IsBesideGroups name → IsBesideViews name → Widens f g → items_of_member place name f root ≡ Ok values → items_of_member place name g (packed_tree moved a root) ≡ Ok values
other_again place name f g moved a root values groups views more e =
    let found = find_member name root in
    items_same place name g root (packed_tree moved a root) (packed_kept moved a name root views ∙ groups_kept moved a name root groups)
    ∙ items_are place name g root found refl
    ∙ items_more place f g more found values (sym (items_are place name f root found refl) ∙ e)

pub skins_again : SkinsReadBack
skins_again moved a accessors others root skins e le =
    other_again Skins (codes "skins") (object_of (skin_fields accessors)) (object_of (skin_fields others)) moved a root skins
    (record { accessors = apart _ _ refl; meshes = apart _ _ refl; images = apart _ _ refl })
    (record { used = apart _ _ refl; required = apart _ _ refl; buffers = apart _ _ refl; views = apart _ _ refl })
    (skin_more accessors others le) e

pub animations_again : AnimationsReadBack
animations_again moved a accessors others root animations e le =
    other_again Animations (codes "animations") (object_of (animation_fields accessors)) (object_of (animation_fields others)) moved a root animations
    (record { accessors = apart _ _ refl; meshes = apart _ _ refl; images = apart _ _ refl })
    (record { used = apart _ _ refl; required = apart _ _ refl; buffers = apart _ _ refl; views = apart _ _ refl })
    (animation_more accessors others le) e
