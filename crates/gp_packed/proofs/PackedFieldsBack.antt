-- The fields of a packed asset read back, member by member.
use Rattle.std.specs.Prelude.{codes}
use Rattle.std.proofs.Common.{◌≡◌, length, refl, ap, ◌∙◌}
use Rattle.gp_fields.specs.declared.fault.Place.TheVariants.{Accessors, Images}
use Rattle.gp_fields.specs.Shapes.{object_of}
use Rattle.gp_fields.specs.Fields.{accessor_fields, image_fields}
use Rattle.gp_fields.specs.Record.{items_of_member}
use Rattle.gp_edits.proofs.FieldsBack.{apart}
use Rattle.gp_edits.proofs.ItemsBack.{items_same}
use Rattle.gp_edits.proofs.AssetsBack.{asset_parts, asset_of_parts}
use Rattle.gp_packed.specs.Plan.{output_views}
use Rattle.gp_packed.specs.ViewEdits.{view_edits}
use Rattle.gp_packed.specs.StoredParts.{stored_views_fields}
use Rattle.gp_packed.specs.Packed.{packed_tree}
use Rattle.gp_packed.specs.AccessorsBack.{with_groups_moved}
use Rattle.gp_packed.specs.MeshesBack.{output_fields, packed_with, PackedReadsBack}
use Rattle.gp_packed.proofs.MeshesBack.{meshes_again}
use Rattle.gp_packed.proofs.OutputViewsBack.{views_again, output_counted}
use Rattle.gp_packed.proofs.PackedRoots.{packed_kept, packed_object, packed_used, packed_required, packed_buffers, skins_again, animations_again}

pub fields_again : PackedReadsBack
fields_again moved a root f accessors images keys e none count made stand more lists accessors_read images_read =
    let h = asset_parts root f e in
    let u = packed_tree moved a root in
    let grouped = with_groups_moved moved a root in
    let n = length f.accessors in
    let m = length accessors in
    let views = stored_views_fields (view_edits (output_views moved a)) (output_fields moved a f.views) in
    let counted : length views ≡ length (output_views moved a) = output_counted moved a f.views count in
    asset_of_parts u (packed_with moved a accessors images f) (record {
      object = packed_object moved a root h.object;
      used = packed_used moved a root h.object h.used;
      required = packed_required moved a root h.object h.required;
      buffers = packed_buffers moved a root h.object keys stand.first stand.second;
      views = views_again moved a (length f.buffers) root f.views h.views none count made stand;
      accessors =
          ap (λ k. items_of_member Accessors (codes "accessors") (object_of (accessor_fields k)) u) counted
          ∙ items_same Accessors (codes "accessors") (object_of (accessor_fields (length (output_views moved a)))) grouped u
          (packed_kept moved a (codes "accessors") root (record { used = apart _ _ refl; required = apart _ _ refl; buffers = apart _ _ refl; views = apart _ _ refl }))
          ∙ accessors_read;
      meshes = meshes_again moved a n m root f.meshes h.meshes more lists;
      skins = skins_again moved a n m root f.skins h.skins more;
      animations = animations_again moved a n m root f.animations h.animations more;
      images =
          ap (λ k. items_of_member Images (codes "images") (object_of (image_fields k)) u) counted
          ∙ items_same Images (codes "images") (object_of (image_fields (length (output_views moved a)))) grouped u
          (packed_kept moved a (codes "images") root (record { used = apart _ _ refl; required = apart _ _ refl; buffers = apart _ _ refl; views = apart _ _ refl }))
          ∙ images_read;
    })
