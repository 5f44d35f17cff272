-- The fields of a packed asset read back.
use Rattle.std.specs.Prelude.{IfSome}
use Rattle.std.specs.List.{All, filter_map}
use Rattle.std.proofs.Common.{◌≡◌, ◌+◌, ◌<◌, ◌≤◌, ◌^◌, length, sym, ap, ◌∙◌, subst, arith}
use Rattle.gp_edits.proofs.AssetsBack.{asset_parts}
use Rattle.gp_sameness.specs.Moved.{Moved}
use Rattle.gp_sameness.specs.Survivors.{renumbered}
use Rattle.gp_packed.specs.Plan.{output_views}
use Rattle.gp_packed.specs.AccessorsBack.{IsRenumbered, NumbersRead, all_accessors_fields}
use Rattle.gp_packed.specs.NewNumbers.{count_views, RefersBelow}
use Rattle.gp_packed.specs.MeshesBack.{HasListIn}
use Rattle.gp_packed.specs.PackedFields.{count_accessors, PackedFieldsReadBack}
use Rattle.gp_packed.proofs.AccessorsBack.{accessors_again, accessors_counted, images_again}
use Rattle.gp_packed.proofs.NewReferences.{references_below, images_below, images_renumbered}
use Rattle.gp_packed.proofs.MadePlaces.{numbers_read}
use Rattle.gp_packed.proofs.OutputViewsBack.{views_counted_apart}
use Rattle.gp_packed.proofs.FieldsKnown.{parts_stand}
use Rattle.gp_packed.proofs.PackedFieldsBack.{fields_again}

pub packed_fields_again : PackedFieldsReadBack
packed_fields_again t bin a f moved keys e read can =
    let s = parts_stand t bin a f e read in
    let h = asset_parts t f read in
    let n = length (output_views moved a) in
    let counted : n ≡ count_views moved a = views_counted_apart moved a in
    let few : count_views moved a ≤ 2 ^ 32 = omega (arith, counted, can.few) in
    let below : All (RefersBelow (length a.views)) f.accessors = subst (λ k. All (RefersBelow k) f.accessors) s.views (references_below (length f.views) t f.accessors h.accessors) in
    let numbers : NumbersRead moved a n f.accessors = subst (λ k. NumbersRead moved a k f.accessors) (sym counted) (numbers_read moved a f.accessors s.ruled below can.groups few) in
    let of_images : All (λ image. IfSome image (λ view. view < length a.views)) a.images =
    subst (λ k. All (λ image. IfSome image (λ view. view < k)) a.images) s.views
    (subst (λ images. All (λ image. IfSome image (λ view. view < length f.views)) images) (sym s.images) (images_below (length f.views) t f.images h.images)) in
    let images : All (λ image. IfSome image (IsRenumbered (renumbered moved a) n)) f.images =
    subst (λ k. All (λ image. IfSome image (IsRenumbered (renumbered moved a) k)) f.images) (sym counted)
    (subst (λ images. All (λ image. IfSome image (IsRenumbered (renumbered moved a) (count_views moved a))) images) s.images (images_renumbered moved a of_images few)) in
    let accessors = all_accessors_fields moved a f.accessors in
    let total : length accessors ≡ count_accessors moved a = accessors_counted moved a f.accessors ∙ ap (λ k. k + length (filter_map (λ (m : Moved). m.list_accessor) moved)) s.accessors in
    fields_again moved a t f accessors _ keys read s.uncompressed s.views
    (λ some. let views : 0 < length a.views = can.some_views some in omega (arith, views, s.views))
    can.stand
    (omega (arith, accessors_counted moved a f.accessors))
    (subst (λ k. All (HasListIn k) moved) (sym total) can.lists)
    (accessors_again moved a (length f.views) n t f.accessors keys h.accessors s.accessors (λ some. let more : 0 < length a.accessors = can.some_accessors some in omega (arith, more, s.accessors)) numbers)
    (images_again moved a (length f.views) n t f.images h.images images)
