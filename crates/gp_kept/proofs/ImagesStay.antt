-- The images of an asset, and what becomes of them where its groups move.
use Rattle.std.specs.Prelude.{codes, option_map, IfSome}
use Rattle.std.specs.List.{All}
use Rattle.std.proofs.Common.{◌≡◌, ℕ, ◌<◌, List, [], ◌∷◌, length, map, slice_get, Option, Some, None, Ok, refl, ap, ◌∙◌, subst}
use Rattle.gp_tree.specs.Lexical.{Each}
use Rattle.gp_tree.specs.Plain.{PlainTree}
use Rattle.gp_fields.specs.declared.fault.Place.TheVariants.{Images}
use Rattle.gp_fields.specs.Shapes.{object_of}
use Rattle.gp_fields.specs.Fields.{image_fields}
use Rattle.gp_fields.specs.Record.{items_of_member}
use Rattle.gp_rules.specs.Views.{view_of}
use Rattle.gp_asset.specs.declared.purpose.Form.{Form}
use Rattle.gp_asset.specs.Asset.{AssetParts, asset}
use Rattle.gp_elements.specs.Elements.{content_at}
use Rattle.gp_edits.proofs.AssetsBack.{asset_parts}
use Rattle.gp_unpack.proofs.Drawn.{asset_holds, rules_hold}
use Rattle.gp_unpack.proofs.EachItem.{each_of_all, each_found}
use Rattle.gp_sameness.specs.Moved.{Moved}
use Rattle.gp_sameness.specs.Survivors.{renumbered}
use Rattle.gp_packed.specs.AccessorsBack.{new_number}
use Rattle.gp_kept.specs.ElementsMoved.{ContentsStay}
use Rattle.gp_sameness.proofs.AnySize.{each_counted}
use Rattle.gp_packed.proofs.NewReferences.{images_below, each_by_place}
use Rattle.gp_kept.proofs.KeptElements.{images_kept}

-- ---- as they are read

images_read : (form : Form) (t : PlainTree) (bin : Option (List ℕ)) (a : AssetParts) → asset form t bin ≡ Ok a
    → items_of_member Images (codes "images") (object_of (image_fields (length a.views))) t ≡ Ok a.images
images_read form t bin a e =
    asset_holds form t bin a e (λ f used r h all.
    let many = each_counted (view_of f.buffers) 0 f.views r.views (rules_hold f.buffers f.views f.accessors bin r h.by_rule).all_views in
    subst (λ (x : AssetParts). items_of_member Images (codes "images") (object_of (image_fields (length x.views))) t ≡ Ok x.images) all
    (subst (λ n. items_of_member Images (codes "images") (object_of (image_fields n)) t ≡ Ok f.images) many (asset_parts t f h.has_fields).images))

-- each is in a view of the asset, or in none
pub images_within : (form : Form) (t : PlainTree) (bin : Option (List ℕ)) (a : AssetParts) → asset form t bin ≡ Ok a → All (λ image. IfSome image (λ view. view < length a.views)) a.images
images_within form t bin a e = images_below (length a.views) t a.images (images_read form t bin a e)

-- ---- where groups move

abbrev HasBytes : (ℕ → ℕ) → List (List ℕ) → List (List ℕ) → Option ℕ → Type 0
HasBytes new contents written image = IfSome image (λ view. content_at written (new view) ≡ content_at contents view)

bytes_same : (new : ℕ → ℕ) (contents written : List (List ℕ)) (images : List (Option ℕ)) → Each (HasBytes new contents written) images
    → map (option_map (content_at written)) (map (option_map new) images) ≡ map (option_map (content_at contents)) images
bytes_same new contents written [] h = refl
bytes_same new contents written (None ∷ images) h = ap (λ rest. None ∷ rest) (bytes_same new contents written images h.1)
bytes_same new contents written (Some view ∷ images) h =
    ap (λ bytes. Some bytes ∷ map (option_map (content_at written)) (map (option_map new) images)) h.0
    ∙ ap (λ rest. Some (content_at contents view) ∷ rest) (bytes_same new contents written images h.1)

pub images_stay : (moved : List Moved) (a : AssetParts) (contents written : List (List ℕ)) → All (λ image. IfSome image (λ view. view < length a.views)) a.images → ContentsStay moved a contents written
    → map (option_map (content_at written)) (map (option_map (new_number (renumbered moved a))) a.images) ≡ map (option_map (content_at contents)) a.images
images_stay moved a contents written within stay =
    bytes_same (new_number (renumbered moved a)) contents written a.images
    (each_by_place (HasBytes (new_number (renumbered moved a)) contents written) a.images (λ i image found.
    one i image found (each_found (λ o. IfSome o (λ view. view < length a.views)) a.images i image (each_of_all (λ o. IfSome o (λ view. view < length a.views)) a.images within) found)))
  where
    one : (i : ℕ) (image : Option ℕ) → slice_get a.images i ≡ Some image → IfSome image (λ view. view < length a.views) → HasBytes (new_number (renumbered moved a)) contents written image
    one i None found below = tt
    one i (Some view) found below = images_kept moved a i view contents written found below stay
