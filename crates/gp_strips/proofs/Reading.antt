-- What making lists asks of an asset holds of each that was read.
use Rattle.std.proofs.Common.{◌≡◌, ℕ, List, map, length, Some, Ok, sym, ap, ◌∙◌, subst}
use Rattle.std.specs.Prelude.{option_map}
use Rattle.std.proofs.lemmas.List.{length-map}
use Rattle.gp_rules.specs.declared.storage.View.{View}
use Rattle.std.specs.List.{All}
use Rattle.gp_asset.specs.declared.purpose.Form.TheVariants.{Any}
use Rattle.gp_asset.specs.Asset.{AssetParts}
use Rattle.gp_document.specs.Document.{Document}
use Rattle.gp_document.specs.Accepted.{asset_of}
use Rattle.gp_elements.specs.Held.{IsSound}
use Rattle.gp_elements.specs.Laws.{AreHeld}
use Rattle.gp_elements.proofs.Sound.{accessors_are_sound}
use Rattle.gp_elements.proofs.Reading.{whole_contents}
use Rattle.gp_unpack.specs.Contents.{all_contents}
use Rattle.gp_unpack.proofs.Drawn.{asset_holds}
use Rattle.gp_unpack.proofs.Whole.{contents_are_whole}
use Rattle.gp_strips.specs.MeshRows.{AreInOrder}
use Rattle.gp_strips.proofs.MeshRows.{in_order}

pub read_is_sound : (d : Document) (a : AssetParts) → asset_of Any d ≡ Ok a → All (IsSound a.views) a.accessors
unfolding asset_of
read_is_sound d a is = accessors_are_sound Any d.tree d.bin a is

pub read_is_held : (d : Document) (a : AssetParts) (contents : List (List ℕ)) → asset_of Any d ≡ Ok a → all_contents a ≡ Ok contents → AreHeld a.views contents
unfolding asset_of
read_is_held d a contents is decoded =
    let held = whole_contents a.views contents (contents_are_whole Any d.tree d.bin a contents is decoded) in
    record { every = held.0; same = held.1 }

-- as many as there are views
pub counted : (views : List View) (contents : List (List ℕ)) → AreHeld views contents → length contents ≡ length views
counted views contents held =
    sym (length-map contents Some) ∙ sym (length-map (map Some contents) (option_map (λ (bytes : List ℕ). length bytes)))
    ∙ ap length held.every ∙ length-map views (λ (v : View). Some v.length)

pub read_is_in_order : (d : Document) (a : AssetParts) → asset_of Any d ≡ Ok a → AreInOrder 0 0 a.primitives
unfolding asset_of
read_is_in_order d a is = asset_holds Any d.tree d.bin a is (λ f used r h all. subst (λ (b : AssetParts). AreInOrder 0 0 b.primitives) all (in_order f.meshes))
