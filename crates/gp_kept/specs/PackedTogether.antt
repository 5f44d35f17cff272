-- What packing writes where groups move is the same asset: from what is known of the asset that is read of it.
use Rattle.std.specs.Prelude.{◌≡◌, ℕ, ◌<◌, ◌^◌, List, length, option_map, Ok}
use Rattle.gp_tree.specs.Plain.{PlainTree}
use Rattle.gp_glb.specs.Bytes.{padded}
use Rattle.gp_asset.specs.declared.purpose.Form.TheVariants.{Plain, Any}
use Rattle.gp_asset.specs.Asset.{AssetParts}
use Rattle.gp_unpack.specs.Contents.{all_contents}
use Rattle.gp_document.specs.Document.{Document, IsDocument, Holds, glb_of}
use Rattle.gp_document.specs.Accepted.{asset_of}
use Rattle.gp_sameness.specs.Moved.{Moved, is_moved}
use Rattle.gp_sameness.specs.Survivors.{survives, renumbered, where_numbered}
use Rattle.gp_packed.specs.Plan.{output_views, packed_bin}
use Rattle.gp_sameness.specs.Common.{common_before, common_after}
use Rattle.gp_packed.specs.Packed.{packed_tree, packed}
use Rattle.gp_packed.specs.StoredParts.{AreBytes}
use Rattle.gp_packed.specs.MovedGroups.{moved_groups}
use Rattle.gp_sameness.specs.AnySize.{asset_of_any_size}
use Rattle.gp_sameness.specs.Same.{standing_groups, ViewsStay, ElementsStay, images_of, TrianglesStay, VerticesStay, Same}

-- ---- the order of groups

-- in what order groups are moved isn't seen: what is left out of trees, which accessors move, and the new numbers of views are the same
pub record SeesNoOrder (moved others : List Moved) (a : AssetParts) : Type 0 where
  pub before : (root : PlainTree) → common_before moved a root ≡ common_before others a root
  pub after : (root : PlainTree) → common_after moved a root ≡ common_after others a root
  pub moves : (at : ℕ) → is_moved moved at ≡ is_moved others at
  pub numbers : (view : ℕ) → renumbered moved a view ≡ renumbered others a view
  pub views : where_numbered (survives moved a) a.views ≡ where_numbered (survives others a) a.views

abbrev pub OrderIsUnseen : Type 0
OrderIsUnseen = (a : AssetParts) (contents : List (List ℕ)) → SeesNoOrder (standing_groups a contents) (moved_groups a contents) a

-- ---- an output

-- an input that is accepted, with the contents of its views, whose output is as long as a container may be
pub record CanBePacked (bytes : List ℕ) (d : Document) (a : AssetParts) (contents : List (List ℕ)) : Type 0 where
  pub small : AreBytes bytes
  pub is_document : IsDocument bytes d
  pub is_asset : asset_of Plain d ≡ Ok a
  pub read : all_contents a ≡ Ok contents
  pub fits : length (glb_of (packed (moved_groups a contents) d a)) < 2 ^ 32

-- the document that is read of what is written: its BIN chunk is padded with zeros
abbrev pub read_back : List Moved → Document → AssetParts → Document
read_back moved d a = record { tree = packed_tree moved a d.tree; bin = option_map (padded 0) (packed_bin (output_views moved a)); rest = d.rest }

-- the output holds it
abbrev pub OutputHolds : Type 0
OutputHolds = (bytes : List ℕ) (d : Document) (a : AssetParts) (contents : List (List ℕ))
    → CanBePacked bytes d a contents
    → Holds (glb_of (packed (moved_groups a contents) d a)) (read_back (moved_groups a contents) d a)

-- what is known of the asset that it stands for, and of the contents of its views
pub record KeepsAsset (moved : List Moved) (d : Document) (a : AssetParts) (contents : List (List ℕ)) : Type 0 where
  pub asset : AssetParts
  pub is_asset : asset_of_any_size Any (read_back moved d a).tree (read_back moved d a).bin ≡ Ok asset
  pub written : List (List ℕ)
  pub decoded : all_contents asset ≡ Ok written
  pub views : ViewsStay moved a contents written
  pub elements : ElementsStay moved a contents asset written
  pub images : images_of asset written ≡ images_of a contents
  pub triangles : TrianglesStay a contents asset written
  pub vertices : VerticesStay a contents asset written

-- where it keeps that, the output is the same asset
abbrev pub KeepingIsSame : Type 0
KeepingIsSame = (bytes : List ℕ) (d : Document) (a : AssetParts) (contents : List (List ℕ))
    → CanBePacked bytes d a contents
    → KeepsAsset (moved_groups a contents) d a contents
    → Same bytes (glb_of (packed (moved_groups a contents) d a))

-- and it keeps that, so that it is the same asset
abbrev pub PackedGroupsAreSame : Type 0
PackedGroupsAreSame = (bytes : List ℕ) (d : Document) (a : AssetParts) (contents : List (List ℕ))
    → CanBePacked bytes d a contents
    → Same bytes (glb_of (packed (moved_groups a contents) d a))
