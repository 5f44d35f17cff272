-- Which buffer views the output of packing has, and at which numbers, over the definitions alone.
use Rattle.std.specs.Prelude.{◌≡◌, ℕ, List, ◌++◌, map, length, slice_get, Some, option_map, Ok, codes}
use Rattle.std.specs.List.{All}
use Rattle.gp_tree.specs.Plain.{PlainTree, PlainTrees, list, trees_of}
use Rattle.gp_tree.specs.Find.{item_list, find_member}
use Rattle.gp_asset.specs.declared.purpose.Form.TheVariants.{Plain}
use Rattle.gp_asset.specs.Asset.{AssetParts}
use Rattle.gp_document.specs.Document.{Document, IsDocument}
use Rattle.gp_document.specs.Accepted.{asset_of}
use Rattle.gp_sameness.specs.Moved.{Moved}
use Rattle.gp_sameness.specs.Survivors.{survives, renumbered, where_numbered}
use Rattle.gp_packed.specs.MadeViews.{made_views, made_place}
use Rattle.gp_packed.specs.Plan.{Stored, all_stored, stored_made, output_views}
use Rattle.gp_packed.specs.ViewEdits.{unplaced}
use Rattle.gp_packed.specs.GroupEdits.{made_number}
use Rattle.gp_packed.specs.Packed.{with_made_views}
use Rattle.gp_packed.specs.StoredParts.{AreBytes, SuitEach}
use Rattle.gp_packed.specs.StoredLaws.{Fits}
use Rattle.gp_packed.specs.NewNumbers.{count_views}
use Rattle.gp_packed.specs.SoundMoved.{MadeFits}

-- ---- how many

-- every view of the input may be stored
abbrev pub StoredAreCounted : Type 0
StoredAreCounted = (moved : List Moved) (a : AssetParts) → length (all_stored moved a) ≡ length a.views

-- those that stay, and those that are made
abbrev pub OutputViewsAreCounted : Type 0
OutputViewsAreCounted = (moved : List Moved) (a : AssetParts) → length (output_views moved a) ≡ count_views moved a

-- ---- where

-- a view that stays stands at its new number
abbrev pub SurvivorsStandThere : Type 0
SurvivorsStandThere = (moved : List Moved) (a : AssetParts) (view number : ℕ) (s : Stored)
    → renumbered moved a view ≡ Some number → slice_get (all_stored moved a) view ≡ Some s → slice_get (output_views moved a) number ≡ Some s

-- the view that is made for an accessor stands at the number that the accessor gets
abbrev pub MadeViewsStandThere : Type 0
MadeViewsStandThere = (moved : List Moved) (a : AssetParts) (at : ℕ)
    → slice_get (output_views moved a) (made_number moved a at) ≡ option_map stored_made (slice_get (made_views a moved) (made_place (made_views a moved) at))

-- ---- numbers that are written for them

-- what is stored of an accepted input's views suits them and fits, whatever moves
abbrev pub AllStoredSuit : Type 0
AllStoredSuit = (moved : List Moved) (bytes : List ℕ) (d : Document) (a : AssetParts)
    → AreBytes bytes → IsDocument bytes d → asset_of Plain d ≡ Ok a → SuitEach a.views (all_stored moved a)

abbrev pub AllStoredFit : Type 0
AllStoredFit = (moved : List Moved) (bytes : List ℕ) (d : Document) (a : AssetParts)
    → AreBytes bytes → IsDocument bytes d → asset_of Plain d ≡ Ok a → All Fits (all_stored moved a)

-- those of the output fit where these do, and the views that are made
abbrev pub OutputViewsFit : Type 0
OutputViewsFit = (moved : List Moved) (a : AssetParts)
    → All Fits (all_stored moved a) → All MadeFits (made_views a moved) → All Fits (output_views moved a)

-- ---- their trees

-- the items of a list of views after the edit of views
abbrev pub edited_views : List Moved → AssetParts → List PlainTree → List PlainTree
edited_views moved a items = where_numbered (survives moved a) items ++ map unplaced (made_views a moved)

abbrev pub EditedViewsAreThere : Type 0
EditedViewsAreThere = (moved : List Moved) (a : AssetParts) (root : PlainTree) (ts : PlainTrees)
    → find_member (codes "bufferViews") root ≡ Some (list ts)
    → find_member (codes "bufferViews") (with_made_views moved a root) ≡ Some (list (trees_of (edited_views moved a (item_list ts))))

-- the other members of the root are found as before
abbrev pub MadeViewsKeepOthers : Type 0
MadeViewsKeepOthers = (moved : List Moved) (a : AssetParts) (name : List ℕ) (root : PlainTree)
    → (name ≡ codes "bufferViews" → ⊥) → find_member name (with_made_views moved a root) ≡ find_member name root

abbrev pub EditedViewsAreCounted : Type 0
EditedViewsAreCounted = (moved : List Moved) (a : AssetParts) (items : List PlainTree)
    → length items ≡ length a.views → length (edited_views moved a items) ≡ count_views moved a

abbrev pub SurvivorsTreesStandThere : Type 0
SurvivorsTreesStandThere = (moved : List Moved) (a : AssetParts) (items : List PlainTree) (view number : ℕ) (t : PlainTree)
    → renumbered moved a view ≡ Some number → slice_get items view ≡ Some t → slice_get (edited_views moved a items) number ≡ Some t

abbrev pub MadeTreesStandThere : Type 0
MadeTreesStandThere = (moved : List Moved) (a : AssetParts) (items : List PlainTree) (at : ℕ)
    → length items ≡ length a.views
    → slice_get (edited_views moved a items) (made_number moved a at) ≡ option_map unplaced (slice_get (made_views a moved) (made_place (made_views a moved) at))
