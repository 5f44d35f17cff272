-- Laws of the groups of an asset that move, over the definitions alone.
use Rattle.std.specs.Prelude.{◌≡◌, ℕ, ◌<◌, ◌≤◌, ◌^◌, List, length, Option, Ok}
use Rattle.std.specs.List.{All}
use Rattle.gp_tree.specs.Plain.{PlainTree}
use Rattle.gp_asset.specs.declared.purpose.Form.{Form}
use Rattle.gp_asset.specs.declared.purpose.Form.TheVariants.{Plain}
use Rattle.gp_asset.specs.Asset.{AssetParts, asset}
use Rattle.gp_document.specs.Document.{Document, IsDocument, glb_of}
use Rattle.gp_document.specs.Accepted.{asset_of}
use Rattle.gp_unpack.specs.Contents.{all_contents}
use Rattle.gp_sameness.specs.Moved.{Moved}
use Rattle.gp_packed.specs.MovedGroups.{moved_groups}
use Rattle.gp_packed.specs.Packed.{packed}
use Rattle.gp_packed.specs.PackedFields.{CanBeMoved}
use Rattle.gp_packed.specs.StoredParts.{AreBytes}
use Rattle.gp_packed.specs.RulesMoved.{GroupsAreWhole}

-- what is known of an asset that was read, with the contents of its views
abbrev pub OfRead : (AssetParts → List Moved → Type 0) → Type 0
OfRead holds = (form : Form) (t : PlainTree) (bin : Option (List ℕ)) (a : AssetParts) (contents : List (List ℕ))
    → asset form t bin ≡ Ok a → all_contents a ≡ Ok contents → holds a (moved_groups a contents)

-- each group has vertices, as long as the elements of its columns together, and its lists number them; a view is made for each of its
-- columns and lists, and no accessor is a column or a list twice, be it of one group or of two
abbrev pub MovedGroupsAreWhole : Type 0
MovedGroupsAreWhole = OfRead (λ a moved. GroupsAreWhole moved a)

-- there are no more of them than accessors
abbrev pub MovedGroupsAreFew : Type 0
MovedGroupsAreFew = OfRead (λ a moved. length moved ≤ length a.accessors)

-- the records are bytes where the input is
abbrev pub MovedRecordsAreBytes : Type 0
MovedRecordsAreBytes = (bytes : List ℕ) (d : Document) (a : AssetParts) (contents : List (List ℕ))
    → AreBytes bytes → IsDocument bytes d → asset_of Plain d ≡ Ok a → all_contents a ≡ Ok contents
    → All (λ (m : Moved). All AreBytes m.records) (moved_groups a contents)

-- ---- numbers that are written

-- the groups of an accepted input can be moved where the output is as long as a container may be: all numbers that are written for them
-- read back. No other bound is asked for. An asset has together no more bytes of views and elements than 2^31, and groups share no
-- accessor, so that groups, accessors, views, vertices and corners are few, and the second buffer ends below twice as many bytes.
abbrev pub MovedGroupsCanMove : Type 0
MovedGroupsCanMove = (bytes : List ℕ) (d : Document) (a : AssetParts) (contents : List (List ℕ))
    → AreBytes bytes → IsDocument bytes d → asset_of Plain d ≡ Ok a → all_contents a ≡ Ok contents
    → length (glb_of (packed (moved_groups a contents) d a)) < 2 ^ 32
    → CanBeMoved (moved_groups a contents) a
