-- New numbers of buffer views are numbers of views of the output, over the definitions alone.
use Rattle.std.specs.Prelude.{◌≡◌, ℕ, ◌+◌, ◌<◌, ◌≤◌, ◌^◌, true, List, ◌++◌, length, option_to_list, Option, IfSome, Ok, codes}
use Rattle.std.specs.List.{All}
use Rattle.gp_tree.specs.Plain.{PlainTree}
use Rattle.gp_fields.specs.declared.fault.Place.TheVariants.{Accessors, Images}
use Rattle.gp_fields.specs.declared.sparse_fields.SparseFields.{SparseFields}
use Rattle.gp_fields.specs.Shapes.{object_of}
use Rattle.gp_fields.specs.Fields.{AccessorFields, accessor_fields, image_fields}
use Rattle.gp_fields.specs.Record.{items_of_member}
use Rattle.gp_rules.specs.Checks.{each}
use Rattle.gp_rules.specs.Accessors.{accessor_of}
use Rattle.gp_asset.specs.Asset.{AssetParts}
use Rattle.gp_sameness.specs.Moved.{Moved}
use Rattle.gp_sameness.specs.Survivors.{survives, renumbered, where_numbered}
use Rattle.gp_packed.specs.MadeViews.{made_views}
use Rattle.gp_packed.specs.AccessorsBack.{IsRenumbered, NumbersRead}

-- how many views the output has: those that stay, and those that are made
abbrev pub count_views : List Moved → AssetParts → ℕ
count_views moved a = length (where_numbered (survives moved a) a.views) + length (made_views a moved)

-- ---- a view that stays

abbrev pub SurvivorsAreNumbered : Type 0
SurvivorsAreNumbered = (moved : List Moved) (a : AssetParts) (view : ℕ)
    → view < length a.views → survives moved a view ≡ true → count_views moved a ≤ 2 ^ 32
    → IsRenumbered (renumbered moved a) (count_views moved a) view

-- ---- what is read of the input

-- an accessor refers to none but the first so many views
abbrev pub SparseRefersBelow : ℕ → SparseFields → Type 0
SparseRefersBelow views s = (s.indices.view < views) × (s.values.view < views)

abbrev pub RefersBelow : ℕ → AccessorFields → Type 0
RefersBelow views f = IfSome f.view (λ view. view < views) × IfSome f.sparse (SparseRefersBelow views)

abbrev pub ReferencesAreBelow : Type 0
ReferencesAreBelow = (views : ℕ) (root : PlainTree) (fs : List AccessorFields)
    → items_of_member Accessors (codes "accessors") (object_of (accessor_fields views)) root ≡ Ok fs → All (RefersBelow views) fs

abbrev pub ImagesAreBelow : Type 0
ImagesAreBelow = (views : ℕ) (root : PlainTree) (images : List (Option ℕ))
    → items_of_member Images (codes "images") (object_of (image_fields views)) root ≡ Ok images → All (λ image. IfSome image (λ view. view < views)) images

-- ---- all numbers that are written

-- a group's counts can be written, and it has an order for each of its lists
pub record GroupSuits (m : Moved) : Type 0 where
  pub records : length m.records < 2 ^ 32
  pub count : m.count < 2 ^ 32
  pub ordered : length m.ordered ≡ length (m.lists ++ option_to_list m.list_accessor)

-- those of accessors that stand for such fields
abbrev pub NumbersAreRead : Type 0
NumbersAreRead = (moved : List Moved) (a : AssetParts) (fs : List AccessorFields)
    → each (accessor_of a.views) 0 fs ≡ Ok a.accessors
    → All (RefersBelow (length a.views)) fs
    → All GroupSuits moved
    → count_views moved a ≤ 2 ^ 32
    → NumbersRead moved a (count_views moved a) fs

-- and those of images
abbrev pub ImageNumbersAreRead : Type 0
ImageNumbersAreRead = (moved : List Moved) (a : AssetParts)
    → All (λ image. IfSome image (λ view. view < length a.views)) a.images
    → count_views moved a ≤ 2 ^ 32
    → All (λ image. IfSome image (IsRenumbered (renumbered moved a) (count_views moved a))) a.images
