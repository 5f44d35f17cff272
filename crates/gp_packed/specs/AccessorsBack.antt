-- What the accessors and images of an asset read as after the edits of groups that move, over the definitions alone.
use Rattle.std.specs.Prelude.{◌≡◌, ℕ, ◌+◌, ◌<◌, ◌^◌, true, false, List, ◌++◌, map, filter_map, length, slice_get, unwrap_or, Option, Some, None, IfSome, option_map, option_and_then, Ok, codes}
use Rattle.std.specs.List.{All, enumerate_from}
use Rattle.gp_tree.specs.Plain.{PlainTree}
use Rattle.gp_tree.specs.Sound.{HasDistinctKeys}
use Rattle.gp_tree.specs.Find.{find_member}
use Rattle.gp_fields.specs.declared.fault.Place.TheVariants.{Accessors, Images}
use Rattle.gp_fields.specs.declared.sparse_fields.SparseFields.{SparseFields}
use Rattle.gp_fields.specs.Shapes.{object_of}
use Rattle.gp_fields.specs.Fields.{AccessorFields, accessor_fields, image_fields}
use Rattle.gp_fields.specs.Record.{items_of_member}
use Rattle.gp_asset.specs.Asset.{AssetParts}
use Rattle.gp_sameness.specs.Moved.{Moved, is_moved, group_with}
use Rattle.gp_sameness.specs.Survivors.{renumbered}
use Rattle.gp_packed.specs.MadeViews.{list_component}
use Rattle.gp_sameness.specs.References.{new_accessor_references, is_kept, with_new_references}
use Rattle.gp_packed.specs.GroupEdits.{made_number, moved_column, moved_list, list_accessor, with_moved_accessors, with_list_accessors, with_all_indices}

-- ---- the fields of an accessor

-- of a vertex, and of a list of vertex numbers, in a view of its own
abbrev pub moved_column_fields : ℕ → Moved → AccessorFields → AccessorFields
moved_column_fields view m f = record { view = Some view; offset = 0; component = f.component; shape = f.shape; count = length m.records; sparse = None }

abbrev pub moved_list_fields : ℕ → Moved → AccessorFields → AccessorFields
moved_list_fields view m f = record { view = Some view; offset = 0; component = list_component m; shape = f.shape; count = f.count; sparse = None }

-- of primitives without indices
abbrev pub made_list_fields : ℕ → Moved → AccessorFields
made_list_fields view m = record { view = Some view; offset = 0; component = list_component m; shape = codes "SCALAR"; count = m.count; sparse = None }

-- the new number of a view, its own where it has none
abbrev pub new_number : (ℕ → Option ℕ) → ℕ → ℕ
new_number renumber view = unwrap_or (renumber view) view

abbrev pub kept_sparse_fields : (ℕ → Option ℕ) → SparseFields → SparseFields
kept_sparse_fields renumber s = record {
  count = s.count;
  indices = record { view = new_number renumber s.indices.view; offset = s.indices.offset; component = s.indices.component };
  values = record { view = new_number renumber s.values.view; offset = s.values.offset };
}

abbrev pub kept_fields : (ℕ → Option ℕ) → AccessorFields → AccessorFields
kept_fields renumber f = record {
  view = option_map (new_number renumber) f.view;
  offset = f.offset;
  component = f.component;
  shape = f.shape;
  count = f.count;
  sparse = option_map (kept_sparse_fields renumber) f.sparse;
}

-- ---- numbers that read back

-- one of so many, and below 2^32
pub record ReadsBelow (count number : ℕ) : Type 0 where
  pub within : number < count
  pub small : number < 2 ^ 32

-- a view has a new number that reads back
abbrev pub IsRenumbered : (ℕ → Option ℕ) → ℕ → ℕ → Type 0
IsRenumbered renumber count view = (number : ℕ) × (renumber view ≡ Some number) × ReadsBelow count number

pub record IsSparseRenumbered (renumber : ℕ → Option ℕ) (count : ℕ) (s : SparseFields) : Type 0 where
  pub indices : IsRenumbered renumber count s.indices.view
  pub values : IsRenumbered renumber count s.values.view

-- so does each view that an accessor refers to
pub record AreRenumbered (renumber : ℕ → Option ℕ) (count : ℕ) (f : AccessorFields) : Type 0 where
  pub view : IfSome f.view (IsRenumbered renumber count)
  pub sparse : IfSome f.sparse (IsSparseRenumbered renumber count)

-- ---- one accessor reads back, by any number of views

abbrev pub MovedColumnsReadBack : Type 0
MovedColumnsReadBack = (views others view : ℕ) (m : Moved) (t : PlainTree) (f : AccessorFields)
    → HasDistinctKeys t → object_of (accessor_fields views) t ≡ Some f → ReadsBelow others view → length m.records < 2 ^ 32
    → object_of (accessor_fields others) (moved_column view m t) ≡ Some (moved_column_fields view m f)

abbrev pub MovedListsReadBack : Type 0
MovedListsReadBack = (views others view : ℕ) (m : Moved) (t : PlainTree) (f : AccessorFields)
    → HasDistinctKeys t → object_of (accessor_fields views) t ≡ Some f → ReadsBelow others view
    → object_of (accessor_fields others) (moved_list view m t) ≡ Some (moved_list_fields view m f)

abbrev pub KeptAccessorsReadBack : Type 0
KeptAccessorsReadBack = (moved : List Moved) (a : AssetParts) (views others at : ℕ) (t : PlainTree) (f : AccessorFields)
    → object_of (accessor_fields views) t ≡ Some f → is_kept moved a at ≡ true → AreRenumbered (renumbered moved a) others f
    → object_of (accessor_fields others) (new_accessor_references moved a at t) ≡ Some (kept_fields (renumbered moved a) f)

-- there is one, and it reads so
abbrev pub MadeAccessorsReadBack : Type 0
MadeAccessorsReadBack = (moved : List Moved) (a : AssetParts) (others : ℕ) (m : Moved) (at : ℕ)
    → m.list_accessor ≡ Some at → ReadsBelow others (made_number moved a at) → m.count < 2 ^ 32
    → option_and_then (object_of (accessor_fields others)) (list_accessor moved a m) ≡ Some (made_list_fields (made_number moved a at) m)

-- ---- all accessors

-- of an accessor by the groups that have it among their columns and their lists
abbrev pub fields_by : (ℕ → Option ℕ) → ℕ → Option Moved → Option Moved → AccessorFields → AccessorFields
fields_by renumber view (Some m) list f = moved_column_fields view m f
fields_by renumber view None (Some m) f = moved_list_fields view m f
fields_by renumber view None None f = kept_fields renumber f

abbrev pub edited_fields : List Moved → AssetParts → ℕ → AccessorFields → AccessorFields
edited_fields moved a at f =
    fields_by (renumbered moved a) (made_number moved a at) (group_with (λ (m : Moved). m.columns) moved at) (group_with (λ (m : Moved). m.lists) moved at) f

abbrev pub list_fields : List Moved → AssetParts → Moved → Option AccessorFields
list_fields moved a m = option_map (λ at. made_list_fields (made_number moved a at) m) m.list_accessor

-- those of the input, each by its number, and then those made
abbrev pub all_accessors_fields : List Moved → AssetParts → List AccessorFields → List AccessorFields
all_accessors_fields moved a fs =
    map (λ (p : ℕ × AccessorFields). edited_fields moved a p.0 p.1) (enumerate_from 0 fs) ++ filter_map (list_fields moved a) moved

-- the root after the edits of accessors, of primitives and of references
abbrev pub with_groups_moved : List Moved → AssetParts → PlainTree → PlainTree
with_groups_moved moved a root = with_new_references moved a (with_all_indices moved a (with_list_accessors moved a (with_moved_accessors moved a root)))

-- the numbers of a group that are written for its accessors
pub record GroupReads (moved : List Moved) (a : AssetParts) (views : ℕ) (m : Moved) : Type 0 where
  pub records : length m.records < 2 ^ 32
  pub count : m.count < 2 ^ 32
  pub made : IfSome m.list_accessor (λ at. ReadsBelow views (made_number moved a at))

-- all that are written, where there will be so many views
pub record NumbersRead (moved : List Moved) (a : AssetParts) (views : ℕ) (fs : List AccessorFields) : Type 0 where
  pub groups : All (GroupReads moved a views) moved
  pub made : (at : ℕ) → at < length fs → is_moved moved at ≡ true → ReadsBelow views (made_number moved a at)
  pub kept : (at : ℕ) (f : AccessorFields) → slice_get fs at ≡ Some f → is_moved moved at ≡ false → AreRenumbered (renumbered moved a) views f

-- a group moves only where there are accessors
abbrev pub AccessorsReadBack : Type 0
AccessorsReadBack = (moved : List Moved) (a : AssetParts) (views others : ℕ) (root : PlainTree) (fs : List AccessorFields)
    → HasDistinctKeys root
    → items_of_member Accessors (codes "accessors") (object_of (accessor_fields views)) root ≡ Ok fs
    → length fs ≡ length a.accessors
    → (0 < length moved → 0 < length fs)
    → NumbersRead moved a others fs
    → items_of_member Accessors (codes "accessors") (object_of (accessor_fields others)) (with_groups_moved moved a root) ≡ Ok (all_accessors_fields moved a fs)

-- as many as before, and one for each group that gets a list
abbrev pub AccessorsAreCounted : Type 0
AccessorsAreCounted = (moved : List Moved) (a : AssetParts) (fs : List AccessorFields)
    → length (all_accessors_fields moved a fs) ≡ length fs + length (filter_map (λ (m : Moved). m.list_accessor) moved)

-- ---- all images

abbrev pub ImagesReadBack : Type 0
ImagesReadBack = (moved : List Moved) (a : AssetParts) (views others : ℕ) (root : PlainTree) (images : List (Option ℕ))
    → items_of_member Images (codes "images") (object_of (image_fields views)) root ≡ Ok images
    → All (λ view. IfSome view (IsRenumbered (renumbered moved a) others)) images
    → items_of_member Images (codes "images") (object_of (image_fields others)) (with_groups_moved moved a root) ≡ Ok (map (option_map (new_number (renumbered moved a))) images)

-- ---- other members of the root are found as before

abbrev pub GroupsKeepOthers : Type 0
GroupsKeepOthers = (moved : List Moved) (a : AssetParts) (name : List ℕ) (root : PlainTree)
    → (name ≡ codes "accessors" → ⊥) → (name ≡ codes "meshes" → ⊥) → (name ≡ codes "images" → ⊥)
    → find_member name (with_groups_moved moved a root) ≡ find_member name root
