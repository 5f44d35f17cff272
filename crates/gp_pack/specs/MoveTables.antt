-- What becomes of accessors, primitives and views where groups move, as tables.
use Rattle.std.specs.Prelude.{◌≡◌, ◌<◌, ℕ, ◌++◌, is_none, unwrap_or, option_to_list, List, map, filter_map, length, slice_get, Option, Some, None, option_map, option_and_then}
use Rattle.std.specs.List.{All, count_by}
use Rattle.std.specs.Option.{IsSome}
use Rattle.gp_asset.specs.Uses.{Referrer, references}
use Rattle.gp_asset.specs.Asset.{AssetParts}
use Rattle.gp_alias.specs.Survivors.{renumbered as number_by, new_numbers}
use Rattle.gp_moves.specs.declared.accessors.AccessorMove.{AccessorMove}
use Rattle.gp_moves.specs.declared.accessors.AccessorMove.TheVariants.{Column, Corners, Stays}
use Rattle.gp_moves.specs.declared.group_edit.GroupEdit.{GroupEdit}
use Rattle.gp_moves.specs.declared.group_edit.Part.{Part}
use Rattle.gp_moves.specs.declared.group_edit.Part.TheVariants.{Primitives, Columns, Lists}
use Rattle.gp_moves.specs.declared.made.MadeList.{MadeList}
use Rattle.gp_moves.specs.declared.made.MadeView.{MadeView}
use Rattle.gp_moves.specs.Accessors.{move_at}
use Rattle.gp_moves.specs.Firsts.{first_value, entries_of, written, placed}
use Rattle.gp_moves.specs.References.{new_number}
use Rattle.gp_moves.specs.MadeTrees.{list_at as table_at}
use Rattle.gp_pack.specs.declared.moving.MoveTables.{MoveTables}
use Rattle.gp_sameness.specs.Moved.{Moved, is_moved, group_with}
use Rattle.gp_sameness.specs.Survivors.{renumbered}
use Rattle.gp_packed.specs.MadeViews.{Made, list_component, made_views, made_place}
use Rattle.gp_sameness.specs.Common.{primitive_place}
use Rattle.gp_packed.specs.GroupEdits.{made_number}
use Rattle.gp_packed.specs.MeshesBack.{list_at, made_stride}

-- of an accessor, by the groups that have it among their columns and their lists
abbrev pub move_by : ℕ → Option Moved → Option Moved → AccessorMove
move_by view (Some m) list = Column view (length m.records)
move_by view None (Some m) = Corners view (list_component m)
move_by view None None = Stays

abbrev pub accessor_move : List Moved → AssetParts → ℕ → AccessorMove
accessor_move moved a at =
    move_by (made_number moved a at) (group_with (λ (m : Moved). m.columns) moved at) (group_with (λ (m : Moved). m.lists) moved at)

-- the accessor for the primitives of a group without indices, where it has such
abbrev pub made_list_of : List Moved → AssetParts → Moved → Option MadeList
made_list_of moved a m = option_map (λ at. record { view = made_number moved a at; component = list_component m; count = m.count }) m.list_accessor

abbrev pub made_view_of : Made → MadeView
made_view_of v = record { length = length v.contents; stride = made_stride v.coding.mode v.coding.stride }

-- what these tables hold
pub record AreTables (moved : List Moved) (a : AssetParts) (t : MoveTables) : Type 0 where
  -- one for each accessor, and no other moves
  pub counted : length t.accessors.items ≡ length a.accessors
  pub accessors : (at : ℕ) → move_at t.accessors.items at ≡ accessor_move moved a at
  pub lists : t.lists.items ≡ filter_map (made_list_of moved a) moved
  pub meshes : (mesh at : ℕ) → table_at t.meshes.items mesh at ≡ list_at moved (primitive_place a mesh at)
  pub views : (view : ℕ) → new_number t.numbers.items t.dropped view ≡ renumbered moved a view
  pub made : t.made.items ≡ map made_view_of (made_views a moved)

-- ---- groups, as far as the tables need them

-- without the bytes of its vertices and the numbers of its lists
abbrev pub group_edit_of : Moved → GroupEdit
group_edit_of m = record {
  primitives = m.primitives;
  columns = m.columns;
  lists = m.lists;
  list_accessor = m.list_accessor;
  count = m.count;
  records = length m.records;
}

-- these stand for those groups
abbrev pub AreGroups : List GroupEdit → List Moved → Type 0
AreGroups groups moved = groups ≡ map group_edit_of moved

abbrev pub part_in : Part → Moved → List ℕ
part_in Primitives m = m.primitives
part_in Columns m = m.columns
part_in Lists m = m.lists

-- the first entry with a number names the first group that has it
abbrev pub FirstGroupsAreFound : Type 0
FirstGroupsAreFound = (moved : List Moved) (groups : List GroupEdit) (part : Part) (at : ℕ) → AreGroups groups moved
    → option_and_then (slice_get moved) (first_value (entries_of part groups) at) ≡ group_with (part_in part) moved at

-- ---- views

-- the new numbers by a test of accessors are those by the groups that move
abbrev pub NewNumbersAgree : Type 0
NewNumbersAgree = (moved : List Moved) (a : AssetParts) (view : ℕ) → number_by (is_moved moved) a view ≡ renumbered moved a view

abbrev pub dropped_of : List (Option ℕ) → ℕ
dropped_of numbers = count_by is_none numbers

-- each view that is referred to is there
abbrev pub ReferencesAreThere : AssetParts → Type 0
ReferencesAreThere a = All (λ (r : ℕ × Referrer). r.0 < length a.views) (references a.accessors a.images)

-- a table of all views, with how many of them are dropped, has the new number of any view
abbrev pub NewNumbersAreFound : Type 0
NewNumbersAreFound = (moved : List Moved) (a : AssetParts) (view : ℕ) → ReferencesAreThere a
    → new_number (new_numbers (is_moved moved) a) (dropped_of (new_numbers (is_moved moved) a)) view ≡ renumbered moved a view

-- ---- the views that are made

-- each of its accessors gets a view: its columns exist, and each of its lists has an order
pub record HasViews (a : AssetParts) (m : Moved) : Type 0 where
  pub exist : All (λ at. IsSome (slice_get a.accessors at)) m.columns
  pub ordered : length m.ordered ≡ length (m.lists ++ option_to_list m.list_accessor)

-- where the first entry with a number stands among the accessors that get a view, the view of that accessor is among those made
abbrev pub MadePlacesAreFound : Type 0
MadePlacesAreFound = (moved : List Moved) (a : AssetParts) (groups : List GroupEdit) (at : ℕ) → AreGroups groups moved → All (HasViews a) moved
    → unwrap_or (first_value (placed (written groups)) at) (length (written groups)) ≡ made_place (made_views a moved) at
