-- The parts of the tables of what moves.
use Rattle.std.specs.Prelude.{◌≡◌, ℕ, ◌+◌, nat_le, if◌then◌else◌, List, map, length, slice_get, unwrap_or, Option, Some, None, option_map, option_and_then}
use Rattle.std.specs.List.{range_with_len}
use Rattle.gp_moves.specs.declared.accessors.AccessorMove.{AccessorMove}
use Rattle.gp_moves.specs.declared.accessors.AccessorMove.TheVariants.{Column, Corners, Stays}
use Rattle.gp_moves.specs.declared.group_edit.GroupEdit.{GroupEdit}
use Rattle.gp_moves.specs.declared.group_edit.Part.TheVariants.{Columns, Lists}
use Rattle.gp_moves.specs.declared.made.MadeList.{MadeList}
use Rattle.gp_moves.specs.declared.made.MadeView.{MadeView}
use Rattle.gp_moves.specs.Firsts.{first_values, entries_of, written, placed}
use Rattle.gp_pack.specs.declared.made.MadePart.{MadePart}
use Rattle.gp_pack.specs.declared.tables.Places.{Places}
use Rattle.gp_packed.specs.MeshesBack.{made_stride}

-- of a view that is made, its length and its stride
abbrev pub view_of_part : MadePart → MadeView
view_of_part v = record { length = v.length; stride = made_stride v.coding.mode v.coding.stride }

-- ---- by place

abbrev pub value_at : List (Option ℕ) → ℕ → Option ℕ
value_at values at = unwrap_or (slice_get values at) None

abbrev pub group_at : List GroupEdit → Option ℕ → Option GroupEdit
group_at groups place = option_and_then (slice_get groups) place

-- ---- what is known of each accessor

-- of so many accessors and the ones that are made, where so many views stay
pub record ArePlaces (groups : List GroupEdit) (accessors kept : ℕ) (p : Places) : Type 0 where
  pub columns : p.columns.items ≡ first_values (entries_of Columns groups) accessors
  pub lists : p.lists.items ≡ first_values (entries_of Lists groups) accessors
  pub views : p.views.items ≡ first_values (placed (written groups)) (accessors + length groups)
  pub stay : p.kept ≡ kept
  pub made : p.made ≡ length (written groups)

-- the number of the view that is made for an accessor, past all of them where none is
abbrev pub view_number : Places → ℕ → ℕ
view_number p at = p.kept + unwrap_or (value_at p.views.items at) p.made

-- ---- accessors

abbrev pub component_for : ℕ → ℕ
component_for records = if nat_le records 65535 then 5123 else 5125

-- by the groups that have it among their columns and their lists
abbrev pub move_with : ℕ → Option GroupEdit → Option GroupEdit → AccessorMove
move_with view (Some g) list = Column view g.records
move_with view None (Some g) = Corners view (component_for g.records)
move_with view None None = Stays

abbrev pub move_of : List GroupEdit → Places → ℕ → AccessorMove
move_of groups p at =
    move_with (view_number p at) (group_at groups (value_at p.columns.items at)) (group_at groups (value_at p.lists.items at))

-- those of so many accessors
abbrev pub moves_of : List GroupEdit → Places → ℕ → List AccessorMove
moves_of groups p count = map (move_of groups p) (range_with_len 0 count)

-- the accessor for the primitives of a group without indices, where it has such
abbrev pub list_made : Places → GroupEdit → Option MadeList
list_made p g = option_map (λ at. record { view = view_number p at; component = component_for g.records; count = g.count }) g.list_accessor
