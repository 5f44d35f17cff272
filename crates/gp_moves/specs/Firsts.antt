-- Of numbered entries the first for each number, and the numbers of groups.
use Rattle.std.specs.Prelude.{ℕ, ◌==◌, List, [], ◌∷◌, ◌++◌, map, flat_map, find, Option, option_map, option_to_list}
use Rattle.std.specs.List.{range_with_len, enumerate_from}
use Rattle.gp_moves.specs.declared.firsts.Entry.{Entry}
use Rattle.gp_moves.specs.declared.group_edit.GroupEdit.{GroupEdit}
use Rattle.gp_moves.specs.declared.group_edit.Part.{Part}
use Rattle.gp_moves.specs.declared.group_edit.Part.TheVariants.{Primitives, Columns, Lists}

-- the value of the first entry with this number
abbrev pub first_value : List Entry → ℕ → Option ℕ
first_value entries at = option_map (λ (e : Entry). e.value) (find (λ (e : Entry). e.number == at) entries)

-- those of all numbers below a count
abbrev pub first_values : List Entry → ℕ → List (Option ℕ)
first_values entries count = map (first_value entries) (range_with_len 0 count)

-- ---- groups

abbrev pub part_of : Part → GroupEdit → List ℕ
part_of Primitives g = g.primitives
part_of Columns g = g.columns
part_of Lists g = g.lists

abbrev pub entry_of : ℕ → ℕ → Entry
entry_of value number = record { number = number; value = value }

-- each number of this part of a group, with the group's place
abbrev pub entries_of : Part → List GroupEdit → List Entry
entries_of part groups = flat_map (λ (p : ℕ × GroupEdit). map (entry_of p.0) (part_of part p.1)) (enumerate_from 0 groups)

-- ---- accessors that get a view, in the order of the views

abbrev pub written_of : GroupEdit → List ℕ
written_of g = g.columns ++ g.lists ++ option_to_list g.list_accessor

abbrev pub written : List GroupEdit → List ℕ
written groups = flat_map written_of groups

-- each number with its place
abbrev pub placed : List ℕ → List Entry
placed numbers = flat_map (λ (p : ℕ × ℕ). entry_of p.0 p.1 ∷ []) (enumerate_from 0 numbers)
