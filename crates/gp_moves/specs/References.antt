-- References to buffer views, which get new numbers (glTF 2.0, sections 5.1 to 5.3 and 5.18).
use Rattle.std.specs.Prelude.{ℕ, ◌-◌, Bool, true, false, ◌&&◌, nat_lt, if◌then◌else◌, List, length, slice_get, unwrap_or, Option, Some, None, option_and_then, codes}
use Rattle.gp_tree.specs.Plain.{PlainTree}
use Rattle.gp_tree.specs.Values.{whole}
use Rattle.gp_tree.specs.TreeEdits.{at_member}
use Rattle.gp_edits.specs.Changes.{whole_number}
use Rattle.gp_moves.specs.declared.accessors.AccessorMove.{AccessorMove}
use Rattle.gp_moves.specs.declared.accessors.AccessorMove.TheVariants.{Column, Corners, Stays}
use Rattle.gp_moves.specs.Accessors.{move_at}

-- the new number of a view; past the first ones, where it is given, as many lower as views were dropped
abbrev pub new_number : List (Option ℕ) → ℕ → ℕ → Option ℕ
new_number numbers dropped view = unwrap_or (slice_get numbers view) (Some (view - dropped))

-- the number of a view that stays becomes its new one
abbrev pub renumbered_to : PlainTree → Option ℕ → PlainTree
renumbered_to t None = t
renumbered_to t (Some number) = whole_number number

abbrev pub reference : (ℕ → Option ℕ) → PlainTree → PlainTree
reference renumber t = renumbered_to t (option_and_then renumber (whole t))

abbrev pub view_reference : (ℕ → Option ℕ) → PlainTree → PlainTree
view_reference renumber t = at_member (codes "bufferView") (reference renumber) t

abbrev pub sparse_references : (ℕ → Option ℕ) → PlainTree → PlainTree
sparse_references renumber t =
    at_member (codes "values") (view_reference renumber) (at_member (codes "indices") (view_reference renumber) t)

abbrev pub is_stays : AccessorMove → Bool
is_stays (Column view count) = false
is_stays (Corners view component) = false
is_stays Stays = true

-- of the first ones, one that doesn't move
abbrev pub keeps_place : List AccessorMove → ℕ → Bool
keeps_place moves at = nat_lt at (length moves) && is_stays (move_at moves at)

abbrev pub accessor_references : List AccessorMove → (ℕ → Option ℕ) → ℕ → PlainTree → PlainTree
accessor_references moves renumber at t =
    if keeps_place moves at then at_member (codes "sparse") (sparse_references renumber) (view_reference renumber t) else t
