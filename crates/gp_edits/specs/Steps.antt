-- What single steps of the edits give.
use Rattle.std.specs.Prelude.{ℕ, Bool, false, not, ◌&&◌, if◌then◌else◌, List, Option, Some, None}
use Rattle.gp_tree.specs.Plain.{PlainTree}
use Rattle.gp_tree.specs.Find.{find_member}
use Rattle.gp_tree.specs.TreeEdits.{without}
use Rattle.gp_edits.specs.Changes.{is_empty}

-- the value of a member is there, and empty
abbrev pub is_empty_at : Option PlainTree → Bool
is_empty_at None = false
is_empty_at (Some value) = is_empty value

abbrev pub past_emptied_by : List ℕ → Bool → Option PlainTree → PlainTree → PlainTree
past_emptied_by key was_empty value t = if not was_empty && is_empty_at value then without key t else t

-- without a member that is empty and was not
abbrev pub past_emptied : List ℕ → Bool → PlainTree → PlainTree
past_emptied key was_empty t = past_emptied_by key was_empty (find_member key t) t
