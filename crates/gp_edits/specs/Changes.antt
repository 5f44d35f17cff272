-- Changes of a JSON value beside those of one member or item. Each leaves the order and the spelling of all else.
use Rattle.std.specs.Prelude.{ℕ, Bool, true, false, not, ◌&&◌, if◌then◌else◌, List, [], ◌∷◌, filter, Option, Some, None, decimal}
use Rattle.gp_tree.specs.Plain.{PlainTree, number, text, list, members, no_items, no_members}
use Rattle.gp_tree.specs.Find.{IsList, is_named, find_member}
use Rattle.gp_tree.specs.TreeEdits.{without, at_member, with_items}

abbrev pub whole_number : ℕ → PlainTree
whole_number n = number (decimal n)

-- a list or an object without anything in it
abbrev pub is_empty : PlainTree → Bool
is_empty (list no_items) = true
is_empty (members no_members) = true
is_empty _ = false

-- ---- a member that a change may empty

-- nothing is left of what held something
abbrev pub is_emptied : PlainTree → PlainTree → Bool
is_emptied before after = not (is_empty before) && is_empty after

abbrev pub emptied_by : List ℕ → (PlainTree → PlainTree) → Option PlainTree → PlainTree → PlainTree
emptied_by key change None t = t
emptied_by key change (Some value) t = if is_emptied value (change value) then without key t else at_member key change t

-- the value of a member changed; the member goes where the change empties it, and one that was empty before stays
unfoldable pub emptied : List ℕ → (PlainTree → PlainTree) → PlainTree → PlainTree
emptied key change t = emptied_by key change (find_member key t) t

abbrev pub without_empty_by : List ℕ → Option PlainTree → PlainTree → PlainTree
without_empty_by key None t = t
without_empty_by key (Some value) t = if is_empty value then without key t else t

-- the value of a member changed, and then the member left out where it is empty, also where it was before
unfoldable pub left_out : List ℕ → (PlainTree → PlainTree) → PlainTree → PlainTree
left_out key change t = without_empty_by key (find_member key (at_member key change t)) (at_member key change t)

-- ---- items

-- each item changed with the value at its place; items past the values stay
abbrev pub change_each : {A : Type 0} → (A → PlainTree → PlainTree) → List A → List PlainTree → List PlainTree
change_each change [] items = items
change_each change (a ∷ values) [] = []
change_each change (a ∷ values) (t ∷ items) = change a t ∷ change_each change values items

abbrev pub is_text_named : List ℕ → PlainTree → Bool
is_text_named name (text spelling) = is_named name spelling
is_text_named name _ = false

-- the list without the texts that stand for a name, at every place
abbrev pub without_text : List ℕ → PlainTree → PlainTree
without_text name t = with_items (filter (λ item. not (is_text_named name item))) t

-- a change made
abbrev pub applied : (PlainTree → PlainTree) → PlainTree → PlainTree
applied change t = change t

-- there is one, and it is a list
abbrev pub IsListIn : Option PlainTree → Type 0
IsListIn None = ⊥
IsListIn (Some t) = IsList t
