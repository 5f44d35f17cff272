-- Small changes of a value. Each leaves the order and the spelling of all else.
use Rattle.std.specs.Prelude.{ℕ, zero, suc, if◌then◌else◌, List, [], ◌∷◌, ◌++◌}
use Rattle.gp_tree.specs.Plain.{PlainTree, list, members, trees_of, members_of}
use Rattle.gp_tree.specs.Find.{PlainMember, item_list, member_list, is_named}

-- ---- an object

abbrev pub set_first : List ℕ → PlainTree → List PlainMember → List PlainMember
set_first key value [] = (key, value) ∷ []
set_first key value (m ∷ ms) = if is_named key m.0 then (m.0, value) ∷ ms else m ∷ set_first key value ms

abbrev pub remove_first : List ℕ → List PlainMember → List PlainMember
remove_first key [] = []
remove_first key (m ∷ ms) = if is_named key m.0 then ms else m ∷ remove_first key ms

abbrev pub change_first : List ℕ → (PlainTree → PlainTree) → List PlainMember → List PlainMember
change_first key change [] = []
change_first key change (m ∷ ms) = if is_named key m.0 then (m.0, change m.1) ∷ ms else m ∷ change_first key change ms

abbrev pub with_members : (List PlainMember → List PlainMember) → PlainTree → PlainTree
with_members change (members ms) = members (members_of (change (member_list ms)))
with_members change t = t

-- the object with this member set in its place, or put last; without it; with its value changed where it is there
abbrev pub with_member : List ℕ → PlainTree → PlainTree → PlainTree
with_member key value t = with_members (set_first key value) t

abbrev pub without : List ℕ → PlainTree → PlainTree
without key t = with_members (remove_first key) t

abbrev pub at_member : List ℕ → (PlainTree → PlainTree) → PlainTree → PlainTree
at_member key change t = with_members (change_first key change) t

-- ---- a list

abbrev pub change_nth : ℕ → (PlainTree → PlainTree) → List PlainTree → List PlainTree
change_nth i change [] = []
change_nth zero change (t ∷ ts) = change t ∷ ts
change_nth (suc i) change (t ∷ ts) = t ∷ change_nth i change ts

abbrev pub remove_nth : ℕ → List PlainTree → List PlainTree
remove_nth i [] = []
remove_nth zero (t ∷ ts) = ts
remove_nth (suc i) (t ∷ ts) = t ∷ remove_nth i ts

abbrev pub with_items : (List PlainTree → List PlainTree) → PlainTree → PlainTree
with_items change (list ts) = list (trees_of (change (item_list ts)))
with_items change t = t

-- the list with the item at this place changed; without it; with more items behind
abbrev pub at_item : ℕ → (PlainTree → PlainTree) → PlainTree → PlainTree
at_item i change t = with_items (change_nth i change) t

abbrev pub without_item : ℕ → PlainTree → PlainTree
without_item i t = with_items (remove_nth i) t

abbrev pub and_items : List PlainTree → PlainTree → PlainTree
and_items more t = with_items (λ ts. ts ++ more) t
