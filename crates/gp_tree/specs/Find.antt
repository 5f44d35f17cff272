-- Members of a value by their names.
use Rattle.std.specs.Prelude.{ℕ, Bool, List, [], ◌∷◌, find, Option, option_map, ⊤}
use Rattle.std.specs.Str.{bytes_eq}
use Rattle.gp_tree.specs.Plain.{PlainTree, PlainTrees, PlainMembers, list, members, no_items, item, no_members, member}
use Rattle.gp_tree.specs.Key.{units}

-- a key as it is spelled, and its value
abbrev pub PlainMember : Type 0
PlainMember = List ℕ × PlainTree

abbrev pub item_list : PlainTrees → List PlainTree
item_list no_items = []
item_list (item t ts) = t ∷ item_list ts

abbrev pub member_list : PlainMembers → List PlainMember
member_list no_members = []
member_list (member k t ms) = (k, t) ∷ member_list ms

-- the items of a list and the members of an object; another value has none
abbrev pub array_items : PlainTree → List PlainTree
array_items (list ts) = item_list ts
array_items _ = []

abbrev pub object_members : PlainTree → List PlainMember
object_members (members ms) = member_list ms
object_members _ = []

abbrev pub IsObject : PlainTree → Type 0
IsObject (members ms) = ⊤
IsObject _ = ⊥

abbrev pub IsList : PlainTree → Type 0
IsList (list ts) = ⊤
IsList _ = ⊥

-- a spelled string stands for this ASCII name
abbrev pub is_named : List ℕ → List ℕ → Bool
is_named name spelling = bytes_eq (units spelling) name

-- the value of the first member with this name
abbrev pub value_of : List ℕ → List PlainMember → Option PlainTree
value_of name ms = option_map (λ (m : PlainMember). m.1) (find (λ (m : PlainMember). is_named name m.0) ms)

abbrev pub find_member : List ℕ → PlainTree → Option PlainTree
find_member name t = value_of name (object_members t)
