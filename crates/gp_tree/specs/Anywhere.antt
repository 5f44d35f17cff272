-- Members at any place of a value.
use Rattle.std.specs.Prelude.{ℕ, Bool, false, ◌||◌, List, [], ◌++◌, map, cond}
use Rattle.gp_tree.specs.Plain.{PlainTree, PlainTrees, PlainMembers, null, truth, number, text, list, members, no_items, item, no_members, member}
use Rattle.gp_tree.specs.Find.{PlainMember, object_members, is_named}

-- some object, of the value itself or of any part of it, has a member with this name
abbrev mutual
  pub has_member : List ℕ → PlainTree → Bool
  has_member name null = false
  has_member name (truth b) = false
  has_member name (number s) = false
  has_member name (text s) = false
  has_member name (list ts) = items_have_member name ts
  has_member name (members ms) = members_have_member name ms

  pub items_have_member : List ℕ → PlainTrees → Bool
  items_have_member name no_items = false
  items_have_member name (item t ts) = has_member name t || items_have_member name ts

  pub members_have_member : List ℕ → PlainMembers → Bool
  members_have_member name no_members = false
  members_have_member name (member k t ms) = (is_named name k || has_member name t) || members_have_member name ms

-- the keys of a member's value, as they are spelled, where the member has this name and the value is an object
abbrev pub own_keys : List ℕ → List ℕ → PlainTree → List (List ℕ)
own_keys name key value = cond (is_named name key) (map (λ (m : PlainMember). m.0) (object_members value)) []

-- the keys of each object that is the value of a member with this name, a member of the value itself or of any part of
-- it: of each member in order, the keys of its value, then those found inside that value
abbrev mutual
  pub keys_under : List ℕ → PlainTree → List (List ℕ)
  keys_under name null = []
  keys_under name (truth b) = []
  keys_under name (number s) = []
  keys_under name (text s) = []
  keys_under name (list ts) = items_keys_under name ts
  keys_under name (members ms) = members_keys_under name ms

  pub items_keys_under : List ℕ → PlainTrees → List (List ℕ)
  items_keys_under name no_items = []
  items_keys_under name (item t ts) = keys_under name t ++ items_keys_under name ts

  pub members_keys_under : List ℕ → PlainMembers → List (List ℕ)
  members_keys_under name no_members = []
  members_keys_under name (member k t ms) = own_keys name k t ++ keys_under name t ++ members_keys_under name ms
