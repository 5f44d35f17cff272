-- What a value needs beyond its shape. Keys are compared by their units.
use Rattle.std.specs.Prelude.{◌≢◌, ℕ, suc, ◌≤◌, max, List, [], ◌∷◌, map, ⊤}
use Rattle.std.specs.List.{AllPairs}
use Rattle.gp_tree.specs.Plain.{PlainTree, PlainTrees, PlainMembers, null, truth, number, text, list, members, no_items, item, no_members, member}
use Rattle.gp_tree.specs.Lexical.{IsNumber, IsString}
use Rattle.gp_tree.specs.Key.{units}

-- each number, string and key is spelled as RFC 8259 allows (sections 6 and 7)
abbrev mutual
  pub IsSpelled : PlainTree → Type 0
  IsSpelled null = ⊤
  IsSpelled (truth b) = ⊤
  IsSpelled (number s) = IsNumber s
  IsSpelled (text s) = IsString s
  IsSpelled (list ts) = AreItemsSpelled ts
  IsSpelled (members ms) = AreMembersSpelled ms

  pub AreItemsSpelled : PlainTrees → Type 0
  AreItemsSpelled no_items = ⊤
  AreItemsSpelled (item t ts) = IsSpelled t × AreItemsSpelled ts

  pub AreMembersSpelled : PlainMembers → Type 0
  AreMembersSpelled no_members = ⊤
  AreMembersSpelled (member k t ms) = IsString k × IsSpelled t × AreMembersSpelled ms

-- how many lists and objects stand in each other
abbrev mutual
  pub depth : PlainTree → ℕ
  depth null = 0
  depth (truth b) = 0
  depth (number s) = 0
  depth (text s) = 0
  depth (list ts) = suc (items_depth ts)
  depth (members ms) = suc (members_depth ms)

  pub items_depth : PlainTrees → ℕ
  items_depth no_items = 0
  items_depth (item t ts) = max (depth t) (items_depth ts)

  pub members_depth : PlainMembers → ℕ
  members_depth no_members = 0
  members_depth (member k t ms) = max (depth t) (members_depth ms)

abbrev pub keys : PlainMembers → List (List ℕ)
keys no_members = []
keys (member k t ms) = k ∷ keys ms

-- no two are equal
abbrev pub AreDistinct : List (List ℕ) → Type 0
AreDistinct ks = AllPairs (λ k l. k ≢ l) ks

-- no object has two equal keys (section 4)
abbrev mutual
  pub HasDistinctKeys : PlainTree → Type 0
  HasDistinctKeys null = ⊤
  HasDistinctKeys (truth b) = ⊤
  HasDistinctKeys (number s) = ⊤
  HasDistinctKeys (text s) = ⊤
  HasDistinctKeys (list ts) = ItemsHaveDistinctKeys ts
  HasDistinctKeys (members ms) = AreDistinct (map units (keys ms)) × MembersHaveDistinctKeys ms

  pub ItemsHaveDistinctKeys : PlainTrees → Type 0
  ItemsHaveDistinctKeys no_items = ⊤
  ItemsHaveDistinctKeys (item t ts) = HasDistinctKeys t × ItemsHaveDistinctKeys ts

  pub MembersHaveDistinctKeys : PlainMembers → Type 0
  MembersHaveDistinctKeys no_members = ⊤
  MembersHaveDistinctKeys (member k t ms) = HasDistinctKeys t × MembersHaveDistinctKeys ms

abbrev pub max_depth : ℕ
max_depth = 128

pub record IsSound (t : PlainTree) : Type 0 where
  pub spelled : IsSpelled t
  pub shallow : depth t ≤ max_depth
  pub distinct : HasDistinctKeys t
