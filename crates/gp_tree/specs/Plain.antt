-- A JSON value (RFC 8259, section 3), as mathematics has it, and the one that a `Tree` stands for.
use Rattle.std.specs.Prelude.{ℕ, Bool, List, [], ◌∷◌, map}
use Rattle.gp_tree.specs.declared.tree.Tree.{Tree, fold-Tree}
use Rattle.gp_tree.specs.declared.tree.Tree.TheOpen.{Tree-F, Member-F, Members-F, Trees-F}
use Rattle.gp_tree.specs.declared.tree.Tree.TheFolds.{fold-Member, fold-Members, fold-Trees}
use Rattle.gp_tree.specs.declared.tree.Member.{Member}
use Rattle.gp_tree.specs.declared.tree.Members.{Members}
use Rattle.gp_tree.specs.declared.tree.Trees.{Trees}

-- A number and a string are kept as they are spelled, a string without its quotes.
mutual
  pub data PlainTree : Type 0 where
    null : PlainTree
    truth : Bool → PlainTree
    number : List ℕ → PlainTree
    text : List ℕ → PlainTree
    list : PlainTrees → PlainTree
    members : PlainMembers → PlainTree

  pub data PlainTrees : Type 0 where
    no_items : PlainTrees
    item : PlainTree → PlainTrees → PlainTrees

  pub data PlainMembers : Type 0 where
    no_members : PlainMembers
    member : List ℕ → PlainTree → PlainMembers → PlainMembers

abbrev pub trees_of : List PlainTree → PlainTrees
trees_of [] = no_items
trees_of (t ∷ ts) = item t (trees_of ts)

abbrev pub members_of : List (List ℕ × PlainTree) → PlainMembers
members_of [] = no_members
members_of (m ∷ ms) = member m.0 m.1 (members_of ms)

-- one level, with each part already plain
abbrev pub tree_step : Tree-F PlainTree (List ℕ × PlainTree) PlainMembers PlainTrees → PlainTree
tree_step Tree-F.Null = null
tree_step (Tree-F.Truth b) = truth b
tree_step (Tree-F.Number s) = number s
tree_step (Tree-F.Text s) = text s
tree_step (Tree-F.List ts) = list ts
tree_step (Tree-F.Members ms) = members ms

abbrev pub member_step : Member-F PlainTree (List ℕ × PlainTree) PlainMembers PlainTrees → List ℕ × PlainTree
member_step m = (m.key, m.value)

abbrev pub members_step : Members-F PlainTree (List ℕ × PlainTree) PlainMembers PlainTrees → PlainMembers
members_step ms = members_of ms.items.items

abbrev pub trees_step : Trees-F PlainTree (List ℕ × PlainTree) PlainMembers PlainTrees → PlainTrees
trees_step ts = trees_of ts.items.items

-- the value that a tree stands for: the same items, members and spellings in the same order
abbrev pub plain : Tree → PlainTree
plain = fold-Tree PlainTree (List ℕ × PlainTree) PlainMembers PlainTrees tree_step member_step members_step trees_step

abbrev pub plain_member : Member → List ℕ × PlainTree
plain_member = fold-Member PlainTree (List ℕ × PlainTree) PlainMembers PlainTrees tree_step member_step members_step trees_step

abbrev pub plain_trees : Trees → PlainTrees
plain_trees = fold-Trees PlainTree (List ℕ × PlainTree) PlainMembers PlainTrees tree_step member_step members_step trees_step

abbrev pub plain_members : Members → PlainMembers
plain_members = fold-Members PlainTree (List ℕ × PlainTree) PlainMembers PlainTrees tree_step member_step members_step trees_step

-- the same of the items of a `Vec`
abbrev pub plain_items : List Tree → PlainTrees
plain_items ts = trees_of (map plain ts)

abbrev pub plain_entries : List Member → PlainMembers
plain_entries ms = members_of (map plain_member ms)
