-- An item or a value lent out of a whole tree.
use Rattle.std.proofs.Common.{◌≡◌, ℕ, List, Option, Some, None, IsSome, option_and_then, refl, sym, ap, ◌∙◌, rules}
use Rattle.gp_tree.specs.declared.tree.Tree.{Tree, out-Tree, List as a_list, Members as an_object}
use Rattle.gp_tree.specs.declared.tree.Tree.TheOpen.{Tree-F}
use Rattle.gp_tree.specs.declared.tree.Tree.TheViews.{outs-List, outs-Members}
use Rattle.gp_tree.specs.declared.tree.Member.{Member}
use Rattle.gp_tree.specs.declared.tree.Members.{Members}
use Rattle.gp_tree.specs.declared.tree.Trees.{Trees}
use Rattle.gp_tree.specs.Plain.{PlainTree, null, truth, number, text, list, members, trees_of, members_of, plain, plain_trees, plain_members}
use Rattle.gp_tree.specs.Look.{item, nth_item}
use Rattle.gp_tree.specs.Find.{IsList, IsObject, member_list, find_member, value_of}
use Rattle.gp_tree.specs.TreeEdits.{at_item, at_member, change_first}
use Rattle.gp_tree.specs.Lending.{put_item, put_value, put_item_step, put_value_step, put_item_in_tree, put_value_in_tree}
use Rattle.gp_tree.proofs.Edited.{list_is}
use Rattle.gp_tree.proofs.Firsts.{object_is}
use Rattle.gp_tree.proofs.Inner.{nth_changed, first_changed}
use Rattle.gp_tree.proofs.Lent.{puts_item}

-- what has an item is a list, and what has a member is an object
pub item_in_list : (t : PlainTree) (i : ℕ) → IsSome (item t i) → IsList t
item_in_list null i h = let x : ⊥ = search rules in absurd x
item_in_list (truth b) i h = let x : ⊥ = search rules in absurd x
item_in_list (number s) i h = let x : ⊥ = search rules in absurd x
item_in_list (text s) i h = let x : ⊥ = search rules in absurd x
item_in_list (list ts) i h = tt
item_in_list (members ms) i h = let x : ⊥ = search rules in absurd x

pub member_in_object : (t : PlainTree) (name : List ℕ) → IsSome (find_member name t) → IsObject t
member_in_object null name h = let x : ⊥ = search rules in absurd x
member_in_object (truth b) name h = let x : ⊥ = search rules in absurd x
member_in_object (number s) name h = let x : ⊥ = search rules in absurd x
member_in_object (text s) name h = let x : ⊥ = search rules in absurd x
member_in_object (list ts) name h = let x : ⊥ = search rules in absurd x
member_in_object (members ms) name h = tt

module _ (t : Tree) (v : Trees) (i : ℕ) (is : t ≡ a_list v) where
  pub list_item : item (plain t) i ≡ nth_item (plain_trees v) i
  list_item = ap (λ s. item (plain s) i) is ∙ ap (λ p. item p i) (list_is v)

  pub put_in_list : (λ (w : Tree). a_list (put_item v i w)) ≡ put_item_in_tree t i
  put_in_list = sym (ap (λ (x : Tree-F Tree Member Members Trees). λ (w : Tree). put_item_step x t i w) (ap out-Tree is ∙ outs-List v))

  pub puts_in_list : (w : Tree) → plain (put_item_in_tree t i w) ≡ at_item i (λ _. plain w) (plain t)
  puts_in_list w =
      ap (λ (put : Tree → Tree). plain (put w)) (sym put_in_list) ∙ list_is (put_item v i w) ∙ ap list (puts_item v i w)
      ∙ sym (ap (at_item i (λ _. plain w)) (ap plain is ∙ list_is v))

module _ (t : Tree) (v : Members) (name : List ℕ) (is : t ≡ an_object v) where
  pub object_member : find_member name (plain t) ≡ value_of name (member_list (plain_members v))
  object_member = ap (λ s. find_member name (plain s)) is ∙ ap (find_member name) (object_is v)

  pub put_in_object : (λ (w : Tree). an_object (put_value v name w)) ≡ put_value_in_tree t name
  put_in_object = sym (ap (λ (x : Tree-F Tree Member Members Trees). λ (w : Tree). put_value_step x t name w) (ap out-Tree is ∙ outs-Members v))

  pub puts_in_object : ((w : Tree) → plain_members (put_value v name w) ≡ members_of (change_first name (λ _. plain w) (member_list (plain_members v))))
      → (w : Tree) → plain (put_value_in_tree t name w) ≡ at_member name (λ _. plain w) (plain t)
  puts_in_object puts w =
      ap (λ (put : Tree → Tree). plain (put w)) (sym put_in_object) ∙ object_is (put_value v name w) ∙ ap members (puts w)
      ∙ sym (ap (at_member name (λ _. plain w)) (ap plain is ∙ object_is v))

-- what a caller concludes: a value that a change gives is that change
pub item_changed : (t : PlainTree) (i : ℕ) (x u : PlainTree) (f : PlainTree → PlainTree) → item t i ≡ Some x → u ≡ f x → at_item i (λ _. u) t ≡ at_item i f t
item_changed null i x u f h e = refl
item_changed (truth b) i x u f h e = refl
item_changed (number s) i x u f h e = refl
item_changed (text s) i x u f h e = refl
item_changed (list ts) i x u f h e = ap (λ l. list (trees_of l)) (nth_changed ts i x u f h e)
item_changed (members ms) i x u f h e = refl

pub member_changed : (t : PlainTree) (name : List ℕ) (x u : PlainTree) (f : PlainTree → PlainTree) → find_member name t ≡ Some x → u ≡ f x → at_member name (λ _. u) t ≡ at_member name f t
member_changed null name x u f h e = refl
member_changed (truth b) name x u f h e = refl
member_changed (number s) name x u f h e = refl
member_changed (text s) name x u f h e = refl
member_changed (list ts) name x u f h e = refl
member_changed (members ms) name x u f h e = ap (λ l. members (members_of l)) (first_changed name (member_list ms) x u f h e)

pub some_before : (f : PlainTree → Option PlainTree) (o : Option PlainTree) → IsSome (option_and_then f o) → IsSome o
some_before f None h = let x : ⊥ = search rules in absurd x
some_before f (Some t) h = search rules
