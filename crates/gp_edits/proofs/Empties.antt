-- What the code finds of empty values, and of members that are not there.
use Rattle.std.proofs.Common.{◌≡◌, Bool, true, false, not, ◌==◌, List, [], ◌∷◌, length, Option, Some, None, option_map, is_some, refl, sym, ap, ◌∙◌, arith}
use Rattle.std.proofs.lemmas.Bool.Decides.{nat_tests}
use Rattle.gp_tree.specs.declared.tree.Tree.{Tree, List as a_list, Members as an_object}
use Rattle.gp_tree.specs.declared.tree.Trees.{Trees}
use Rattle.gp_tree.specs.declared.tree.Member.{Member}
use Rattle.gp_tree.specs.declared.tree.Members.{Members}
use Rattle.gp_tree.specs.Plain.{PlainTree, list, members, plain, plain_items, plain_entries, plain_trees, plain_members}
use Rattle.gp_tree.proofs.Edited.{list_is}
use Rattle.gp_tree.proofs.Firsts.{object_is}
use Rattle.gp_edits.specs.Changes.{is_empty}

no_items_are : (xs : List Tree) → (length xs == 0) ≡ is_empty (list (plain_items xs))
no_items_are [] = refl
no_items_are (x ∷ xs) = grind (arith, nat_tests)

no_entries_are : (xs : List Member) → (length xs == 0) ≡ is_empty (members (plain_entries xs))
no_entries_are [] = refl
no_entries_are (x ∷ xs) = grind (arith, nat_tests)

pub empty_list : (value : Tree) (v : Trees) (xs : List Tree) (r : Bool) → value ≡ a_list v → plain_items xs ≡ plain_trees v → r ≡ (length xs == 0) → r ≡ is_empty (plain value)
empty_list value v xs r is items e = e ∙ no_items_are xs ∙ ap is_empty (sym (ap plain is ∙ list_is v ∙ ap list (sym items)))

pub empty_object : (value : Tree) (v : Members) (xs : List Member) (r : Bool) → value ≡ an_object v → plain_entries xs ≡ plain_members v → r ≡ (length xs == 0) → r ≡ is_empty (plain value)
empty_object value v xs r is entries e = e ∙ no_entries_are xs ∙ ap is_empty (sym (ap plain is ∙ object_is v ∙ ap members (sym entries)))

pub none_found : {A : Type 0} (f : A → PlainTree) (o : Option A) (found : Option PlainTree) (r : Bool) → option_map f o ≡ found → is_some o ≡ not r → r ≡ true → found ≡ None
none_found f None found r e n t = sym e
none_found f (Some a) found r e n t = let x : true ≡ false = n ∙ ap not t in absurd (cc)
