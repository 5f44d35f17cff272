-- A change of an item or a value, in the list or object around it.
use Rattle.std.proofs.Common.{◌≡◌, ℕ, zero, suc, Bool, true, false, List, [], ◌∷◌, Option, Some, refl, sym, ap, ◌∙◌}
use Rattle.gp_tree.specs.declared.tree.Tree.{Tree, List as a_list, Members as an_object}
use Rattle.gp_tree.specs.declared.tree.Members.{Members}
use Rattle.gp_tree.specs.declared.tree.Trees.{Trees}
use Rattle.gp_tree.specs.Plain.{PlainTree, PlainTrees, PlainMembers, no_items, item, no_members, member, plain, plain_trees, plain_members, list, members, trees_of, members_of}
use Rattle.gp_tree.specs.Look.{nth_item}
use Rattle.gp_tree.specs.Find.{PlainMember, is_named, item_list, member_list, value_of}
use Rattle.gp_tree.specs.TreeEdits.{change_nth, change_first, at_item, at_member}
use Rattle.gp_tree.specs.Lending.{put_item, put_value}
use Rattle.gp_tree.proofs.Edited.{list_is}
use Rattle.gp_tree.proofs.Firsts.{object_is}
use Rattle.gp_tree.proofs.Lent.{puts_item}

pub trees_back : (ts : PlainTrees) → trees_of (item_list ts) ≡ ts
trees_back no_items = refl
trees_back (item t ts) = ap (λ l. item t l) (trees_back ts)

pub members_back : (ms : PlainMembers) → members_of (member_list ms) ≡ ms
members_back no_members = refl
members_back (member k t ms) = ap (λ l. member k t l) (members_back ms)

-- what is there, and what a change makes of it
pub nth_changed : (ts : PlainTrees) (i : ℕ) (x u : PlainTree) (f : PlainTree → PlainTree) → nth_item ts i ≡ Some x → u ≡ f x → change_nth i (λ _. u) (item_list ts) ≡ change_nth i f (item_list ts)
nth_changed no_items i x u f h e = refl
nth_changed (item t ts) zero x u f h e = let s : t ≡ x = cc in ap (λ y. y ∷ item_list ts) (e ∙ ap f (sym s))
nth_changed (item t ts) (suc i) x u f h e = ap (λ l. t ∷ l) (nth_changed ts i x u f h e)

nth_same : (ts : PlainTrees) (i : ℕ) (x : PlainTree) → nth_item ts i ≡ Some x → trees_of (change_nth i (λ _. x) (item_list ts)) ≡ ts
nth_same no_items i x h = refl
nth_same (item t ts) zero x h = let s : t ≡ x = cc in ap (λ l. item x l) (trees_back ts) ∙ ap (λ y. item y ts) (sym s)
nth_same (item t ts) (suc i) x h = ap (λ l. item t l) (nth_same ts i x h)

-- the same of the first member with a name
first_step : (b : Bool) (name : List ℕ) (m : PlainMember) (ms : List PlainMember) (x u : PlainTree) (f : PlainTree → PlainTree) → is_named name m.0 ≡ b
    → (value_of name ms ≡ Some x → change_first name (λ _. u) ms ≡ change_first name f ms) → value_of name (m ∷ ms) ≡ Some x → u ≡ f x → change_first name (λ _. u) (m ∷ ms) ≡ change_first name f (m ∷ ms)
first_step true name m ms x u f n more h e =
    let k : ◌≡◌ {A = Option PlainTree} (Some m.1) (Some x) = rw n at h in
    let s : m.1 ≡ x = cc in
    rw n (ap (λ y. (m.0, y) ∷ ms) (e ∙ ap f (sym s)))
first_step false name m ms x u f n more h e =
    let k : value_of name ms ≡ Some x = rw n at h in
    rw n (ap (λ l. m ∷ l) (more k))

pub first_changed : (name : List ℕ) (ms : List PlainMember) (x u : PlainTree) (f : PlainTree → PlainTree) → value_of name ms ≡ Some x → u ≡ f x → change_first name (λ _. u) ms ≡ change_first name f ms
first_changed name [] x u f h e = refl
first_changed name (m ∷ ms) x u f h e = first_step (is_named name m.0) name m ms x u f refl (λ k. first_changed name ms x u f k e) h e

same_step : (b : Bool) (name : List ℕ) (m : PlainMember) (ms : List PlainMember) (x : PlainTree) → is_named name m.0 ≡ b → (value_of name ms ≡ Some x → change_first name (λ _. x) ms ≡ ms) → value_of name (m ∷ ms) ≡ Some x
    → change_first name (λ _. x) (m ∷ ms) ≡ m ∷ ms
same_step true name m ms x n more h =
    let k : ◌≡◌ {A = Option PlainTree} (Some m.1) (Some x) = rw n at h in
    let s : m.1 ≡ x = cc in
    rw n (ap (λ y. (m.0, y) ∷ ms) (sym s))
same_step false name m ms x n more h =
    let k : value_of name ms ≡ Some x = rw n at h in
    rw n (ap (λ l. m ∷ l) (more k))

first_same : (name : List ℕ) (ms : List PlainMember) (x : PlainTree) → value_of name ms ≡ Some x → change_first name (λ _. x) ms ≡ ms
first_same name [] x h = refl
first_same name (m ∷ ms) x h = same_step (is_named name m.0) name m ms x refl (λ k. first_same name ms x k) h

-- the list after a change of its item, and after none
pub item_written : (v : Trees) (i : ℕ) (w : Tree) (x : PlainTree) (f : PlainTree → PlainTree) → nth_item (plain_trees v) i ≡ Some x → plain w ≡ f x → plain (a_list (put_item v i w)) ≡ at_item i f (plain (a_list v))
item_written v i w x f h e =
    list_is (put_item v i w) ∙ ap list (puts_item v i w ∙ ap trees_of (nth_changed (plain_trees v) i x (plain w) f h e)) ∙ sym (ap (at_item i f) (list_is v))

pub item_kept : (v : Trees) (i : ℕ) (w : Tree) (x : PlainTree) → nth_item (plain_trees v) i ≡ Some x → plain w ≡ x → plain (a_list (put_item v i w)) ≡ plain (a_list v)
item_kept v i w x h e =
    list_is (put_item v i w) ∙ ap list (puts_item v i w ∙ ap (λ y. trees_of (change_nth i (λ _. y) (item_list (plain_trees v)))) e ∙ nth_same (plain_trees v) i x h) ∙ sym (list_is v)

-- the object after a change of a value, and after none
pub value_written : (v : Members) (name : List ℕ) (w : Tree) (x : PlainTree) (f : PlainTree → PlainTree) → value_of name (member_list (plain_members v)) ≡ Some x → plain w ≡ f x
    → plain_members (put_value v name w) ≡ members_of (change_first name (λ _. plain w) (member_list (plain_members v))) → plain (an_object (put_value v name w)) ≡ at_member name f (plain (an_object v))
value_written v name w x f h e puts =
    object_is (put_value v name w) ∙ ap members (puts ∙ ap members_of (first_changed name (member_list (plain_members v)) x (plain w) f h e)) ∙ sym (ap (at_member name f) (object_is v))

pub value_kept : (v : Members) (name : List ℕ) (w : Tree) (x : PlainTree) → value_of name (member_list (plain_members v)) ≡ Some x → plain w ≡ x
    → plain_members (put_value v name w) ≡ members_of (change_first name (λ _. plain w) (member_list (plain_members v))) → plain (an_object (put_value v name w)) ≡ plain (an_object v)
value_kept v name w x h e puts =
    object_is (put_value v name w)
    ∙ ap members (puts ∙ ap (λ y. members_of (change_first name (λ _. y) (member_list (plain_members v)))) e ∙ ap members_of (first_same name (member_list (plain_members v)) x h) ∙ members_back (plain_members v))
    ∙ sym (object_is v)
