-- The list of views, changed inside the root.
use Rattle.std.proofs.Common.{◌≡◌, ◌↔◌, IsTrue, ℕ, Bool, true, false, List, [], ◌∷◌, Option, Some, Result, Ok, Err, OnOk, OnErr, refl, sym, ap, ◌∙◌, subst}
use Rattle.gp_tree.specs.Plain.{PlainTree, null, truth, number, text, list, members, plain, plain_trees, plain_members, trees_of, members_of}
use Rattle.gp_tree.specs.Find.{PlainMember, IsList, IsObject, item_list, member_list, is_named, value_of, find_member}
use Rattle.gp_tree.specs.TreeEdits.{change_first, at_member, with_items}
use Rattle.gp_tree.specs.Lending.{put_value}
use Rattle.gp_tree.specs.declared.tree.Tree.{Tree, List as a_list, Members as an_object}
use Rattle.gp_tree.specs.declared.tree.Trees.{Trees}
use Rattle.gp_tree.specs.declared.tree.Members.{Members}
use Rattle.gp_tree.proofs.Edited.{list_is}
use Rattle.gp_tree.proofs.Inner.{value_written, members_back}
use Rattle.gp_edits.specs.Changes.{change_each, applied, IsListIn}

-- what follows of a success
pub on_ok : {A E : Type 0} (r : Result A E) {P Q : Type 0} → OnOk r P → (P → Q) → OnOk r Q
on_ok (Ok a) p f = f p
on_ok (Err e) p f = tt

-- and of a failure
pub on_err : {A E : Type 0} (r : Result A E) {P Q : Type 0} → OnErr r P → (P → Q) → OnErr r Q
on_err (Ok a) p f = tt
on_err (Err e) p f = f p

-- what holds in any case
pub if_err : {A E : Type 0} (r : Result A E) {P : Type 0} → P → OnErr r P
if_err (Ok a) p = tt
if_err (Err e) p = p

pub views_written : (v : Members) (name : List ℕ) (t : Tree) (before after : Trees) (es : List (PlainTree → PlainTree))
    → value_of name (member_list (plain_members v)) ≡ Some (plain t) → t ≡ a_list before
    → plain_trees after ≡ trees_of (change_each applied es (item_list (plain_trees before)))
    → plain_members (put_value v name (a_list after)) ≡ members_of (change_first name (λ _. plain (a_list after)) (member_list (plain_members v)))
    → plain (an_object (put_value v name (a_list after))) ≡ at_member name (with_items (change_each applied es)) (plain (an_object v))
views_written v name t before after es found is changed puts =
    value_written v name (a_list after) (plain t) (with_items (change_each applied es)) found
    (list_is after ∙ ap list changed ∙ ap (with_items (change_each applied es)) (sym (ap plain is ∙ list_is before))) puts

-- ---- a change that changes nothing

same_in : (b : Bool) (name : List ℕ) (f : PlainTree → PlainTree) (m : PlainMember) (ms : List PlainMember) → is_named name m.0 ≡ b
    → ((x : PlainTree) → value_of name (m ∷ ms) ≡ Some x → f x ≡ x) → (((x : PlainTree) → value_of name ms ≡ Some x → f x ≡ x) → change_first name f ms ≡ ms)
    → change_first name f (m ∷ ms) ≡ m ∷ ms
same_in true name f m ms n same more = rw n (ap (λ y. (m.0, y) ∷ ms) (same m.1 (rw n refl)))
same_in false name f m ms n same more = rw n (ap (λ l. m ∷ l) (more (λ x h. same x (rw n h))))

first_stays : (name : List ℕ) (f : PlainTree → PlainTree) (ms : List PlainMember) → ((x : PlainTree) → value_of name ms ≡ Some x → f x ≡ x) → change_first name f ms ≡ ms
first_stays name f [] same = refl
first_stays name f (m ∷ ms) same = same_in (is_named name m.0) name f m ms refl same (first_stays name f ms)

pub member_stays : (name : List ℕ) (f : PlainTree → PlainTree) (t : PlainTree) → ((x : PlainTree) → find_member name t ≡ Some x → f x ≡ x) → at_member name f t ≡ t
member_stays name f null same = refl
member_stays name f (truth b) same = refl
member_stays name f (number s) same = refl
member_stays name f (text s) same = refl
member_stays name f (list ts) same = refl
member_stays name f (members ms) same = ap (λ l. members (members_of l)) (first_stays name f (member_list ms) same) ∙ ap members (members_back ms)

pub no_list_stays : (es : List (PlainTree → PlainTree)) (t : PlainTree) → (IsList t → ⊥) → with_items (change_each applied es) t ≡ t
no_list_stays es null no_list = refl
no_list_stays es (truth b) no_list = refl
no_list_stays es (number s) no_list = refl
no_list_stays es (text s) no_list = refl
no_list_stays es (list ts) no_list = absurd (no_list tt)
no_list_stays es (members ms) no_list = refl

-- without a list of this name
pub nothing_changed : (name : List ℕ) (es : List (PlainTree → PlainTree)) (t : PlainTree) → (IsListIn (find_member name t) → ⊥) → t ≡ at_member name (with_items (change_each applied es)) t
nothing_changed name es t none =
    sym (member_stays name (with_items (change_each applied es)) t (λ x found. no_list_stays es x (λ l. none (subst IsListIn (sym found) l))))

pub is_object : (name : List ℕ) (t : PlainTree) → IsListIn (find_member name t) → IsObject t
is_object name null l = absurd l
is_object name (truth b) l = absurd l
is_object name (number s) l = absurd l
is_object name (text s) l = absurd l
is_object name (list ts) l = absurd l
is_object name (members ms) l = tt

pub no_list : (t : Option PlainTree) (found : Bool) → (IsTrue found ↔ IsListIn t) → found ≡ false → IsListIn t → ⊥
no_list t found is none l = let e : found ≡ true = is.1 l in cc
