-- Objects that are made or changed member by member.
use Rattle.std.specs.Prelude.{codes}
use Rattle.std.specs.Str.{chars}
use Rattle.std.proofs.Common.{◌≡◌, ℕ, List, Option, Some, None, refl, ap, ◌∙◌}
use Rattle.gp_tree.specs.Plain.{PlainTree, text, members, no_members}
use Rattle.gp_tree.specs.TreeEdits.{with_member, without}
use Rattle.gp_edits.specs.Changes.{whole_number}
use Rattle.gp_moves.specs.declared.made.MadeList.{MadeList}
use Rattle.gp_moves.specs.declared.made.MadeView.{MadeView}
use Rattle.gp_moves.specs.Accessors.{corners_moved}
use Rattle.gp_moves.specs.MadeTrees.{list_tree, view_tree, purpose_set}

pub one_less : (key : List ℕ) (o p q : PlainTree) → o ≡ without key p → p ≡ q → o ≡ without key q
one_less key o p q e f = e ∙ ap (without key) f

pub corners_are : (view component : ℕ) (t u : PlainTree)
    → u ≡ without (codes "sparse") (without (codes "max") (without (codes "min") (without (codes "byteOffset")
    (with_member (codes "componentType") (whole_number component) (with_member (codes "bufferView") (whole_number view) t)))))
    → u ≡ corners_moved view component t
unfolding corners_moved
corners_are view component t u e = e

pub list_made : (list : MadeList) → with_member (codes "type") (text (codes "SCALAR")) (
    with_member (codes "count") (whole_number list.count) (
    with_member (codes "componentType") (whole_number list.component) (
    with_member (codes "bufferView") (whole_number list.view) (members no_members)))) ≡ list_tree list
unfolding chars list_tree
list_made list = refl

made_by : (size : ℕ) (stride : Option ℕ) → purpose_set stride (
    with_member (codes "byteLength") (whole_number size) (
    with_member (codes "byteOffset") (whole_number 0) (
    with_member (codes "buffer") (whole_number 0) (members no_members)))) ≡ view_tree (record { length = size; stride = stride })
unfolding chars view_tree purpose_set
made_by size None = refl
made_by size (Some s) = refl

pub view_made : (view : MadeView) → purpose_set view.stride (
    with_member (codes "byteLength") (whole_number view.length) (
    with_member (codes "byteOffset") (whole_number 0) (
    with_member (codes "buffer") (whole_number 0) (members no_members)))) ≡ view_tree view
view_made view = made_by view.length view.stride
