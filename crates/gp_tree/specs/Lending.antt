-- What a list or an object ends as, where a `&mut` to one of its items or values is returned. The clause `puts` beside each says what it stands for.
use Rattle.std.specs.Prelude.{ℕ, suc, cond, List, [], ◌∷◌, map, get_or}
use Rattle.std.specs.Vec.{with_item}
use Rattle.gp_tree.specs.declared.tree.Tree.{Tree, out-Tree, List as a_list, Members as an_object}
use Rattle.gp_tree.specs.declared.tree.Tree.TheOpen.{Tree-F}
use Rattle.gp_tree.specs.declared.tree.Tree.TheViews.{roll-Trees, roll-Member, roll-Members, out-Members}
use Rattle.gp_tree.specs.declared.tree.Member.{Member}
use Rattle.gp_tree.specs.declared.tree.Members.{Members}
use Rattle.gp_tree.specs.declared.tree.Trees.{Trees}
use Rattle.gp_tree.specs.Plain.{plain_member}
use Rattle.gp_tree.specs.Find.{PlainMember, is_named}

-- the items with w at the place i
abbrev pub put_item : Trees → ℕ → Tree → Trees
put_item v i w = roll-Trees (record { items = with_item v.items i w })

-- where the first member with this name stands
abbrev pub place : List ℕ → List PlainMember → ℕ
place name [] = 0
place name (m ∷ ms) = cond (is_named name m.0) 0 (suc (place name ms))

-- the member at the place i with the value w
abbrev pub with_value : List Member → ℕ → Tree → Member
with_value ms i w = roll-Member (record { key = (get_or ms i (roll-Member (record { key = []; value = w }))).key; value = w })

abbrev pub put_at : Members → ℕ → Tree → Members
put_at v i w = roll-Members (record { items = with_item (out-Members v).items i (with_value (out-Members v).items.items i w) })

-- the members with the value w in the first with this name
abbrev pub put_value : Members → List ℕ → Tree → Members
put_value v name w = put_at v (place name (map plain_member (out-Members v).items.items)) w

-- a list with w at the place i; another tree stays
abbrev pub put_item_step : Tree-F Tree Member Members Trees → Tree → ℕ → Tree → Tree
put_item_step (Tree-F.List v) t i w = a_list (put_item v i w)
put_item_step _ t i w = t

abbrev pub put_item_in_tree : Tree → ℕ → Tree → Tree
put_item_in_tree t i w = put_item_step (out-Tree t) t i w

-- an object with the value w in the first member with this name; another tree stays
abbrev pub put_value_step : Tree-F Tree Member Members Trees → Tree → List ℕ → Tree → Tree
put_value_step (Tree-F.Members v) t name w = an_object (put_value v name w)
put_value_step _ t name w = t

abbrev pub put_value_in_tree : Tree → List ℕ → Tree → Tree
put_value_in_tree t name w = put_value_step (out-Tree t) t name w
