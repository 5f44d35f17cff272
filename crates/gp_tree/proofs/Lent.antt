-- What is written through a reference to an item or a value.
use Rattle.std.proofs.Common.{◌≡◌, ℕ, zero, suc, ◌<◌, List, [], ◌∷◌, length, map, get_or, slice_set, IsSome, refl, sym, ap, ◌∙◌, arith, rules}
use Rattle.std.specs.Vec.{with_item}
use Rattle.gp_tree.specs.declared.tree.Tree.{Tree}
use Rattle.gp_tree.specs.declared.tree.Tree.TheViews.{roll-Member, roll-Members, out-Members}
use Rattle.gp_tree.specs.declared.tree.Member.{Member}
use Rattle.gp_tree.specs.declared.tree.Members.{Members}
use Rattle.gp_tree.specs.declared.tree.Trees.{Trees}
use Rattle.gp_tree.specs.Plain.{PlainTree, plain, plain_member, plain_trees, plain_members, trees_of, members_of}
use Rattle.gp_tree.specs.Find.{PlainMember, item_list, member_list, value_of}
use Rattle.gp_tree.specs.First.{HasNo, IsFirst}
use Rattle.gp_tree.specs.TreeEdits.{change_nth, change_first}
use Rattle.gp_tree.specs.Lending.{put_item, place, with_value, put_at, put_value}
use Rattle.gp_tree.proofs.Firsts.{value_none}
use Rattle.gp_tree.proofs.Edited.{made, trees_edit, members_edit}

set_nth : (xs : List Tree) (i : ℕ) (w : Tree) → map plain (slice_set xs i w) ≡ change_nth i (λ _. plain w) (map plain xs)
set_nth [] i w = refl
set_nth (x ∷ xs) zero w = refl
set_nth (x ∷ xs) (suc i) w = ap (λ l. plain x ∷ l) (set_nth xs i w)

pub puts_item : (v : Trees) (i : ℕ) (w : Tree) → plain_trees (put_item v i w) ≡ trees_of (change_nth i (λ _. plain w) (item_list (plain_trees v)))
puts_item v i w = trees_edit v (with_item v.items i w) (change_nth i (λ _. plain w)) (set_nth v.items.items i w)

place_is : (name : List ℕ) (xs : List Member) (i : ℕ) → IsFirst name (map plain_member xs) i → place name (map plain_member xs) ≡ i
place_is name [] i h = absurd h
place_is name (x ∷ xs) zero h = rw h refl
place_is name (x ∷ xs) (suc i) h = rw h.0 (ap suc (place_is name xs i h.1))

same_or : (xs : List Member) (i : ℕ) (d e : Member) → i < length xs → get_or xs i d ≡ get_or xs i e
same_or [] i d e h = absurd (omega arith)
same_or (x ∷ xs) zero d e h = refl
same_or (x ∷ xs) (suc i) d e h = same_or xs i d e (omega arith)

change_at_first : (key : List ℕ) (v : PlainTree) (xs : List Member) (i : ℕ) (d n : Member) → IsFirst key (map plain_member xs) i → plain_member n ≡ ((plain_member (get_or xs i d)).0, v)
    → map plain_member (slice_set xs i n) ≡ change_first key (λ _. v) (map plain_member xs)
change_at_first key v [] i d n h e = absurd h
change_at_first key v (x ∷ xs) zero d n h e = rw h (ap (λ m. m ∷ map plain_member xs) e)
change_at_first key v (x ∷ xs) (suc i) d n h e = rw h.0 (ap (λ l. plain_member x ∷ l) (change_at_first key v xs i d n h.1 e))

pub put_made : (v : Members) (name : List ℕ) (i : ℕ) (d : Member) (w : Tree) → IsFirst name (map plain_member (out-Members v).items.items) i → i < length (out-Members v).items.items → d ≡ get_or (out-Members v).items.items i d
    → roll-Members (record { items = with_item (out-Members v).items i (roll-Member (record { key = d.key; value = w })) }) ≡ put_value v name w
put_made v name i d w h within is =
    let xs = (out-Members v).items.items in
    let z : Member = roll-Member (record { key = []; value = w }) in
    let k : d.key ≡ (get_or xs i z).key = ap (λ m. m.key) (is ∙ same_or xs i d z within) in
    ap (λ y. roll-Members (record { items = with_item (out-Members v).items i (roll-Member (record { key = y; value = w })) })) k ∙ sym (ap (λ j. put_at v j w) (place_is name xs i h))

pub puts_value : (v : Members) (name : List ℕ) (i : ℕ) (w : Tree) → IsFirst name (map plain_member (out-Members v).items.items) i
    → plain_members (put_value v name w) ≡ members_of (change_first name (λ _. plain w) (member_list (plain_members v)))
puts_value v name i w h =
    let xs = (out-Members v).items.items in
    let z : Member = roll-Member (record { key = []; value = w }) in
    let n : Member = with_value xs i w in
    ap (λ j. plain_members (put_at v j w)) (place_is name xs i h)
    ∙ members_edit v (with_item (out-Members v).items i n) (change_first name (λ _. plain w)) (change_at_first name (plain w) xs i z n h (made (get_or xs i z) n (plain w) refl refl))

pub no_value : (name : List ℕ) (ms : List PlainMember) → HasNo name ms → IsSome (value_of name ms) → ⊥
no_value name ms h some = let x = rw (value_none name ms h) at some in search rules
