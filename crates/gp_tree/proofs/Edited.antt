-- Changes of a list of members or items, at a place.
use Rattle.std.proofs.Common.{◌≡◌, ◌↔◌, IsTrue, ℕ, zero, suc, ◌+◌, ◌<◌, ◌≤◌, Bool, true, false, Vec, Global, List, [], ◌∷◌, ◌++◌, length, map, get_or, take, drop, slice_set, is_some, IsSome, refl, sym, ap, ◌∙◌, arith, rules}
use Rattle.gp_tree.specs.declared.tree.Tree.{Tree, List as a_list, the_lemmas}
use Rattle.gp_tree.specs.declared.tree.Tree.TheViews.{roll-Member, roll-Members, roll-Trees, out-Members}
use Rattle.gp_tree.specs.declared.tree.Member.{Member}
use Rattle.gp_tree.specs.Plain.{PlainTree, PlainTrees, no_items, item, list, plain, plain_member, plain_items, plain_entries, plain_trees, plain_members, trees_of, members_of}
use Rattle.gp_tree.specs.declared.tree.Members.{Members, the_lemmas as members_lemmas}
use Rattle.gp_tree.specs.declared.tree.Trees.{Trees, the_lemmas as trees_lemmas}
use Rattle.gp_tree.specs.Look.{items_length, nth_item}
use Rattle.gp_tree.specs.Find.{PlainMember, item_list, member_list, value_of}
use Rattle.gp_tree.specs.First.{HasNo, IsFirst}
use Rattle.gp_tree.specs.TreeEdits.{set_first, remove_first, remove_nth}
use Rattle.gp_tree.proofs.Firsts.{value_first, value_none, member_key, member_value, list_of}
use Rattle.gp_tree.proofs.Looks.{items_length_is}

pub items_of : (ts : List PlainTree) → item_list (trees_of ts) ≡ ts
items_of [] = refl
items_of (t ∷ ts) = ap (λ l. t ∷ l) (items_of ts)

map_push : {A B : Type 0} (f : A → B) (xs : List A) (x : A) → map f (xs ++ x ∷ []) ≡ map f xs ++ f x ∷ []
map_push f [] x = refl
map_push f (y ∷ xs) x = ap (λ l. f y ∷ l) (map_push f xs x)

pub members_is : (v : Members) → plain_members v ≡ plain_entries (out-Members v).items.items
members_is v = search (rules, members_lemmas)

rolled_is : (w : Vec Member Global) → plain_members (roll-Members (record { items = w })) ≡ plain_entries w.items
rolled_is w = search (rules, members_lemmas)

pub trees_is : (v : Trees) → plain_trees v ≡ plain_items v.items.items
trees_is v = search (rules, trees_lemmas)

-- a list of members, after a change of its plain members
pub members_edit : (v : Members) (w : Vec Member Global) (change : List PlainMember → List PlainMember) → map plain_member w.items ≡ change (map plain_member (out-Members v).items.items)
    → plain_members (roll-Members (record { items = w })) ≡ members_of (change (member_list (plain_members v)))
members_edit v w change e =
    let l : member_list (plain_members v) ≡ map plain_member (out-Members v).items.items = ap member_list (members_is v) ∙ list_of (map plain_member (out-Members v).items.items) in
    rolled_is w ∙ ap members_of (e ∙ ap change (sym l))

pub trees_edit : (v : Trees) (w : Vec Tree Global) (change : List PlainTree → List PlainTree) → map plain w.items ≡ change (map plain v.items.items)
    → plain_trees (roll-Trees (record { items = w })) ≡ trees_of (change (item_list (plain_trees v)))
trees_edit v w change e =
    let l : item_list (plain_trees v) ≡ map plain v.items.items = ap item_list (trees_is v) ∙ items_of (map plain v.items.items) in
    trees_is (roll-Trees (record { items = w })) ∙ ap trees_of (e ∙ ap change (sym l))

pub members_values : (key : List ℕ) (v : Members) → value_of key (map plain_member (out-Members v).items.items) ≡ value_of key (member_list (plain_members v))
members_values key v = sym (ap (value_of key) (ap member_list (members_is v) ∙ list_of (map plain_member (out-Members v).items.items)))

pub found_members : (key : List ℕ) (v : Members) → is_some (value_of key (map plain_member (out-Members v).items.items)) ≡ is_some (value_of key (member_list (plain_members v)))
found_members key v = ap is_some (members_values key v)

pub trees_length : (v : Trees) → length v.items.items ≡ items_length (plain_trees v)
trees_length v = sym (ap items_length (trees_is v) ∙ items_length_is v.items.items)

pub found_item : (ts : PlainTrees) (i : ℕ) (r : Bool) → IsTrue r ↔ (i < items_length ts) → r ≡ is_some (nth_item ts i)
found_item no_items i true h = absurd (omega (arith, h.0 refl))
found_item no_items i false h = refl
found_item (item t ts) zero true h = refl
found_item (item t ts) zero false h = absurd (let x : false ≡ true = h.1 (omega arith) in cc)
found_item (item t ts) (suc i) r h = found_item ts i r ((λ t. omega (arith, h.0 t)), (λ k. h.1 (omega arith)))

pub map_tree_push : (xs : List Tree) (t : Tree) → map plain (xs ++ t ∷ []) ≡ map plain xs ++ plain t ∷ []
map_tree_push xs t = map_push plain xs t

pub made : (m n : Member) (v : PlainTree) → n.key ≡ m.key → plain n.value ≡ v → plain_member n ≡ ((plain_member m).0, v)
made m n v e f =
    let a : (plain_member n).0 ≡ (plain_member m).0 = member_key n ∙ e ∙ sym (member_key m) in
    let b : (plain_member n).1 ≡ v = member_value n ∙ f in
    ap (λ k. (k, (plain_member n).1)) a ∙ ap (λ t. ((plain_member m).0, t)) b

set_at_first : (key : List ℕ) (v : PlainTree) (xs : List Member) (i : ℕ) (d n : Member) → IsFirst key (map plain_member xs) i → plain_member n ≡ ((plain_member (get_or xs i d)).0, v)
    → map plain_member (slice_set xs i n) ≡ set_first key v (map plain_member xs)
set_at_first key v [] i d n h e = absurd h
set_at_first key v (x ∷ xs) zero d n h e = rw h (ap (λ m. m ∷ map plain_member xs) e)
set_at_first key v (x ∷ xs) (suc i) d n h e = rw h.0 (ap (λ l. plain_member x ∷ l) (set_at_first key v xs i d n h.1 e))

set_last : (key : List ℕ) (v : PlainTree) (ms : List PlainMember) → HasNo key ms → set_first key v ms ≡ ms ++ (key, v) ∷ []
set_last key v [] h = refl
set_last key v (m ∷ ms) h = rw h.0 (ap (λ l. m ∷ l) (set_last key v ms h.1))

pub set_there : (key : List ℕ) (xs : List Member) (i : ℕ) (d : Member) (k : List ℕ) (t : Tree) → IsFirst key (map plain_member xs) i → k ≡ (get_or xs i d).key
    → map plain_member (slice_set xs i (roll-Member (record { key = k; value = t }))) ≡ set_first key (plain t) (map plain_member xs)
set_there key xs i d k t h e =
    let n : Member = roll-Member (record { key = k; value = t }) in
    set_at_first key (plain t) xs i d n h (made (get_or xs i d) n (plain t) e refl)

pub set_new : (key : List ℕ) (xs : List Member) (k : List ℕ) (t : Tree) → HasNo key (map plain_member xs) → k ≡ key
    → map plain_member (xs ++ roll-Member (record { key = k; value = t }) ∷ []) ≡ set_first key (plain t) (map plain_member xs)
set_new key xs k t h e =
    let n : Member = roll-Member (record { key = k; value = t }) in
    let is : plain_member n ≡ (key, plain t) = (let a : (plain_member n).0 ≡ key = member_key n ∙ e in let b : (plain_member n).1 ≡ plain t = member_value n in ap (λ y. (y, (plain_member n).1)) a ∙ ap (λ u. (key, u)) b) in
    map_push plain_member xs n ∙ ap (λ m. map plain_member xs ++ m ∷ []) is ∙ sym (set_last key (plain t) (map plain_member xs) h)

pub remove_there : (key : List ℕ) (xs : List Member) (i : ℕ) → IsFirst key (map plain_member xs) i → map plain_member (take i xs ++ drop (i + 1) xs) ≡ remove_first key (map plain_member xs)
remove_there key [] i h = absurd h
remove_there key (x ∷ xs) zero h = rw h refl
remove_there key (x ∷ xs) (suc i) h =
    let e : suc i + 1 ≡ suc (i + 1) = omega arith in
    rw e (rw h.0 (ap (λ l. plain_member x ∷ l) (remove_there key xs i h.1)))

pub remove_none : (key : List ℕ) (ms : List PlainMember) → HasNo key ms → remove_first key ms ≡ ms
remove_none key [] h = refl
remove_none key (m ∷ ms) h = rw h.0 (ap (λ l. m ∷ l) (remove_none key ms h.1))

pub found_there : (key : List ℕ) (xs : List Member) (i : ℕ) (d : Member) → IsFirst key (map plain_member xs) i → true ≡ is_some (value_of key (map plain_member xs))
found_there key xs i d h = sym (ap is_some (value_first key xs i d h))

pub found_none : (key : List ℕ) (ms : List PlainMember) → HasNo key ms → false ≡ is_some (value_of key ms)
found_none key ms h = sym (ap is_some (value_none key ms h))

pub remove_within : (xs : List Tree) (i : ℕ) → i < length xs → map plain (take i xs ++ drop (i + 1) xs) ≡ remove_nth i (map plain xs)
remove_within [] i h = absurd (omega arith)
remove_within (x ∷ xs) zero h = refl
remove_within (x ∷ xs) (suc i) h =
    let e : suc i + 1 ≡ suc (i + 1) = omega arith in
    rw e (ap (λ l. plain x ∷ l) (remove_within xs i (omega arith)))

pub remove_past : (xs : List Tree) (i : ℕ) → length xs ≤ i → map plain xs ≡ remove_nth i (map plain xs)
remove_past [] i h = refl
remove_past (x ∷ xs) zero h = absurd (omega arith)
remove_past (x ∷ xs) (suc i) h = ap (λ l. plain x ∷ l) (remove_past xs i (omega arith))

pub list_is : (v : Trees) → plain (a_list v) ≡ list (plain_trees v)
list_is v = search (rules, the_lemmas)

pub some_within : (ts : PlainTrees) (i : ℕ) → IsSome (nth_item ts i) → i < items_length ts
some_within no_items i h = let x : ⊥ = search rules in absurd x
some_within (item t ts) zero h = omega arith
some_within (item t ts) (suc i) h = omega (arith, some_within ts i h)
