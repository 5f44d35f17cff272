-- Items by their place.
use Rattle.std.proofs.Common.{◌≡◌, ℕ, zero, suc, ◌<◌, ◌≤◌, List, [], ◌∷◌, length, get_or, Some, None, refl, ap, arith, rules}
use Rattle.gp_tree.specs.declared.tree.Tree.{Tree, List as a_list, the_lemmas}
use Rattle.gp_tree.specs.declared.tree.Trees.{Trees}
use Rattle.gp_tree.specs.Plain.{plain, plain_items, list}
use Rattle.gp_tree.specs.Look.{nth_item, items_length}

pub plain_list : (v : Trees) → plain (a_list v) ≡ list (plain_items v.items.items)
plain_list v = search (rules, the_lemmas)

pub nth_within : (ts : List Tree) (i : ℕ) (d : Tree) → i < length ts → nth_item (plain_items ts) i ≡ Some (plain (get_or ts i d))
nth_within [] i d h = absurd (omega arith)
nth_within (t ∷ ts) zero d h = refl
nth_within (t ∷ ts) (suc i) d h = nth_within ts i d (omega arith)

pub nth_past : (ts : List Tree) (i : ℕ) → length ts ≤ i → nth_item (plain_items ts) i ≡ None
nth_past [] i h = refl
nth_past (t ∷ ts) zero h = absurd (omega arith)
nth_past (t ∷ ts) (suc i) h = nth_past ts i (omega arith)

pub items_length_is : (ts : List Tree) → items_length (plain_items ts) ≡ length ts
items_length_is [] = refl
items_length_is (t ∷ ts) = ap suc (items_length_is ts)
