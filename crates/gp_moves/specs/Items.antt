-- Changes of the items of a list by their numbers.
use Rattle.std.specs.Prelude.{ℕ, Bool, List, map, filter}
use Rattle.std.specs.List.{enumerate_from}
use Rattle.gp_tree.specs.Plain.{PlainTree}
use Rattle.gp_tree.specs.TreeEdits.{with_items}

abbrev pub changed_items : (ℕ → PlainTree → PlainTree) → List PlainTree → List PlainTree
changed_items change ts = map (λ (p : ℕ × PlainTree). change p.0 p.1) (enumerate_from 0 ts)

-- each item of a list changed by its number; another value stays
abbrev pub each_item : (ℕ → PlainTree → PlainTree) → PlainTree → PlainTree
each_item change t = with_items (changed_items change) t

-- the items of a list whose numbers pass
abbrev pub where_numbered : {A : Type 0} → (ℕ → Bool) → List A → List A
where_numbered {A} test items = map (λ (p : ℕ × A). p.1) (filter (λ (p : ℕ × A). test p.0) (enumerate_from 0 items))
