-- Items of a value.
use Rattle.std.specs.Prelude.{ℕ, zero, suc, Option, Some, None}
use Rattle.gp_tree.specs.Plain.{PlainTree, PlainTrees, null, truth, number, text, list, members, no_items, item as item_of}

abbrev pub nth_item : PlainTrees → ℕ → Option PlainTree
nth_item no_items i = None
nth_item (item_of t ts) zero = Some t
nth_item (item_of t ts) (suc i) = nth_item ts i

-- the item of a list at this place; none of any other value
abbrev pub item : PlainTree → ℕ → Option PlainTree
item null i = None
item (truth b) i = None
item (number s) i = None
item (text s) i = None
item (list ts) i = nth_item ts i
item (members ms) i = None

abbrev pub items_length : PlainTrees → ℕ
items_length no_items = 0
items_length (item_of t ts) = suc (items_length ts)

-- the number of items of a list; 0 for any other value
abbrev pub items_len : PlainTree → ℕ
items_len null = 0
items_len (truth b) = 0
items_len (number s) = 0
items_len (text s) = 0
items_len (list ts) = items_length ts
items_len (members ms) = 0
