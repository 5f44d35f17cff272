-- Small values, as the definitions see them. No public contract cites it.
use Rattle.std.specs.Prelude.{◌≡◌, ℕ, zero, suc, List, [], ◌∷◌, ◌++◌, codes, Some, None}
use Rattle.std.proofs.Common.{refl}
use Rattle.std.specs.Str.{chars}
use Rattle.gp_tree.specs.Plain.{PlainTree, null, number, text, list, members, no_items, item, no_members, member}
use Rattle.gp_tree.specs.Key.{units}
use Rattle.gp_tree.specs.Sound.{depth}
use Rattle.gp_tree.specs.Look.{item as item_at, items_len}
use Rattle.gp_tree.specs.Find.{find_member}
use Rattle.gp_tree.specs.Anywhere.{keys_under}
use Rattle.gp_tree.specs.Values.{whole, ascii}
use Rattle.gp_tree.specs.TreeEdits.{with_member, without, at_member, at_item, without_item, and_items}

-- `a` and `\u0061` are one key; so are `\n` and `\u000A`
pub escaped : units (92 ∷ codes "u0061") ≡ units (codes "a")
unfolding chars
escaped = refl

pub escaped_control : units (92 ∷ codes "n") ≡ units (92 ∷ codes "u000A")
unfolding chars
escaped_control = refl

-- U+1D11E in UTF-8 is the pair that `\uD834\uDD1E` spells, and a half of it is a unit of its own
pub pair : units (0xF0 ∷ 0x9D ∷ 0x84 ∷ 0x9E ∷ []) ≡ units (92 ∷ codes "uD834" ++ 92 ∷ codes "uDD1E")
unfolding chars
pair = refl

pub lone : units (92 ∷ codes "uD834") ≡ 0xD834 ∷ []
unfolding chars
lone = refl

-- lists in each other
abbrev nested : ℕ → PlainTree
nested zero = list no_items
nested (suc n) = list (item (nested n) no_items)

pub deepest : depth (nested 127) ≡ 128
deepest = refl

-- `{"a":1,"\u0062":2,"b":3}`, whose second and third keys are equal
abbrev spelled_b : List ℕ
spelled_b = 92 ∷ codes "u0062"

abbrev one : PlainTree
one = number (codes "1")

abbrev two : PlainTree
two = number (codes "2")

abbrev three : PlainTree
three = number (codes "3")

abbrev entries : PlainTree
entries = members (member (codes "a") one (member spelled_b two (member (codes "b") three no_members)))

pub finds_first : find_member (codes "b") entries ≡ Some two
unfolding chars
finds_first = refl

pub finds_none : find_member (codes "c") entries ≡ None
unfolding chars
finds_none = refl

-- `{"a":{"b":1,"c":{"a":{"d":2}}},"b":{"a":3}}` has two objects under the key `a`
pub under_a : keys_under (codes "a") (members (member (codes "a") (members (member (codes "b") one (member (codes "c") (members (member (codes "a") (members (member (codes "d") two no_members)) no_members)) no_members))) (member (codes "b") (members (member (codes "a") three no_members)) no_members)))
    ≡ codes "b" ∷ codes "c" ∷ codes "d" ∷ []
unfolding chars
under_a = refl

-- `[{"\u0062":{"\u0062":1},"b":[{"a":2}]}]` has one under the key `b`, whose own key stays as it is spelled
pub under_b : keys_under (codes "b") (list (item (members (member spelled_b (members (member spelled_b one no_members)) (member (codes "b") (list (item (members (member (codes "a") two no_members)) no_items)) no_members))) no_items))
    ≡ spelled_b ∷ []
unfolding chars
under_b = refl

-- the first stays in its place as it is spelled, and a new member goes last
pub set_there : with_member (codes "b") null entries ≡ members (member (codes "a") one (member spelled_b null (member (codes "b") three no_members)))
unfolding chars
set_there = refl

pub set_new : with_member (codes "c") null (members (member spelled_b two no_members)) ≡ members (member spelled_b two (member (codes "c") null no_members))
unfolding chars
set_new = refl

pub removed : without (codes "b") entries ≡ members (member (codes "a") one (member (codes "b") three no_members))
unfolding chars
removed = refl

pub removed_none : without (codes "c") entries ≡ entries
unfolding chars
removed_none = refl

pub changed : at_member (codes "a") (λ t. list (item t no_items)) entries ≡ members (member (codes "a") (list (item one no_items)) (member spelled_b two (member (codes "b") three no_members)))
unfolding chars
changed = refl

pub changed_none : at_member (codes "c") (λ t. null) entries ≡ entries
unfolding chars
changed_none = refl

-- `[1,2]`
abbrev pair_list : PlainTree
pair_list = list (item one (item two no_items))

pub second : item_at pair_list 1 ≡ Some two
second = refl

pub past : item_at pair_list 2 ≡ None
past = refl

pub counted : items_len pair_list ≡ 2
counted = refl

pub counted_none : items_len entries ≡ 0
counted_none = refl

pub changed_item : at_item 1 (λ t. null) pair_list ≡ list (item one (item null no_items))
changed_item = refl

pub changed_past : at_item 2 (λ t. null) pair_list ≡ pair_list
changed_past = refl

pub removed_item : without_item 0 pair_list ≡ list (item two no_items)
removed_item = refl

pub removed_past : without_item 2 pair_list ≡ pair_list
removed_past = refl

pub appended : and_items (three ∷ []) pair_list ≡ list (item one (item two (item three no_items)))
appended = refl

pub appended_none : and_items (three ∷ []) null ≡ null
appended_none = refl

-- whole numbers below 2^32, spelled with digits alone
pub largest : whole (number (codes "4294967295")) ≡ Some 4294967295
largest = refl

pub past_largest : whole (number (codes "4294967296")) ≡ None
past_largest = refl

pub fraction : whole (number (codes "1.0")) ≡ None
fraction = refl

-- what a string stands for, where it is ASCII
pub decoded : ascii (text (92 ∷ codes "u0041" ++ 92 ∷ codes "n")) ≡ Some (65 ∷ 10 ∷ [])
unfolding chars
decoded = refl

pub not_ascii : ascii (text (92 ∷ codes "u0080")) ≡ None
unfolding chars
not_ascii = refl

pub flat : depth (text (codes "[[")) ≡ 0
flat = refl
