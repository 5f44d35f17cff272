-- The keys under the items before, and under the members before.
use Rattle.std.proofs.Common.{◌≡◌, ◌++◌, map, take}
use Rattle.gp_tree.specs.Plain.{plain_items, plain_entries}
use Rattle.gp_tree.specs.Anywhere.{items_keys_under, members_keys_under}
use Rattle.gp_tree.proofs.anywhere.+keys.Given as goal

abbrev pub invariant-put_keys_under_items-loop-item : goal.invariant-put_keys_under_items-loop-item
invariant-put_keys_under_items-loop-item l =
    map (λ k. k.now) l.keys.items ≡ map (λ k. k.now) l.initial.keys.items ++ items_keys_under l.name (plain_items (take l.item-index l.items))

abbrev pub invariant-put_keys_under_members-loop-member : goal.invariant-put_keys_under_members-loop-member
invariant-put_keys_under_members-loop-member l =
    map (λ k. k.now) l.keys.items ≡ map (λ k. k.now) l.initial.keys.items ++ members_keys_under l.name (plain_entries (take l.member-index l.members))
