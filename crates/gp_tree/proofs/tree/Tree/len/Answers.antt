use Rattle.std.proofs.Common.{◌≡◌, length, sym, ap, ◌∙◌}
use Rattle.gp_tree.specs.Plain.{plain, plain_items, list}
use Rattle.gp_tree.specs.Look.{items_len}
use Rattle.gp_tree.proofs.Looks.{plain_list, items_length_is}
use Rattle.gp_tree.proofs.tree.Tree.len.Goals as goal

pub returns-in-List : goal.returns-in-List
returns-in-List c =
    let v = c.in-List.items.items in
    let seen : plain c.args.self.now ≡ list (plain_items v.items) = ap plain c.in-List.is ∙ plain_list c.in-List.items in
    let count : c.len.result ≡ length v.items = c.len.ensures ∙ v.ok.0 in
    count ∙ sym (items_length_is v.items) ∙ sym (ap items_len seen)
