use Rattle.std.proofs.Common.{◌≡◌, ◌<◌, ◌≤◌, length, get_or, Some, sym, ap, ◌∙◌, arith}
use Rattle.gp_tree.specs.Plain.{plain, plain_items, list}
use Rattle.gp_tree.specs.Look.{item}
use Rattle.gp_tree.proofs.Looks.{plain_list, nth_within, nth_past}
use Rattle.gp_tree.proofs.tree.Tree.item.Goals as goal

pub returns-then-at-len : goal.returns-then-at-len
returns-then-at-len c =
    let v = c.in-List.items.items in
    let at = c.args.at in
    let t = c.index.result.now in
    let seen : plain c.args.self.now ≡ list (plain_items v.items) = ap plain c.in-List.is ∙ plain_list c.in-List.items in
    let within : at < length v.items = omega (arith, v.ok.0) in
    let here : t ≡ get_or v.items at t = c.index.ensures in
    ap (λ u. Some (plain u)) here ∙ sym (nth_within v.items at t within) ∙ sym (ap (λ u. item u at) seen)

pub returns-else-at-len : goal.returns-else-at-len
returns-else-at-len c =
    let v = c.in-List.items.items in
    let at = c.args.at in
    let seen : plain c.args.self.now ≡ list (plain_items v.items) = ap plain c.in-List.is ∙ plain_list c.in-List.items in
    let past : length v.items ≤ at = omega (arith, v.ok.0) in
    sym (nth_past v.items at past) ∙ sym (ap (λ u. item u at) seen)
