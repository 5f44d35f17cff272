use Rattle.std.proofs.Common.{◌<◌, Some, length, sym, ap, ◌∙◌, refl, arith}
use Rattle.gp_tree.specs.Plain.{plain, plain_trees}
use Rattle.gp_tree.specs.Look.{nth_item}
use Rattle.gp_tree.proofs.Looks.{nth_within}
use Rattle.gp_tree.proofs.Edited.{trees_is, trees_length, some_within}
use Rattle.gp_tree.proofs.Lent.{puts_item}
use Rattle.gp_tree.proofs.tree.Trees.item_mut.Goals as goal

pub index_mut-requires : goal.index_mut-requires
index_mut-requires c =
    let v = c.args.self.now in
    omega (arith, some_within (plain_trees v) c.args.at c.requires, trees_length v, v.items.ok.0)

pub returns : goal.returns
returns c =
    let v = c.args.self.now in
    let within : c.args.at < length v.items.items = omega (arith, some_within (plain_trees v) c.args.at c.requires, trees_length v) in
    let t = c.index_mut.result.now in
    let e = ap (λ ts. nth_item ts c.args.at) (trees_is v) ∙ nth_within v.items.items c.args.at t within ∙ ap (λ u. Some (plain u)) (sym c.index_mut.ensures.value) in
    ((refl, λ w. refl), record { writes_back = tt; value = e; puts = puts_item v c.args.at })
