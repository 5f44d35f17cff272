use Rattle.std.proofs.Common.{sym, ap, ◌∙◌, is_some}
use Rattle.gp_tree.specs.Plain.{plain, plain_trees}
use Rattle.gp_tree.specs.Look.{item}
use Rattle.gp_tree.proofs.Edited.{found_item, list_is}
use Rattle.gp_tree.proofs.tree.Tree.remove_item.Goals as goal

pub returns-in-Some-clause-found : goal.returns-in-Some-clause-found
returns-in-Some-clause-found c =
    let v = c.in-Some.items.now in
    found_item (plain_trees v) c.args.at c.remove.result c.remove.ensures.found ∙ sym (ap (λ t. is_some (item t c.args.at)) (ap plain c.in-Some.ensures.value ∙ list_is v))
