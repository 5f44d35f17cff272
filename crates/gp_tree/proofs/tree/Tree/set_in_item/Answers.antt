use Rattle.std.proofs.Common.{sym, ap, ◌∙◌}
use Rattle.std.proofs.lemmas.Result.{on_ok_weaker, on_err_weaker}
use Rattle.gp_tree.specs.Plain.{plain}
use Rattle.gp_tree.specs.TreeEdits.{at_item, with_member}
use Rattle.gp_tree.proofs.Inner.{item_written, item_kept}
use Rattle.gp_tree.proofs.tree.Tree.set_in_item.Goals as goal

pub returns-clause-set : goal.returns-clause-set
returns-clause-set c =
    let v = c.items_mut.result.now in
    let f = with_member c.args.key.now (plain c.args.value) in
    on_ok_weaker c.set.result
    (λ e. item_written v c.args.at c.set.new.self (plain c.item_mut.result.now) f c.item_mut.ensures.value e ∙ sym (ap (λ t. at_item c.args.at f (plain t)) c.items_mut.ensures.value))
    c.set.ensures.set

pub returns-clause-stays : goal.returns-clause-stays
returns-clause-stays c =
    let v = c.items_mut.result.now in
    on_err_weaker c.set.result
    (λ e. item_kept v c.args.at c.set.new.self (plain c.item_mut.result.now) c.item_mut.ensures.value e ∙ sym (ap plain c.items_mut.ensures.value))
    c.set.ensures.stays
