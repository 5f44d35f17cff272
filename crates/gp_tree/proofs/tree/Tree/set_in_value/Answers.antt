use Rattle.std.proofs.Common.{sym, ap, ◌∙◌}
use Rattle.std.proofs.lemmas.Result.{on_ok_weaker, on_err_weaker}
use Rattle.gp_tree.specs.Plain.{plain}
use Rattle.gp_tree.specs.TreeEdits.{at_member, with_member}
use Rattle.gp_tree.proofs.Inner.{value_written, value_kept}
use Rattle.gp_tree.proofs.tree.Tree.set_in_value.Goals as goal

pub returns-clause-set : goal.returns-clause-set
returns-clause-set c =
    let v = c.members_mut.result.now in
    let w = c.set.new.self in
    let f = with_member c.args.key.now (plain c.args.value) in
    on_ok_weaker c.set.result
    (λ e. value_written v c.args.name.now w (plain c.find_mut.result.now) f c.find_mut.ensures.value e (c.find_mut.ensures.puts w) ∙ sym (ap (λ t. at_member c.args.name.now f (plain t)) c.members_mut.ensures.value))
    c.set.ensures.set

pub returns-clause-stays : goal.returns-clause-stays
returns-clause-stays c =
    let v = c.members_mut.result.now in
    let w = c.set.new.self in
    on_err_weaker c.set.result
    (λ e. value_kept v c.args.name.now w (plain c.find_mut.result.now) c.find_mut.ensures.value e (c.find_mut.ensures.puts w) ∙ sym (ap plain c.members_mut.ensures.value))
    c.set.ensures.stays
