use Rattle.std.proofs.Common.{sym, ap, ◌∙◌}
use Rattle.gp_tree.specs.Plain.{plain}
use Rattle.gp_tree.specs.TreeEdits.{at_member}
use Rattle.gp_tree.proofs.Inner.{value_written}
use Rattle.gp_edits.proofs.ViewsIn.{on_ok}
use Rattle.gp_moves.proofs.members.edit_found.Goals as goal

pub returns : goal.returns
returns g c =
    let change = g.E.TreeEdit.change c.args.edit.now in
    let w = c.edit.new.tree in
    on_ok c.edit.result c.edit.ensures (λ changed.
    value_written c.members_mut.result.now c.args.key.now w (plain c.find_mut.result.now) change c.find_mut.ensures.value changed (c.find_mut.ensures.puts w)
    ∙ sym (ap (λ t. at_member c.args.key.now change (plain t)) c.members_mut.ensures.value))
