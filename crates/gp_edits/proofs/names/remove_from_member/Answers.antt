use Rattle.std.proofs.Common.{sym, ap, ◌∙◌}
use Rattle.gp_tree.specs.Plain.{plain}
use Rattle.gp_tree.specs.TreeEdits.{at_member}
use Rattle.gp_tree.proofs.Inner.{value_written}
use Rattle.gp_edits.specs.Changes.{without_text}
use Rattle.gp_edits.specs.Edits.{extension_name}
use Rattle.gp_edits.proofs.names.remove_from_member.Goals as goal

pub returns : goal.returns
returns c =
    let change = without_text extension_name in
    let w = c.remove_from_list.new.list in
    value_written c.members_mut.result.now c.args.key.now w (plain c.find_mut.result.now) change c.find_mut.ensures.value c.remove_from_list.ensures (c.find_mut.ensures.puts w)
    ∙ sym (ap (λ t. at_member c.args.key.now change (plain t)) c.members_mut.ensures.value)
