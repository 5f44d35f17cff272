use Rattle.std.proofs.Common.{sym, ap, ◌∙◌, codes}
use Rattle.gp_tree.specs.Plain.{plain}
use Rattle.gp_tree.specs.TreeEdits.{at_member, without}
use Rattle.gp_tree.proofs.Inner.{value_written}
use Rattle.gp_edits.specs.Edits.{extension_name}
use Rattle.gp_edits.proofs.views.remove_extension.Goals as goal

pub returns : goal.returns
returns c =
    let change = without extension_name in
    value_written c.members_mut.result.now (codes "extensions") c.remove.new.self (plain c.find_mut.result.now) change c.find_mut.ensures.value c.remove.ensures.removed (c.find_mut.ensures.puts c.remove.new.self)
    ∙ sym (ap (λ t. at_member (codes "extensions") change (plain t)) c.members_mut.ensures.value)
