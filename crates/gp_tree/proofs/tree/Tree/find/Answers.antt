use Rattle.std.proofs.Common.{sym, ap, ◌∙◌}
use Rattle.gp_tree.specs.Plain.{plain}
use Rattle.gp_tree.specs.Find.{find_member}
use Rattle.gp_tree.proofs.Firsts.{object_value}
use Rattle.gp_tree.proofs.tree.Tree.find.Goals as goal

pub returns-in-Members : goal.returns-in-Members
returns-in-Members c =
    let name = c.args.key.now in
    c.value_in.ensures ∙ sym (object_value name c.in-Members.members c.as_slice.result.now c.as_slice.ensures) ∙ sym (ap (λ t. find_member name (plain t)) c.in-Members.is)
