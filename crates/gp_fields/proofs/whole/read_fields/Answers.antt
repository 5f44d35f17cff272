use Rattle.std.proofs.Common.{◌≡◌, sym, ap, ◌∙◌, subst}
use Rattle.gp_tree.specs.declared.tree.Tree.{Members as an_object}
use Rattle.gp_tree.specs.declared.tree.Members.{Members}
use Rattle.gp_tree.specs.Plain.{plain}
use Rattle.gp_tree.proofs.Firsts.{object_is}
use Rattle.gp_fields.specs.Record.{Answers, asset_fields}
use Rattle.gp_fields.specs.Left.{names_on}
use Rattle.gp_fields.proofs.whole.read_fields.Goals as goal

of_object : (v : Members) → names_on (plain (an_object v)) ≡ asset_fields (plain (an_object v))
unfolding asset_fields
of_object v = ap names_on (object_is v) ∙ sym (ap asset_fields (object_is v))

pub returns-in-Members : goal.returns-in-Members
returns-in-Members c =
    let e = ap (λ t. names_on (plain t)) c.in-Members.is ∙ of_object c.in-Members.field-0 ∙ sym (ap (λ t. asset_fields (plain t)) c.in-Members.is) in
    subst (λ w. Answers w (λ a. a) c.read_from_names.result) e c.read_from_names.ensures
