use Rattle.gp_tree.specs.Plain.{plain}
use Rattle.gp_edits.proofs.ViewsIn.{on_ok}
use Rattle.gp_pack.proofs.TablesStand.{tables_edited}
use Rattle.gp_pack.proofs.moving.edit_groups.Goals as goal

pub returns : goal.returns
returns c =
    on_ok c.edit_groups.result c.edit_groups.ensures (λ edited moved a stand.
    tables_edited moved a c.args.tables.now (plain c.args.root.now) (plain c.edit_groups.new.root) _ _ _ _ _ stand
    c.as_slice-2.ensures.value c.as_slice-3.ensures.value c.as_slice-4.ensures.value c.as_slice.ensures.value c.as_slice-5.ensures.value edited)
