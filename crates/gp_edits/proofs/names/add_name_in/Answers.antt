use Rattle.gp_tree.specs.Plain.{plain}
use Rattle.gp_edits.proofs.Defaults.{some_found}
use Rattle.gp_edits.proofs.Compressions.{name_appended}
use Rattle.gp_edits.proofs.ViewsIn.{on_ok}
use Rattle.gp_edits.proofs.names.add_name_in.Goals as goal

pub returns : goal.returns
returns c = record {
  named =
      on_ok c.append_in.result c.append_in.ensures.appended
      (name_appended c.args.key.now (plain c.args.root.now) _ _ c.in_ok-name.ensures.text
      (some_found _ c.find.result _ c.is_none.result c.find.ensures c.is_none.ensures c.if-is_none.false));
  stays = c.append_in.ensures.stays;
}
