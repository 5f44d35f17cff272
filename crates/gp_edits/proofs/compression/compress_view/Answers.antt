use Rattle.gp_tree.specs.Plain.{plain}
use Rattle.gp_edits.proofs.Empties.{none_found}
use Rattle.gp_edits.proofs.Defaults.{some_found}
use Rattle.gp_edits.proofs.Compressions.{first_extension, extension_set}
use Rattle.gp_edits.proofs.ViewsIn.{on_ok}
use Rattle.gp_edits.proofs.compression.compress_view.Goals as goal

pub returns-then-is_none : goal.returns-then-is_none
returns-then-is_none c = record {
  compressed =
      on_ok c.add_extension.result c.add_extension.ensures.set
      (first_extension c.args.compression (plain c.args.view.now) _ _ c.in_ok-object.ensures
      (none_found _ c.find.result _ c.is_none.result c.find.ensures c.is_none.ensures c.if-is_none.true));
  stays = c.add_extension.ensures.stays;
}

pub returns : goal.returns
returns c = record {
  compressed =
      on_ok c.set_extension.result c.set_extension.ensures.set
      (extension_set c.args.compression (plain c.args.view.now) _ _ c.in_ok-object.ensures
      (some_found _ c.find.result _ c.is_none.result c.find.ensures c.is_none.ensures c.if-is_none.false));
  stays = c.set_extension.ensures.stays;
}
