use Rattle.gp_edits.proofs.EmptiedMembers.{no_compression, compression_removed}
use Rattle.gp_edits.proofs.Empties.{none_found}
use Rattle.gp_tree.specs.Plain.{plain}
use Rattle.gp_edits.proofs.views.remove_compression.Goals as goal

pub returns-then-is_none : goal.returns-then-is_none
returns-then-is_none c = no_compression (plain c.args.view.now) (none_found _ c.find.result _ c.is_none.result c.find.ensures c.is_none.ensures c.if-is_none.true)

pub returns : goal.returns
returns c = compression_removed (plain c.args.view.now) _ _ _ c.is_empty_member-was_empty.ensures c.remove_extension.ensures c.remove_emptied.ensures
