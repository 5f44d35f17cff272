use Rattle.gp_edits.proofs.EmptiedMembers.{emptied_none, emptied_after}
use Rattle.gp_edits.proofs.Empties.{none_found}
use Rattle.gp_tree.specs.Plain.{plain}
use Rattle.gp_edits.specs.Changes.{without_text}
use Rattle.gp_edits.specs.Edits.{extension_name}
use Rattle.gp_edits.proofs.names.remove_name_in.Goals as goal

pub returns-then-is_none : goal.returns-then-is_none
returns-then-is_none c = emptied_none c.args.key.now (without_text extension_name) (plain c.args.root.now) (none_found _ c.find.result _ c.is_none.result c.find.ensures c.is_none.ensures c.if-is_none.true)

pub returns : goal.returns
returns c = emptied_after c.args.key.now (without_text extension_name) (plain c.args.root.now) _ _ _ c.is_empty_member-was_empty.ensures c.remove_from_member.ensures c.remove_emptied.ensures
