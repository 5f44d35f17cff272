use Rattle.gp_edits.proofs.Empties.{empty_list, empty_object}
use Rattle.gp_edits.proofs.emptying.is_empty.Goals as goal

pub returns-in-List : goal.returns-in-List
returns-in-List c = empty_list c.args.value.now c.in-List.items c.as_slice.result.now c.is_empty.result c.in-List.is c.as_slice.ensures c.is_empty.ensures

pub returns-in-Members : goal.returns-in-Members
returns-in-Members c = empty_object c.args.value.now c.in-Members.members c.as_slice-in-Members.result.now c.is_empty-in-Members.result c.in-Members.is c.as_slice-in-Members.ensures c.is_empty-in-Members.ensures
