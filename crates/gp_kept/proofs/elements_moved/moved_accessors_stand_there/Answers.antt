use Rattle.gp_kept.proofs.PackedAccessors.{column_by_group, list_by_group, columns_there, lists_there, made_lists_there, accessors_counted}
use Rattle.gp_kept.proofs.elements_moved.moved_accessors_stand_there.Goals as goal

pub returns : goal.returns
returns c = record { column = column_by_group; list = list_by_group; columns = columns_there; lists = lists_there; made = made_lists_there; count = accessors_counted }
