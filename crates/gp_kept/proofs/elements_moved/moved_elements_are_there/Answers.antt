use Rattle.gp_kept.proofs.MovedElements.{column_elements, list_elements, made_list_elements}
use Rattle.gp_kept.proofs.elements_moved.moved_elements_are_there.Goals as goal

pub returns : goal.returns
returns c = record { columns = column_elements; lists = list_elements; made = made_list_elements }
