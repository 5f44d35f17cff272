use Rattle.gp_kept.proofs.OutputContents.{input_read, output_read, contents_stay, has_columns, has_lists}
use Rattle.gp_kept.proofs.elements_moved.output_has_contents.Goals as goal

pub returns : goal.returns
returns c = record { input = input_read; output = output_read; stay = contents_stay; columns = has_columns; lists = has_lists }
