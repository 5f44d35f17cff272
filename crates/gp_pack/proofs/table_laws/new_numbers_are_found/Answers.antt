use Rattle.gp_pack.proofs.FoundNumbers.{same_numbers, found_numbers}
use Rattle.gp_pack.proofs.table_laws.new_numbers_are_found.Goals as goal

pub returns : goal.returns
returns c = record { agree = same_numbers; found = found_numbers }
