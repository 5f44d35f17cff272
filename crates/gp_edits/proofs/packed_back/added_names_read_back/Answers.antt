use Rattle.gp_edits.proofs.PackedBackNames.{used_with, required_with, other_with}
use Rattle.gp_edits.proofs.packed_back.added_names_read_back.Goals as goal

pub returns : goal.returns
returns c = record { read = λ t o used required. (used_with t o used, required_with t o required); others = other_with }
