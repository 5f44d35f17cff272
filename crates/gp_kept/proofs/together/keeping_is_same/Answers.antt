use Rattle.gp_kept.proofs.PackedTogether.{output_holds, keeping_is_same}
use Rattle.gp_kept.proofs.together.keeping_is_same.Goals as goal

pub returns : goal.returns
returns c = record { holds = output_holds; same = keeping_is_same }
