use Rattle.gp_packed.proofs.Unpacked.{none_compressed}
use Rattle.gp_kept.proofs.Sameness.{contents_are_plain}
use Rattle.gp_kept.proofs.laws.none_is_compressed.Goals as goal

pub returns : goal.returns
returns c = record { views = none_compressed; contents = contents_are_plain }
