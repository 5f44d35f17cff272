use Rattle.gp_mover.proofs.Kept.{records_have_bytes}
use Rattle.gp_mover.proofs.laws.records_have_bytes.Goals as goal

pub returns : goal.returns
returns c = records_have_bytes
