use Rattle.gp_kept.proofs.MovedBytes.{records_are_bytes}
use Rattle.gp_kept.proofs.moved_groups.moved_records_are_bytes.Goals as goal

pub returns : goal.returns
returns c = records_are_bytes
