use Rattle.gp_kept.proofs.MadeRecords.{records_back}
use Rattle.gp_kept.proofs.made_laws.records_read_back.Goals as goal

pub returns : goal.returns
returns c = records_back
