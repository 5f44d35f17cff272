use Rattle.gp_alias.proofs.RecordsOf.{record_more}
use Rattle.gp_alias.proofs.gathering.push_records.Goals as goal

pub vertices-preserved : goal.vertices-preserved
vertices-preserved c = record_more c.args.columns.now c.vertices.at c.args.bytes.now.items c.vertices.bytes.items c.push_record.new.bytes.items c.vertices.invariant c.in_ok-push_record.ensures
