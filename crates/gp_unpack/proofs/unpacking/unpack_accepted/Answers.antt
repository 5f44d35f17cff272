use Rattle.std.proofs.Common.{ap, length}
use Rattle.gp_document.specs.Reading.{document_of}
use Rattle.gp_unpack.proofs.Finishing.{made, faulty}
use Rattle.gp_unpack.proofs.unpacking.unpack_accepted.Goals as goal

pub returns-in-Ok : goal.returns-in-Ok
returns-in-Ok c =
    made (document_of c.args.accepted.document) c.args.accepted.asset c.in-Ok.contents _ _ c.write_unpacked.result
    c.in-Ok.ensures (ap length c.views.ensures) c.former_streams-streams.ensures c.write_unpacked.ensures

pub returns-in-Err : goal.returns-in-Err
returns-in-Err c = faulty (document_of c.args.accepted.document) c.args.accepted.asset c.in-Err.refusal c.in-Err.ensures
