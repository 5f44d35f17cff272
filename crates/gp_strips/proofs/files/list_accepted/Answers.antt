use Rattle.gp_document.specs.Reading.{document_of}
use Rattle.gp_unpack.proofs.Shapes.{accepted_have_shapes}
use Rattle.gp_strips.proofs.Finishing.{made, faulty}
use Rattle.gp_strips.proofs.files.list_accepted.Goals as goal

pub decode_views-requires : goal.decode_views-requires
decode_views-requires c = accepted_have_shapes (document_of c.args.accepted.document) c.args.accepted.asset c.requires.asset

pub returns-in-Ok : goal.returns-in-Ok
returns-in-Ok c = made (document_of c.args.accepted.document) c.args.accepted.asset c.in-Ok.contents c.write_listed.result c.in-Ok.ensures c.write_listed.ensures

pub returns-in-Err : goal.returns-in-Err
returns-in-Err c = faulty (document_of c.args.accepted.document) c.args.accepted.asset c.in-Err.refusal c.in-Err.ensures
