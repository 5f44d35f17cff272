use Rattle.gp_document.proofs.Answering.{finished_answers, only_finished, only_refused}
use Rattle.gp_document.specs.Reading.{document_of}
use Rattle.gp_unpack.specs.Unpacked.{unpacking}
use Rattle.gp_unpack.proofs.Shapes.{accepted_have_shapes}
use Rattle.gp_unpack.proofs.unpacking.unpack.Goals as goal

pub unpack_accepted-requires-clause-shapes : goal.unpack_accepted-requires-clause-shapes
unpack_accepted-requires-clause-shapes c = accepted_have_shapes (document_of c.in-Ok.accepted.document) c.in-Ok.accepted.asset c.in-Ok.ensures.accepted.is_asset

pub returns-in-Ok-clause-answers : goal.returns-in-Ok-clause-answers
returns-in-Ok-clause-answers c = finished_answers unpacking c.args.bytes.now c.in-Ok.accepted c.unpack_accepted.result c.in-Ok.ensures.accepted c.unpack_accepted.ensures

pub returns-in-Ok-clause-only : goal.returns-in-Ok-clause-only
returns-in-Ok-clause-only c = only_finished unpacking c.args.bytes.now c.in-Ok.accepted c.unpack_accepted.result c.in-Ok.ensures.accepted c.unpack_accepted.ensures

pub returns-in-Err-clause-only : goal.returns-in-Err-clause-only
returns-in-Err-clause-only c = only_refused unpacking c.args.bytes.now c.in-Err.refusal c.in-Err.ensures.refused
