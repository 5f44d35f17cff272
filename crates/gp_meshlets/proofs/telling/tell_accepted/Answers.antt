use Rattle.std.proofs.Common.{◌∙◌}
use Rattle.gp_document.specs.Reading.{document_of}
use Rattle.gp_unpack.proofs.Shapes.{accepted_have_shapes}
use Rattle.gp_analyse.proofs.Answering.{read_is_sound, read_is_held}
use Rattle.gp_meshlets.proofs.Answering.{tells, faulty}
use Rattle.gp_meshlets.proofs.telling.tell_accepted.Goals as goal

pub decode_views-requires : goal.decode_views-requires
decode_views-requires c = accepted_have_shapes (document_of c.args.accepted.document) c.args.accepted.asset c.requires

pub text-requires-clause-views : goal.text-requires-clause-views
text-requires-clause-views c = (read_is_held (document_of c.args.accepted.document) c.args.accepted.asset c.in-Ok.contents c.requires c.in-Ok.ensures).every

pub text-requires-clause-sound : goal.text-requires-clause-sound
text-requires-clause-sound c = read_is_sound (document_of c.args.accepted.document) c.args.accepted.asset c.requires

pub returns-in-Ok : goal.returns-in-Ok
returns-in-Ok c =
    tells (document_of c.args.accepted.document) c.args.accepted.asset c.in-Ok.contents c.from_vec.result c.requires c.in-Ok.ensures
    (c.from_vec.ensures ∙ c.in_ok-text-in-Ok.ensures)

pub returns : goal.returns
returns c = faulty c.args.accepted.asset c.in-Err.faulty c.in-Err.ensures
