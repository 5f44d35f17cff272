use Rattle.std.proofs.Common.{refl}
use Rattle.gp_document.specs.Reading.{document_of}
use Rattle.gp_pair.proofs.Joins.{small_parts}
use Rattle.gp_pair.proofs.Steps.{not_all, joined_bundles}
use Rattle.gp_pair.proofs.bundling.bundle_bytes.Goals as goal

pub returns-in-Err-take_contents-clause-answers : goal.returns-in-Err-take_contents-clause-answers
returns-in-Err-take_contents-clause-answers g c = not_all _ _ c.args.bytes.now (document_of c.in-Ok.document) _ c.requires c.in-Ok.ensures.holds c.in-Err-take_contents.ensures.answers

pub join_document-requires-clause-small : goal.join_document-requires-clause-small
join_document-requires-clause-small g c = small_parts c.args.bytes.now (document_of c.in-Ok.document) c.in-Ok.ensures.holds.holds c.requires.within

pub returns-clause-answers : goal.returns-clause-answers
returns-clause-answers g c =
    joined_bundles _ _ c.args.bytes.now (document_of c.in-Ok.document) c.in-Ok-take_contents.contents.contents.items c.is_text.result _ _ _ c.requires c.in-Ok.ensures.holds
    c.in-Ok-take_contents.ensures.answers.0 c.is_text.ensures refl c.in-Ok-take_contents.ensures.answers.1 c.join_document.ensures
