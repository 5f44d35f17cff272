use Rattle.gp_document.specs.Reading.{document_of}
use Rattle.gp_pair.proofs.tests.put_packed.Goals as goal

pub put_pair-requires : goal.put_pair-requires
put_pair-requires c = (document_of c.in-Ok.field-0, c.in-Ok.ensures.holds.holds)
