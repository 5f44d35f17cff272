use Rattle.gp_compare.proofs.Reading.{numbers_agree, vertices_agree}
use Rattle.gp_compare.proofs.laws.triangles_by_reading.Goals as goal

pub returns : goal.returns
returns c = λ same decides first second reads apart. (numbers_agree same decides first second reads apart, vertices_agree same decides first second reads apart)
