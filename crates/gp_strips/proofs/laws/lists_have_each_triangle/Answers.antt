use Rattle.gp_strips.specs.Strips.{places_by}
use Rattle.gp_strips.proofs.Rows.{equally_often}
use Rattle.gp_strips.proofs.laws.lists_have_each_triangle.Goals as goal

pub returns : goal.returns
returns c = λ mode list t. equally_often (places_by mode) list t
