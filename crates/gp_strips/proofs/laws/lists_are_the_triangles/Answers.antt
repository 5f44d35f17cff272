use Rattle.gp_strips.specs.Strips.{places_by}
use Rattle.gp_strips.proofs.Rows.{are_triangles}
use Rattle.gp_strips.proofs.laws.lists_are_the_triangles.Goals as goal

pub returns : goal.returns
returns c = λ mode list. are_triangles (places_by mode) list
