use Rattle.gp_strips.proofs.OfVertices.{have_triangles}
use Rattle.gp_strips.proofs.laws.listed_have_triangles.Goals as goal

pub returns : goal.returns
returns c = λ a contents p vertices is. have_triangles a contents p vertices is
