use Rattle.gp_strips.specs.Strips.{places_by}
use Rattle.gp_strips.proofs.Rows.{three_corners}
use Rattle.gp_strips.proofs.laws.lists_have_three_corners.Goals as goal

pub returns : goal.returns
returns c = λ mode list. three_corners (places_by mode) list
