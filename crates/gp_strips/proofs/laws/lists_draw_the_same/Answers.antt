use Rattle.gp_strips.proofs.Rows.{draw_the_same}
use Rattle.gp_strips.proofs.laws.lists_draw_the_same.Goals as goal

pub returns : goal.returns
returns c = λ mode list values. draw_the_same values mode list
