use Rattle.std.proofs.Common.{◌≡◌, ◌+◌, ◌*◌, ◌/◌, ap, ◌∙◌, arith}
use Rattle.gp_analyse.proofs.PrimitiveCosts.{given_costs, all_triangles}
use Rattle.gp_analyse.proofs.costing.rising_costs.Goals as goal

pub returns : goal.returns
returns c =
    let count = c.args.first.now.count in
    let lines : c.div_ceil.result ≡ (count * c.vertex_size.result + 63) / 64 = omega (arith, c.div_ceil.ensures) in
    ap (given_costs count (count / 3) count) lines
    ∙ all_triangles c.args.first.now c.vertex_size.result (omega (arith, c.if-first-ne0.false)) c.vertex_size.ensures.size (omega (arith, c.vertex_size.ensures.stride.least))
