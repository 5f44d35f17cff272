use Rattle.std.proofs.Common.{◌≡◌, ◌∙◌, ap, eqb, ltb, length, arith}
use Rattle.std.specs.List.{position_or_len}
use Rattle.gp_meshlets.proofs.Vertices.{is_placed}
use Rattle.gp_meshlets.proofs.growth.Growing.has.Goals as goal

pub returns : goal.returns
returns c =
    let long : c.len.result ≡ length c.args.self.now.vertices.items = omega arith in
    ap (ltb c.find.result) long
    ∙ is_placed c.args.self.now.vertices.items c.args.vertex c.find.result (c.find.ensures.place ∙ ap (position_or_len (eqb c.args.vertex)) c.deref.ensures.value)
