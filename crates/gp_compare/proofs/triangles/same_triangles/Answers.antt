use Rattle.std.proofs.Common.{sym, ◌∙◌}
use Rattle.std.proofs.lemmas.Slice.Eq.{slice_eq-Decides}
use Rattle.gp_moving.specs.Triangles.{triples}
use Rattle.gp_compare.proofs.Turned.{triangle_decides}
use Rattle.gp_compare.proofs.Rotations.{agree_from_equal, equal_from_agree}
use Rattle.gp_compare.proofs.triangles.same_triangles.Goals as goal

pub returns : goal.returns
returns c =
    let ts = triples c.args.first.now in
    let us = triples c.args.second.now in
    let xs = c.in_ok-of_first.of_first.items in
    let ys = c.in_ok-of_second.of_second.items in
    let p = c.in_ok-of_first.ensures in
    let q = c.in_ok-of_second.ensures in
    let d = slice_eq-Decides triangle_decides c.as_slice.result.now c.as_slice-2.result.now c.eq.result c.eq.ensures in
    let left = c.as_slice.ensures.value in
    let right = c.as_slice-2.ensures.value in (
      λ e. agree_from_equal ts us xs ys p.moved q.moved (sym left ∙ d.0 e ∙ right),
      λ agree. d.1 (left ∙ equal_from_agree ts us xs ys p.moved q.moved p.sorted q.sorted agree ∙ sym right),
    )
