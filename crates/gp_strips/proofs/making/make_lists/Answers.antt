use Rattle.std.proofs.Common.{length, get_or, refl, ap, ◌∙◌, arith}
use Rattle.std.proofs.lemmas.Option.{slice_get_read}
use Rattle.gp_elements.specs.Held.{contents_of}
use Rattle.gp_strips.specs.ListedDocument.{all_lists, accessor_number}
use Rattle.gp_strips.specs.MeshRows.{rows, laid}
use Rattle.gp_strips.specs.Making.{parts_of}
use Rattle.gp_strips.proofs.MeshRows.{next_laid}
use Rattle.gp_strips.proofs.ListRows.{row_next, number_next}
use Rattle.gp_strips.proofs.Finishing.{all_made}
use Rattle.gp_strips.proofs.making.make_lists.Goals as goal

pub primitives-init : goal.primitives-init
primitives-init g c =
    let a = c.args.asset.now in
    let lists = all_lists a (contents_of (g.V.ViewBytes.views c.args.views.now)) in
    record {
      row = c.in_ok-row.ensures;
      meshes = ap (λ r. laid (accessor_number (length a.accessors) lists) r 0 a.primitives) c.new-meshes.ensures;
    }

pub primitives-preserved : goal.primitives-preserved
primitives-preserved g c =
    let a = c.args.asset.now in
    let contents = contents_of (g.V.ViewBytes.views c.args.views.now) in
    let k = c.primitives.at in
    let p = c.index-primitives-at.result in
    let all = c.primitives-primitives.ensures in
    let here = slice_get_read a.primitives (length c.primitives-primitives.result.now) k p (ap length all) c.primitives-test.true (c.index-primitives-at.is ∙ ap (λ ps. get_or ps k p) all) in
    record {
      row = row_next a contents c.args.before k p (parts_of c.primitives.row) (parts_of c.list_primitive.new.row) here c.primitives.invariant.row c.in_ok-number.ensures.row;
      meshes = next_laid (accessor_number (length a.accessors) (all_lists a contents)) a.primitives k p c.in_ok-number.number (rows c.primitives.meshes) (rows c.append.new.self) _
          c.primitives.invariant.meshes here (number_next a contents c.args.before k p (parts_of c.primitives.row) _ here c.primitives.invariant.row c.in_ok-number.ensures.number) c.in_ok-append.ensures;
    }

pub returns : goal.returns
returns g c =
    let a = c.args.asset.now in
    all_made a (contents_of (g.V.ViewBytes.views c.args.views.now)) c.args.before c.primitives.at c.primitives.row c.primitives.meshes _
    c.primitives.invariant (omega (arith, c.primitives-test.false, ap length c.primitives-primitives.ensures)) c.requires.order refl c.in_ok-meshes.ensures
