use Rattle.std.proofs.Common.{length, refl, sym, ap, subst, ◌∙◌, arith, slice_get}
use Rattle.std.proofs.lemmas.Option.{slice_get-get_or}
use Rattle.gp_unpack.specs.Laid.{place, ArePlaced, content_lengths}
use Rattle.gp_unpack.proofs.Filling.{none_filled, ends_within, part_at, has_room, filled_part, all_filled}
use Rattle.gp_unpack.proofs.decoding.decode_all.Goals as goal

pub views-init : goal.views-init
views-init c = none_filled c.args.asset.now c.args.buffer.now c.requires.zeros

pub overflow_add-dest : goal.overflow_add-dest
overflow_add-dest c =
    let within = ends_within c.args.asset.now c.args.parts.now (length c.args.buffer.now) c.views.at (place 0 0) c.views-views.result.now c.requires.places c.views-views.ensures c.views-test.true in
    omega (arith, within, c.views.auto.buffer)

pub slice_bounds-dest-end : goal.slice_bounds-dest-end
slice_bounds-dest-end c =
    let within = ends_within c.args.asset.now c.args.parts.now (length c.args.buffer.now) c.views.at (place 0 0) c.views-views.result.now c.requires.places c.views-views.ensures c.views-test.true in
    omega (arith, within, c.views.auto.buffer)

pub decode_view-requires-clause-place : goal.decode_view-requires-clause-place
decode_view-requires-clause-place c =
    ap (λ vs. slice_get vs c.views.at) (sym c.views-views.ensures) ∙ slice_get-get_or c.views-views.result.now c.views.at _ c.views-test.true

pub decode_view-requires-clause-room : goal.decode_view-requires-clause-room
decode_view-requires-clause-room c =
    let here = part_at c.args.asset.now c.args.parts.now (length c.args.buffer.now) c.views.at _ _ _ c.requires.places c.views-views.ensures c.views-test.true in
    has_room _ _ _ c.views.buffer (omega (arith, here.within, c.views.auto.buffer)) here.size

pub views-preserved : goal.views-preserved
views-preserved c =
    let here = part_at c.args.asset.now c.args.parts.now (length c.args.buffer.now) c.views.at _ _ _ c.requires.places c.views-views.ensures c.views-test.true in
    filled_part c.args.asset.now c.views.at (length c.args.buffer.now) _ _ c.views.buffer c.decode_view.new.dest _ c.views.invariant here c.in-Ok.ensures c.decode_view.auto.dest c.views.auto.buffer refl

pub returns : goal.returns
returns c =
    all_filled c.args.asset.now c.views.at c.views.buffer c.args.parts.now (omega (arith, ap length c.views-views.ensures, c.views-test.false))
    (subst (λ n. ArePlaced (content_lengths c.args.asset.now) c.args.parts.now n) (sym c.views.auto.buffer) c.requires.places) c.views.invariant
