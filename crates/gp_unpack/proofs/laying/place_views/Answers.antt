use Rattle.std.proofs.Common.{◌≡◌, ◌<◌, length, subst, sym, ap, ◌∙◌, arith, slice_get}
use Rattle.std.proofs.lemmas.List.{length-map, take_all}
use Rattle.std.proofs.lemmas.Option.{slice_get-get_or}
use Rattle.gp_unpack.specs.Laid.{ArePlaced, content_length, content_lengths}
use Rattle.gp_unpack.proofs.Parts.{placed_none, placed_more, length_at}
use Rattle.gp_unpack.proofs.laying.place_views.Goals as goal

pub views-init : goal.views-init
views-init c = placed_none (content_lengths c.args.asset.now) c.in_ok-with_capacity.field-0.items c.in_ok-with_capacity.ensures.items

pub content_length-requires : goal.content_length-requires
content_length-requires c =
    ap (λ vs. slice_get vs c.views.at) (sym c.views-views.ensures) ∙ slice_get-get_or c.views-views.result.now c.views.at _ c.views-test.true

pub views-preserved : goal.views-preserved
views-preserved c =
    let a = c.args.asset.now in
    let k = c.views.at in
    let below : k < length a.views = subst (λ vs. k < length vs) c.views-views.ensures c.views-test.true in
    let count : length (content_lengths a) ≡ length a.views = length-map a.views (content_length a) in
    let here = length_at a c.views-views.result.now k c.content_length.result _ c.views-views.ensures c.views-test.true c.content_length.ensures in
    placed_more (content_lengths a) c.views.places.parts.items c.append.new.self.parts.items c.views.places.end c.append.new.self.end k c.content_length.result
    c.views.invariant (omega (arith, below, count)) here c.in_ok-append.ensures.parts c.in_ok-append.ensures.end

pub returns : goal.returns
returns c =
    let a = c.args.asset.now in
    let count : length (content_lengths a) ≡ length a.views = length-map a.views (content_length a) in
    let same = ap length c.views-views.ensures in
    subst (λ sizes. ArePlaced sizes c.views.places.parts.items c.views.places.end) (take_all c.views.at (content_lengths a) (omega (arith, count, same, c.views-test.false))) c.views.invariant
