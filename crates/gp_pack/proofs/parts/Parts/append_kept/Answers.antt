use Rattle.std.proofs.Common.{◌<◌, ◌≤◌, ◌++◌, [], ◌∷◌, None, map, length, get_or, refl, ap, ◌∙◌, arith}
use Rattle.std.proofs.lemmas.Option.{slice_get_read, slice_get-get_or}
use Rattle.gp_packed.specs.Plan.{stored_as}
use Rattle.gp_pack.specs.Placement.{shown}
use Rattle.gp_pack.specs.OutputParts.{kept_rows, kept_shown}
use Rattle.gp_pack.proofs.StoredViews.{has_view, one_kept, all_kept}
use Rattle.gp_pack.proofs.parts.Parts.append_kept.Goals as goal

pub view-requires : goal.view-requires
view-requires c = has_view c.args.asset.now c.views.at c.requires.plain (omega (arith, c.views-test.true, c.requires.counted.stored))

pub views-preserved : goal.views-preserved
views-preserved c =
    let a = c.args.asset.now in
    let k = c.views.at in
    let within : k < length a.views = omega (arith, c.views-test.true, c.requires.counted.stored) in
    let stream = slice_get_read c.args.streams.now _ k c.index-streams-at.result refl c.views-test.true c.index-streams-at.is in
    let number = slice_get-get_or c.args.numbers.now k None (omega (arith, within, c.requires.counted.renewed)) in
    one_kept a c.args.streams.now c.args.numbers.now _ (map shown c.views.self.views.items) (map shown c.append_view.new.self.views.items) k c.view.result.now _ c.index-streams-at.result
    c.requires.plain within stream number c.view.ensures
    (c.in_ok-append_view.ensures ∙ ap (λ o. map shown c.views.self.views.items ++ kept_rows ((get_or c.args.numbers.now k None, stored_as (c.view.result.now, o)) ∷ [])) c.as_ref.ensures.value)
    c.views.invariant

pub returns : goal.returns
returns c =
    let past : length c.args.numbers.now ≤ c.views.at = omega (arith, c.views-test.false, c.requires.counted.stored, c.requires.counted.renewed) in
    all_kept c.args.asset.now c.args.streams.now c.args.numbers.now (map shown c.args.self.now.views.items ++ kept_shown c.args.asset.now c.args.streams.now c.args.numbers.now)
    (map shown c.views.self.views.items) c.views.at past c.views.invariant
