use Rattle.std.proofs.Common.{arith, ap, ◌∙◌, None}
use Rattle.gp_rules.specs.declared.storage.View.{View}
use Rattle.gp_storage.specs.Readers.{has_image, readers}
use Rattle.gp_storage.specs.Shared.{shared_by}
use Rattle.gp_storage.proofs.Tables.{item_at, in_items}
use Rattle.gp_storage.proofs.EachView.{none_yet, one_more, all, is_some_at, stream_is}
use Rattle.gp_storage.proofs.storing.store_views.Goals as goal

-- what stands past the end of a list
abbrev absent : View
absent = record { buffer = 0; offset = 0; length = 0; stride = None; packed = None }

pub turns-init : goal.turns-init
turns-init c = none_yet c.args.asset.now c.args.moved.now _ c.new-streams.ensures.items

pub view-requires : goal.view-requires
view-requires c = is_some_at c.args.asset.now c.turns.at absent c.requires (rw c.views-views.ensures at c.turns-test.true)

pub index-requires : goal.index-requires
index-requires c =
    let within = in_items (has_image c.images.result.now) _ c.turns.at c.in_ok-images.images.items c.in_ok-images.ensures c.turns-test.true in
    omega (arith, within, c.in_ok-images.images.ok)

pub index-requires-in-turns : goal.index-requires-in-turns
index-requires-in-turns c =
    let within = in_items (λ at. shared_by c.args.asset.now.uses (readers c.args.moved.now c.args.asset.now.accessors at)) _ c.turns.at c.in_ok-shared.shared.items c.in_ok-shared.ensures (rw c.views-views.ensures at c.turns-test.true) in
    omega (arith, within, c.in_ok-shared.shared.ok)

pub turns-preserved : goal.turns-preserved
turns-preserved c = one_more c.args.asset.now c.args.moved.now c.turns.at absent c.turns.streams.items c.push.new.self.items c.in_ok-stream.stream
    (rw c.views-views.ensures at c.turns-test.true)
    ((rw c.views-views.ensures at c.in_ok-stream.ensures) ∙ stream_is c.args.asset.now c.args.moved.now c.turns.at absent c.view.result.now c.index.result.now c.index-in-turns.result.now c.requires (rw c.views-views.ensures at c.turns-test.true) (c.view.ensures)
    (item_at (has_image c.images.result.now) _ c.turns.at c.in_ok-images.images.items c.index.result.now _ c.in_ok-images.ensures c.turns-test.true c.index.ensures ∙ ap (λ images. has_image images c.turns.at) c.images.ensures)
    (item_at (λ at. shared_by c.args.asset.now.uses (readers c.args.moved.now c.args.asset.now.accessors at)) _ c.turns.at c.in_ok-shared.shared.items c.index-in-turns.result.now _ c.in_ok-shared.ensures (rw c.views-views.ensures at c.turns-test.true) c.index-in-turns.ensures))
    c.in_ok-push.ensures.items
    c.turns.invariant

pub returns : goal.returns
returns c = c.from_vec.ensures ∙ all c.args.asset.now c.args.moved.now c.turns.at c.turns.streams.items (rw c.views-views.ensures at c.turns-test.false) c.turns.invariant
