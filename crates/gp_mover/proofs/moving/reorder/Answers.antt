use Rattle.std.proofs.Common.{◌≡◌, ℕ, ◌*◌, List, length, take, drop, ◌++◌, map, sym, ap, ◌∙◌, subst, arith}
use Rattle.std.specs.Prelude.{slice_index}
use Rattle.std.specs.List.{concat}
use Rattle.gp_cache.specs.Tipsify.{better}
use Rattle.gp_merge.specs.Records.{record_at, records, distinct}
use Rattle.gp_merge.specs.Order.{first_seen, places_in}
use Rattle.gp_moving.specs.Ordered.{ordered, chosen_by}
use Rattle.gp_mover.specs.Standing.{between, AreJoined, Reordered}
use Rattle.gp_mover.proofs.Reordering.{cut_sized, numbers_have_entries, numbered_are, orders_joined, orders_below, reordered}
use Rattle.gp_mover.proofs.Steps.{lent, merged_few, merged_long}
use Rattle.gp_mover.proofs.moving.reorder.Goals as goal

pub renumber-requires : goal.renumber-requires
renumber-requires c =
    let all = records c.args.size c.args.bytes.now.items in
    numbers_have_entries c.args.size all (between 0 c.args.ends.now c.args.joined.now) c.args.ends.now c.args.joined.now c.in_ok-remap.remap.count c.requires.joined c.in_ok-remap.ensures.remap.count
    c.as_slice.result.now (c.as_slice.ensures ∙ c.in_ok-remap.ensures.remap.places)

pub order_lists-requires-clause-few : goal.order_lists-requires-clause-few
order_lists-requires-clause-few c = merged_few c.args.size c.in_ok-remap.remap.count c.args.bytes.now.items c.in_ok-remap.ensures.remap.count c.requires.few

pub order_lists-requires-clause-joined : goal.order_lists-requires-clause-joined
order_lists-requires-clause-joined c =
    let all = records c.args.size c.args.bytes.now.items in
    subst (λ (xs : List ℕ). AreJoined c.in_ok-remap.remap.count c.args.ends.now xs (between 0 c.args.ends.now xs)) (sym c.renumber.ensures)
    (numbered_are c.args.size all (between 0 c.args.ends.now c.args.joined.now) c.args.ends.now c.args.joined.now c.in_ok-remap.remap.count c.requires.joined c.in_ok-remap.ensures.remap.count
    c.as_slice.result.now (c.as_slice.ensures ∙ c.in_ok-remap.ensures.remap.places))

pub place-requires-clause-few : goal.place-requires-clause-few
place-requires-clause-few c = merged_few c.args.size c.in_ok-remap.remap.count c.args.bytes.now.items c.in_ok-remap.ensures.remap.count c.requires.few

pub place-requires-clause-whole : goal.place-requires-clause-whole
place-requires-clause-whole c =
    merged_long c.args.size c.in_ok-remap.remap.count c.args.bytes.now.items c.deref_mut.result.now c.in_ok-remap.ensures.remap.count (c.deref_mut.ensures.value ∙ c.in_ok-remap.ensures.left)

pub place-requires-clause-below : goal.place-requires-clause-below
place-requires-clause-below c =
    let all = records c.args.size c.args.bytes.now.items in
    let lists = between 0 c.args.ends.now c.args.joined.now in
    let count = c.in_ok-remap.remap.count in
    let order = c.order_lists.new.joined in
    let is = c.as_slice.ensures ∙ c.in_ok-remap.ensures.remap.places in
    let made : order ≡ concat (map (λ list. better list count) (between 0 c.args.ends.now (map (slice_index c.as_slice.result.now) c.args.joined.now))) =
    c.in_ok-order_lists.ensures ∙ ap (λ (xs : List ℕ). concat (map (λ list. better list count) (between 0 c.args.ends.now xs))) c.renumber.ensures in
    orders_below c.args.size all lists c.args.ends.now c.args.joined.now count c.requires.joined c.in_ok-remap.ensures.remap.count order
    (orders_joined c.args.size all lists c.args.ends.now c.args.joined.now count c.requires.joined c.in_ok-remap.ensures.remap.count c.as_slice.result.now order is made)

pub returns : goal.returns
returns c =
    let size = c.args.size in
    let all = records size c.args.bytes.now.items in
    let lists = between 0 c.args.ends.now c.args.joined.now in
    let count = c.in_ok-remap.remap.count in
    let order = c.order_lists.new.joined in
    let is = c.as_slice.ensures ∙ c.in_ok-remap.ensures.remap.places in
    let made : order ≡ concat (map (λ list. better list count) (between 0 c.args.ends.now (map (slice_index c.as_slice.result.now) c.args.joined.now))) =
    c.in_ok-order_lists.ensures ∙ ap (λ (xs : List ℕ). concat (map (λ list. better list count) (between 0 c.args.ends.now xs))) c.renumber.ensures in
    let order_is = orders_joined size all lists c.args.ends.now c.args.joined.now count c.requires.joined c.in_ok-remap.ensures.remap.count c.as_slice.result.now order is made in
    let back = lent c.merge_records.new.bytes.items c.deref_mut.result.now c.place.new.bytes c.merge_records.new.bytes.len c.deref_mut.ensures.value c.in_ok-place.ensures.long c.merge_records.new.bytes.ok.0 in
    let new = ordered all (chosen_by better all lists) in
    subst (λ (bytes : List ℕ). Reordered size bytes c.args.ends.now c.place.new.joined new) (sym back)
    (reordered size all lists c.args.ends.now c.args.joined.now count c.requires.joined c.in_ok-remap.ensures.remap.count c.requires.size (cut_sized size c.args.bytes.now.items)
    order c.deref_mut.result.now c.place.new.bytes order_is (c.deref_mut.ensures.value ∙ c.in_ok-remap.ensures.left) c.in_ok-place.ensures.long c.in_ok-place.ensures.moved
    c.place.new.joined c.in_ok-place.ensures.joined)
