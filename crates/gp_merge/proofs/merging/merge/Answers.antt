use Rattle.std.proofs.Common.{◌+◌, ◌-◌, ◌*◌, ◌/◌, ◌%◌, ◌<◌, length, take, drop, slice_index, sym, ap, subst, ◌∙◌, Contains, arith}
use Rattle.std.specs.Hash.DefaultHasher.{finish, write}
use Rattle.std.proofs.lemmas.List.{get_or_read}
use Rattle.gp_merge.specs.Records.{records}
use Rattle.gp_merge.specs.Slots.{empty}
use Rattle.gp_merge.proofs.Cuts.{length-records, record_read}
use Rattle.gp_merge.proofs.Numbering.{start_by, numbered_none, numbered_room, numbered_before, numbered_again, numbered_new, numbered_all, found_here}
use Rattle.gp_merge.proofs.merging.merge.Goals as goal
use Rattle.gp_merge.proofs.merging.merge.Goals.{then-first+in_ok-push, else-first+in_ok-push-2}

pub records-init : goal.records-init
records-init c =
    let all = records c.args.size c.args.bytes.now in
    let size = 2 * (length c.args.bytes.now / c.args.size) + 1 in
    rw (c.in_ok-slots.ensures.items_if_clones_equal (λ y e. e), c.in_ok-places.ensures.items) (numbered_none (start_by c.by-keyed.result size) all size)

pub find-slot-requires-clause-room : goal.find-slot-requires-clause-room
find-slot-requires-clause-room c =
    let all = records c.args.size c.args.bytes.now in
    let size = 2 * (length c.args.bytes.now / c.args.size) + 1 in
    let room = numbered_room (start_by c.by-keyed.result size) all size c.records.at c.records.slots.items c.records.places.items c.records.distinct c.records.invariant (omega arith) in
    subst (λ l. Contains l empty) (sym c.deref.ensures.value) room

pub index-place-requires : goal.index-place-requires
index-place-requires c =
    let all = records c.args.size c.args.bytes.now in
    let size = 2 * (length c.args.bytes.now / c.args.size) + 1 in
    let within = subst (λ n. c.records.at < n) (sym (length-records c.args.size c.args.bytes.now)) c.records-test.true in
    let inside = subst (λ l. c.find-slot.result < length l) c.deref.ensures.value c.find-slot.ensures.within in
    let is = get_or_read c.records.slots.items _ _ inside c.index-first.ensures 0 in
    let before = numbered_before (start_by c.by-keyed.result size) all size c.records.at c.records.slots.items c.records.places.items c.records.distinct c.find-slot.result c.index-first.result.now
    c.records.invariant within inside is c.if-first.false in
    omega (arith, before, c.records.places.ok.0)

pub records-preserved : goal.records-preserved
records-preserved c =
    let all = records c.args.size c.args.bytes.now in
    let size = 2 * (length c.args.bytes.now / c.args.size) + 1 in
    let start = start_by c.by-keyed.result size in
    let at = c.records.at in
    let within = subst (λ n. at < n) (sym (length-records c.args.size c.args.bytes.now)) c.records-test.true in
    let wanted = take ((at * c.args.size + c.args.size) - at * c.args.size) (drop (at * c.args.size) c.args.bytes.now) in
    let slots = c.records.slots.items in
    let begins = c.start-start.ensures.start ∙ ap (λ n. finish (write c.by-keyed.result.initial wanted) % n) (c.len.ensures ∙ c.records.slots.ok.0 ∙ c.records.invariant.long) in
    let found = found_here start all at slots c.deref.result.now wanted c.start-start.result c.find-slot.result c.find-slot.ensures c.deref.ensures.value
    (record_read c.args.size c.args.bytes.now at c.records-test.true) begins in
    let is = get_or_read slots _ _ found.within c.index-first.ensures 0 in
    elim c.if-first.branch [
      | then-first+in_ok-push w ↦
          let new = numbered_new start all size at slots c.records.places.items c.records.distinct c.find-slot.result c.records.invariant within found (sym is ∙ w.if-first.true) (omega arith) in
          rw (w.slots-is, w.places-is, w.distinct-is, w.in_ok-push.ensures.items) new
      | else-first+in_ok-push-2 w ↦
          let full = w.if-first.false in
          let before = numbered_before start all size at slots c.records.places.items c.records.distinct c.find-slot.result c.index-first.result.now c.records.invariant within found.within is full in
          let place = get_or_read c.records.places.items _ _ before w.index-place.ensures 0 ∙ ap (λ n. slice_index c.records.places.items n) is in
          let again = numbered_again start all size at slots c.records.places.items c.records.distinct c.find-slot.result c.records.invariant within found (λ e. full (is ∙ e)) in
          rw (w.slots-is, w.places-is, w.distinct-is, w.in_ok-push-2.ensures.items, place) again
    ]

pub returns : goal.returns
returns c =
    let all = records c.args.size c.args.bytes.now in
    let size = 2 * (length c.args.bytes.now / c.args.size) + 1 in
    let long = length-records c.args.size c.args.bytes.now in
    let done = numbered_all (start_by c.by-keyed.result size) all size c.records.at c.records.slots.items c.records.places.items c.records.distinct c.records.invariant (omega arith) in
    record { count = done.0; places = c.from_vec.ensures ∙ done.1 }
