use Rattle.std.proofs.Common.{◌≡◌, ℕ, ◌<◌, ◌*◌, List, length, slice_index, sym, ap, ◌∙◌, subst, arith}
use Rattle.std.specs.List.{All}
use Rattle.std.proofs.lemmas.List.FromFn.{length-map-range_with_len}
use Rattle.gp_merge.specs.Records.{record_at}
use Rattle.gp_merge.specs.Order.{first_seen, places_in, IsArrangement}
use Rattle.gp_merge.proofs.Tables.{table_arranges}
use Rattle.gp_mover.proofs.moving.place.Goals as goal

-- the table has an entry for each number
long : (order : List ℕ) (count : ℕ) → length (places_in (first_seen order count) count) ≡ count
long order count = length-map-range_with_len _ 0 count

has_entries : (order table : List ℕ) (count : ℕ) → table ≡ places_in (first_seen order count) count → length table ≡ count
has_entries order table count is = ap (λ (t : List ℕ). length t) is ∙ long order count

pub renumber-requires : goal.renumber-requires
renumber-requires c =
    let is = c.deref.ensures.value ∙ c.in_ok-places.ensures in
    subst (λ n. All (λ v. v < n) c.args.joined.now) (sym (has_entries c.args.joined.now c.deref.result.now c.args.count is)) c.requires.below

pub move_records-requires-clause-arranged : goal.move_records-requires-clause-arranged
move_records-requires-clause-arranged c =
    subst IsArrangement (sym (c.deref_mut.ensures.value ∙ c.in_ok-places.ensures)) (table_arranges c.args.joined.now c.args.count c.requires.below)

pub move_records-requires-clause-few : goal.move_records-requires-clause-few
move_records-requires-clause-few c =
    let entries = has_entries c.args.joined.now c.deref_mut.result.now c.args.count (c.deref_mut.ensures.value ∙ c.in_ok-places.ensures) in
    omega (arith, entries, c.requires.few)

pub move_records-requires-clause-whole : goal.move_records-requires-clause-whole
move_records-requires-clause-whole c =
    let entries = has_entries c.args.joined.now c.deref_mut.result.now c.args.count (c.deref_mut.ensures.value ∙ c.in_ok-places.ensures) in
    c.requires.whole ∙ ap (λ n. c.args.size * n) (sym entries)

pub returns-clause-moved : goal.returns-clause-moved
returns-clause-moved c i below =
    let is = c.deref_mut.ensures.value ∙ c.in_ok-places.ensures in
    let entries = has_entries c.args.joined.now c.deref_mut.result.now c.args.count is in
    ap (λ (t : List ℕ). record_at c.args.size c.move_records.new.bytes (slice_index t i)) (sym is)
    ∙ c.move_records.ensures.moved i (omega (arith, below, entries))
