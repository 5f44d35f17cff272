-- What a moved group keeps.
use Rattle.std.proofs.Common.{◌≡◌, ◌<◌, ◌≤◌, ℕ, List, map, length, get_or, sym, ap, ◌∙◌, subst, arith}
use Rattle.std.specs.List.{All}
use Rattle.std.proofs.lemmas.List.{get_or_default}
use Rattle.std.proofs.lemmas.List.Elements.{All-contains}
use Rattle.gp_asset.specs.Asset.{AssetParts}
use Rattle.gp_elements.specs.Held.{contents_of}
use Rattle.gp_alias.specs.declared.group.Group.{Group}
use Rattle.gp_alias.specs.Movable.{is_movable}
use Rattle.gp_alias.specs.Records.{records, lists}
use Rattle.gp_cache.specs.Tipsify.{better}
use Rattle.gp_moving.specs.Ordered.{ordered, chosen_by}
use Rattle.gp_moving.specs.Triangles.{IsTriangleList}
use Rattle.gp_moving.proofs.Lists.{IsKept, right_of, same_of, lists_kept, ordered_keeps_records}
use Rattle.gp_mover.specs.MovedParts.{moved_group, record_size}
use Rattle.gp_mover.specs.Laws.{MayMove, OrdersAreChosen, RecordsAreKept, RecordsAreSized, NumbersAreBelow, LengthsAreKept, ColumnsAreThere, RecordsHaveBytes}
use Rattle.gp_mover.proofs.Orders.{better_chosen}
use Rattle.gp_mover.proofs.Conditions.{columns_there, lists_proper, length-records_of, records_sized, some_records}

pub orders_are_chosen : OrdersAreChosen
orders_are_chosen a contents g movable =
    better_chosen (records a contents g) (lists a contents g)
    (subst (λ n. All (IsTriangleList n) (lists a contents g)) (sym (length-records_of a contents g)) (lists_proper a contents g movable).0)

pub records_are_kept : RecordsAreKept
unfolding moved_group
records_are_kept a contents g movable =
    ordered_keeps_records (records a contents g) (lists a contents g) (chosen_by better (records a contents g) (lists a contents g)) (orders_are_chosen a contents g movable)

pub records_are_sized : RecordsAreSized
records_are_sized a held g may i d below =
    let contents = contents_of held in
    let new = (moved_group a contents g).records in
    let kept = records_are_kept a contents g may.movable in
    let r = get_or new i d in
    All-contains (λ (r : List ℕ). length r ≡ record_size a g.columns) (records a contents g) r (records_sized a held g may.every may.sound may.movable)
    ((kept.same_set r).0 (i, below, get_or_default new i r d below))

pub numbers_are_below : NumbersAreBelow
unfolding moved_group
numbers_are_below a contents g movable =
    let all = records a contents g in
    let chosen = chosen_by better all (lists a contents g) in
    let new = ordered all chosen in
    right_of (λ list other. IsKept all list new.records other) (IsTriangleList (length new.records)) (λ list other k. k.sound) (lists a contents g) new.lists
    (lists_kept all (lists a contents g) chosen (orders_are_chosen a contents g movable))

pub lengths_are_kept : LengthsAreKept
unfolding moved_group
lengths_are_kept a contents g movable =
    let all = records a contents g in
    let chosen = chosen_by better all (lists a contents g) in
    let new = ordered all chosen in
    same_of (λ list other. IsKept all list new.records other) length length (λ list other k. k.long) (lists a contents g) new.lists
    (lists_kept all (lists a contents g) chosen (orders_are_chosen a contents g movable))

pub columns_are_there : ColumnsAreThere
columns_are_there a contents g movable = columns_there a contents g movable

pub records_have_bytes : RecordsHaveBytes
records_have_bytes a held g may some = some_records a (contents_of held) g may.sound may.movable some
