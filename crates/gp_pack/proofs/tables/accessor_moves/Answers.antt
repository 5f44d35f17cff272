use Rattle.std.proofs.Common.{◌≡◌, ap, ◌∙◌}
use Rattle.std.specs.Prelude.{option_copied}
use Rattle.gp_pack.specs.TableParts.{view_number, group_at, value_at, move_with, move_of}
use Rattle.gp_pack.proofs.FilledTables.{one_filled, all_filled, none_filled}
use Rattle.gp_pack.proofs.tables.accessor_moves.Goals as goal

pub accessors-init : goal.accessors-init
accessors-init c = none_filled (move_of c.args.groups.now c.args.places.now) c.args.count c.new-moves.result.items c.new-moves.ensures.items

pub accessors-preserved : goal.accessors-preserved
accessors-preserved c =
    let groups = c.args.groups.now in
    let places = c.args.places.now in
    let at = c.accessors.at in
    let column : option_copied c.group_at-column.result ≡ group_at groups (value_at places.columns.items at) =
    c.group_at-column.ensures ∙ ap (group_at groups) (c.value_at.ensures ∙ ap (λ v. value_at v at) c.deref.ensures.value) in
    let list : option_copied c.group_at-list.result ≡ group_at groups (value_at places.lists.items at) =
    c.group_at-list.ensures ∙ ap (group_at groups) (c.value_at-in-accessors.ensures ∙ ap (λ v. value_at v at) c.deref-in-accessors.ensures.value) in
    one_filled (move_of groups places) c.args.count at c.accessors.moves.items c.push.new.self.items c.in_ok-moved.moved
    c.accessors.invariant c.accessors-test.true c.in_ok-push.ensures.items
    (c.in_ok-moved.ensures
    ∙ ap (λ o. move_with (view_number places at) o (option_copied c.group_at-list.result)) column
    ∙ ap (move_with (view_number places at) (group_at groups (value_at places.columns.items at))) list)

pub returns : goal.returns
returns c = all_filled (move_of c.args.groups.now c.args.places.now) c.args.count c.accessors.at c.accessors.moves.items c.accessors.invariant c.accessors-test.false
