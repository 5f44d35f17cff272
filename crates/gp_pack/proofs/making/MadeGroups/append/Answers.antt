use Rattle.std.proofs.Common.{◌<◌, ◌≤◌, ◌^◌, [], ◌∷◌, ◌++◌, length, sym, ap, ◌∙◌, subst}
use Rattle.std.specs.List.{All}
use Rattle.gp_mover.specs.MovedParts.{MovedParts, record_size}
use Rattle.gp_mover.specs.Standing.{parts_of}
use Rattle.gp_moving.specs.Triangles.{IsTriangleList}
use Rattle.gp_mover.proofs.Kept.{columns_are_there, numbers_are_below}
use Rattle.gp_pack.specs.MadeParts.{column_parts}
use Rattle.gp_pack.specs.Making.{kept, own_contents}
use Rattle.gp_pack.proofs.MadeGroups.{same_columns, with_made}
use Rattle.gp_pack.proofs.MovedLists.{few_records}
use Rattle.gp_pack.proofs.making.MadeGroups.append.Goals as goal

pub push_columns-requires-clause-known : goal.push_columns-requires-clause-known
push_columns-requires-clause-known c =
    let a = c.args.asset.now in
    subst (λ columns. All (λ k. k < length a.accessors) columns) (sym (same_columns a (own_contents a) c.args.group c.in_ok-moved.moved c.in_ok-moved.ensures.parts))
    (columns_are_there a (own_contents a) c.args.group c.requires.movable)

pub push_columns-requires-clause-size : goal.push_columns-requires-clause-size
push_columns-requires-clause-size c =
    let a = c.args.asset.now in
    c.in_ok-moved.ensures.size ∙ ap (record_size a) (sym (same_columns a (own_contents a) c.args.group c.in_ok-moved.moved c.in_ok-moved.ensures.parts))

pub push_lists-requires-clause-few : goal.push_lists-requires-clause-few
push_lists-requires-clause-few c =
    subst (λ (p : MovedParts). length p.records ≤ 2 ^ 24) (sym c.in_ok-moved.ensures.parts) (few_records c.args.asset.now (own_contents c.args.asset.now) c.args.group c.requires.movable)

pub push_lists-requires-clause-lists : goal.push_lists-requires-clause-lists
push_lists-requires-clause-lists c =
    subst (λ (p : MovedParts). All (IsTriangleList (length p.records)) p.ordered) (sym c.in_ok-moved.ensures.parts)
    (numbers_are_below c.args.asset.now (own_contents c.args.asset.now) c.args.group c.requires.movable)

pub returns : goal.returns
returns c =
    let a = c.args.asset.now in
    let m = parts_of c.in_ok-moved.moved in
    with_made a (kept c.args.self.now) c.args.group m c.in_ok-list_accessor.list_accessor c.push_columns.new.parts.items c.push_lists.new.parts.items c.push.new.self.items
    c.next_accessor.new.self.next
    c.in_ok-moved.ensures.parts c.in_ok-list_accessor.ensures.value
    (c.in_ok-push_columns.ensures ∙ ap (λ v. v.items ++ column_parts a m) c.in_ok-list_accessor.ensures.parts)
    c.in_ok-push_lists.ensures
    (c.in_ok-push.ensures.items ∙ ap (λ v. v.items ++ c.in_ok-edit.edit ∷ []) c.in_ok-list_accessor.ensures.edits
    ∙ ap (λ e. c.args.self.now.edits.items ++ e ∷ []) c.in_ok-edit.ensures)
    c.in_ok-list_accessor.ensures.next
