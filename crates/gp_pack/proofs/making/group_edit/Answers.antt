use Rattle.std.proofs.Common.{◌≡◌, ◌/◌, length, sym, ap, ◌∙◌}
use Rattle.std.specs.Prelude.{List, ℕ}
use Rattle.gp_mover.specs.Standing.{parts_of}
use Rattle.gp_mover.proofs.Made.{count_is}
use Rattle.gp_moves.specs.declared.group_edit.GroupEdit.{GroupEdit}
use Rattle.gp_pack.proofs.making.group_edit.Goals as goal

pub returns : goal.returns
unfolding parts_of
returns c =
    let m = c.args.moved in
    let count : c.in_ok-records.records ≡ length (parts_of m).records = c.in_ok-records.ensures ∙ ap (λ (bytes : List ℕ). length bytes / m.size) c.as_slice.ensures ∙ sym (count_is m) in
    let whole : ℕ → GroupEdit = λ n.
    record { primitives = m.group.primitives; columns = m.group.columns; lists = m.group.lists; list_accessor = c.args.list_accessor; count = m.group.count; records = n } in
    ap whole count
