use Rattle.std.proofs.Common.{◌++◌, arith, ap, ◌∙◌}
use Rattle.std.proofs.lemmas.Bool.Decides.{nat_tests}
use Rattle.std.proofs.lemmas.Result.{IfOk-weaker}
use Rattle.gp_layout.specs.Row.{zero_padded}
use Rattle.gp_strips.specs.Making.{parts_of}
use Rattle.gp_strips.proofs.ListRows.{none_behind, all_behind}
use Rattle.gp_strips.proofs.making.ListRow.behind.Goals as goal

pub returns-then-is_empty : goal.returns-then-is_empty
returns-then-is_empty c before view accessor made is =
    none_behind c.args.contents made before view accessor (parts_of c.args.self.now) c.into_buffer-buffer.result.items is c.into_buffer-buffer.ensures (grind (arith, nat_tests, c.is_empty.ensures, c.if-is_empty.true))

pub returns : goal.returns
returns c =
    IfOk-weaker c.join.result _ _ (λ v joined before view accessor made is.
    all_behind c.args.contents made before view accessor (parts_of c.args.self.now) c.into_buffer-buffer.result.items v.items is c.into_buffer-buffer.ensures
    (λ none. grind (arith, nat_tests, c.is_empty.ensures, c.if-is_empty.false, none)) (joined ∙ ap (λ b. zero_padded c.into_buffer-buffer.result.items ++ b) c.as_slice.ensures.value))
    c.join.ensures
