use Rattle.std.proofs.Common.{refl, sym, ap, ◌∙◌, arith}
use Rattle.gp_asset.specs.Extensions.{is_on_closed_list}
use Rattle.gp_asset.proofs.Names.{all_broken, all_more, all_last}
use Rattle.gp_asset.proofs.extensions.are_closed.Goals as goal

pub names-init : goal.names-init
names-init c = refl

pub returns-then-not-is_on_closed_list : goal.returns-then-not-is_on_closed_list
returns-then-not-is_on_closed_list c =
    let other = ap (λ s. is_on_closed_list s.now) (sym c.index-names-at.is) ∙ sym c.is_on_closed_list.ensures ∙ c.if-not-is_on_closed_list.true in
    sym (c.names.invariant ∙ all_broken (λ s. s.now) is_on_closed_list c.args.names.now c.names.at c.index-names-at.result (omega arith) other)

pub names-preserved : goal.names-preserved
names-preserved c =
    let known = ap (λ s. is_on_closed_list s.now) (sym c.index-names-at.is) ∙ sym c.is_on_closed_list.ensures ∙ c.if-not-is_on_closed_list.false in
    c.names.invariant ∙ all_more (λ s. s.now) is_on_closed_list c.args.names.now c.names.at c.index-names-at.result (omega arith) known

pub returns : goal.returns
returns c = sym (c.names.invariant ∙ all_last (λ s. s.now) is_on_closed_list c.args.names.now c.names.at (omega arith))
