use Rattle.std.proofs.Common.{refl, sym, ap, ◌∙◌, arith}
use Rattle.gp_tree.specs.Find.{is_named}
use Rattle.gp_asset.proofs.Names.{any_found, any_more, any_last}
use Rattle.gp_asset.proofs.extensions.is_among.Goals as goal

pub names-init : goal.names-init
names-init c = refl

pub returns-then-is_named : goal.returns-then-is_named
returns-then-is_named c =
    let found = ap (λ s. is_named c.args.name.now s.now) (sym c.index-names-at.is) ∙ sym c.is_named.ensures ∙ c.if-is_named.true in
    sym (c.names.invariant ∙ any_found (λ s. s.now) (is_named c.args.name.now) c.args.names.now c.names.at c.index-names-at.result (omega arith) found)

pub names-preserved : goal.names-preserved
names-preserved c =
    let other = ap (λ s. is_named c.args.name.now s.now) (sym c.index-names-at.is) ∙ sym c.is_named.ensures ∙ c.if-is_named.false in
    c.names.invariant ∙ any_more (λ s. s.now) (is_named c.args.name.now) c.args.names.now c.names.at c.index-names-at.result (omega arith) other

pub returns : goal.returns
returns c = sym (c.names.invariant ∙ any_last (λ s. s.now) (is_named c.args.name.now) c.args.names.now c.names.at (omega arith))
