use Rattle.std.proofs.Common.{ap, ◌∙◌, refl}
use Rattle.gp_storage.proofs.Usages.{unused, one_more, none_more}
use Rattle.gp_storage.proofs.usage.usages.Goals as goal
use Rattle.gp_storage.proofs.usage.usages.Goals.{then-accessor-accessors, else-accessor-accessors}

pub uses-init : goal.uses-init
uses-init c = unused c.args.uses.now c.args.accessors c.in_ok-usages.usages.items (c.in_ok-usages.ensures.items_if_clones_equal (λ y e. e))

pub uses-preserved : goal.uses-preserved
uses-preserved c = elim c.if-accessor-accessors.branch [
  | then-accessor-accessors w ↦ ap (λ v. v.items) w.usages-is ∙ one_more c.args.uses.now c.uses.at c.args.accessors _ _ c.uses.usages.items w.index.result.now _ w.with.result c.uses-test.true refl w.if-accessor-accessors.true w.index.ensures w.with.ensures c.uses.invariant
  | else-accessor-accessors w ↦ ap (λ v. v.items) w.usages-is ∙ none_more c.args.uses.now c.uses.at c.args.accessors _ _ c.uses.usages.items c.uses-test.true refl w.if-accessor-accessors.false c.uses.invariant
]
