use Rattle.std.proofs.Common.{ap, ◌∙◌, refl, sym}
use Rattle.gp_storage.proofs.Named.{none, one_more, none_more}
use Rattle.gp_storage.proofs.images.image_views.Goals as goal
use Rattle.gp_storage.proofs.images.image_views.Goals.{in-Some, in_default}

pub images-init : goal.images-init
images-init c = none c.args.images.now c.args.views c.in_ok-named.named.items (c.in_ok-named.ensures.items_if_clones_equal (λ y e. e))

pub images-preserved : goal.images-preserved
images-preserved c = elim c.match-placed.branch [
  | in-Some w ↦ ap (λ v. v.items) w.named-is ∙ one_more c.args.images.now c.images.at c.args.views w.in-Some.view _ _ c.images.named.items c.images-test.true refl (sym w.in-Some.ensures) c.images.invariant
  | in_default w ↦ ap (λ v. v.items) w.named-is ∙ none_more c.args.images.now c.images.at c.args.views _ _ c.images.named.items c.images-test.true refl (sym c.placed.ensures ∙ w.in_default.is) c.images.invariant
]
