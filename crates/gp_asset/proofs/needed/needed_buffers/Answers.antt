use Rattle.std.proofs.Common.{ap, ◌∙◌}
use Rattle.gp_asset.proofs.Marks.{none, marked, unmarked}
use Rattle.gp_asset.proofs.needed.needed_buffers.Goals as goal
use Rattle.gp_asset.proofs.needed.needed_buffers.Goals.{then-buffer-buffers, else-buffer-buffers}

pub views-init : goal.views-init
views-init c = none c.args.buffers c.in_ok-needed.needed.items (c.in_ok-needed.ensures.items_if_clones_equal (λ y e. e))

pub views-preserved : goal.views-preserved
views-preserved c = elim c.if-buffer-buffers.branch [
  | then-buffer-buffers w ↦
      ap (λ v. v.items) w.needed-is
      ∙ marked c.args.views.now c.views.at c.index-views-at.result c.buffer_in_use-buffer.result c.args.buffers c.views.needed.items c.views-test.true c.index-views-at.is c.buffer_in_use-buffer.ensures w.if-buffer-buffers.true c.views.invariant
  | else-buffer-buffers w ↦
      ap (λ v. v.items) w.needed-is
      ∙ unmarked c.args.views.now c.views.at c.index-views-at.result c.buffer_in_use-buffer.result c.args.buffers c.views.needed.items c.views-test.true c.index-views-at.is c.buffer_in_use-buffer.ensures w.if-buffer-buffers.false c.views.invariant
]
