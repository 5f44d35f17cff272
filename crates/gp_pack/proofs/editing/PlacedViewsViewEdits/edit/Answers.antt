use Rattle.std.proofs.Common.{sym, ◌∙◌, subst}
use Rattle.gp_tree.specs.Plain.{plain}
use Rattle.gp_edits.specs.InPart.{IsViewEditedInPart}
use Rattle.gp_edits.proofs.InPart.{placed_in_part, placed_whole}
use Rattle.gp_edits.proofs.ViewsIn.{on_ok, on_err, if_err}
use Rattle.gp_pack.proofs.Edited.{plain_edited, streamed_edited}
use Rattle.gp_pack.proofs.editing.PlacedViewsViewEdits.edit.Goals as goal

pub returns-in_err-place_view-in-Streamed-clause-others : goal.returns-in_err-place_view-in-Streamed-clause-others
returns-in_err-place_view-in-Streamed-clause-others c =
    if_err c.from_residual.result (placed_in_part 1 (plain c.args.view.now) (plain c.place_view-in-Streamed.new.view) c.in_err-place_view-in-Streamed.ensures.part)

pub returns-in-Plain-clause-changed : goal.returns-in-Plain-clause-changed
returns-in-Plain-clause-changed c =
    on_ok c.place_view.result c.place_view.ensures.placed
    (plain_edited c.args.self.now.placements.now c.args.at _ c.in-Plain.start (plain c.args.view.now) (plain c.place_view.new.view) c.requires c.in-Plain.is)

pub returns-in-Plain-clause-others : goal.returns-in-Plain-clause-others
returns-in-Plain-clause-others c = on_err c.place_view.result c.place_view.ensures.part (placed_in_part 0 (plain c.args.view.now) (plain c.place_view.new.view))

pub returns-in_ok-place_view-in-Streamed-clause-changed : goal.returns-in_ok-place_view-in-Streamed-clause-changed
returns-in_ok-place_view-in-Streamed-clause-changed c =
    on_ok c.compress_view.result c.compress_view.ensures.compressed
    (streamed_edited c.args.self.now.placements.now c.args.at _ c.in-Streamed.fallback c.in-Streamed.compression (plain c.args.view.now) (plain c.place_view-in-Streamed.new.view)
    (plain c.compress_view.new.view) c.requires c.in-Streamed.is c.in_ok-place_view-in-Streamed.ensures.placed)

pub returns-in_ok-place_view-in-Streamed-clause-others : goal.returns-in_ok-place_view-in-Streamed-clause-others
returns-in_ok-place_view-in-Streamed-clause-others c =
    on_err c.compress_view.result c.compress_view.ensures.stays (λ same.
    subst (IsViewEditedInPart (plain c.args.view.now)) (sym (same ∙ c.in_ok-place_view-in-Streamed.ensures.placed)) (placed_whole 1 c.in-Streamed.fallback (plain c.args.view.now)))
