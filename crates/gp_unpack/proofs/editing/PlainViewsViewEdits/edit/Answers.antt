use Rattle.std.proofs.Common.{sym, subst}
use Rattle.gp_tree.specs.Plain.{plain}
use Rattle.gp_edits.specs.InPart.{IsViewEditedInPart}
use Rattle.gp_edits.proofs.InPart.{removed_in_part, placed_in_part, then_in_part}
use Rattle.gp_edits.proofs.ViewsIn.{on_err}
use Rattle.gp_unpack.proofs.Finishing.{has_start, edited_view}
use Rattle.gp_unpack.proofs.editing.PlainViewsViewEdits.edit.Goals as goal

pub start-requires : goal.start-requires
start-requires c = has_start c.args.self.now.contents.now c.args.at c.requires

pub returns : goal.returns
returns c =
    let before = plain c.args.view.now in
    let removed = plain c.remove_compression.new.view in
    let after = plain c.place_view.new.view in
    record {
      changed = edited_view c.args.self.now.contents.now c.args.at c.start.result before removed after c.place_view.result c.start.ensures c.remove_compression.ensures c.place_view.ensures.placed;
      others = on_err c.place_view.result c.place_view.ensures.part (λ part.
          then_in_part before removed after (subst (IsViewEditedInPart before) (sym c.remove_compression.ensures) (removed_in_part before)) (placed_in_part 0 removed after part));
    }
