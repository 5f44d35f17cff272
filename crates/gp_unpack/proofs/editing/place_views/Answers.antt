use Rattle.std.proofs.Common.{length, map, sym, ap, ◌∙◌, codes}
use Rattle.std.proofs.lemmas.List.{length-map}
use Rattle.gp_tree.specs.Plain.{plain}
use Rattle.gp_tree.specs.TreeEdits.{at_member, with_items}
use Rattle.gp_layout.specs.Layout.{starts}
use Rattle.gp_layout.proofs.Parts.{length_starts}
use Rattle.gp_edits.proofs.ViewsIn.{on_ok}
use Rattle.gp_edits.specs.Edits.{plain_view}
use Rattle.gp_unpack.proofs.Changes.{all_changes_made}
use Rattle.gp_unpack.proofs.editing.place_views.Goals as goal

pub edit_views-requires : goal.edit_views-requires
edit_views-requires c =
    let contents = c.args.contents.now in
    length-map (starts (map length contents)) plain_view ∙ length_starts (map length contents) ∙ length-map contents length ∙ sym c.len.ensures

pub returns : goal.returns
returns c =
    on_ok c.edit_views.result c.edit_views.ensures.changed (λ made.
    made ∙ ap (λ change. at_member (codes "bufferViews") (with_items change) (plain c.args.root.now)) (all_changes_made plain_view (starts (map length c.args.contents.now))))
