use Rattle.std.proofs.Common.{◌≡◌, ◌+◌, length, ap, ◌∙◌, sym, subst}
use Rattle.gp_tree.specs.Plain.{plain}
use Rattle.gp_layout.proofs.Parts.{length_laid}
use Rattle.gp_document.specs.Reading.{document_of}
use Rattle.gp_strips.specs.ListedDocument.{all_lists, made_lists, output_contents}
use Rattle.gp_strips.specs.Making.{AreMade}
use Rattle.gp_strips.proofs.ListRows.{length_output}
use Rattle.gp_strips.proofs.Reading.{read_is_sound, read_is_held, read_is_in_order, counted}
use Rattle.gp_strips.proofs.Finishing.{tree_is, how_many, written}
use Rattle.gp_strips.proofs.files.write_listed.Goals as goal

pub make_lists-requires-clause-views : goal.make_lists-requires-clause-views
make_lists-requires-clause-views c = (read_is_held (document_of c.args.document) c.args.asset.now c.args.contents c.requires.asset c.requires.contents).every

pub make_lists-requires-clause-sound : goal.make_lists-requires-clause-sound
make_lists-requires-clause-sound c = read_is_sound (document_of c.args.document) c.args.asset.now c.requires.asset

pub make_lists-requires-clause-order : goal.make_lists-requires-clause-order
make_lists-requires-clause-order c = read_is_in_order (document_of c.args.document) c.args.asset.now c.requires.asset

pub returns : goal.returns
returns c =
    let a = c.args.asset.now in
    let contents = c.args.contents in
    let d = document_of c.args.document in
    let lists = c.in_ok-lists.lists in
    let held = read_is_held d a contents c.requires.asset c.requires.contents in
    let before = length c.buffer.result.now in
    let made : AreMade a contents before lists = subst (λ cs. AreMade a cs before lists) held.same c.in_ok-lists.ensures in
    let out = output_contents contents (made_lists (all_lists a contents)) in
    let listed = how_many a contents before lists c.len.result made c.len.ensures in
    let behind = how_many a contents before lists c.len-3.result made c.len-3.ensures in
    let views : c.in_ok-views.views ≡ length contents + length (made_lists (all_lists a contents)) =
    c.in_ok-views.ensures ∙ c.in_ok-sum.ensures ∙ ap (λ n. n + c.len-3.result) c.len-2.ensures ∙ ap (λ n. length contents + n) behind in
    let bin = c.bin_of-bin.ensures out (views ∙ sym (length_output contents (made_lists (all_lists a contents)))) (c.deref.ensures.value ∙ c.in_ok-buffer.ensures before (length a.views) (length a.accessors) (made_lists (all_lists a contents)) made.row) in
    written a contents d c.in_ok-views.views c.in_ok-listed.listed (plain c.set_buffers.new.root) _ c.write_document.result
    (tree_is a contents before lists c.length_of.result d.tree (plain c.edit_listed.new.root) (plain c.set_buffers.new.root) made (ap length c.buffer.ensures ∙ length_laid contents)
    c.in_ok-edit_listed.ensures (c.length_of.ensures out bin) c.in_ok-set_buffers.ensures.set)
    bin
    (views ∙ ap (λ n. n + length (made_lists (all_lists a contents))) (counted a.views contents held))
    (c.in_ok-listed.ensures ∙ listed)
    c.write_document.ensures
