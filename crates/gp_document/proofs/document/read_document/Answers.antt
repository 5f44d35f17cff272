use Rattle.std.proofs.lemmas.Result.{err_from_is_err_and}
use Rattle.gp_tree.specs.Plain.{plain}
use Rattle.gp_glb.specs.Parts.{parts}
use Rattle.gp_document.proofs.Documents.{is_document, no_glb_fault, told_again}
use Rattle.gp_document.proofs.document.read_document.Goals as goal

pub returns-in_err-chunks-clause-told : goal.returns-in_err-chunks-clause-told
returns-in_err-chunks-clause-told c fault broken =
    let p = err_from_is_err_and c.from_residual.result c.from_residual.ensures.1 in
    told_again c.args.bytes.now _ fault p.0 c.from_residual.result c.in_err-chunks.ensures.reads broken p.1 p.2

pub returns-in_err-tree-clause-told : goal.returns-in_err-tree-clause-told
returns-in_err-tree-clause-told c fault broken = absurd (no_glb_fault c.args.bytes.now (parts c.in_ok-chunks.chunks) fault c.in_ok-chunks.ensures.reads broken)

pub returns-clause-told : goal.returns-clause-told
returns-clause-told c fault broken = absurd (no_glb_fault c.args.bytes.now (parts c.in_ok-chunks.chunks) fault c.in_ok-chunks.ensures.reads broken)

pub returns-clause-holds : goal.returns-clause-holds
returns-clause-holds c =
    let own = parts c.in_ok-chunks.chunks in
    is_document c.args.bytes.now own (plain c.in_ok-tree.tree) c.in_ok-chunks.ensures.reads c.in_ok-tree.ensures.spelled c.in_ok-tree.ensures.sound
