use Rattle.std.proofs.Common.{◌<◌, ◌≤◌, ◌^◌, length, refl, ap, subst, ◌∙◌, arith}
use Rattle.std.specs.Option.{option_map}
use Rattle.gp_tree.specs.Plain.{plain}
use Rattle.gp_glb.specs.Container.{glb_len}
use Rattle.gp_glb.proofs.Appending.{map_map}
use Rattle.gp_document.specs.Reading.{document_of}
use Rattle.gp_pair.proofs.Joins.{on_done, fits, joins}
use Rattle.gp_pair.proofs.bundling.join_document.Goals as goal

pub join-requires-clause-fits : goal.join-requires-clause-fits
join-requires-clause-fits c =
    let json = c.deref-3.result.now in
    let short : length json ≤ 2 ^ 26 = omega (arith, ap length c.deref-3.ensures.value, c.len.ensures, c.if-len-gt-MOST_JSON.false) in
    subst (λ n. glb_len (length json) n (length c.args.document.rest.now) < 2 ^ 32) (map_map (λ b. b.now) length c.joined_bin-bin.result)
    (fits c.args.of_text c.args.contents.now.contents.items (document_of c.args.document) json c.args.document.rest.now (option_map (λ b. b.now) c.joined_bin-bin.result) c.requires.small
    (omega (arith, c.requires.counted, c.requires.within)) short (rw c.deref-2.ensures.value at c.joined_bin-bin.ensures) refl)

pub returns : goal.returns
returns c =
    let json = c.deref-3.result.now in
    let short : length json ≤ 2 ^ 26 = omega (arith, ap length c.deref-3.ensures.value, c.len.ensures, c.if-len-gt-MOST_JSON.false) in
    joins c.args.of_text c.args.contents.now.contents.items (document_of c.args.document) (plain c.join_tree.new.root) json _ _ _ _
    (rw c.deref.ensures.value at (on_done c.join_tree.result c.join_tree.ensures c.if-is_err.ensures.negation)) (c.deref-3.ensures.value ∙ c.in-Ok.ensures.text) short
    (rw c.deref-2.ensures.value at c.joined_bin-bin.ensures) (c.from_vec.ensures ∙ c.in-Ok-join.ensures) refl
