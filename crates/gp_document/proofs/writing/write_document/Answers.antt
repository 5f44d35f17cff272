use Rattle.std.proofs.Common.{◌^◌, nat_lt, length, ap, sym, ◌∙◌, option_map}
use Rattle.gp_tree.specs.Plain.{plain}
use Rattle.gp_glb.specs.Container.{glb, glb_len}
use Rattle.gp_glb.proofs.Appending.{map_map}
use Rattle.gp_document.proofs.Lengths.{too_large, is_output}
use Rattle.gp_document.proofs.writing.write_document.Goals as goal

pub returns-then-not-fits : goal.returns-then-not-fits
returns-then-not-fits c =
    let text = c.deref.result.now in
    let rest = c.args.rest.now in
    let lens = map_map (λ b. b.now) length c.args.bin in
    too_large (plain c.args.tree) (option_map (λ b. b.now) c.args.bin) rest text c.fits.result (c.deref.ensures.value ∙ c.in_ok-text.ensures.text)
    (c.fits.ensures ∙ ap (λ n. nat_lt (glb_len (length text) n (length rest)) (2 ^ 32)) (sym lens)) c.if-not-fits.true

pub returns : goal.returns
returns c =
    let text = c.deref.result.now in
    let rest = c.args.rest.now in
    let bin = option_map (λ b. b.now) c.args.bin in
    let lens = map_map (λ b. b.now) length c.args.bin in
    is_output (plain c.args.tree) bin rest text c.from_vec.result c.args.views c.args.streams c.fits.result (c.deref.ensures.value ∙ c.in_ok-text.ensures.text)
    (c.fits.ensures ∙ ap (λ n. nat_lt (glb_len (length text) n (length rest)) (2 ^ 32)) (sym lens)) c.if-not-fits.false
    (c.from_vec.ensures ∙ c.in_ok-glb.ensures ∙ ap (λ text. glb text bin rest) (c.deref-2.ensures.value ∙ sym c.deref.ensures.value))
