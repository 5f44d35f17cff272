use Rattle.std.proofs.Common.{◌++◌, ap, ◌∙◌}
use Rattle.gp_glb.proofs.Appending.{word_is}
use Rattle.gp_glb.proofs.joining.put_word.Goals as goal

pub returns : goal.returns
returns c = c.in_ok-extend_from_slice.ensures.items ∙ ap (λ y. c.args.out.now.items ++ y) (c.write_u32.ensures ∙ word_is c.args.number)
