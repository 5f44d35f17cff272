use Rattle.std.proofs.Common.{◌∙◌, ap}
use Rattle.byteorder.specs.Endian.{little_number}
use Rattle.gp_glb.proofs.FirstChunk.{rest_is}
use Rattle.gp_glb.proofs.Words.{word_at_is}
use Rattle.gp_pair.proofs.container.word_at.Goals as goal

pub returns : goal.returns
returns c = c.read_u32.ensures ∙ ap (little_number 4) (rest_is c.args.at c.args.bytes.now) ∙ word_at_is c.args.bytes.now c.args.at
