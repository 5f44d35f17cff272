use Rattle.gp_unpack.proofs.Finishing.{no_length, some_length}
use Rattle.gp_unpack.proofs.editing.buffer_length.Goals as goal

pub returns-then-len-eq0 : goal.returns-then-len-eq0
returns-then-len-eq0 c = no_length c.args.contents.now c.len.result c.len.ensures c.if-len-eq0.true

pub returns : goal.returns
returns c = some_length c.args.contents.now c.len.result c.buffer.result.now c.len.ensures c.if-len-eq0.false c.buffer.ensures
