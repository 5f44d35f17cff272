use Rattle.gp_layout.proofs.Buffers.{no_length, some_length}
use Rattle.gp_layout.proofs.row.Row.buffer_length.Goals as goal

pub returns-then-is_empty : goal.returns-then-is_empty
returns-then-is_empty c parts laid = no_length parts c.args.self.now c.starts.result.now c.is_empty.result c.starts.ensures c.is_empty.ensures c.if-is_empty.true laid

pub returns : goal.returns
returns c parts laid =
    some_length parts c.args.self.now c.starts.result.now c.bytes.result.now c.is_empty.result c.starts.ensures c.bytes.ensures c.is_empty.ensures c.if-is_empty.false laid
