use Rattle.gp_layout.proofs.Buffers.{no_buffer, some_buffer}
use Rattle.gp_layout.proofs.row.Row.buffer.Goals as goal

pub returns-then-is_empty : goal.returns-then-is_empty
returns-then-is_empty c parts laid = no_buffer parts c.args.self.now c.starts.result.now c.is_empty.result c.starts.ensures c.is_empty.ensures c.if-is_empty.true laid

pub returns : goal.returns
returns c parts laid =
    some_buffer parts c.args.self.now c.starts.result.now c.bytes.result.now c.is_empty.result c.starts.ensures c.bytes.ensures c.is_empty.ensures c.if-is_empty.false laid
