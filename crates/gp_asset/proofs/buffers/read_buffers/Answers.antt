use Rattle.std.proofs.Common.{Vec, Global, option_map, map, length, arith}
use Rattle.std.proofs.lemmas.Result.{err_from_is_err_and}
use Rattle.gp_asset.specs.declared.buffers.BufferBytes.{BufferBytes}
use Rattle.gp_asset.specs.Buffers.{buffer_of}
use Rattle.gp_asset.specs.Stored.{bytes_in}
use Rattle.gp_asset.proofs.Held.{marks, one_buffer, stopped, pushed}
use Rattle.gp_asset.proofs.buffers.read_buffers.Goals as goal

pub index-requires : goal.index-requires
index-requires c =
    let e = marks c.args.views.now c.in-Ok.needed.items (length c.args.buffers.now) c.in-Ok.ensures in
    omega (arith, c.in-Ok.needed.ok)

pub returns-in_err-bytes : goal.returns-in_err-bytes
returns-in_err-bytes c =
    let bin = option_map (λ b. b.now) c.args.bin in
    let p = err_from_is_err_and c.from_residual.result c.from_residual.ensures.1 in
    rw (p.1, p.2) (stopped (buffer_of c.args.views.now bin) c.args.buffers.now c.buffers.at c.index-buffers-at.result (map bytes_in c.buffers.read.items) _ c.in_err-bytes.field-0.0 bytes_in (λ (v : Vec BufferBytes Global). map bytes_in v.items)
    c.buffers-test.true (one_buffer c.args.views.now c.in-Ok.needed.items bin c.args.buffers.now c.buffers.at c.index-buffers-at.result c.index.result.now c.in-Ok.ensures c.buffers-test.true c.index.ensures c.index-buffers-at.is)
    c.in_err-bytes.ensures c.buffers.invariant)

pub buffers-preserved : goal.buffers-preserved
buffers-preserved c =
    let bin = option_map (λ b. b.now) c.args.bin in
    let longer = rw c.if-is_err.ensures.negation at c.push.ensures.items in
    pushed (buffer_of c.args.views.now bin) c.args.buffers.now c.buffers.at c.index-buffers-at.result c.buffers.read.items c.push.new.self.items c.in_ok-bytes.bytes _
    c.buffers-test.true (one_buffer c.args.views.now c.in-Ok.needed.items bin c.args.buffers.now c.buffers.at c.index-buffers-at.result c.index.result.now c.in-Ok.ensures c.buffers-test.true c.index.ensures c.index-buffers-at.is)
    c.in_ok-bytes.ensures longer c.buffers.invariant
