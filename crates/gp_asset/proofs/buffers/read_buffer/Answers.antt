use Rattle.std.proofs.Common.{option_map}
use Rattle.std.proofs.lemmas.Result.{err_from_is_err_and}
use Rattle.gp_asset.proofs.Held.{refused, short, whole}
use Rattle.gp_asset.proofs.buffers.read_buffer.Goals as goal

pub returns-in_err-bytes : goal.returns-in_err-bytes
returns-in_err-bytes c =
    let p = err_from_is_err_and c.from_residual.result c.from_residual.ensures.1 in
    rw (p.1, p.2) (refused (option_map (λ b. b.now) c.args.bin) c.args.at c.args.buffer.now _ c.has_other_extension.result c.args.needed c.in_err-bytes.field-0.0
    c.buffer.view_is c.has_other_extension.ensures c.if-has_other_extension.false c.if-not-needed.false c.in_err-bytes.ensures)

pub returns-then-as_slice-buffer : goal.returns-then-as_slice-buffer
returns-then-as_slice-buffer c =
    short (option_map (λ b. b.now) c.args.bin) c.args.at c.args.buffer.now _ c.has_other_extension.result c.args.needed c.in_ok-bytes.bytes c.as_slice.result.now
    c.buffer.view_is c.has_other_extension.ensures c.if-has_other_extension.false c.if-not-needed.false c.in_ok-bytes.ensures c.as_slice.ensures c.if-as_slice-buffer.true

pub returns : goal.returns
returns c =
    whole (option_map (λ b. b.now) c.args.bin) c.args.at c.args.buffer.now _ c.has_other_extension.result c.args.needed c.in_ok-bytes.bytes c.as_slice.result.now
    c.buffer.view_is c.has_other_extension.ensures c.if-has_other_extension.false c.if-not-needed.false c.in_ok-bytes.ensures c.as_slice.ensures c.if-as_slice-buffer.false
