use Rattle.std.proofs.Common.{arith}
use Rattle.gp_pair.proofs.Containers.{some_chunk, no_chunk, is_none, is_some, bin_end, bin_cut_out, not_bin}
use Rattle.gp_pair.proofs.container.bin_in.Goals as goal

pub word_at-requires : goal.word_at-requires
word_at-requires c = some_chunk c.args.chunks.now c.requires.0 c.requires.1 (grind arith)

pub returns-then-is_empty : goal.returns-then-is_empty
returns-then-is_empty c = λ bin h. no_chunk c.args.chunks.now bin h (is_none _ _ c.is_empty.ensures c.if-is_empty.true)

pub returns-then-not-is_bin : goal.returns-then-not-is_bin
returns-then-not-is_bin c = λ bin h. not_bin c.args.chunks.now bin _ _ h (is_some _ _ c.is_empty.ensures c.if-is_empty.false) c.word_at.ensures c.is_bin.ensures c.if-not-is_bin.true

pub word_at-requires-2 : goal.word_at-requires-2
word_at-requires-2 c = omega (arith, some_chunk c.args.chunks.now c.requires.0 c.requires.1 (is_some _ _ c.is_empty.ensures c.if-is_empty.false))

pub slice_bounds-result-end : goal.slice_bounds-result-end
slice_bounds-result-end c =
    bin_end c.args.chunks.now c.requires.0 _ _ _ c.requires.1 (is_some _ _ c.is_empty.ensures c.if-is_empty.false) c.word_at.ensures c.word_at-2.ensures c.is_bin.ensures c.if-not-is_bin.false

pub returns : goal.returns
returns c = λ bin h. bin_cut_out c.args.chunks.now bin _ _ _ h (is_some _ _ c.is_empty.ensures c.if-is_empty.false) c.word_at.ensures c.word_at-2.ensures c.is_bin.ensures c.if-not-is_bin.false
