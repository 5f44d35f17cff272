use Rattle.std.proofs.Common.{arith}
use Rattle.gp_pair.proofs.Containers.{json_long, json_end, json_cut, bin_cut}
use Rattle.gp_pair.proofs.container.split_body.Goals as goal

pub word_at-requires : goal.word_at-requires
word_at-requires c = omega (arith, json_long c.args.body.now c.requires.0 c.requires.1 c.requires.2)

pub slice_bounds-result-end : goal.slice_bounds-result-end
slice_bounds-result-end c = json_end c.args.body.now c.requires.0 c.requires.1 c.word_at.result c.requires.2 c.word_at.ensures

pub slice_bounds-bin_in-count : goal.slice_bounds-bin_in-count
slice_bounds-bin_in-count c = json_end c.args.body.now c.requires.0 c.requires.1 c.word_at.result c.requires.2 c.word_at.ensures

pub slice_bounds-bin_in-start : goal.slice_bounds-bin_in-start
slice_bounds-bin_in-start c = json_end c.args.body.now c.requires.0 c.requires.1 c.word_at.result c.requires.2 c.word_at.ensures

pub bin_in-requires : goal.bin_in-requires
bin_in-requires c = (c.requires.1, bin_cut c.args.body.now c.requires.0 c.requires.1 c.word_at.result c.requires.2 c.word_at.ensures)

pub returns-clause-json : goal.returns-clause-json
returns-clause-json c = λ json bin h. json_cut c.args.body.now json bin c.word_at.result h c.word_at.ensures

pub returns-clause-bin : goal.returns-clause-bin
returns-clause-bin c = λ json bin h. c.bin_in.ensures bin (bin_cut c.args.body.now json bin c.word_at.result h c.word_at.ensures)
