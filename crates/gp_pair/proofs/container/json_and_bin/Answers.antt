use Rattle.gp_pair.proofs.Containers.{told_json, total_is, header_long, body_has}
use Rattle.gp_pair.proofs.container.json_and_bin.Goals as goal

pub returns-then-is_text-clause-json : goal.returns-then-is_text-clause-json
returns-then-is_text-clause-json c = λ parts stands. (told_json c.args.bytes.now _ parts c.is_text.ensures c.if-is_text.true stands).0

pub returns-then-is_text-clause-bin : goal.returns-then-is_text-clause-bin
returns-then-is_text-clause-bin c = λ parts stands. (told_json c.args.bytes.now _ parts c.is_text.ensures c.if-is_text.true stands).1

pub word_at-requires : goal.word_at-requires
word_at-requires c = header_long c.args.bytes.now _ c.requires.0 c.is_text.ensures c.if-is_text.false c.requires.1

pub slice_bounds-split_body-count : goal.slice_bounds-split_body-count
slice_bounds-split_body-count c = (total_is c.args.bytes.now _ c.requires.0 _ c.is_text.ensures c.if-is_text.false c.requires.1 c.word_at.ensures).0

pub slice_bounds-split_body-start : goal.slice_bounds-split_body-start
slice_bounds-split_body-start c = (total_is c.args.bytes.now _ c.requires.0 _ c.is_text.ensures c.if-is_text.false c.requires.1 c.word_at.ensures).0

pub slice_bounds-split_body-end : goal.slice_bounds-split_body-end
slice_bounds-split_body-end c = (total_is c.args.bytes.now _ c.requires.0 _ c.is_text.ensures c.if-is_text.false c.requires.1 c.word_at.ensures).1

pub split_body-requires : goal.split_body-requires
split_body-requires c = (c.requires.0.json, c.requires.0.bin, body_has c.args.bytes.now _ c.requires.0 _ c.is_text.ensures c.if-is_text.false c.requires.1 c.word_at.ensures)

pub returns-clause-json : goal.returns-clause-json
returns-clause-json c = λ parts stands. c.split_body.ensures.json parts.json parts.bin (body_has c.args.bytes.now _ parts _ c.is_text.ensures c.if-is_text.false stands c.word_at.ensures)

pub returns-clause-bin : goal.returns-clause-bin
returns-clause-bin c = λ parts stands. c.split_body.ensures.bin parts.json parts.bin (body_has c.args.bytes.now _ parts _ c.is_text.ensures c.if-is_text.false stands c.word_at.ensures)
