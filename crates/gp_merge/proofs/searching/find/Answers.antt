use Rattle.gp_merge.specs.Records.{records}
use Rattle.gp_merge.proofs.Slots.{found_round}
use Rattle.gp_merge.proofs.searching.find.Goals as goal

pub returns : goal.returns
returns c =
    let ahead = c.probe-behind.ensures in
    let front = c.probe.ensures in
    found_round (records c.args.size c.args.bytes.now) c.args.slots.now c.args.wanted.now c.args.start c.probe-behind.result c.probe.result
    c.requires.room c.requires.start c.if-behind-slots.false ahead.passed front.most front.passed front.stops
