use Rattle.std.proofs.Common.{◌/◌, ◌<◌, ◌≤◌, length, arith}
use Rattle.gp_mover.proofs.Made.{padded_more, all_padded}
use Rattle.gp_mover.proofs.making.join_parts.Goals as goal

pub records-preserved : goal.records-preserved
records-preserved c =
    let within : c.records.at < length c.args.bytes.now / c.args.size = omega arith in
    padded_more c.args.size c.args.bytes.now c.records.joined.items c.push_padded.new.bytes.items c.records.at c.args.start c.args.width c.requires.within within c.records.invariant c.in_ok-push_padded.ensures

pub returns : goal.returns
returns c =
    let past : length c.args.bytes.now / c.args.size ≤ c.records.at = omega arith in
    all_padded c.args.size c.args.bytes.now c.records.joined.items c.records.at c.args.start c.args.width past c.records.invariant
