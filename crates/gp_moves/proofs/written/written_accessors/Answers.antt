use Rattle.std.proofs.Common.{◌++◌, ap}
use Rattle.gp_moves.specs.Firsts.{written_of, written}
use Rattle.gp_moves.proofs.FirstEntries.{one_part, all_parts}
use Rattle.gp_moves.proofs.written.written_accessors.Goals as goal

pub groups-preserved : goal.groups-preserved
groups-preserved c =
    one_part written_of (written c.args.groups.now) c.groups.numbers.items c.push_group.new.numbers.items c.args.groups.now c.groups.at c.index-groups-at.result
    c.groups.invariant c.groups-test.true c.index-groups-at.is c.in_ok-push_group.ensures

pub returns : goal.returns
returns c = all_parts written_of (written c.args.groups.now) c.groups.numbers.items c.args.groups.now c.groups.at c.groups.invariant c.groups-test.false

pub groups-init : goal.groups-init
groups-init c = ap (λ l. l ++ written c.args.groups.now) c.new-numbers.ensures.items
