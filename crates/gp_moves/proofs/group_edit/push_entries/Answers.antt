use Rattle.std.proofs.Common.{get_or}
use Rattle.gp_moves.specs.Firsts.{entry_of}
use Rattle.gp_moves.proofs.FirstEntries.{one_entry, all_entries, read_again}
use Rattle.gp_moves.proofs.group_edit.push_entries.Goals as goal

pub numbers-preserved : goal.numbers-preserved
numbers-preserved c =
    one_entry (entry_of c.args.value) c.args.entries.now.items c.numbers.entries.items c.push.new.self.items c.args.numbers.now c.numbers.at (get_or c.args.numbers.now c.numbers.at 0)
    c.numbers.invariant c.numbers-test.true (read_again c.args.numbers.now c.numbers.at 0 (get_or c.args.numbers.now c.numbers.at 0) c.numbers-test.true) c.in_ok-push.ensures.items

pub returns : goal.returns
returns c =
    all_entries (entry_of c.args.value) c.args.entries.now.items c.numbers.entries.items c.args.numbers.now c.numbers.at c.numbers.invariant c.numbers-test.false
