use Rattle.std.proofs.Common.{◌∙◌, rules}
use Rattle.gp_moves.proofs.FirstEntries.{none_put, one_put, all_put}
use Rattle.gp_moves.proofs.firsts.first_values.Goals as goal

pub entries-preserved : goal.entries-preserved
entries-preserved c =
    one_put c.args.entries.now c.args.count c.entries.values.items c.put.new.values.items c.entries.done c.entry_at-entry.result
    c.entries.invariant c.entries-test.true c.entry_at-entry.ensures c.put.ensures

pub returns : goal.returns
returns c = all_put c.args.entries.now c.args.count c.entries.values.items c.entries.done c.entries.invariant c.entries-test.false

pub entries-init : goal.entries-init
entries-init c = c.in_ok-values.ensures.items_if_clones_equal (λ y e. search rules) ∙ none_put c.args.entries.now c.args.count
