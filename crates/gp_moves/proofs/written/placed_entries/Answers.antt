use Rattle.std.proofs.Common.{◌++◌, ℕ, [], ◌∷◌, get_or, ap, ◌∙◌}
use Rattle.gp_moves.specs.Firsts.{entry_of, placed}
use Rattle.gp_moves.proofs.FirstEntries.{one_group, all_groups, entries_from, read_again}
use Rattle.gp_moves.proofs.written.placed_entries.Goals as goal

pub numbers-preserved : goal.numbers-preserved
numbers-preserved c =
    let x = get_or c.args.numbers.now c.numbers.at 0 in
    one_group (λ (p : ℕ × ℕ). entry_of p.0 p.1 ∷ []) (placed c.args.numbers.now) c.numbers.entries.items c.push.new.self.items c.args.numbers.now c.numbers.at x
    c.numbers.invariant c.numbers-test.true (read_again c.args.numbers.now c.numbers.at 0 x c.numbers-test.true)
    (c.in_ok-push.ensures.items ∙ ap (λ v. c.numbers.entries.items ++ entry_of v x ∷ []) c.in_ok-number_of.ensures)

pub returns : goal.returns
returns c =
    all_groups (λ (p : ℕ × ℕ). entry_of p.0 p.1 ∷ []) (placed c.args.numbers.now) c.numbers.entries.items c.args.numbers.now c.numbers.at c.numbers.invariant c.numbers-test.false

pub numbers-init : goal.numbers-init
numbers-init c = ap (λ l. l ++ entries_from (λ (p : ℕ × ℕ). entry_of p.0 p.1 ∷ []) 0 c.args.numbers.now) c.new-entries.ensures.items
