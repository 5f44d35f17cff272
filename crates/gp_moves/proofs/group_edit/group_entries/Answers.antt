use Rattle.std.proofs.Common.{◌++◌, ℕ, map, ap, ◌∙◌}
use Rattle.gp_moves.specs.declared.group_edit.GroupEdit.{GroupEdit}
use Rattle.gp_moves.specs.Firsts.{part_of, entry_of, entries_of}
use Rattle.gp_moves.proofs.FirstEntries.{one_group, all_groups, entries_from}
use Rattle.gp_moves.proofs.group_edit.group_entries.Goals as goal

pub groups-preserved : goal.groups-preserved
groups-preserved c =
    one_group (λ (p : ℕ × GroupEdit). map (entry_of p.0) (part_of c.args.part p.1)) (entries_of c.args.part c.args.groups.now)
    c.groups.entries.items c.push_entries.new.entries.items c.args.groups.now c.groups.at c.index-groups-at.result c.groups.invariant c.groups-test.true c.index-groups-at.is
    (c.in_ok-push_entries.ensures
    ∙ ap (λ l. c.groups.entries.items ++ map (entry_of c.in_ok-value.value) l) c.part.ensures
    ∙ ap (λ v. c.groups.entries.items ++ map (entry_of v) (part_of c.args.part c.index-groups-at.result)) c.in_ok-value.ensures)

pub returns : goal.returns
returns c =
    all_groups (λ (p : ℕ × GroupEdit). map (entry_of p.0) (part_of c.args.part p.1)) (entries_of c.args.part c.args.groups.now)
    c.groups.entries.items c.args.groups.now c.groups.at c.groups.invariant c.groups-test.false

pub groups-init : goal.groups-init
groups-init c =
    ap (λ l. l ++ entries_from (λ (p : ℕ × GroupEdit). map (entry_of p.0) (part_of c.args.part p.1)) 0 c.args.groups.now) c.new-entries.ensures.items
