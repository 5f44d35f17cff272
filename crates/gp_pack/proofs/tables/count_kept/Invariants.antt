use Rattle.std.proofs.Common.{◌≡◌, ◌+◌, ◌≤◌, drop}
use Rattle.std.specs.List.{count_by}
use Rattle.std.specs.Option.{is_some}
use Rattle.gp_pack.proofs.tables.count_kept.Given as goal

abbrev pub invariant-views : goal.invariant-views
invariant-views l = (l.kept + count_by is_some (drop l.at l.numbers) ≡ count_by is_some l.numbers) × (l.kept ≤ l.at)
