use Rattle.std.proofs.Common.{◌≡◌, ◌++◌, map, drop}
use Rattle.std.specs.List.{zip}
use Rattle.gp_packed.specs.Plan.{stored_with}
use Rattle.gp_pack.specs.Placement.{shown}
use Rattle.gp_pack.specs.OutputParts.{kept_rows, kept_shown}
use Rattle.gp_pack.proofs.parts.Parts.append_kept.Given as goal

abbrev pub invariant-views : goal.invariant-views
invariant-views l =
    map shown l.self.views.items ++ kept_rows (drop l.at (zip l.numbers (stored_with l.asset l.streams))) ≡ map shown l.fn.self.views.items ++ kept_shown l.asset l.streams l.numbers
