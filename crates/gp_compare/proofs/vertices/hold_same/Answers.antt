use Rattle.std.proofs.lemmas.Bool.{false≢true}
use Rattle.gp_compare.proofs.Marks.{found_of_held, held_of_none, none_of_held}
use Rattle.gp_compare.proofs.vertices.hold_same.Goals as goal

pub returns-then-not-find_each : goal.returns-then-not-find_each
returns-then-not-find_each c =
    let marks = c.mark_missing.new.missing in (
      λ e. absurd (false≢true e),
      λ h. c.if-not-find_each.ensures.found.1 (found_of_held c.args.first.now c.args.second.now marks marks c.mark_missing.ensures h),
    )

pub returns : goal.returns
returns c =
    let first = c.args.first.now in
    let second = c.args.second.now in
    let marks = c.mark_missing.new.missing in
    let left = c.find_each.new.missing in
    let found = c.find_each.ensures.found.0 c.if-not-find_each.false in
    let rest = c.find_each.ensures.left c.if-not-find_each.false in (
      λ e. held_of_none first second marks left c.mark_missing.ensures found rest (c.is_none_missing.ensures.0 e),
      λ h. c.is_none_missing.ensures.1 (none_of_held first second marks left c.mark_missing.ensures found rest h),
    )
