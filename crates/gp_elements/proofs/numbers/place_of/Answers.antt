use Rattle.std.proofs.Common.{◌≢◌, ℕ, map, Some, sym, arith}
use Rattle.std.specs.Prelude.{slice_get}
use Rattle.gp_elements.specs.Elements.{number_of}
use Rattle.gp_elements.proofs.Places.{found_at, nowhere, passed_more, passed_same}
use Rattle.gp_elements.proofs.numbers.place_of.Goals as goal

pub returns-then-not-has_at-clause-place : goal.returns-then-not-has_at-clause-place
returns-then-not-has_at-clause-place c =
    let xs = map number_of c.args.indices.now in
    let other : slice_get xs c.part-place.result ≢ Some c.args.number = λ found. let is = c.has_at.ensures.here.1 found in let not = c.if-not-has_at.true in cc in
    nowhere xs c.args.number c.part-place.result c.requires.rising other c.part-place.ensures

pub returns-then-not-has_at-clause-passed : goal.returns-then-not-has_at-clause-passed
returns-then-not-has_at-clause-passed c =
    let xs = map number_of c.args.indices.now in
    let other : slice_get xs c.part-place.result ≢ Some c.args.number = λ found. let is = c.has_at.ensures.here.1 found in let not = c.if-not-has_at.true in cc in
    passed_same xs c.args.number c.part-place.result c.requires.rising other c.part-place.ensures

pub overflow_add-passed : goal.overflow_add-passed
overflow_add-passed c = omega (arith, c.has_at.ensures.room c.if-not-has_at.false)

pub returns-clause-place : goal.returns-clause-place
returns-clause-place c = sym (found_at (map number_of c.args.indices.now) c.args.number c.part-place.result c.requires.rising (c.has_at.ensures.here.0 c.if-not-has_at.false))

pub returns-clause-passed : goal.returns-clause-passed
returns-clause-passed c = passed_more (map number_of c.args.indices.now) c.args.number c.part-place.result c.requires.rising (c.has_at.ensures.here.0 c.if-not-has_at.false) c.part-place.ensures
