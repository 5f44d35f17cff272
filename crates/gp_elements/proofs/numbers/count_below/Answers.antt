use Rattle.std.proofs.Common.{map, arith}
use Rattle.gp_elements.specs.Elements.{number_of}
use Rattle.gp_elements.proofs.Places.{upper, lower, met_at}
use Rattle.gp_elements.proofs.numbers.count_below.Goals as goal

pub halves-preserved-then-index_at-number : goal.halves-preserved-then-index_at-number
halves-preserved-then-index_at-number c =
    upper (map number_of c.args.indices.now) c.args.number c.halves.low c.halves.high _ _ c.requires.rising c.index_at.ensures.value c.if-index_at-number.true (omega (arith, c.halves-test.true)) c.halves.invariant

pub halves-preserved : goal.halves-preserved
halves-preserved c =
    lower (map number_of c.args.indices.now) c.args.number c.halves.low c.halves.high _ _ c.requires.rising c.index_at.ensures.value c.if-index_at-number.false (omega arith) c.halves.invariant

pub returns : goal.returns
returns c = met_at (map number_of c.args.indices.now) c.args.number c.halves.low c.halves.high c.halves-test.false c.halves.invariant
