use Rattle.std.proofs.Common.{◌<◌, ◌≤◌, ◌-◌, ℕ, get_or, length, map, arith}
use Rattle.std.proofs.lemmas.Bool.{eq-eqb, leb-true, le-leb}
use Rattle.std.proofs.lemmas.List.{length-map}
use Rattle.std.proofs.lemmas.Option.{get_or_from_slice_get}
use Rattle.gp_elements.specs.Elements.{number_of}
use Rattle.gp_elements.proofs.Places.{part_by}
use Rattle.gp_elements.proofs.numbers.part_at.Goals as goal
use Rattle.gp_elements.proofs.numbers.part_at.Goals.{else-count-gt0-via-then-count-gt0+else-number-index_at, else-count-gt0-via-else-count-gt0}

pub returns-then-count-len : goal.returns-then-count-len
returns-then-count-len c =
    let xs = map number_of c.args.indices.now in
    let long = length-map c.args.indices.now number_of in
    let last : 0 < c.args.count → get_or xs (c.args.count - 1) 0 < c.args.number = λ some. elim c.else-count-gt0.branch [
      | else-count-gt0-via-then-count-gt0+else-number-index_at w ↦
          let here = get_or_from_slice_get xs (c.args.count - 1) _ 0 w.index_at.ensures.value in
          omega (arith, here, w.if-number-index_at.false)
      | else-count-gt0-via-else-count-gt0 w ↦ absurd (omega (arith, some, w.if-count-gt0.false))
    ] in
    let end : length xs ≤ c.args.count = omega (arith, long, c.len-2.ensures, c.if-count-len.true) in (
      λ _. part_by xs c.args.number c.args.count c.requires.rising (omega (arith, long, c.len-2.ensures, c.if-count-len.true)) last (λ inside. absurd (omega (arith, inside, end))),
      λ _. eq-eqb c.args.count c.len-2.result c.if-count-len.true,
    )

pub returns-else-count-len : goal.returns-else-count-len
returns-else-count-len c =
    let xs = map number_of c.args.indices.now in
    let long = length-map c.args.indices.now number_of in
    let last : 0 < c.args.count → get_or xs (c.args.count - 1) 0 < c.args.number = λ some. elim c.else-count-gt0.branch [
      | else-count-gt0-via-then-count-gt0+else-number-index_at w ↦
          let here = get_or_from_slice_get xs (c.args.count - 1) _ 0 w.index_at.ensures.value in
          omega (arith, here, w.if-number-index_at.false)
      | else-count-gt0-via-else-count-gt0 w ↦ absurd (omega (arith, some, w.if-count-gt0.false))
    ] in
    let here = get_or_from_slice_get xs c.args.count _ 0 c.index_at-else-count-len.ensures.value in
    let inside : c.args.count < length xs = omega (arith, long, c.len.ensures, c.len-2.ensures, c.if-len-count.false, c.if-count-len.false) in (
      λ first. part_by xs c.args.number c.args.count c.requires.rising (omega (arith, inside)) last
          (λ _. omega (arith, here, leb-true c.args.number c.index_at-else-count-len.result first)),
      λ parts. le-leb c.args.number c.index_at-else-count-len.result (omega (arith, here, parts.above c.args.count (omega arith) inside)),
    )
