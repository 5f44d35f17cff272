use Rattle.std.specs.Prelude.{[], length}
use Rattle.std.proofs.Common.{◌≡◌, sym, arith}
use Rattle.std.proofs.lemmas.List.{length-append}
use Rattle.gp_compare.proofs.Across.{held_across}
use Rattle.gp_compare.proofs.laws.vertices_by_numbers.Goals as goal

pub returns : goal.returns
returns c = λ first second records others one stand.
    let two : length second ≡ length others = omega (arith, one, stand.long, length-append first second, length-append records others) in (
      held_across 0 [] first second records others one two
          (λ i j l m e. (stand.equal i j [] (omega (arith, l, stand.long)) (omega (arith, m, stand.long))).0 e)
          (λ i j l m e. (stand.equal i j [] l m).1 e),
      held_across [] 0 records others first second (sym one) (sym two)
          (λ i j l m e. (stand.equal i j [] l m).1 e)
          (λ i j l m e. (stand.equal i j [] (omega (arith, l, stand.long)) (omega (arith, m, stand.long))).0 e),
    )
