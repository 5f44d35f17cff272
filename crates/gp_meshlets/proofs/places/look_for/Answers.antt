use Rattle.std.proofs.Common.{eqb, length, get_or, sym, arith}
use Rattle.std.proofs.lemmas.Bool.{eq-eqb}
use Rattle.std.proofs.lemmas.List.Sums.{position_or_len_is}
use Rattle.gp_meshlets.proofs.places.look_for.Goals as goal

pub returns-then-vertex-vertices-clause-place : goal.returns-then-vertex-vertices-clause-place
returns-then-vertex-vertices-clause-place c =
    sym (position_or_len_is (eqb c.args.vertex) c.args.vertices.now c.places.at 0 (omega (arith, c.places-test.true)) c.places.invariant (λ _. eq-eqb c.args.vertex (get_or c.args.vertices.now c.places.at 0) c.if-vertex-vertices.true))

pub returns-clause-place : goal.returns-clause-place
returns-clause-place c =
    sym (position_or_len_is (eqb c.args.vertex) c.args.vertices.now (length c.args.vertices.now) 0 (omega arith) (λ k h. c.places.invariant k (omega (arith, h, c.places-test.false))) (λ h. absurd (let no : ⊥ = omega (arith, h) in no)))
