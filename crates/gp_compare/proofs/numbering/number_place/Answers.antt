use Rattle.std.specs.Prelude.{ℕ, List}
use Rattle.std.proofs.Common.{◌∙◌, sym, arith}
use Rattle.std.proofs.lemmas.Bool.{false≢true}
use Rattle.std.proofs.lemmas.Slice.Eq.{slice_eq-Decides}
use Rattle.std.proofs.lemmas.Bool.Decides.{Decides-eqb}
use Rattle.gp_compare.specs.Joined.{record_of}
use Rattle.gp_compare.proofs.Giving.{given_same, given_next}
use Rattle.gp_compare.proofs.numbering.number_place.Goals as goal
use Rattle.gp_compare.proofs.numbering.number_place.Goals.{else-at-gt0-via-then-at-gt0+else-eq, else-at-gt0-via-else-at-gt0}

pub returns-then-eq : goal.returns-then-eq
returns-then-eq c =
    let rows = c.args.rows in
    let reads : ℕ → List ℕ = record_of rows.size rows.of_first rows.first.now rows.second.now in
    let d = slice_eq-Decides Decides-eqb c.record.result.now c.record-then-at-gt0.result.now c.eq.result c.eq.ensures in
    given_same reads c.args.places.now c.args.numbers.now c.requires.sorted c.requires.within c.args.count c.args.at c.requires.at c.requires.before c.if-at-gt0.true
    (sym c.record.ensures ∙ d.0 c.if-eq.true ∙ c.record-then-at-gt0.ensures)

pub returns : goal.returns
returns c =
    let rows = c.args.rows in
    let reads : ℕ → List ℕ = record_of rows.size rows.of_first rows.first.now rows.second.now in
    given_next reads c.args.places.now c.args.numbers.now c.requires.sorted c.requires.within c.args.count c.args.at c.requires.at c.requires.before
    (elim c.else-at-gt0.branch [
      | else-at-gt0-via-then-at-gt0+else-eq w ↦ λ some e.
          let d = slice_eq-Decides Decides-eqb w.record.result.now w.record-then-at-gt0.result.now w.eq.result w.eq.ensures in
          false≢true (sym w.if-eq.false ∙ d.1 (w.record.ensures ∙ e ∙ sym w.record-then-at-gt0.ensures))
      | else-at-gt0-via-else-at-gt0 w ↦ λ some e. omega (arith, some, w.if-at-gt0.false)
    ])
