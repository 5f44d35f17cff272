use Rattle.std.specs.Prelude.{ℕ, List, [], ◌∷◌, ◌++◌}
use Rattle.std.proofs.Common.{◌∙◌, ap, sym, rules}
use Rattle.gp_merge.proofs.Sight.{range_push}
use Rattle.gp_compare.specs.Joined.{record_of}
use Rattle.gp_compare.proofs.Giving.{sorted_by_reads}
use Rattle.gp_compare.proofs.numbering.sorted_places.Goals as goal

pub places-preserved : goal.places-preserved
places-preserved c = c.in_ok-push.ensures.items ∙ ap (λ (xs : List ℕ). xs ++ c.places.place ∷ []) c.places.invariant ∙ sym (range_push c.places.place)

pub returns-clause-sorted : goal.returns-clause-sorted
returns-clause-sorted c =
    let rows = c.args.rows in
    let reads : ℕ → List ℕ = record_of rows.size rows.of_first rows.first.now rows.second.now in
    sorted_by_reads reads _ c.sort_unstable_by.ensures.sorted (λ a r q k. search rules)
