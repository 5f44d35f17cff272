use Rattle.std.proofs.Common.{ap, ◌∙◌}
use Rattle.std.specs.Iterator.Adapters.{enumerate_source, enumerate_count}
use Rattle.gp_asset.proofs.Numbered.{all_numbered}
use Rattle.gp_moves.proofs.KeptItems.{passed}
use Rattle.gp_moves.proofs.keeping.passing.Goals as goal

pub returns : goal.returns
returns g c =
    let first = c.into_iter-at-iterator.ensures.into_iter_gives in
    let numbered = all_numbered c.args.all.items c.into_iter.result c.into_iter-at-iterator.result c.items.at-iterator c.next.new.self c.items.yielded c.next.result
    c.into_iter.ensures.rest (c.into_iter.ensures.len ∙ c.args.all.ok.0)
    (ap enumerate_source first ∙ c.enumerate-at-items.ensures.source) (ap enumerate_count first ∙ c.enumerate-at-items.ensures.count)
    c.items.yielded_by c.in-None.is c.next.ensures.steps in
    c.items.invariant ∙ ap (passed (g.T.ItemTest.test c.args.test.now)) numbered
