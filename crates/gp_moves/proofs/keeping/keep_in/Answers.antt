use Rattle.std.proofs.Common.{ap, ◌∙◌}
use Rattle.gp_tree.specs.Plain.{plain_trees}
use Rattle.gp_moves.proofs.KeptItems.{kept}
use Rattle.gp_moves.proofs.keeping.keep_in.Goals as goal

pub returns : goal.returns
returns g c =
    c.from_vec-2.ensures
    ∙ kept (g.T.ItemTest.test c.args.test.now) _ _ (plain_trees c.args.items.now) (c.into_vec-all.ensures ∙ ap plain_trees c.replace.ensures.value) c.in_ok-kept.ensures
