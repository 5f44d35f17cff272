use Rattle.gp_elements.proofs.Reading.{is_held, index_view_there}
use Rattle.gp_analyse.proofs.GivenElements.{places_end, places_are, places_are_numbers}
use Rattle.gp_analyse.proofs.thinning.places.Goals as goal

pub view-requires : goal.view-requires
view-requires g c =
    is_held c.args.asset.now.views (g.V.ViewBytes.views c.args.views.now) c.args.sparse.now.index_view c.requires.views
    (index_view_there c.args.asset.now.views c.args.accessor.now c.args.sparse.now c.requires.accessor c.requires.sparse)

pub over-requires : goal.over-requires
over-requires g c =
    places_end c.args.asset.now (g.V.ViewBytes.views c.args.views.now) c.args.accessor.now c.args.sparse.now c.view.result.now c.requires.views c.requires.accessor c.requires.sparse c.view.ensures

pub returns-clause-places : goal.returns-clause-places
returns-clause-places g c =
    places_are c.args.asset.now (g.V.ViewBytes.views c.args.views.now) c.args.accessor.now c.args.sparse.now c.view.result.now c.requires.views c.requires.accessor c.requires.sparse c.view.ensures
    c.over.result c.over.ensures

pub returns-clause-numbers : goal.returns-clause-numbers
returns-clause-numbers g c =
    places_are_numbers c.args.asset.now (g.V.ViewBytes.views c.args.views.now) c.args.accessor.now c.args.sparse.now c.view.result.now c.requires.views c.requires.accessor c.requires.sparse c.view.ensures
    c.over.result c.over.ensures
