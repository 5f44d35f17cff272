use Rattle.std.proofs.Common.{[], map, Some, None, refl}
use Rattle.gp_elements.specs.Elements.{number_of}
use Rattle.gp_elements.specs.Held.{contents_of}
use Rattle.gp_analyse.proofs.GivenElements.{list_is_given, none_from}
use Rattle.gp_analyse.proofs.thinning.thin.Goals as goal

pub thin_given-requires-clause-given : goal.thin_given-requires-clause-given
thin_given-requires-clause-given g c =
    list_is_given c.args.asset.now (contents_of (g.V.ViewBytes.views c.args.views.now)) c.args.list.now (Some c.in-Some.sparse) (map number_of c.places-places.result) c.requires.list
    (none_from c.args.list.now.accessor.view c.is_some.result c.is_some.ensures c.if-is_some.false) c.in-Some.is c.places-places.ensures.places

pub thin_zeros-requires : goal.thin_zeros-requires
thin_zeros-requires g c =
    list_is_given c.args.asset.now (contents_of (g.V.ViewBytes.views c.args.views.now)) c.args.list.now None [] c.requires.list
    (none_from c.args.list.now.accessor.view c.is_some.result c.is_some.ensures c.if-is_some.false) c.in-None.is refl
