use Rattle.gp_elements.proofs.Shown.{within_base, value_at, base_at}
use Rattle.gp_elements.proofs.elements.Elements.at_next.Goals as goal

pub at-requires-in-None : goal.at-requires-in-None
at-requires-in-None c = within_base c.args.self.now c.self.inside.base c.self.inside.apart c.args.at c.self.view_is c.requires

pub returns-in-Some-place_of : goal.returns-in-Some-place_of
returns-in-Some-place_of c =
    value_at c.args.self.now c.self.inside.base c.self.inside.apart c.in-Some.apart c.args.at c.in-Some-place_of.place _ c.self.view_is c.in-Some.is c.requires c.in-Some-place_of.ensures.place
    c.at-in-Some-place_of.ensures

pub returns-in-None : goal.returns-in-None
returns-in-None c = base_at c.args.self.now c.self.inside.base c.self.inside.apart c.in-Some.apart c.args.at _ c.self.view_is c.in-Some.is c.requires c.in-None.ensures.place c.at-in-None.ensures
