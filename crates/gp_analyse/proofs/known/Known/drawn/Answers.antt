use Rattle.gp_elements.specs.Held.{contents_of}
use Rattle.gp_analyse.specs.Costs.{drawn_at}
use Rattle.gp_analyse.proofs.Entries.{remembers_more}
use Rattle.gp_analyse.proofs.known.Known.drawn.Goals as goal

pub returns-clause-known : goal.returns-clause-known
returns-clause-known g c = record {
  lists = remembers_more (drawn_at c.args.asset.now (contents_of (g.V.ViewBytes.views c.args.views.now))) c.args.self.now.lists c.put.new.self c.args.at c.in_ok-drawn.drawn c.requires.known.lists c.in_ok-drawn.ensures c.put.ensures;
  lines = c.requires.known.lines;
}
