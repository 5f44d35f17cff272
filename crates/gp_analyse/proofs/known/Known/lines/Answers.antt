use Rattle.std.proofs.Common.{◌+◌, ◌-◌, ◌*◌, ◌/◌, refl, sym, ◌∙◌}
use Rattle.gp_elements.specs.Held.{contents_of}
use Rattle.gp_analyse.specs.Costs.{lines_for}
use Rattle.gp_analyse.proofs.Entries.{remembers_more, place_of_lines}
use Rattle.gp_analyse.proofs.known.Known.lines.Goals as goal

pub returns-clause-known : goal.returns-clause-known
returns-clause-known g c =
    let a = c.args.asset.now in
    let contents = contents_of (g.V.ViewBytes.views c.args.views.now) in
    let place = c.args.at * 16 + (c.args.stride / 4 - 1) in
    record {
      lists = c.requires.known.lists;
      lines = remembers_more (lines_for a contents) c.args.self.now.lines c.put.new.self place c.in_ok-count.count c.requires.known.lines
          (c.in_ok-count.ensures ∙ sym (place_of_lines a contents c.args.at c.args.stride place c.requires.stride refl)) c.put.ensures;
    }
