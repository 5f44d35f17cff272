use Rattle.std.proofs.Common.{map, sym, ◌∙◌, ap}
use Rattle.std.specs.Prelude.{option_map}
use Rattle.gp_elements.specs.Elements.{number_of}
use Rattle.gp_elements.specs.Held.{contents_of}
use Rattle.gp_cache.specs.Misses.{lines}
use Rattle.gp_analyse.specs.declared.thinning.IndexList.{IndexList}
use Rattle.gp_analyse.specs.Costs.{corners_at}
use Rattle.gp_analyse.proofs.Thinned.{lines_counted, no_lines}
use Rattle.gp_analyse.proofs.drawing.count_lines.Goals as goal

pub returns-in_ok-numbers-in-Some : goal.returns-in_ok-numbers-in-Some
returns-in_ok-numbers-in-Some g c =
    let corners = corners_at c.args.asset.now (contents_of (g.V.ViewBytes.views c.args.views.now)) c.args.at in
    lines_counted corners (map number_of c.in-Some.list.elements) c.in_ok-numbers-in-Some.numbers.items c.args.stride c.lines.result c.requires.least c.requires.most
    (sym c.index_list.ensures.corners ∙ ap (option_map (λ (list : IndexList). map number_of list.elements)) c.in-Some.is) c.in_ok-numbers-in-Some.ensures
    (c.lines.ensures ∙ ap (λ xs. lines xs c.args.stride) c.as_slice.ensures.value)

pub returns-in-None : goal.returns-in-None
returns-in-None g c =
    no_lines (corners_at c.args.asset.now (contents_of (g.V.ViewBytes.views c.args.views.now)) c.args.at) c.args.stride
    (sym c.index_list.ensures.corners ∙ ap (option_map (λ (list : IndexList). map number_of list.elements)) c.in-None.is)
