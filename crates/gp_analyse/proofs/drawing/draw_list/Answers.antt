use Rattle.std.proofs.Common.{map, sym, ◌∙◌, ap}
use Rattle.std.proofs.lemmas.List.{length-map}
use Rattle.gp_elements.specs.Elements.{number_of}
use Rattle.gp_cache.specs.Misses.{misses}
use Rattle.gp_analyse.specs.Costs.{vertices_from}
use Rattle.gp_analyse.proofs.Thinned.{drawn_thinned}
use Rattle.gp_analyse.proofs.drawing.draw_list.Goals as goal

pub returns : goal.returns
returns g c =
    drawn_thinned (map number_of c.args.list.now.elements) c.in_ok-numbers.numbers.items c.len.result c.least_vertices.result c.misses.result c.in_ok-numbers.ensures
    (c.len.ensures ∙ sym (length-map c.args.list.now.elements number_of))
    (c.least_vertices.ensures ∙ ap (vertices_from 0) c.as_slice.ensures.value) (c.misses.ensures ∙ ap misses c.as_slice-2.ensures.value)
