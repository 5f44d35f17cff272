use Rattle.std.proofs.Common.{map, sym, ◌∙◌}
use Rattle.std.proofs.lemmas.List.{length-map}
use Rattle.gp_elements.specs.Elements.{number_of}
use Rattle.gp_analyse.proofs.GivenNumbers.{zeros_only}
use Rattle.gp_analyse.proofs.thinning.thin_zeros.Goals as goal

pub returns : goal.returns
returns c =
    zeros_only (map number_of c.args.elements.now) c.new-numbers.result.items c.push_zeros.new.numbers.items c.len.result c.requires c.new-numbers.ensures.items
    (c.len.ensures ∙ sym (length-map c.args.elements.now number_of)) c.in_ok-push_zeros.ensures
