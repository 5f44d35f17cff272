use Rattle.std.proofs.Common.{◌≡◌, ◌≤◌, ◌++◌, false, length, map, drop}
use Rattle.gp_elements.specs.Elements.{number_of}
use Rattle.gp_analyse.specs.Costs.{thinned, IsNext}
use Rattle.gp_analyse.proofs.thinning.thin_given.Given as goal

abbrev pub invariant-places : goal.invariant-places
invariant-places l = record {
  next : IsNext (map number_of l.places) l.at l.next;
  within : l.next ≤ length l.elements;
  kept : thinned false (map number_of l.elements) ≡ l.numbers.items ++ thinned l.behind_zero (drop l.next (map number_of l.elements));
}
