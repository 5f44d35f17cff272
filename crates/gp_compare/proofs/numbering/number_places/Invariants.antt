use Rattle.gp_compare.specs.Joined.{record_of, Given}
use Rattle.gp_compare.proofs.numbering.number_places.Given as goal

abbrev pub invariant-places : goal.invariant-places
invariant-places l = Given (record_of l.rows.size l.rows.of_first l.rows.first.now l.rows.second.now) l.places l.numbers l.count l.at
