use Rattle.gp_pack.proofs.FoundPlaces.{found_places}
use Rattle.gp_pack.proofs.table_laws.made_places_are_found.Goals as goal

pub returns : goal.returns
returns c = found_places
