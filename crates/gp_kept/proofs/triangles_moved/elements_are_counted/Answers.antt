use Rattle.gp_kept.proofs.CountedElements.{elements_are_counted, corners_are_counted, records_are_counted}
use Rattle.gp_kept.proofs.triangles_moved.elements_are_counted.Goals as goal

pub returns : goal.returns
returns c = record { elements = elements_are_counted; corners = corners_are_counted; records = records_are_counted }
