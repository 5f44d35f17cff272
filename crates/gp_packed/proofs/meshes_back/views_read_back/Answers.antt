use Rattle.gp_packed.proofs.MadeViewsBack.{made_views_again}
use Rattle.gp_packed.proofs.OutputViewsBack.{views_again, output_counted, views_counted_apart}
use Rattle.gp_packed.proofs.meshes_back.views_read_back.Goals as goal

pub returns : goal.returns
returns c = record { made = made_views_again; placed = views_again; counted = output_counted; count = views_counted_apart }
