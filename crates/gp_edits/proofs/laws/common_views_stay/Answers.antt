use Rattle.gp_edits.proofs.CommonViews.{placed_common, uncompressed_common}
use Rattle.gp_edits.proofs.laws.common_views_stay.Goals as goal

pub returns : goal.returns
returns c = record { placed = placed_common; plain = uncompressed_common }
