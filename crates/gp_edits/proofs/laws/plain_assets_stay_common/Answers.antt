use Rattle.gp_edits.proofs.CommonRoots.{with_buffer_common, without_buffers_common}
use Rattle.gp_edits.proofs.laws.plain_assets_stay_common.Goals as goal

pub returns : goal.returns
returns c = record { with_buffer = with_buffer_common; without = without_buffers_common }
