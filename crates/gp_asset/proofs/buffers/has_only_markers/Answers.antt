use Rattle.gp_asset.proofs.Held.{all_markers}
use Rattle.gp_asset.proofs.buffers.has_only_markers.Goals as goal

pub returns-in-Members : goal.returns-in-Members
returns-in-Members c = all_markers c.args.extensions.now c.in-Members.members c.as_slice.result.now c.are_markers.result c.in-Members.is c.as_slice.ensures c.are_markers.ensures
