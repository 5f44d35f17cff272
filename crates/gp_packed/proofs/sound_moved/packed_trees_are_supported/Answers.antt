use Rattle.gp_packed.proofs.NamedMoved.{unstored_no_more, packed_one, packed_supported}
use Rattle.gp_packed.proofs.sound_moved.packed_trees_are_supported.Goals as goal

pub returns : goal.returns
returns c = record { unstored = unstored_no_more; packed = packed_one; supported = packed_supported }
