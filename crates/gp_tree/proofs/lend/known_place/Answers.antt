use Rattle.std.proofs.Common.{map}
use Rattle.gp_tree.specs.Plain.{plain_member}
use Rattle.gp_tree.proofs.Lent.{no_value}
use Rattle.gp_tree.proofs.lend.known_place.Goals as goal

pub unreachable-requires : goal.unreachable-requires
unreachable-requires c = no_value c.args.key.now (map plain_member c.args.members.now) c.in-None.ensures c.requires
