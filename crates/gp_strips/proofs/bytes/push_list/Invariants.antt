use Rattle.std.proofs.Common.{◌≡◌, ◌++◌, take}
use Rattle.gp_strips.specs.ListedDocument.{list_bytes}
use Rattle.gp_strips.proofs.bytes.push_list.Given as goal

abbrev pub invariant-corners : goal.invariant-corners
invariant-corners l = l.bytes.items ≡ l.fn.bytes.items ++ list_bytes (take l.at l.corners)
