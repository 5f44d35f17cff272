use Rattle.std.proofs.Common.{◌≡◌, ◌<◌, ◌+◌, ◌^◌, take}
use Rattle.gp_alias.specs.Rooms.{lengths, bare_corners}
use Rattle.gp_alias.proofs.listing.corners_room.Given as goal

abbrev pub invariant-lists : goal.invariant-lists
invariant-lists l = lengths (take l.at l.lists) + bare_corners l.group < 2 ^ 64 → l.room ≡ lengths (take l.at l.lists) + bare_corners l.group
