use Rattle.std.proofs.Common.{◌≡◌, ◌<◌, ◌^◌, take}
use Rattle.gp_layout.specs.Row.{row_length}
use Rattle.gp_layout.proofs.row.room.Given as goal

abbrev pub invariant-lengths : goal.invariant-lengths
invariant-lengths g l = row_length (take l.at (g.V.ViewBytes.views l.views)) < 2 ^ 64 → l.room ≡ row_length (take l.at (g.V.ViewBytes.views l.views))
