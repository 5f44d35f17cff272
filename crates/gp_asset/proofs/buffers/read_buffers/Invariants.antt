use Rattle.std.proofs.Common.{◌≡◌, map, drop, option_map}
use Rattle.gp_rules.specs.Checks.{each}
use Rattle.gp_asset.specs.Buffers.{buffer_of}
use Rattle.gp_asset.specs.Stored.{bytes_in}
use Rattle.gp_rules.proofs.Each.{behind}
use Rattle.gp_asset.proofs.buffers.read_buffers.Given as goal

abbrev pub invariant-buffers : goal.invariant-buffers
invariant-buffers l = each (buffer_of l.views (option_map (λ b. b.now) l.bin)) 0 l.buffers
    ≡ behind (map bytes_in l.read.items) (each (buffer_of l.views (option_map (λ b. b.now) l.bin)) l.at (drop l.at l.buffers))
