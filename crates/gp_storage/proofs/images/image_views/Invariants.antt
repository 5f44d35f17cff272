use Rattle.std.proofs.Common.{◌≡◌}
use Rattle.gp_storage.proofs.Named.{so_far}
use Rattle.gp_storage.proofs.images.image_views.Given as goal

abbrev pub invariant-images : goal.invariant-images
invariant-images l = l.named.items ≡ so_far l.images l.at l.views
