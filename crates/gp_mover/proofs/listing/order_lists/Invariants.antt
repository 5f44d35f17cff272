-- The lists before this one are in better orders.
use Rattle.gp_cache.specs.Tipsify.{better}
use Rattle.gp_mover.specs.Standing.{between}
use Rattle.gp_mover.proofs.Turns.{Turn}
use Rattle.gp_mover.proofs.listing.order_lists.Given as goal

abbrev pub invariant-lists : goal.invariant-lists
invariant-lists l = Turn (λ list. better list l.count) (between 0 l.ends l.fn.joined) l.at l.joined l.start
