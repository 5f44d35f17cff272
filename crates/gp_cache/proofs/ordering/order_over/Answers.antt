use Rattle.std.proofs.Common.{length, sym, ◌∙◌}
use Rattle.std.proofs.lemmas.Bool.{eqb-true}
use Rattle.gp_cache.proofs.Orders.{empty_order}
use Rattle.gp_cache.proofs.ordering.order_over.Goals as goal

pub returns-then-is_empty : goal.returns-then-is_empty
returns-then-is_empty c =
    empty_order c.args.list.now c.new.result.items c.args.n (eqb-true (length c.args.list.now) 0 (sym c.is_empty.ensures ∙ c.if-is_empty.true)) c.new.ensures.items
