use Rattle.std.proofs.Common.{length, sym, ap, ◌∙◌}
use Rattle.gp_cache.proofs.Orders.{order_length}
use Rattle.gp_orders_c.proofs.triangles.gp_orders_c_tipsify.Goals as goal

-- the order has as many corners as the list
pub copy_from_slice-requires : goal.copy_from_slice-requires
copy_from_slice-requires c =
    let shape = c.has_shape.ensures.told.0 c.if-not-has_shape.false in
    let below = c.are_below.ensures.told.0 c.if-not-are_below.false in
    sym shape.3 ∙ sym (order_length c.args.list.now c.args.n below shape.0) ∙ sym (ap length (c.deref.ensures.value ∙ c.in-Ok.ensures))
