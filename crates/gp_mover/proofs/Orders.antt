-- The better order only brings triangles into another order.
use Rattle.std.specs.Prelude.{◌≡◌, ℕ, List, length, count_by, nat_eq, All}
use Rattle.std.proofs.Common.{refl, sym, ap, ◌∙◌}
use Rattle.gp_cache.specs.Triangles.{Corners, same_corners, triples as triples_of_orders}
use Rattle.gp_cache.specs.Tipsify.{better}
use Rattle.gp_cache.proofs.Orders.{better_triangles, better_length}
use Rattle.gp_moving.specs.Triangles.{IsTriangleList, IsReordered, same_triangle, triples}
use Rattle.gp_moving.specs.Kept.{AreChosen}
use Rattle.gp_moving.specs.Ordered.{chosen_by}
use Rattle.gp_moving.proofs.Stored.{chosen_orders, order_by_counts}
use Rattle.gp_mover.proofs.SameWords.{same_triples}

pub better_reorders : (list : List ℕ) (m : ℕ) → IsTriangleList m list → IsReordered list (better list m)
better_reorders list m sound =
    order_by_counts list (better list m) (better_length list m sound.below sound.whole)
    (λ t. ap (λ (ts : List Corners). count_by (same_triangle nat_eq t) ts) (sym (same_triples list))
    ∙ sym (better_triangles list m sound.below t)
    ∙ ap (λ (ts : List Corners). count_by (same_triangle nat_eq t) ts) (same_triples (better list m)))

pub better_chosen : (records lists : List (List ℕ)) → All (IsTriangleList (length records)) lists → AreChosen records lists (chosen_by better records lists)
better_chosen records lists sound = chosen_orders better better_reorders records lists sound
