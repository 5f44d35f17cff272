use Rattle.std.proofs.Common.{◌≡◌, ◌<◌, ℕ, List, length, get_or, map, All, sym, ap, ◌∙◌, subst, arith}
use Rattle.std.proofs.lemmas.List.{length-map}
use Rattle.gp_cache.specs.Own.{Ranks}
use Rattle.gp_cache.specs.Tipsify.{tipsify}
use Rattle.gp_cache.proofs.Ranked.{own_order, order_within, written_over}
use Rattle.gp_cache.proofs.ordering.tipsify.Goals as goal

pub put_back-requires : goal.put_back-requires
put_back-requires c =
    let own = c.in_ok-own.own.items in
    let ranks = c.in_ok-ranks.ranks.items in
    let ranked : Ranks own c.args.list.now ranks = subst (λ xs. Ranks xs c.args.list.now ranks) c.deref.ensures.value c.in_ok-ranks.ensures in
    let many : c.len.result ≡ length own = omega (arith, c.len.ensures, c.in_ok-own.own.ok) in
    let order : c.deref_mut.result.now ≡ tipsify ranks (length own) = c.deref_mut.ensures.value ∙ c.in_ok-order.ensures ∙ ap (λ n. tipsify c.deref-2.result.now n) many ∙ ap (λ xs. tipsify xs (length own)) c.deref-2.ensures.value in
    subst (λ m. All (λ place. place < m) c.deref_mut.result.now) (sym (ap (λ (xs : List ℕ). length xs) c.deref-3.ensures.value))
    (subst (All (λ place. place < length own)) (sym order) (order_within ranks (length own) ranked.within))

pub returns : goal.returns
returns c =
    let list = c.args.list.now in
    let own = c.in_ok-own.own.items in
    let ranks = c.in_ok-ranks.ranks.items in
    let order = c.in_ok-order.order.items in
    let ranked : Ranks own list ranks = subst (λ xs. Ranks xs list ranks) c.deref.ensures.value c.in_ok-ranks.ensures in
    let many : c.len.result ≡ length own = omega (arith, c.len.ensures, c.in_ok-own.own.ok) in
    let is : order ≡ tipsify ranks (length own) = c.in_ok-order.ensures ∙ ap (λ n. tipsify c.deref-2.result.now n) many ∙ ap (λ xs. tipsify xs (length own)) c.deref-2.ensures.value in
    let back : c.put_back.new.order ≡ map (λ place. get_or own place 0) order =
    c.put_back.ensures ∙ ap (λ xs. map (λ place. get_or xs place 0) c.deref_mut.result.now) c.deref-3.ensures.value ∙ ap (map (λ place. get_or own place 0)) c.deref_mut.ensures.value in
    let long : length c.put_back.new.order ≡ length order = ap (λ (xs : List ℕ). length xs) back ∙ length-map order (λ place. get_or own place 0) in
    written_over c.put_back.new.order order c.in_ok-order.order.len long (omega (arith, c.in_ok-order.order.ok))
    ∙ own_order list own ranks order c.put_back.new.order c.args.n c.in_ok-own.ensures ranked c.requires.below (omega (arith, c.if-n-list.false)) is back
