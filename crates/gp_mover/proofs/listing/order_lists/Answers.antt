use Rattle.std.proofs.Common.{ℕ, List, get_or, arith}
use Rattle.gp_cache.specs.Tipsify.{better}
use Rattle.gp_mover.specs.Standing.{between}
use Rattle.gp_mover.proofs.Turns.{first_turn, last_turn}
use Rattle.gp_mover.proofs.ListTurns.{all_ends, begins_before, ends_inside, part_sound, part_few, turn_more}
use Rattle.gp_mover.proofs.listing.order_lists.Goals as goal

pub lists-init : goal.lists-init
lists-init c = first_turn (λ list. better list c.args.count) (between 0 c.args.ends.now c.args.joined.now) c.args.joined.now c.requires.joined.row

pub slice_bounds-better_order-count : goal.slice_bounds-better_order-count
slice_bounds-better_order-count c = begins_before c.args.count (between 0 c.args.ends.now c.args.joined.now) c.args.ends.now c.args.joined.now c.lists.joined c.lists.at c.lists.start c.requires.joined c.lists.invariant c.lists-test.true

pub slice_bounds-better_order-start : goal.slice_bounds-better_order-start
slice_bounds-better_order-start c = begins_before c.args.count (between 0 c.args.ends.now c.args.joined.now) c.args.ends.now c.args.joined.now c.lists.joined c.lists.at c.lists.start c.requires.joined c.lists.invariant c.lists-test.true

pub slice_bounds-better_order-end : goal.slice_bounds-better_order-end
slice_bounds-better_order-end c = ends_inside c.args.count (between 0 c.args.ends.now c.args.joined.now) c.args.ends.now c.args.joined.now c.lists.joined c.lists.at c.lists.start c.requires.joined c.lists.invariant c.lists-test.true

pub better_order-requires-clause-whole : goal.better_order-requires-clause-whole
better_order-requires-clause-whole c =
    (part_sound c.args.count (between 0 c.args.ends.now c.args.joined.now) c.args.ends.now c.args.joined.now c.lists.joined c.lists.at c.lists.start c.requires.joined c.lists.invariant c.lists-test.true).whole

pub better_order-requires-clause-few : goal.better_order-requires-clause-few
better_order-requires-clause-few c = part_few c.args.count (between 0 c.args.ends.now c.args.joined.now) c.args.ends.now c.args.joined.now c.lists.joined c.lists.at c.lists.start c.requires.joined c.lists.invariant c.lists-test.true

pub better_order-requires-clause-below : goal.better_order-requires-clause-below
better_order-requires-clause-below c =
    (part_sound c.args.count (between 0 c.args.ends.now c.args.joined.now) c.args.ends.now c.args.joined.now c.lists.joined c.lists.at c.lists.start c.requires.joined c.lists.invariant c.lists-test.true).below

pub lists-preserved : goal.lists-preserved
lists-preserved c =
    turn_more c.args.count (between 0 c.args.ends.now c.args.joined.now) c.args.ends.now c.args.joined.now c.lists.joined c.lists.at c.lists.start c.requires.joined c.lists.invariant c.lists-test.true
    c.better_order.new.list c.in_ok-better_order.ensures.list

pub returns : goal.returns
returns c =
    let lists = between 0 c.args.ends.now c.args.joined.now in
    last_turn (λ list. better list c.args.count) lists c.lists.at c.lists.joined c.lists.start c.lists.invariant (all_ends c.args.ends.now lists c.lists.at c.requires.joined.places c.lists-test.false)
