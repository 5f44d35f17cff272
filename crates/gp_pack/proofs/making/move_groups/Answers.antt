use Rattle.gp_pack.specs.Making.{kept}
use Rattle.gp_pack.proofs.MadeGroups.{movable_next, next_moved}
use Rattle.gp_pack.proofs.making.move_groups.Goals as goal

pub append_movable-requires : goal.append_movable-requires
append_movable-requires c =
    movable_next c.args.asset.now c.args.groups.items c.groups.groups.items c.groups.at (kept c.groups.made) c.take_group-group.result c.groups.invariant c.take_group-group.ensures.taken

pub groups-preserved : goal.groups-preserved
groups-preserved c =
    next_moved c.args.asset.now c.args.groups.items c.groups.groups.items _ c.groups.at (kept c.groups.made) (kept c.append_movable.new.self) c.take_group-group.result
    c.groups.invariant c.take_group-group.ensures.taken c.take_group-group.ensures.rest c.take_group-group.ensures.long c.in_ok-append_movable.ensures
