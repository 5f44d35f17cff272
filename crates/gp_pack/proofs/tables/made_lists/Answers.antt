use Rattle.gp_pack.specs.TableParts.{list_made}
use Rattle.gp_pack.proofs.FilledTables.{one_picked, all_picked, none_picked}
use Rattle.gp_pack.proofs.tables.made_lists.Goals as goal

pub groups-init : goal.groups-init
groups-init c = none_picked (list_made c.args.places.now) c.args.groups.now c.new-lists.result.items c.new-lists.ensures.items

pub groups-preserved : goal.groups-preserved
groups-preserved c =
    one_picked (list_made c.args.places.now) c.args.groups.now c.groups.at c.index-groups-at.result c.groups.lists.items c.push_list.new.lists.items
    c.groups.invariant c.groups-test.true c.index-groups-at.is c.in_ok-push_list.ensures

pub returns : goal.returns
returns c = all_picked (list_made c.args.places.now) c.args.groups.now c.groups.at c.groups.lists.items c.groups.invariant c.groups-test.false
