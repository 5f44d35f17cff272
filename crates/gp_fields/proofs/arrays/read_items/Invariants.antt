use Rattle.std.proofs.Common.{◌≡◌, map, drop}
use Rattle.gp_tree.specs.Plain.{plain, plain_items, list}
use Rattle.gp_fields.specs.Record.{items_of_shape}
use Rattle.gp_fields.proofs.Items.{from}
use Rattle.gp_fields.proofs.arrays.read_items.Given as goal

abbrev pub invariant-turns : goal.invariant-turns
invariant-turns g l = items_of_shape l.fn.member (g.S.ItemShape.shape l.shape) (list (plain_items l.items))
    ≡ from l.fn.member (g.S.ItemShape.shape l.shape) l.at l.read.items (map plain (drop l.at l.items))
