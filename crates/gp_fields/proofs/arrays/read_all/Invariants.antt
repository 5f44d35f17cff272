use Rattle.std.proofs.Common.{◌≡◌, map, drop}
use Rattle.gp_tree.specs.Plain.{plain, plain_items, list}
use Rattle.gp_fields.specs.Shapes.{each, list_of}
use Rattle.gp_fields.proofs.Each.{behind}
use Rattle.gp_fields.proofs.arrays.read_all.Given as goal

abbrev pub invariant-turns : goal.invariant-turns
invariant-turns g l = list_of (g.S.ItemShape.shape l.shape) (list (plain_items l.items))
    ≡ behind l.read.items (each (g.S.ItemShape.shape l.shape) (map plain (drop l.at l.items)))
