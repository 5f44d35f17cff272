use Rattle.std.proofs.Common.{◌≡◌, [], map, drop}
use Rattle.gp_tree.specs.Plain.{plain, plain_items, list}
use Rattle.gp_fields.specs.Shapes.{a_text}
use Rattle.gp_fields.specs.Record.{items_of_shape, fault_of}
use Rattle.gp_fields.proofs.Items.{from}
use Rattle.gp_fields.proofs.names.items_fault.Given as goal

abbrev pub invariant-items : goal.invariant-items
invariant-items l = fault_of (items_of_shape l.fn.member a_text (list (plain_items l.items))) ≡ fault_of (from l.fn.member a_text l.at [] (map plain (drop l.at l.items)))
