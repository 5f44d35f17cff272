use Rattle.std.proofs.Common.{◌≡◌, map, drop}
use Rattle.gp_tree.specs.Plain.{plain_member, plain_entries, members}
use Rattle.gp_fields.specs.Fields.{entries_of, entries_fields}
use Rattle.gp_fields.proofs.Each.{behind}
use Rattle.gp_fields.proofs.attribute_fields.read_members.Given as goal

abbrev pub invariant-entries : goal.invariant-entries
invariant-entries l = entries_fields l.fn.accessors (members (plain_entries l.items))
    ≡ behind l.read.items (entries_of l.fn.accessors (map plain_member (drop l.at l.items)))
