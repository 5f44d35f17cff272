use Rattle.gp_pack.specs.TableParts.{list_made}
use Rattle.gp_pack.proofs.FilledTables.{ArePicked}
use Rattle.gp_pack.proofs.tables.made_lists.Given as goal

abbrev pub invariant-groups : goal.invariant-groups
invariant-groups l = ArePicked (list_made l.places) l.groups l.lists.items l.at
