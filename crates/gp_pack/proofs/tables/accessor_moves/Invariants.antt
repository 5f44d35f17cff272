use Rattle.gp_pack.specs.TableParts.{move_of}
use Rattle.gp_pack.proofs.FilledTables.{AreFilled}
use Rattle.gp_pack.proofs.tables.accessor_moves.Given as goal

abbrev pub invariant-accessors : goal.invariant-accessors
invariant-accessors l = AreFilled (move_of l.groups l.places) l.count l.moves.items l.at
