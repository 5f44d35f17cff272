use Rattle.gp_tree.proofs.Kept.{find_removed}
use Rattle.std.specs.Prelude.{codes}
use Rattle.gp_edits.proofs.NamesBack.{used_again, required_again, named_other}
use Rattle.gp_edits.proofs.reading_back.names_read_back.Goals as goal

pub returns : goal.returns
returns c = record {
  read = λ t keys used required. (
    used_again t (record { gone = find_removed (codes "extensionsUsed") t keys }) used,
    required_again t (record { gone = find_removed (codes "extensionsRequired") t keys }) required,
  );
  others = named_other;
}
