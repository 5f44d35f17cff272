use Rattle.gp_kept.proofs.RulesMoved.{load_last}
use Rattle.gp_kept.proofs.PackedAsset.{asset_load_last}
use Rattle.gp_kept.proofs.rules_moved.load_is_last.Goals as goal

pub returns : goal.returns
returns c = record { rules = load_last; asset = asset_load_last }
