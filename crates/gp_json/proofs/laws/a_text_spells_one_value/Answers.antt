use Rattle.gp_json.proofs.Unique.{spells_unique}
use Rattle.gp_json.proofs.Spelled.{spelled}
use Rattle.gp_json.proofs.Compact.{compact_spells}
use Rattle.gp_json.proofs.laws.a_text_spells_one_value.Goals as goal

pub returns : goal.returns
returns c = record { one = spells_unique; well = spelled; compact = compact_spells }
