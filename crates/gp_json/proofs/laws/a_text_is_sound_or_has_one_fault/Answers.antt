use Rattle.gp_json.proofs.Refusals.{fault_unique}
use Rattle.gp_json.proofs.Outcomes.{sound_no_fault, sound_or_fault}
use Rattle.gp_json.proofs.laws.a_text_is_sound_or_has_one_fault.Goals as goal

pub returns : goal.returns
returns c = record { one_fault = fault_unique; not_both = sound_no_fault; not_neither = sound_or_fault }
