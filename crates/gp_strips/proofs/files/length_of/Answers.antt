use Rattle.std.proofs.Common.{sym, ap, ◌∙◌}
use Rattle.std.specs.Prelude.{option_map}
use Rattle.gp_strips.proofs.Finishing.{some_size, no_size}
use Rattle.gp_strips.proofs.files.length_of.Goals as goal

pub returns-in-Some : goal.returns-in-Some
returns-in-Some c contents is = some_size contents c.in-Some.buffer.now (sym (ap (option_map (λ b. b.now)) c.in-Some.is) ∙ is)

pub returns-in-None : goal.returns-in-None
returns-in-None c contents is = no_size contents (sym (ap (option_map (λ b. b.now)) c.in-None.is) ∙ is)
