use Rattle.std.proofs.Common.{◌≡◌, sym, subst, arith}
use Rattle.std.proofs.lemmas.Grind.{common_steps}
use Rattle.gp_tree.specs.Plain.{plain}
use Rattle.gp_json.specs.Text.{text_of}
use Rattle.gp_json.specs.Spelling.{Spells}
use Rattle.gp_json.proofs.Compact.{compact_spells}
use Rattle.gp_json.proofs.printing.print.Goals as goal

pub returns-clause-spelled : goal.returns-clause-spelled
returns-clause-spelled c h =
    let t = plain c.args.tree.now in
    let e : c.put_tree.new.out.items ≡ text_of t = grind (arith, common_steps) in
    subst (λ s. Spells s t) (sym e) (compact_spells t h)
