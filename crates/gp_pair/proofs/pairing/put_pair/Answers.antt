use Rattle.std.proofs.Common.{option_map, subst, sym, ◌∙◌}
use Rattle.gp_json.specs.Spelling.{Spells}
use Rattle.gp_glb.specs.Container.{Container}
use Rattle.gp_pair.proofs.Puts.{puts_pair}
use Rattle.gp_pair.proofs.pairing.put_pair.Goals as goal

pub returns-clause-puts : goal.returns-clause-puts
returns-clause-puts g c = λ document holds.
    let parts : Container = record { json = holds.json; bin = document.bin; rest = document.rest } in
    let json = c.json_and_bin-parts.ensures.json parts holds.container in
    let bin = c.json_and_bin-parts.ensures.bin parts holds.container in
    let text = c.in-Ok.ensures document.tree (subst (λ s. Spells s document.tree) (sym json) holds.spelled) holds.sound in
    puts_pair c.args.stem.now _ (option_map (λ b. b.now) c.json_and_bin-parts.result.bin) document _ _ _ (c.deref.ensures.value ∙ text) bin c.put_files.ensures.puts
