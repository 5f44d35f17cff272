use Rattle.std.proofs.Common.{◌∙◌, arith}
use Rattle.gp_meshlets.proofs.Turns.{all_built}
use Rattle.gp_meshlets.proofs.building.build.Goals as goal

pub returns : goal.returns
returns c =
    let so_far = c.runs.invariant in
    c.from_vec.ensures ∙ all_built c.args.list.now c.runs.from c.runs.built.items c.requires (omega (arith, c.runs-test.false)) so_far.1
