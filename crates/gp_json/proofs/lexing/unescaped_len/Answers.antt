use Rattle.std.proofs.Common.{◌≡◌, take, subst, length-drop, arith}
use Rattle.gp_tree.specs.Lexical.{Each, IsUnescaped}
use Rattle.gp_json.proofs.Runs.{runs_more}
use Rattle.gp_json.proofs.Strings.{rest_is}
use Rattle.gp_json.proofs.lexing.unescaped_len.Goals as goal

pub returns-clause-within : goal.returns-clause-within
returns-clause-within c =
    let xs = c.args.text.now in
    let near = c.min-near.result in
    let u = rw (rest_is near xs) at c.blocks_len.ensures in
    omega (arith, u.within, length-drop near xs, c.min-near.ensures)

pub returns-clause-unescaped : goal.returns-clause-unescaped
returns-clause-unescaped c =
    let xs = c.args.text.now in
    let near = c.min-near.result in
    let u = rw (rest_is near xs) at c.blocks_len.ensures in
    let all : c.loop-i.i ≡ near = omega arith in
    runs_more IsUnescaped xs near c.blocks_len.result (subst (λ n. Each IsUnescaped (take n xs)) all c.loop-i.invariant) u.unescaped
