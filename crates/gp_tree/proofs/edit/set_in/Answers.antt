use Rattle.std.proofs.Common.{◌≡◌, map, ap, subst, arith}
use Rattle.std.proofs.lemmas.Grind.{common_steps}
use Rattle.gp_tree.specs.Plain.{plain_member}
use Rattle.gp_tree.specs.First.{HasNo, IsFirst}
use Rattle.gp_tree.proofs.Edited.{set_there, set_new}
use Rattle.gp_tree.proofs.edit.set_in.Goals as goal

pub returns-in-Some-clause-set : goal.returns-in-Some-clause-set
returns-in-Some-clause-set c =
    let at = c.in-Some.at in
    let first = subst (λ ys. IsFirst c.args.key.now (map plain_member ys) at) c.deref.ensures.value c.in-Some.ensures.1 in
    set_there c.args.key.now c.args.members.now.items at c.index_mut.result.now c.index_mut.result.now.key c.args.value first (ap (λ m. m.key) c.index_mut.ensures.value)

pub returns-clause-set : goal.returns-clause-set
returns-clause-set c =
    let xs = c.args.members.now.items in
    let none = subst (λ ys. HasNo c.args.key.now (map plain_member ys)) c.deref.ensures.value c.in_default.ensures in
    let key = c.in_ok-key.key in
    let e : key ≡ c.args.key.now = grind (arith, common_steps) in
    let new = set_new c.args.key.now xs key c.args.value none e in
    grind (arith, common_steps, new)
