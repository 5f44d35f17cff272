use Rattle.std.proofs.Common.{map, sym, ap, ◌∙◌, subst}
use Rattle.gp_tree.specs.Plain.{plain_member}
use Rattle.gp_tree.specs.First.{HasNo, IsFirst}
use Rattle.gp_tree.proofs.Edited.{remove_there, remove_none, found_there, found_none}
use Rattle.gp_tree.proofs.edit.remove_in.Goals as goal

pub returns-in_default-clause-found : goal.returns-in_default-clause-found
returns-in_default-clause-found c =
    let none = subst (λ ys. HasNo c.args.key.now (map plain_member ys)) c.deref.ensures.value c.in_default.ensures in
    found_none c.args.key.now (map plain_member c.args.members.now.items) none

pub returns-in_default-clause-removed : goal.returns-in_default-clause-removed
returns-in_default-clause-removed c =
    let none = subst (λ ys. HasNo c.args.key.now (map plain_member ys)) c.deref.ensures.value c.in_default.ensures in
    sym (remove_none c.args.key.now (map plain_member c.args.members.now.items) none)

pub returns-clause-found : goal.returns-clause-found
returns-clause-found c =
    let first = subst (λ ys. IsFirst c.args.key.now (map plain_member ys) c.in-Some.at) c.deref.ensures.value c.in-Some.ensures.1 in
    found_there c.args.key.now c.args.members.now.items c.in-Some.at c.remove.result first

pub returns-clause-removed : goal.returns-clause-removed
returns-clause-removed c =
    let first = subst (λ ys. IsFirst c.args.key.now (map plain_member ys) c.in-Some.at) c.deref.ensures.value c.in-Some.ensures.1 in
    ap (map plain_member) c.remove.ensures.by_index.2 ∙ remove_there c.args.key.now c.args.members.now.items c.in-Some.at first
