use Rattle.std.proofs.Common.{◌<◌, Some, IsSome, length, map, refl, sym, ap, ◌∙◌, subst}
use Rattle.gp_tree.specs.declared.tree.Tree.TheViews.{out-Members}
use Rattle.gp_tree.specs.Plain.{plain, plain_member}
use Rattle.gp_tree.specs.Find.{value_of}
use Rattle.gp_tree.specs.First.{IsFirst}
use Rattle.gp_tree.proofs.Firsts.{value_first}
use Rattle.gp_tree.proofs.Edited.{members_values}
use Rattle.gp_tree.proofs.Lent.{put_made, puts_value}
use Rattle.gp_tree.proofs.tree.Members.find_mut.Goals as goal

pub known_place-at-requires : goal.known_place-at-requires
known_place-at-requires c =
    let some = subst IsSome (sym (members_values c.args.key.now c.args.self.now)) c.requires in
    subst (λ ys. IsSome (value_of c.args.key.now (map plain_member ys))) (sym c.deref.ensures.value) some

pub returns : goal.returns
returns c =
    let v = c.args.self.now in
    let name = c.args.key.now in
    let at = c.known_place-at.result in
    let xs = (out-Members v).items.items in
    let m = c.index_mut-member.result.now in
    let h = subst (λ ys. IsFirst name (map plain_member ys) at) c.deref.ensures.value c.known_place-at.ensures.first in
    let within : at < length xs = subst (λ ys. at < length ys) c.deref.ensures.value c.known_place-at.ensures.within in
    let is = c.index_mut-member.ensures.value in
    let e = sym (members_values name v) ∙ value_first name xs at m h ∙ ap (λ u. Some (plain u.value)) (sym is) in
    ((refl, λ w. put_made v name at m w h within is), (e, λ w. puts_value v name at w h))
