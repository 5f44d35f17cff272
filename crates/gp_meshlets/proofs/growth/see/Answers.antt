use Rattle.std.proofs.Common.{◌≡◌, ◌<◌, ◌≤◌, ◌∙◌, eqb, length, ap, sym, subst, arith}
use Rattle.std.specs.List.{position_or_len}
use Rattle.gp_meshlets.specs.Places.{Finds}
use Rattle.gp_meshlets.proofs.Vertices.{seen_there, seen_new, not_there}
use Rattle.gp_meshlets.proofs.growth.see.Goals as goal

pub returns-then-place-len-clause-vertices : goal.returns-then-place-len-clause-vertices
returns-then-place-len-clause-vertices c =
    let place : c.find-place.result ≡ position_or_len (eqb c.args.vertex) c.args.vertices.now.items = c.find-place.ensures.place ∙ ap (position_or_len (eqb c.args.vertex)) c.deref.ensures.value in
    let within : position_or_len (eqb c.args.vertex) c.args.vertices.now.items < length c.args.vertices.now.items = omega arith in
    seen_there c.args.vertices.now.items c.args.vertex within

pub returns-clause-vertices : goal.returns-clause-vertices
returns-clause-vertices c =
    let place : c.find-place.result ≡ position_or_len (eqb c.args.vertex) c.args.vertices.now.items = c.find-place.ensures.place ∙ ap (position_or_len (eqb c.args.vertex)) c.deref.ensures.value in
    let past : length c.args.vertices.now.items ≤ position_or_len (eqb c.args.vertex) c.args.vertices.now.items = omega arith in
    c.in_ok-push.ensures.items ∙ seen_new c.args.vertices.now.items c.args.vertex past

pub returns-clause-finds : goal.returns-clause-finds
returns-clause-finds c =
    let items = c.args.vertices.now.items in
    let place : c.find-place.result ≡ position_or_len (eqb c.args.vertex) items = c.find-place.ensures.place ∙ ap (position_or_len (eqb c.args.vertex)) c.deref.ensures.value in
    let few : c.find-place.result ≤ length items = omega arith in
    let past : length items ≤ c.find-place.result = omega arith in
    subst (Finds c.note.new.self) (sym c.in_ok-push.ensures.items)
    (c.note.ensures items (let same : length items ≡ c.find-place.result = omega (arith, few, past) in same) (not_there items c.args.vertex (omega (arith, past, place))) c.requires.finds)
