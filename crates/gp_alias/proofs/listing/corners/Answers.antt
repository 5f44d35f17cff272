use Rattle.std.proofs.Common.{ap, ◌∙◌, ◌≡◌, sym, subst, List, ℕ, map, length, arith}
use Rattle.std.specs.List.{All, concat}
use Rattle.std.specs.List.{filter_map}
use Rattle.gp_elements.specs.Elements.{resolved_at}
use Rattle.gp_elements.specs.Held.{contents_of}
use Rattle.gp_alias.specs.Movable.{items_of}
use Rattle.gp_alias.specs.Records.{AreNumbers, accessors_at, ends_from}
use Rattle.gp_alias.proofs.RecordsOf.{are_all_numbers, lists_resolved, first_joined, first_ends, bare_joined, bare_ends, other_lists}
use Rattle.gp_alias.proofs.listing.corners.Goals as goal
use Rattle.gp_alias.proofs.listing.corners.Goals.{then-group+in_ok-push_vertices+in_ok-number_of+in_ok-push, else-group}

pub push_lists-requires : goal.push_lists-requires
push_lists-requires g c =
    let views = g.V.ViewBytes.views c.args.views.now in
    let a = c.args.asset.now in
    subst (All AreNumbers) (sym (c.as_slice-3.ensures.value ∙ c.in_ok-all.ensures ∙ ap (filter_map (resolved_at a (contents_of views))) c.as_slice.ensures ∙ lists_resolved a (contents_of views) c.args.group.now c.requires.movable)) (are_all_numbers a views c.args.group.now c.requires.views c.requires.sound c.requires.movable)

pub returns-clause-joined : goal.returns-clause-joined
returns-clause-joined g c =
    let contents = contents_of (g.V.ViewBytes.views c.args.views.now) in
    let a = c.args.asset.now in
    let group = c.args.group.now in
    let found : c.as_slice-3.result.now ≡ map (items_of a contents) (accessors_at a group.lists) = c.as_slice-3.ensures.value ∙ c.in_ok-all.ensures ∙ ap (filter_map (resolved_at a contents)) c.as_slice.ensures ∙ lists_resolved a contents group c.requires.movable in
    let joined = first_joined c.in_ok-joined.joined.items c.push_lists.new.joined.items c.as_slice-3.result.now (map (items_of a contents) (accessors_at a group.lists)) c.in_ok-joined.ensures.items found c.in_ok-push_lists.ensures.joined in
    c.from_vec.ensures ∙ elim c.if-group.branch [
      | then-group+in_ok-push_vertices+in_ok-number_of+in_ok-push w ↦ ap (λ v. v.items) w.joined-is ∙ bare_joined a contents group c.push_lists.new.joined.items w.push_vertices.new.joined.items w.if-group.true joined w.in_ok-push_vertices.ensures
      | else-group w ↦ ap (λ v. v.items) w.joined-is ∙ joined ∙ ap (λ (ls : List (List ℕ)). concat ls) (sym (other_lists a contents group w.if-group.false))
    ]

pub returns-clause-ends : goal.returns-clause-ends
returns-clause-ends g c =
    let contents = contents_of (g.V.ViewBytes.views c.args.views.now) in
    let a = c.args.asset.now in
    let group = c.args.group.now in
    let found : c.as_slice-3.result.now ≡ map (items_of a contents) (accessors_at a group.lists) = c.as_slice-3.ensures.value ∙ c.in_ok-all.ensures ∙ ap (filter_map (resolved_at a contents)) c.as_slice.ensures ∙ lists_resolved a contents group c.requires.movable in
    let joined = first_joined c.in_ok-joined.joined.items c.push_lists.new.joined.items c.as_slice-3.result.now (map (items_of a contents) (accessors_at a group.lists)) c.in_ok-joined.ensures.items found c.in_ok-push_lists.ensures.joined in
    let ends = first_ends c.in_ok-ends.ends.items c.push_lists.new.ends.items c.in_ok-joined.joined.items c.as_slice-3.result.now (map (items_of a contents) (accessors_at a group.lists)) c.in_ok-ends.ensures.items c.in_ok-joined.ensures.items found c.in_ok-push_lists.ensures.ends in
    c.from_vec-2.ensures ∙ elim c.if-group.branch [
      | then-group+in_ok-push_vertices+in_ok-number_of+in_ok-push w ↦
          let whole = bare_joined a contents group c.push_lists.new.joined.items w.push_vertices.new.joined.items w.if-group.true joined w.in_ok-push_vertices.ensures in
          let count : w.in_ok-number_of.field-0 ≡ length w.push_vertices.new.joined.items = omega (arith, w.in_ok-number_of.ensures.ok, w.len-then-group.ensures, w.push_vertices.new.joined.ok) in
          ap (λ v. v.items) w.ends-is ∙ bare_ends a contents group w.push_vertices.new.joined.items c.push_lists.new.ends.items w.push.new.self.items w.in_ok-number_of.field-0 w.if-group.true whole count ends w.in_ok-push.ensures.items
      | else-group w ↦ ap (λ v. v.items) w.ends-is ∙ ends ∙ ap (ends_from 0) (sym (other_lists a contents group w.if-group.false))
    ]
