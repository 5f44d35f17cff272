use Rattle.std.proofs.Common.{sym, ◌∙◌, ap, ◌<◌, length, subst, List, ℕ, map}
use Rattle.std.specs.Prelude.{slice_get, IfSome}
use Rattle.std.specs.List.{list_all}
use Rattle.std.proofs.lemmas.Option.{slice_get_within}
use Rattle.gp_elements.specs.Elements.{IsNumber, number_of}
use Rattle.gp_elements.specs.Held.{contents_of}
use Rattle.gp_alias.specs.Movable.{is_vertex}
use Rattle.gp_alias.proofs.ElementNumbers.{scalars_are_numbers}
use Rattle.gp_alias.proofs.RecordsOf.{sound_of}
use Rattle.gp_alias.proofs.Resolved.{some_resolved, none_resolved}
use Rattle.gp_strips.proofs.OfVertices.{shape_of, other_shape, not_known, no_vertices, all_known}
use Rattle.gp_strips.proofs.vertices.vertices_in.Goals as goal

pub returns-then-not-has_index_shape : goal.returns-then-not-has_index_shape
returns-then-not-has_index_shape g c =
    other_shape c.args.asset.now (contents_of (g.V.ViewBytes.views c.args.views.now)) c.args.count c.args.accessor.now (sym c.has_index_shape.ensures ∙ c.if-not-has_index_shape.true)

pub resolve-requires-clause-within : goal.resolve-requires-clause-within
resolve-requires-clause-within g c = slice_get_within c.args.asset.now.accessors c.args.at c.args.accessor.now c.requires.there

pub returns-in_default : goal.returns-in_default
returns-in_default g c =
    let contents = contents_of (g.V.ViewBytes.views c.args.views.now) in
    let a = c.args.asset.now in
    not_known a contents c.args.count c.args.accessor.now (sym c.has_index_shape.ensures ∙ c.if-not-has_index_shape.false)
    (none_resolved a contents c.args.at c.args.accessor.now c.resolve.result c.requires.there c.resolve.ensures c.in_default.is)

pub numbers-requires : goal.numbers-requires
numbers-requires g c =
    let views = g.V.ViewBytes.views c.args.views.now in
    let a = c.args.asset.now in
    let acc = c.args.accessor.now in
    let shape = shape_of acc (sym c.has_index_shape.ensures ∙ c.if-not-has_index_shape.false) in
    subst (λ (items : List (List ℕ)). (i : ℕ) → i < length items → IfSome (slice_get items i) IsNumber)
    (sym (some_resolved a (contents_of views) c.args.at acc c.in-Some.elements c.resolve.result c.requires.there c.resolve.ensures c.in-Some.is).1)
    (scalars_are_numbers a views acc c.requires.views (sound_of a c.args.at acc c.requires.sound c.requires.there) shape.0 shape.1)

pub returns-then-not-are_vertices : goal.returns-then-not-are_vertices
returns-then-not-are_vertices g c =
    let contents = contents_of (g.V.ViewBytes.views c.args.views.now) in
    let a = c.args.asset.now in
    let acc = c.args.accessor.now in
    let found = some_resolved a contents c.args.at acc c.in-Some.elements c.resolve.result c.requires.there c.resolve.ensures c.in-Some.is in
    no_vertices a contents c.args.count acc c.in_ok-numbers.numbers.items c.greatest.result c.are_vertices.result (sym c.has_index_shape.ensures ∙ c.if-not-has_index_shape.false) found.0
    (c.in_ok-numbers.ensures ∙ ap (map number_of) found.1) c.greatest.ensures
    (c.are_vertices.ensures ∙ ap (list_all (is_vertex c.args.count c.greatest.result)) c.as_slice.ensures.value) c.if-not-are_vertices.true

pub returns : goal.returns
returns g c =
    let contents = contents_of (g.V.ViewBytes.views c.args.views.now) in
    let a = c.args.asset.now in
    let acc = c.args.accessor.now in
    let found = some_resolved a contents c.args.at acc c.in-Some.elements c.resolve.result c.requires.there c.resolve.ensures c.in-Some.is in
    all_known a contents c.args.count acc c.in_ok-numbers.numbers.items c.greatest.result c.are_vertices.result (sym c.has_index_shape.ensures ∙ c.if-not-has_index_shape.false) found.0
    (c.in_ok-numbers.ensures ∙ ap (map number_of) found.1) c.greatest.ensures
    (c.are_vertices.ensures ∙ ap (list_all (is_vertex c.args.count c.greatest.result)) c.as_slice.ensures.value) c.if-not-are_vertices.false
