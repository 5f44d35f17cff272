use Rattle.std.proofs.Common.{sym, ◌∙◌, ap, ◌<◌, length, subst, List, ℕ}
use Rattle.std.specs.Prelude.{slice_get, IfSome}
use Rattle.std.proofs.lemmas.Option.{slice_get_within}
use Rattle.gp_elements.specs.Elements.{IsNumber}
use Rattle.gp_elements.specs.Held.{contents_of}
use Rattle.gp_alias.specs.Plain.{are_below}
use Rattle.gp_alias.proofs.ElementNumbers.{are_numbers}
use Rattle.gp_alias.proofs.PlainLists.{other_shape, not_known, too_high, all_known, numbers_are}
use Rattle.gp_alias.proofs.RecordsOf.{sound_of}
use Rattle.gp_alias.proofs.Resolved.{some_resolved, none_resolved}
use Rattle.gp_alias.proofs.plain.list_in.Goals as goal

pub returns-then-not-has_corner_shape : goal.returns-then-not-has_corner_shape
returns-then-not-has_corner_shape g c =
    other_shape c.args.asset.now (contents_of (g.V.ViewBytes.views c.args.views.now)) c.args.vertices c.args.accessor.now (sym c.has_corner_shape.ensures ∙ c.if-not-has_corner_shape.true)

pub resolve-requires-clause-within : goal.resolve-requires-clause-within
resolve-requires-clause-within g c = slice_get_within c.args.asset.now.accessors c.args.at c.args.accessor.now c.requires.there

pub returns-in_default : goal.returns-in_default
returns-in_default g c =
    let contents = contents_of (g.V.ViewBytes.views c.args.views.now) in
    let a = c.args.asset.now in
    not_known a contents c.args.vertices c.args.accessor.now (sym c.has_corner_shape.ensures ∙ c.if-not-has_corner_shape.false)
    (none_resolved a contents c.args.at c.args.accessor.now c.resolve.result c.requires.there c.resolve.ensures c.in_default.is)

pub push_numbers-requires : goal.push_numbers-requires
push_numbers-requires g c =
    let views = g.V.ViewBytes.views c.args.views.now in
    let a = c.args.asset.now in
    let acc = c.args.accessor.now in
    subst (λ (items : List (List ℕ)). (i : ℕ) → i < length items → IfSome (slice_get items i) IsNumber)
    (sym (some_resolved a (contents_of views) c.args.at acc c.in-Some.elements c.resolve.result c.requires.there c.resolve.ensures c.in-Some.is).1)
    (are_numbers a views acc c.requires.views (sound_of a c.args.at acc c.requires.sound c.requires.there) (sym c.has_corner_shape.ensures ∙ c.if-not-has_corner_shape.false))

pub returns-then-not-are_below : goal.returns-then-not-are_below
returns-then-not-are_below g c =
    let contents = contents_of (g.V.ViewBytes.views c.args.views.now) in
    let a = c.args.asset.now in
    let acc = c.args.accessor.now in
    let found = some_resolved a contents c.args.at acc c.in-Some.elements c.resolve.result c.requires.there c.resolve.ensures c.in-Some.is in
    let numbers = numbers_are a contents c.args.vertices acc c.in_ok-numbers.numbers.items c.push_numbers.new.joined.items c.in-Some.elements c.in_ok-numbers.ensures.items c.in_ok-push_numbers.ensures found.1 in
    too_high a contents c.args.vertices acc c.push_numbers.new.joined.items c.are_below.result (sym c.has_corner_shape.ensures ∙ c.if-not-has_corner_shape.false) found.0 numbers
    (c.are_below.ensures ∙ ap (are_below c.args.vertices) c.as_slice.ensures.value) c.if-not-are_below.true

pub returns : goal.returns
returns g c =
    let contents = contents_of (g.V.ViewBytes.views c.args.views.now) in
    let a = c.args.asset.now in
    let acc = c.args.accessor.now in
    let found = some_resolved a contents c.args.at acc c.in-Some.elements c.resolve.result c.requires.there c.resolve.ensures c.in-Some.is in
    let numbers = numbers_are a contents c.args.vertices acc c.in_ok-numbers.numbers.items c.push_numbers.new.joined.items c.in-Some.elements c.in_ok-numbers.ensures.items c.in_ok-push_numbers.ensures found.1 in
    all_known a contents c.args.vertices acc c.push_numbers.new.joined.items c.are_below.result (sym c.has_corner_shape.ensures ∙ c.if-not-has_corner_shape.false) found.0 numbers
    (c.are_below.ensures ∙ ap (are_below c.args.vertices) c.as_slice.ensures.value) c.if-not-are_below.false
