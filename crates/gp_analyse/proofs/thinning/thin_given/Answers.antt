use Rattle.std.proofs.Common.{◌≡◌, ◌<◌, ◌++◌, false, length, map, sym, ap, ◌∙◌, arith}
use Rattle.std.proofs.lemmas.List.{length-map}
use Rattle.gp_elements.specs.Elements.{number_of}
use Rattle.gp_alias.proofs.ElementNumbers.{number_at}
use Rattle.gp_analyse.specs.Costs.{thinned, zeros_kept}
use Rattle.gp_analyse.proofs.GivenNumbers.{next_more, given_more, given_all}
use Rattle.gp_analyse.proofs.GivenElements.{place_within}
use Rattle.gp_analyse.proofs.thinning.thin_given.Goals as goal

pub number-number-requires-clause-within : goal.number-number-requires-clause-within
number-number-requires-clause-within c =
    place_within c.args.elements.now c.args.places.now c.places.at c.number-place.result c.requires.given (omega (arith, c.len-at-end.ensures, c.places-test.true)) c.number-place.ensures

pub number-number-requires-clause-scalar : goal.number-number-requires-clause-scalar
number-number-requires-clause-scalar c =
    c.requires.numbers c.number-place.result
    (place_within c.args.elements.now c.args.places.now c.places.at c.number-place.result c.requires.given (omega (arith, c.len-at-end.ensures, c.places-test.true)) c.number-place.ensures)

pub places-preserved : goal.places-preserved
places-preserved c =
    let elements = c.args.elements.now in
    let places = c.args.places.now in
    let place = c.number-place.result in
    let inside : c.places.at < length places = omega (arith, c.len-at-end.ensures, c.places-test.true) in
    let within : place < length elements = place_within elements places c.places.at place c.requires.given inside c.number-place.ensures in
    let is = number_at places c.places.at place inside c.number-place.ensures in
    let long = length-map places number_of in
    record {
      next = next_more (map number_of places) c.places.at place is;
      within = omega (arith, within);
      kept = given_more (map number_of elements) (map number_of places) (thinned false (map number_of elements)) c.places.numbers.items c.push_zeros.new.numbers.items c.push_kept.new.numbers.items
          c.places.at c.places.next place c.number-number.result c.places.behind_zero c.is_behind_zero.result c.requires.given c.places.invariant.next (omega (arith, inside, long)) is
          (number_at elements place c.number-number.result within c.number-number.ensures) c.places.invariant.kept c.in_ok-push_zeros.ensures c.is_behind_zero.ensures c.in_ok-push_kept.ensures;
    }

pub returns : goal.returns
returns c =
    let elements = c.args.elements.now in
    let places = c.args.places.now in
    let long = length-map places number_of in
    let whole = length-map elements number_of in
    let end : c.places.at ≡ length (map number_of places) = omega (arith, long, c.len-at-end.ensures, c.places-test.false, c.places.auto.at-end) in
    given_all (map number_of elements) (map number_of places) (thinned false (map number_of elements)) c.places.numbers.items c.push_zeros-2.new.numbers.items c.places.at c.places.next c.places.behind_zero
    c.requires.given c.places.invariant.next end (omega (arith, c.places.invariant.within, whole)) c.places.invariant.kept
    (c.in_ok-push_zeros-2.ensures ∙ ap (λ n. c.places.numbers.items ++ zeros_kept c.places.behind_zero c.places.next n) (c.len.ensures ∙ sym whole))
