use Rattle.std.specs.Prelude.{ℕ, List, ◌+◌, ◌/◌, ◌^◌, ◌<◌, ◌++◌, length, take, drop}
use Rattle.std.proofs.Common.{◌≡◌, ◌∙◌, ap, refl, arith, subst}
use Rattle.std.proofs.lemmas.List.{take_at, take_rest}
use Rattle.std.proofs.lemmas.List.Elements.{All-same}
use Rattle.gp_compare.specs.Joined.{record_of, Given}
use Rattle.gp_compare.proofs.Both.{places_below, as_many, numbers_both}
use Rattle.gp_compare.proofs.numbering.number_records.Goals as goal

pub number_places-count-requires-clause-few : goal.number_places-count-requires-clause-few
number_places-count-requires-clause-few c =
    let total : ℕ = length c.args.first.now / c.args.size + length c.args.second.now / c.args.size in
    let long = as_many total c.in_ok-places.places.items c.in_ok-places.ensures.moved in
    let same = ap length c.deref.ensures.value in
    omega (arith, long, same)

pub number_places-count-requires-clause-within : goal.number_places-count-requires-clause-within
number_places-count-requires-clause-within c = λ k d l.
    let total : ℕ = length c.args.first.now / c.args.size + length c.args.second.now / c.args.size in
    let below = places_below total c.in_ok-places.places.items c.in_ok-places.ensures.moved in
    let small = All-same (λ place. place < total) c.deref.result.now c.in_ok-places.places.items c.deref.ensures.value below k d l in
    omega (arith, small, c.deref_mut.ensures.len, c.in_ok-numbers.ensures.len)

pub returns : goal.returns
returns c =
    let size = c.args.size in
    let first = c.args.first.now in
    let second = c.args.second.now in
    let first_fits : length first < 2 ^ 64 = omega arith in
    let second_fits : length second < 2 ^ 64 = omega arith in
    let numbers = c.number_places-count.new.numbers in
    let count = c.number_places-count.result in
    let reads : ℕ → List ℕ = record_of size (length first / size) first second in
    let of_first : ℕ = length first / size in
    let rest : List ℕ = drop (length numbers) c.in_ok-numbers.numbers.items in
    let len : ℕ = c.in_ok-numbers.numbers.len in
    let long : length numbers ≡ len = omega (arith, c.number_places-count.auto.numbers, c.deref_mut.ensures.len) in
    let kept : take len (numbers ++ rest) ≡ numbers = take_at numbers rest len long in
    numbers_both size c.requires.size first second first_fits second_fits c.in_ok-places.places.items numbers count
    (omega (arith, c.number_places-count.auto.numbers, c.deref_mut.ensures.len, c.in_ok-numbers.ensures.len))
    c.in_ok-places.ensures.moved
    (subst (λ (ps : List ℕ). Given reads ps numbers count (length ps)) c.deref.ensures.value c.number_places-count.ensures)
    (record { first = c.from_vec.result; second = c.from_vec-2.result; count = count })
    (c.from_vec.ensures ∙ c.truncate.ensures.items ∙ ap (take of_first) kept)
    (c.from_vec-2.ensures ∙ c.in_ok-of_second.ensures.items ∙ take_rest c.deref-2.result.now of_first ∙ ap (drop of_first) (c.deref-2.ensures.value ∙ kept)) refl
