-- The elements of an accessor without a view: zeros but where a `sparse` gives values.
use Rattle.std.proofs.Common.{◌≡◌, ℕ, zero, suc, ◌+◌, ◌-◌, ◌*◌, ◌<◌, ◌≤◌, ◌==◌, Bool, true, false, List, [], length, map, replicate, get_or, Option, Some, None, refl, sym, ap, ◌∙◌, subst, arith, eqb-true}
use Rattle.std.specs.Prelude.{slice_get, IfSome, All, option_map, is_some}
use Rattle.std.proofs.lemmas.List.{get_or-map, length-map}
use Rattle.std.proofs.lemmas.List.Quantifiers.{position-Some}
use Rattle.std.proofs.lemmas.Option.{slice_get-get_or, get_or_from_slice_get}
use Rattle.gp_rules.specs.declared.accessing.Accessor.{Accessor}
use Rattle.gp_rules.specs.declared.accessing.Sparse.{Sparse}
use Rattle.gp_rules.specs.declared.accessing.Shape.TheVariants.{Scalar}
use Rattle.gp_rules.specs.Sizes.{component_size}
use Rattle.gp_rules.specs.Accessors.{size_of}
use Rattle.gp_asset.specs.Asset.{AssetParts}
use Rattle.gp_asset.specs.Contents.{bytes_at}
use Rattle.gp_elements.specs.Listed.{slices}
use Rattle.gp_elements.specs.Held.{HasEvery, contents_of, IsSound}
use Rattle.gp_elements.specs.Elements.{number_of, IsNumber, last_end, base_elements, tight, zero_elements, indices_in, values_in, items_in, with_sparse}
use Rattle.gp_elements.specs.Resolving.{is_resolvable, place_of, element_by, resolved}
use Rattle.gp_elements.proofs.Items.{length-zero_elements, slice_get-zero_elements, numbers_in_tight}
use Rattle.gp_elements.proofs.Reading.{number_size, index_room, same_indices}
use Rattle.gp_elements.proofs.Places.{earlier_below, rising_of, below_count, length-resolved, resolved_item}
use Rattle.gp_alias.specs.Movable.{numbers_of, is_resolvable_by, has_resolved}
use Rattle.gp_alias.specs.Records.{AreNumbers}
use Rattle.gp_alias.proofs.ElementNumbers.{number_at}
use Rattle.gp_analyse.specs.declared.thinning.IndexList.{IndexList}
use Rattle.gp_analyse.specs.Costs.{IsIndexList, AreGiven, places_in}

-- ---- zeros

number_of_zeros : (n : ℕ) → number_of (replicate n 0) ≡ 0
number_of_zeros zero = refl
number_of_zeros (suc n) = let rest = number_of_zeros n in omega (arith, rest)

zero_element : (acc : Accessor) (i : ℕ) → i < acc.count → number_of (get_or (zero_elements acc) i []) ≡ 0
zero_element acc i below =
    ap number_of (get_or_from_slice_get (zero_elements acc) i (replicate (size_of acc) 0) [] (slice_get-zero_elements acc i below)) ∙ number_of_zeros (size_of acc)

-- ---- places that no index has

no_place : (indices : List ℕ) (i : ℕ) (place : Option ℕ) → place_of indices i ≡ place → ((k : ℕ) → k < length indices → get_or indices k 0 ≡ i → ⊥) → place ≡ None
no_place indices i None is nowhere = refl
no_place indices i (Some k) is nowhere =
    let found = position-Some (λ index. index == i) indices k 0 is in
    absurd (nowhere k found.0 (eqb-true (get_or indices k 0) i found.1))

module _ (acc : Accessor) where
  without_sparse : AreGiven (map number_of (zero_elements acc)) []
  without_sparse = record {
    rise = λ k within. absurd (omega (arith, within));
    within = λ k within. absurd (omega (arith, within));
    zeros = λ i within nowhere.
        let long = length-map (zero_elements acc) number_of in
        let count = length-zero_elements acc in
        get_or-map number_of (zero_elements acc) i [] 0 (omega (arith, within, long)) ∙ zero_element acc i (omega (arith, within, long, count));
  }

  with_values : (indices : List ℕ) (values : List (List ℕ)) → is_resolvable acc.count indices ≡ true → AreGiven (map number_of (resolved (zero_elements acc) indices values)) indices
  with_values indices values resolvable =
      let base = zero_elements acc in
      let items = resolved base indices values in
      let long = length-map items number_of in
      let whole = length-resolved base indices values in
      let count = length-zero_elements acc in
      record {
        rise = λ k within. earlier_below indices k (k + 1) (rising_of acc.count indices resolvable) (omega arith) within;
        within = λ k within. let below = below_count acc.count indices k resolvable within in omega (arith, below, long, whole, count);
        zeros = λ i within nowhere.
            let inside : i < length base = omega (arith, within, long, whole) in
            let item = get_or_from_slice_get items i (element_by base values i (place_of indices i)) [] (resolved_item base indices values i inside) in
            get_or-map number_of items i [] 0 (omega (arith, within, long))
            ∙ ap number_of (item ∙ ap (element_by base values i) (no_place indices i (place_of indices i) refl nowhere))
            ∙ zero_element acc i (omega (arith, inside, count));
      }

-- ---- of an accessor

by_sparse : (contents : List (List ℕ)) (acc : Accessor) (sparse : Option Sparse) → is_resolvable_by contents acc sparse ≡ true
    → AreGiven (map number_of (with_sparse (zero_elements acc) contents acc sparse).items) (places_in contents sparse)
by_sparse contents acc None resolvable = without_sparse acc
by_sparse contents acc (Some s) resolvable = rw resolvable (with_values acc (indices_in contents s) (values_in contents acc s) resolvable)

are_given : (a : AssetParts) (contents : List (List ℕ)) (acc : Accessor) → acc.view ≡ None → has_resolved contents acc ≡ true → AreGiven (numbers_of a contents acc) (places_in contents acc.sparse)
are_given a contents acc none resolvable =
    let base : items_in a.views contents acc acc.view ≡ zero_elements acc = ap (items_in a.views contents acc) none in
    subst (λ (items : List (List ℕ)). AreGiven (map number_of (with_sparse items contents acc acc.sparse).items) (places_in contents acc.sparse)) (sym base) (by_sparse contents acc acc.sparse resolvable)

pub list_is_given : (a : AssetParts) (contents : List (List ℕ)) (list : IndexList) (sparse : Option Sparse) (places : List ℕ) → IsIndexList a contents list → list.accessor.view ≡ None → list.accessor.sparse ≡ sparse → places ≡ places_in contents sparse
    → AreGiven (map number_of list.elements) places
list_is_given a contents list sparse places is none has same =
    let given = are_given a contents list.accessor none is.resolved in
    let numbers : numbers_of a contents list.accessor ≡ map number_of list.elements = ap (map number_of) (sym is.elements) in
    let all : places_in contents list.accessor.sparse ≡ places = ap (places_in contents) has ∙ sym same in
    subst (λ ns. AreGiven ns places) numbers (subst (AreGiven (numbers_of a contents list.accessor)) all given)

-- an element at a place is there
pub place_within : (elements places : List (List ℕ)) (at place : ℕ) → AreGiven (map number_of elements) (map number_of places) → at < length places → option_map number_of (slice_get places at) ≡ Some place → place < length elements
place_within elements places at place given within is =
    let long = length-map places number_of in
    let whole = length-map elements number_of in
    let below = given.within at (omega (arith, within, long)) in
    let here = number_at places at place within is in
    omega (arith, below, here, whole)

pub none_from : {A : Type 0} (o : Option A) (b : Bool) → b ≡ is_some o → b ≡ false → o ≡ None
none_from None b is fails = refl
none_from (Some x) b is fails = absurd (let e : true ≡ false = sym is ∙ fails in cc)

-- ---- the places, as elements of an accessor

abbrev pub accessor_of_places : Sparse → Accessor
accessor_of_places s = record { view = Some s.index_view; offset = s.index_offset; component = s.index_component; shape = Scalar; count = s.count; sparse = None }

are_tight : (bytes : List ℕ) (s : Sparse) → base_elements bytes (accessor_of_places s) None ≡ tight bytes s.index_offset (component_size s.index_component) s.count
unfolding base_elements slices
are_tight bytes s = refl

last_and_one : (count size : ℕ) → 0 < count → (count - 1) * size + size ≡ count * size
last_and_one zero size some = absurd (omega (arith, some))
last_and_one (suc n) size some =
    let less : suc n - 1 ≡ n = omega arith in
    let more : suc n ≡ n + 1 = omega arith in
    rw (less, more) (omega arith)

module _ (a : AssetParts) (held : List (Option (List ℕ))) (acc : Accessor) (s : Sparse) (bytes : List ℕ) (every : HasEvery a.views held) (sound : IsSound a.views acc) (has : acc.sparse ≡ Some s) (found : bytes_at held s.index_view ≡ Some bytes) where
  room : s.index_offset + s.count * component_size s.index_component ≤ length bytes
  room = index_room a.views held acc s bytes (component_size s.index_component) every sound has found refl

  pub places_end : 0 < s.count → last_end (accessor_of_places s) None ≤ length bytes
  places_end some =
      let fits = room in
      let one = last_and_one s.count (component_size s.index_component) some in
      omega (arith, one, fits)

  pub places_are : (places : List (List ℕ)) → places ≡ base_elements bytes (accessor_of_places s) None → map number_of places ≡ indices_in (contents_of held) s
  places_are places is = ap (map number_of) (is ∙ are_tight bytes s ∙ same_indices held s bytes (component_size s.index_component) found refl)

  pub places_are_numbers : (places : List (List ℕ)) → places ≡ base_elements bytes (accessor_of_places s) None → AreNumbers places
  places_are_numbers places is i below =
      let same : places ≡ tight bytes s.index_offset (component_size s.index_component) s.count = is ∙ are_tight bytes s in
      let all : All IsNumber (tight bytes s.index_offset (component_size s.index_component) s.count) =
      numbers_in_tight bytes s.index_offset (component_size s.index_component) s.count room (number_size s.index_component) in
      let here : IsNumber (get_or places i []) = subst (All IsNumber) (sym same) all i [] below in
      subst (λ (o : Option (List ℕ)). IfSome o IsNumber) (sym (slice_get-get_or places i [] below)) here
