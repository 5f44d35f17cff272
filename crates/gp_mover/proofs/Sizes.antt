-- How many bytes the elements of accessors and the records of a group have.
use Rattle.std.proofs.Common.{◌≡◌, ℕ, ◌-◌, ◌+◌, ◌*◌, ◌<◌, ◌≤◌, ◌==◌, ◌||◌, eqb, Bool, true, false, List, [], ◌∷◌, ◌++◌, length, map, get_or, sum_by, drop, Option, Some, None, IsSome, refl, sym, ap, ◌∙◌, subst, length-append, arith}
use Rattle.std.specs.Prelude.{slice_get, option_map, option_and_then, unwrap_or, IfSome}
use Rattle.std.specs.List.{All, flat_map, filter_map, cons_option, list_all, range_with_len}
use Rattle.std.proofs.lemmas.Bool.{and_parts, eqb-true}
use Rattle.std.proofs.lemmas.List.{get_or-map, length-map, length-drop, length-take-le, length-replicate, get_or-replicate}
use Rattle.std.proofs.lemmas.List.Elements.{All-nil, All-cons, All-head, All-tail}
use Rattle.std.proofs.lemmas.List.FromFn.{get_or-map-range_with_len, length-map-range_with_len}
use Rattle.std.proofs.lemmas.List.Sums.{sum_by-cons}
use Rattle.std.proofs.lemmas.List.Quantifiers.{position-Some}
use Rattle.std.proofs.lemmas.Option.{slice_get-get_or, same_Some}
use Rattle.gp_rules.specs.declared.accessing.Accessor.{Accessor}
use Rattle.gp_rules.specs.declared.accessing.Sparse.{Sparse}
use Rattle.gp_rules.specs.declared.storage.View.{View}
use Rattle.gp_rules.specs.Accessors.{size_of}
use Rattle.gp_asset.specs.Asset.{AssetParts}
use Rattle.gp_asset.specs.Contents.{bytes_at, part}
use Rattle.gp_elements.specs.Held.{HasEvery, contents_of, IsSound}
use Rattle.gp_elements.specs.Listed.{slices}
use Rattle.gp_elements.specs.Elements.{items_in, indices_in, values_in, index_items, with_sparse, content_at, stride_at, last_end, stride_of, element_at, tight, base_elements, zero_elements}
use Rattle.gp_elements.specs.Resolving.{is_resolvable, place_of, element_by}
use Rattle.gp_elements.proofs.Items.{length-slices, slice_get-slices, length-element_at, slice_get-base_elements, slice_get-zero_elements, length-base_elements, length-zero_elements, is_within, tight_within}
use Rattle.gp_elements.proofs.Places.{length-resolved, resolved_item}
use Rattle.gp_elements.proofs.Resolved.{as_many}
use Rattle.gp_elements.proofs.Reading.{is_held, held_length, held_content, base_room_at, view_there, value_view_there, value_room, same_values}
use Rattle.gp_alias.specs.declared.group.Group.{Group}
use Rattle.gp_alias.specs.Movable.{items_of, numbers_of}
use Rattle.gp_alias.specs.Records.{item_at, item_of, vertex_record, records, accessors_at}
use Rattle.gp_alias.proofs.ElementNumbers.{length-base}
use Rattle.gp_mover.specs.MovedParts.{record_size}
use Rattle.gp_mover.proofs.Rows.{Sized}

-- ---- elements

-- item i has so many bytes
abbrev pub Has : ℕ → List (List ℕ) → ℕ → Type 0
Has size items i = length (get_or items i []) ≡ size

at_get : (items : List (List ℕ)) (i : ℕ) (item : List ℕ) (size : ℕ) → i < length items → slice_get items i ≡ Some item → length item ≡ size → Has size items i
at_get items i item size within is long =
    ap (λ (x : List ℕ). length x) (same_Some (get_or items i []) item (sym (slice_get-get_or items i [] within) ∙ is)) ∙ long

-- what a list of views gives past its end
abbrev no_view : View
no_view = record { buffer = 0; offset = 0; length = 0; stride = None; packed = None }

tight_sized : (bytes : List ℕ) (offset size count i : ℕ) → offset + count * size ≤ length bytes → i < count → Has size (tight bytes offset size count) i
tight_sized bytes offset size count i fits below =
    let long = length-slices bytes offset size size count in
    let within = is_within bytes offset size size count i (tight_within bytes offset size count fits) below in
    let rest = length-drop (offset + i * size) bytes in
    at_get (tight bytes offset size count) i (part bytes (offset + i * size) size) size (omega (arith, long, below)) (slice_get-slices bytes offset size size count i below)
    (length-take-le size (drop (offset + i * size) bytes) (omega (arith, rest, within)))

module _ (views : List View) (held : List (Option (List ℕ))) (acc : Accessor) (every : HasEvery views held) (sound : IsSound views acc) where
  room : (at : ℕ) → acc.view ≡ Some at → (found : Option (List ℕ)) → bytes_at held at ≡ found → IsSome found → last_end acc (stride_at views at) < length (content_at (contents_of held) at) + 1
  room at is None there has = cc
  room at is (Some bytes) there has =
      let within = view_there views acc at sound is in
      let long = held_length views held at bytes every within there in
      let last = base_room_at views acc at no_view (length bytes) sound is within long in
      let stride : stride_at views at ≡ (get_or views at no_view).stride = ap (option_and_then (λ (v : View). v.stride)) (slice_get-get_or views at no_view within) in
      let end : last_end acc (stride_at views at) ≡ last_end acc (get_or views at no_view).stride = ap (last_end acc) stride in
      let whole : length (content_at (contents_of held) at) ≡ length bytes = ap (λ (xs : List ℕ). length xs) (held_content held at bytes there) in
      omega (arith, last, end, whole)

  in_base : (view : Option ℕ) → acc.view ≡ view → (i : ℕ) → i < acc.count → Has (size_of acc) (items_in views (contents_of held) acc view) i
  in_base None is i below =
      let long = length-zero_elements acc in
      at_get (zero_elements acc) i _ (size_of acc) (omega (arith, long, below)) (slice_get-zero_elements acc i below) (length-replicate {A = ℕ} (size_of acc) 0)
  in_base (Some at) is i below =
      let bytes = content_at (contents_of held) at in
      let stride = stride_at views at in
      let last = room at is (bytes_at held at) refl (is_held views held at every (view_there views acc at sound is)) in
      let long = length-base_elements bytes acc stride in
      at_get (base_elements bytes acc stride) i (element_at bytes acc (stride_of acc stride) i) (size_of acc) (omega (arith, long, below)) (slice_get-base_elements bytes acc stride i below)
      (length-element_at bytes acc stride i (omega (arith, last)) below)

  values_sized : (s : Sparse) → acc.sparse ≡ Some s → (found : Option (List ℕ)) → bytes_at held s.value_view ≡ found → IsSome found → (i : ℕ) → i < s.count → Has (size_of acc) (values_in (contents_of held) acc s) i
  values_sized s is None there has i below = cc
  values_sized s is (Some bytes) there has i below =
      subst (λ (items : List (List ℕ)). Has (size_of acc) items i) (same_values held acc s bytes (size_of acc) there refl)
      (tight_sized bytes s.value_offset (size_of acc) s.count i (value_room views held acc s bytes (size_of acc) every sound is there refl) below)

  at_place : (base : List (List ℕ)) (s : Sparse) (i : ℕ) → ((k : ℕ) → k < s.count → Has (size_of acc) (values_in (contents_of held) acc s) k) → Has (size_of acc) base i
      → (place : Option ℕ) → place_of (indices_in (contents_of held) s) i ≡ place → length (element_by base (values_in (contents_of held) acc s) i place) ≡ size_of acc
  at_place base s i values here None is = here
  at_place base s i values here (Some place) is =
      let indices = indices_in (contents_of held) s in
      let below = (position-Some (λ index. index == i) indices place 0 is).0 in
      let long = length-map (index_items (contents_of held) s) Rattle.gp_elements.specs.Elements.number_of in
      let same = as_many (contents_of held) acc s (index_items (contents_of held) s) (values_in (contents_of held) acc s) refl refl in
      let count = length-slices (content_at (contents_of held) s.value_view) s.value_offset (size_of acc) (size_of acc) s.count in
      values place (omega (arith, below, long, same, count))

  by_test : (s : Sparse) → acc.sparse ≡ Some s → (b : Bool) → is_resolvable acc.count (indices_in (contents_of held) s) ≡ b → (i : ℕ) → i < acc.count
      → Has (size_of acc) (with_sparse (items_in views (contents_of held) acc acc.view) (contents_of held) acc (Some s)).items i
  by_test s is false test i below = rw test (in_base acc.view refl i below)
  by_test s is true test i below =
      let base = items_in views (contents_of held) acc acc.view in
      let indices = indices_in (contents_of held) s in
      let values = values_in (contents_of held) acc s in
      let long = length-base views (contents_of held) acc acc.view in
      let whole = length-resolved base indices values in
      let within : i < length base = omega (arith, below, long) in
      let sized = values_sized s is (bytes_at held s.value_view) refl (is_held views held s.value_view every (value_view_there views acc s sound is)) in
      rw test (at_get _ i (element_by base values i (place_of indices i)) (size_of acc) (omega (arith, within, whole)) (resolved_item base indices values i within)
      (at_place base s i sized (in_base acc.view refl i below) (place_of indices i) refl))

  by_sparse : (sparse : Option Sparse) → acc.sparse ≡ sparse → (i : ℕ) → i < acc.count → Has (size_of acc) (with_sparse (items_in views (contents_of held) acc acc.view) (contents_of held) acc sparse).items i
  by_sparse None is i below = in_base acc.view refl i below
  by_sparse (Some s) is i below = by_test s is (is_resolvable acc.count (indices_in (contents_of held) s)) refl i below

pub items_sized : (a : AssetParts) (held : List (Option (List ℕ))) (acc : Accessor) → HasEvery a.views held → IsSound a.views acc → (i : ℕ) → i < acc.count → Has (size_of acc) (items_of a (contents_of held) acc) i
items_sized a held acc every sound i below = by_sparse a.views held acc every sound acc.sparse refl i below

-- as many as the accessor says, whatever is put in place of some
length-in : (base contents : List (List ℕ)) (acc : Accessor) (sparse : Option Sparse) → length (with_sparse base contents acc sparse).items ≡ length base
length-in base contents acc None = refl
length-in base contents acc (Some s) = by_resolvable (is_resolvable acc.count (indices_in contents s)) refl
  where
    by_resolvable : (b : Bool) → is_resolvable acc.count (indices_in contents s) ≡ b → length (with_sparse base contents acc (Some s)).items ≡ length base
    by_resolvable true is = rw is (length-resolved base (indices_in contents s) (values_in contents acc s))
    by_resolvable false is = rw is refl

pub length-items : (a : AssetParts) (contents : List (List ℕ)) (acc : Accessor) → length (items_of a contents acc) ≡ acc.count
length-items a contents acc = length-in (items_in a.views contents acc acc.view) contents acc acc.sparse ∙ length-base a.views contents acc acc.view
