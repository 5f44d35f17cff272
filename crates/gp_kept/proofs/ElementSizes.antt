-- The elements of accessors have the size that the accessors say.
use Rattle.std.proofs.Common.{◌≡◌, ℕ, ◌+◌, ◌*◌, ◌<◌, ◌≤◌, ◌==◌, Bool, true, false, List, [], length, map, drop, get_or, Option, Some, None, IsSome, refl, sym, ap, ◌∙◌, subst, arith}
use Rattle.std.specs.Prelude.{slice_get, option_and_then, IfSome}
use Rattle.std.specs.List.{All}
use Rattle.std.proofs.lemmas.List.{length-map, length-drop, length-replicate, length-take-le}
use Rattle.std.proofs.lemmas.List.FromFn.{get_or-map-range_with_len, length-map-range_with_len}
use Rattle.std.proofs.lemmas.List.Quantifiers.{position-Some}
use Rattle.std.proofs.lemmas.Option.{slice_get-get_or}
use Rattle.gp_rules.specs.declared.accessing.Accessor.{Accessor}
use Rattle.gp_rules.specs.declared.accessing.Sparse.{Sparse}
use Rattle.gp_rules.specs.declared.storage.View.{View}
use Rattle.gp_rules.specs.Accessors.{size_of}
use Rattle.gp_asset.specs.Asset.{AssetParts}
use Rattle.gp_asset.specs.Contents.{part, bytes_at}
use Rattle.gp_elements.specs.Held.{HasEvery, contents_of, IsSound}
use Rattle.gp_elements.specs.Elements.{number_of, tight, items_in, indices_in, values_in, index_items, with_sparse, content_at, stride_at, last_end}
use Rattle.gp_elements.specs.Listed.{slices}
use Rattle.gp_elements.specs.Resolving.{is_resolvable, place_of, element_by}
use Rattle.gp_elements.proofs.Items.{tight_within, is_within, slice_get-base_elements, slice_get-zero_elements, length-element_at}
use Rattle.gp_elements.proofs.Places.{length-resolved, resolved_item}
use Rattle.gp_elements.proofs.Resolved.{as_many}
use Rattle.gp_elements.proofs.Reading.{is_held, held_length, held_content, base_room_at, view_there, value_view_there, value_room, same_values, whole_contents}
use Rattle.gp_alias.specs.Movable.{items_of}
use Rattle.gp_alias.proofs.ElementNumbers.{length-base}

abbrev HasSize : ℕ → List ℕ → Type 0
HasSize size item = length item ≡ size

-- each item has so many bytes
abbrev pub HaveSize : ℕ → List (List ℕ) → Type 0
HaveSize size items = (i : ℕ) → i < length items → IfSome (slice_get items i) (HasSize size)

sizes_in_tight : (bytes : List ℕ) (offset size count : ℕ) → offset + count * size ≤ length bytes → All (HasSize size) (tight bytes offset size count)
unfolding slices
sizes_in_tight bytes offset size count fits i d inside =
    let long = length-map-range_with_len (λ (k : ℕ). part bytes (offset + k * size) size) 0 count in
    let below : i < count = omega (arith, long, inside) in
    let within = is_within bytes offset size size count i (tight_within bytes offset size count fits) below in
    let rest = length-drop (offset + i * size) bytes in
    let whole : length (part bytes (offset + i * size) size) ≡ size = length-take-le size (drop (offset + i * size) bytes) (omega (arith, rest, within)) in
    let here = get_or-map-range_with_len (λ (k : ℕ). part bytes (offset + k * size) size) 0 count i i d below (omega arith) in
    ap length here ∙ whole

-- what a list of views gives past its end
abbrev no_view : View
no_view = record { buffer = 0; offset = 0; length = 0; stride = None; packed = None }

module _ (views : List View) (held : List (Option (List ℕ))) (acc : Accessor) (every : HasEvery views held) (sound : IsSound views acc) where
  room : (at : ℕ) → acc.view ≡ Some at → (found : Option (List ℕ)) → bytes_at held at ≡ found → IsSome found → last_end acc (stride_at views at) < length (content_at (contents_of held) at) + 1
  room at is None there has = cc
  room at is (Some bytes) there has =
      let within = view_there views acc at sound is in
      let long = held_length views held at bytes every within there in
      let last = base_room_at views acc at no_view (length bytes) sound is within long in
      let stride : stride_at views at ≡ (get_or views at no_view).stride = ap (option_and_then (λ (v : View). v.stride)) (slice_get-get_or views at no_view within) in
      let end : last_end acc (stride_at views at) ≡ last_end acc (get_or views at no_view).stride = ap (last_end acc) stride in
      let whole : length (content_at (contents_of held) at) ≡ length bytes = ap (λ (xs : List ℕ). length xs) (held_content held at bytes there) in
      omega (arith, last, end, whole)

  in_base : (view : Option ℕ) → acc.view ≡ view → (i : ℕ) → i < acc.count → IfSome (slice_get (items_in views (contents_of held) acc view) i) (HasSize (size_of acc))
  in_base None is i below = rw (slice_get-zero_elements acc i below) (length-replicate {A = ℕ} (size_of acc) 0)
  in_base (Some at) is i below =
      let last = room at is (bytes_at held at) refl (is_held views held at every (view_there views acc at sound is)) in
      let bytes = content_at (contents_of held) at in
      rw (slice_get-base_elements bytes acc (stride_at views at) i below) (length-element_at bytes acc (stride_at views at) i (omega (arith, last)) below)

  values_are : (s : Sparse) → acc.sparse ≡ Some s → (found : Option (List ℕ)) → bytes_at held s.value_view ≡ found → IsSome found → All (HasSize (size_of acc)) (values_in (contents_of held) acc s)
  values_are s is None there has = cc
  values_are s is (Some bytes) there has =
      subst (All (HasSize (size_of acc))) (same_values held acc s bytes (size_of acc) there refl)
      (sizes_in_tight bytes s.value_offset (size_of acc) s.count (value_room views held acc s bytes (size_of acc) every sound is there refl))

  at_place : (base : List (List ℕ)) (s : Sparse) (i : ℕ) → All (HasSize (size_of acc)) (values_in (contents_of held) acc s) → HasSize (size_of acc) (get_or base i []) → (place : Option ℕ) → place_of (indices_in (contents_of held) s) i ≡ place
      → HasSize (size_of acc) (element_by base (values_in (contents_of held) acc s) i place)
  at_place base s i values here None is = here
  at_place base s i values here (Some place) is =
      let indices = indices_in (contents_of held) s in
      let below = (position-Some (λ index. index == i) indices place 0 is).0 in
      let long = length-map (index_items (contents_of held) s) number_of in
      let same = as_many (contents_of held) acc s (index_items (contents_of held) s) (values_in (contents_of held) acc s) refl refl in
      values place [] (omega (arith, below, long, same))

  has_size : (items : List (List ℕ)) (i : ℕ) → i < length items → IfSome (slice_get items i) (HasSize (size_of acc)) → HasSize (size_of acc) (get_or items i [])
  has_size items i below is = subst (λ (o : Option (List ℕ)). IfSome o (HasSize (size_of acc))) (slice_get-get_or items i [] below) is

  by_test : (s : Sparse) → acc.sparse ≡ Some s → (b : Bool) → is_resolvable acc.count (indices_in (contents_of held) s) ≡ b
      → HaveSize (size_of acc) (with_sparse (items_in views (contents_of held) acc acc.view) (contents_of held) acc (Some s)).items
  by_test s is false test = rw test (λ i below. let long = length-base views (contents_of held) acc acc.view in in_base acc.view refl i (omega (arith, below, long)))
  by_test s is true test =
      let base = items_in views (contents_of held) acc acc.view in
      let indices = indices_in (contents_of held) s in
      let values = values_in (contents_of held) acc s in
      let sizes = values_are s is (bytes_at held s.value_view) refl (is_held views held s.value_view every (value_view_there views acc s sound is)) in
      rw test (λ i below.
      let long = length-base views (contents_of held) acc acc.view in
      let whole = length-resolved base indices values in
      let within : i < length base = omega (arith, below, whole) in
      let own = has_size base i within (in_base acc.view refl i (omega (arith, within, long))) in
      subst (λ (o : Option (List ℕ)). IfSome o (HasSize (size_of acc))) (sym (resolved_item base indices values i within)) (at_place base s i sizes own (place_of indices i) refl))

  by_sparse : (sparse : Option Sparse) → acc.sparse ≡ sparse → HaveSize (size_of acc) (with_sparse (items_in views (contents_of held) acc acc.view) (contents_of held) acc sparse).items
  by_sparse None is = λ i below. let long = length-base views (contents_of held) acc acc.view in in_base acc.view refl i (omega (arith, below, long))
  by_sparse (Some s) is = by_test s is (is_resolvable acc.count (indices_in (contents_of held) s)) refl

-- given contents that are as long as the views say
pub items_have_size : (a : AssetParts) (contents : List (List ℕ)) (acc : Accessor) → map (λ (c : List ℕ). length c) contents ≡ map (λ (v : View). v.length) a.views → IsSound a.views acc
    → HaveSize (size_of acc) (items_of a contents acc)
items_have_size a contents acc lengths sound =
    let held = whole_contents a.views contents lengths in
    subst (λ cs. HaveSize (size_of acc) (items_of a cs acc)) held.1 (by_sparse a.views (map Some contents) acc held.0 sound acc.sparse refl)

-- as many as the accessor says
pub items_count : (a : AssetParts) (contents : List (List ℕ)) (acc : Accessor) → length (items_of a contents acc) ≡ acc.count
items_count a contents acc = put_in acc.sparse ∙ length-base a.views contents acc acc.view
  where
    put_by : (s : Sparse) (b : Bool) → is_resolvable acc.count (indices_in contents s) ≡ b → length (with_sparse (items_in a.views contents acc acc.view) contents acc (Some s)).items ≡ length (items_in a.views contents acc acc.view)
    put_by s true is = rw is (length-resolved (items_in a.views contents acc acc.view) (indices_in contents s) (values_in contents acc s))
    put_by s false is = rw is refl

    put_in : (sparse : Option Sparse) → length (with_sparse (items_in a.views contents acc acc.view) contents acc sparse).items ≡ length (items_in a.views contents acc acc.view)
    put_in None = refl
    put_in (Some s) = put_by s (is_resolvable acc.count (indices_in contents s)) refl
