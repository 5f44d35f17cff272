-- Each element of an accessor has the bytes of its size.
use Rattle.std.proofs.Common.{◌≡◌, ℕ, ◌+◌, ◌*◌, ◌<◌, ◌≤◌, ◌==◌, Bool, true, false, List, [], length, map, get_or, drop, replicate, Option, Some, None, refl, sym, ap, ◌∙◌, subst, arith}
use Rattle.std.specs.Prelude.{slice_get, unwrap_or, option_map, option_and_then}
use Rattle.std.specs.List.{All, range_with_len}
use Rattle.std.proofs.lemmas.List.{length-map, length-take-le, length-drop, length-replicate}
use Rattle.std.proofs.lemmas.List.Elements.{All-replicate}
use Rattle.std.proofs.lemmas.List.FromFn.{get_or-map-range_with_len, length-map-range_with_len}
use Rattle.std.proofs.lemmas.List.Quantifiers.{position-Some}
use Rattle.std.proofs.lemmas.Option.{slice_get-map, slice_get-get_or}
use Rattle.gp_rules.specs.declared.storage.View.{View}
use Rattle.gp_rules.specs.declared.accessing.Accessor.{Accessor}
use Rattle.gp_rules.specs.declared.accessing.Sparse.{Sparse}
use Rattle.gp_rules.specs.Accessors.{size_of, view_length}
use Rattle.gp_asset.specs.Asset.{AssetParts}
use Rattle.gp_asset.specs.Contents.{part}
use Rattle.gp_elements.specs.Held.{IsSound}
use Rattle.gp_elements.specs.Elements.{element_at, stride_of, last_end, content_at, stride_at, base_elements, zero_elements, items_in, indices_in, index_items, values_in, with_sparse}
use Rattle.gp_elements.specs.Listed.{slices}
use Rattle.gp_elements.specs.Resolving.{is_resolvable, place_of, element_by, resolved}
use Rattle.gp_elements.proofs.Items.{length-slices, is_within, tight_within, length-element_at}
use Rattle.gp_elements.proofs.Reading.{view_there, base_room, sparse_rooms}
use Rattle.gp_alias.specs.Movable.{items_of}

-- items of so many bytes
abbrev pub HasSize : ℕ → List ℕ → Type 0
HasSize size item = length item ≡ size

-- what holds of f at each number below n
pub all_mapped : {A : Type 0} (P : A → Type 0) (f : ℕ → A) (n : ℕ) → ((i : ℕ) → i < n → P (f i)) → All P (map f (range_with_len 0 n))
all_mapped P f n has i d within =
    let long = length-map-range_with_len f 0 n in
    let below : i < n = omega (arith, long, within) in
    subst P (sym (get_or-map-range_with_len f 0 n i i d below (omega arith))) (has i below)

-- ---- the bytes of a view

length_or : (o : Option (List ℕ)) → length (unwrap_or o []) ≡ unwrap_or (option_map (λ (c : List ℕ). length c) o) 0
length_or None = refl
length_or (Some c) = refl

content_long : (views : List View) (contents : List (List ℕ)) (at : ℕ) → map (λ (c : List ℕ). length c) contents ≡ map (λ (v : View). v.length) views
    → length (content_at contents at) ≡ view_length views at
content_long views contents at long =
    length_or (slice_get contents at)
    ∙ ap (λ o. unwrap_or o 0) (sym (slice_get-map (λ (c : List ℕ). length c) contents at) ∙ ap (λ xs. slice_get xs at) long ∙ slice_get-map (λ (v : View). v.length) views at)

module _ (views : List View) (contents : List (List ℕ)) (x : Accessor) (sound : IsSound views x) (long : map (λ (c : List ℕ). length c) contents ≡ map (λ (v : View). v.length) views) where
  -- ---- the base

  room : (at : ℕ) → x.view ≡ Some at → (found : Option View) → slice_get views at ≡ found → last_end x (stride_at views at) ≤ length (content_at contents at)
  room at is None there =
      let within = view_there views x at sound is in
      absurd (let no : None ≡ Some (get_or views at no_view) = sym there ∙ slice_get-get_or views at no_view within in cc)
    where
      no_view : View
      no_view = record { buffer = 0; offset = 0; length = 0; stride = None; packed = None }
  room at is (Some v) there =
      let whole = content_long views contents at long in
      let last = base_room views x at v (length (content_at contents at)) sound is there whole in
      let stride : stride_at views at ≡ v.stride = ap (option_and_then (λ (w : View). w.stride)) there in
      let same : last_end x (stride_at views at) ≡ last_end x v.stride = ap (last_end x) stride in
      omega (arith, last, same)

  base_sized : (view : Option ℕ) → x.view ≡ view → All (HasSize (size_of x)) (items_in views contents x view)
  unfolding base_elements zero_elements
  base_sized None is = All-replicate (HasSize (size_of x)) x.count (replicate {A = ℕ} (size_of x) 0) (length-replicate {A = ℕ} (size_of x) 0)
  base_sized (Some at) is =
      let bytes = content_at contents at in
      let stride = stride_at views at in
      all_mapped (HasSize (size_of x)) (element_at bytes x (stride_of x stride)) x.count (λ i below. length-element_at bytes x stride i (room at is (slice_get views at) refl) below)

  -- ---- the values of a `sparse`

  values_sized : (s : Sparse) → x.sparse ≡ Some s → All (HasSize (size_of x)) (values_in contents x s)
  unfolding slices
  values_sized s is =
      let bytes = content_at contents s.value_view in
      let size = size_of x in
      let rooms = sparse_rooms views x s sound is in
      let whole = content_long views contents s.value_view long in
      all_mapped (HasSize size) (λ i. part bytes (s.value_offset + i * size) size) s.count (λ i below.
      let within = is_within bytes s.value_offset size size s.count i (tight_within bytes s.value_offset size s.count (omega (arith, rooms.values, whole))) below in
      let rest = length-drop (s.value_offset + i * size) bytes in
      length-take-le size (drop (s.value_offset + i * size) bytes) (omega (arith, rest, within)))

  at_place : (base : List (List ℕ)) (s : Sparse) (i : ℕ) → x.sparse ≡ Some s → HasSize (size_of x) (get_or base i []) → (place : Option ℕ) → place_of (indices_in contents s) i ≡ place
      → HasSize (size_of x) (element_by base (values_in contents x s) i place)
  at_place base s i is here None found = here
  at_place base s i is here (Some place) found =
      let below = (position-Some (λ index. index == i) (indices_in contents s) place 0 found).0 in
      let many = length-values s in
      values_sized s is place [] (omega (arith, below, many))
    where
      length-values : (s : Sparse) → length (values_in contents x s) ≡ length (indices_in contents s)
      length-values s =
          length-slices (content_at contents s.value_view) s.value_offset (size_of x) (size_of x) s.count
          ∙ sym (length-map (index_items contents s) _ ∙ length-slices _ _ _ _ s.count)

  by_sparse : (sparse : Option Sparse) → x.sparse ≡ sparse → All (HasSize (size_of x)) (with_sparse (items_in views contents x x.view) contents x sparse).items
  unfolding resolved
  by_sparse None is = base_sized x.view refl
  by_sparse (Some s) is = by_test (is_resolvable x.count (indices_in contents s)) refl
    where
      put : All (HasSize (size_of x)) (resolved (items_in views contents x x.view) (indices_in contents s) (values_in contents x s))
      put =
          let base = items_in views contents x x.view in
          all_mapped (HasSize (size_of x)) (λ i. element_by base (values_in contents x s) i (place_of (indices_in contents s) i)) (length base)
          (λ i below. at_place base s i is (base_sized x.view refl i [] below) (place_of (indices_in contents s) i) refl)

      by_test : (b : Bool) → is_resolvable x.count (indices_in contents s) ≡ b → All (HasSize (size_of x)) (with_sparse (items_in views contents x x.view) contents x (Some s)).items
      by_test true test = rw test put
      by_test false test = rw test (base_sized x.view refl)

pub items_sized : (a : AssetParts) (contents : List (List ℕ)) (x : Accessor) → IsSound a.views x → map (λ (c : List ℕ). length c) contents ≡ map (λ (v : View). v.length) a.views
    → All (HasSize (size_of x)) (items_of a contents x)
items_sized a contents x sound long = by_sparse a.views contents x sound long x.sparse refl
