-- Accessors that don't move have their elements at the new numbers of their views.
use Rattle.std.specs.Prelude.{if◌then◌else◌, ◌==◌, IfSome, not, option_map, option_and_then, unwrap_or}
use Rattle.std.specs.List.{count_by, range_with_len}
use Rattle.std.proofs.Common.{◌≡◌, ℕ, zero, suc, ◌+◌, ◌*◌, ◌<◌, inl, inr, true, false, ◌||◌, nat_lt, List, [], ◌∷◌, length, map, slice_get, Option, Some, None, refl, sym, ap, ◌∙◌, subst, arith}
use Rattle.std.proofs.Math.Nat.{mul-pos}
use Rattle.std.proofs.lemmas.Bool.{ltb-false, or_parts}
use Rattle.std.proofs.lemmas.Option.{get_or_from_slice_get, slice_get-map}
use Rattle.gp_rules.specs.declared.accessing.Accessor.{Accessor}
use Rattle.gp_rules.specs.declared.accessing.Sparse.{Sparse}
use Rattle.gp_rules.specs.declared.storage.View.{View}
use Rattle.gp_rules.specs.declared.accessing.Component.{Component}
use Rattle.gp_rules.specs.declared.accessing.Component.TheVariants.{I8, U8, I16, U16, U32, F32}
use Rattle.gp_rules.specs.declared.accessing.Shape.{Shape}
use Rattle.gp_rules.specs.declared.accessing.Shape.TheVariants.{Scalar, Vec2, Vec3, Vec4, Mat2, Mat3, Mat4}
use Rattle.gp_rules.specs.Sizes.{component_size, element_size, padded}
use Rattle.gp_rules.specs.Accessors.{size_of, view_length, view_at, runs_past, is_index, is_bad_sparse, is_bad_accessor}
use Rattle.gp_asset.specs.Asset.{AssetParts}
use Rattle.gp_asset.specs.Uses.{of_accessor, of_sparse_indices, of_sparse_values, of_image}
use Rattle.gp_elements.specs.Held.{IsSound}
use Rattle.gp_elements.specs.Resolving.{is_resolvable, resolved}
use Rattle.gp_elements.specs.Elements.{Elements, number_of, stride_at, content_at, base_elements, zero_elements, tight, items_in, with_sparse, elements_in, elements_of}
use Rattle.gp_asset.specs.Contents.{part}
use Rattle.gp_storage.specs.declared.coding.Stream.{Stream}
use Rattle.gp_sameness.specs.Moved.{Moved, is_moved}
use Rattle.gp_sameness.specs.Survivors.{survives, renumbered, where_numbered}
use Rattle.gp_packed.specs.MadeViews.{made_views}
use Rattle.gp_packed.specs.Plan.{Stored, Place, output_views}
use Rattle.gp_packed.specs.ViewEdits.{view_edits}
use Rattle.gp_packed.specs.AccessorsBack.{new_number}
use Rattle.gp_packed.specs.StoredParts.{view_part_by, stored_views_parts}
use Rattle.gp_packed.specs.PackedParts.{kept_part, kept_sparse_part, made_view, unstored_views, packed_views}
use Rattle.gp_kept.specs.ElementsMoved.{ContentsStay, KeptElements, KeptImages, KeptElementsOfAll}
use Rattle.gp_packed.proofs.NewNumbers.{stays_by}
use Rattle.gp_packed.proofs.NewReferences.{of_accessors, of_images, view_among, sparse_among}
use Rattle.gp_packed.proofs.OutputViews.{survivor_there, front_found, all_counted, output_counted}
use Rattle.gp_packed.proofs.StoredPlaces.{count_edits}
use Rattle.gp_kept.proofs.PackedAccessors.{kept_there}

-- ---- storing a view keeps its stride

stride_of_part : (size : ℕ) (stream : Option Stream) (place : Place) (v : View) → (view_part_by size stream place v).stride ≡ v.stride
stride_of_part size None place v = refl
stride_of_part size (Some stream) place v = refl

stride_kept : (placed : List (Stored × Place)) (vs : List View) (at : ℕ) → length placed ≡ length vs → stride_at (stored_views_parts placed vs) at ≡ stride_at vs at
stride_kept [] [] at count = refl
stride_kept [] (v ∷ vs) at count = absurd (omega (arith, count))
stride_kept (s ∷ placed) [] at count = absurd (omega (arith, count))
stride_kept (s ∷ placed) (v ∷ vs) zero count = stride_of_part (length s.0.contents) s.0.stream s.1 v
stride_kept (s ∷ placed) (v ∷ vs) (suc at) count = stride_kept placed vs at (omega (arith, count))

-- ---- a view that stays

-- its new number
abbrev pub number_of_view : List Moved → AssetParts → ℕ → ℕ
number_of_view moved a view = count_by (survives moved a) (range_with_len 0 view)

pub is_numbered : (moved : List Moved) (a : AssetParts) (view : ℕ) → survives moved a view ≡ true → renumbered moved a view ≡ Some (number_of_view moved a view)
unfolding renumbered
is_numbered moved a view stays = ap (λ b. if b then Some (number_of_view moved a view) else None) stays

pub content_kept : (moved : List Moved) (a : AssetParts) (contents others : List (List ℕ)) (view : ℕ) → ContentsStay moved a contents others → view < length a.views
    → survives moved a view ≡ true → content_at others (new_number (renumbered moved a) view) ≡ content_at contents view
content_kept moved a contents others view stay within stays =
    let e = is_numbered moved a view stays in
    ap (λ o. content_at others (unwrap_or o view)) e ∙ ap (λ o. unwrap_or o []) (stay view (number_of_view moved a view) within e)

pub is_there : {A : Type 0} (xs : List A) (i : ℕ) → i < length xs → (x : A) × (slice_get xs i ≡ Some x)
is_there [] i within = absurd (omega (arith, within))
is_there (x ∷ xs) zero within = (x, refl)
is_there (x ∷ xs) (suc i) within = is_there xs i (omega (arith, within))

-- its view stands there before it is stored
pub unstored_there : (moved : List Moved) (a : AssetParts) (view number : ℕ) → view < length a.views → renumbered moved a view ≡ Some number
    → slice_get (unstored_views moved a) number ≡ slice_get a.views view
unstored_there moved a view number within e =
    let v = is_there a.views view within in
    front_found (where_numbered (survives moved a) a.views) (map made_view (made_views a moved)) number v.0 (survivor_there moved a a.views view number e ∙ v.1) ∙ sym v.1

pub stride_stored : (moved : List Moved) (a : AssetParts) (at : ℕ) → stride_at (packed_views moved a) at ≡ stride_at (unstored_views moved a) at
stride_stored moved a at =
    let views = output_views moved a in
    stride_kept (view_edits views) (unstored_views moved a) at (count_edits views ∙ output_counted moved a ∙ sym (all_counted moved a a.views made_view refl))

stride_of_view : (moved : List Moved) (a : AssetParts) (view : ℕ) → view < length a.views → survives moved a view ≡ true
    → stride_at (packed_views moved a) (new_number (renumbered moved a) view) ≡ stride_at a.views view
stride_of_view moved a view within stays =
    let e = is_numbered moved a view stays in
    let number = number_of_view moved a view in
    ap (λ o. stride_at (packed_views moved a) (unwrap_or o view)) e ∙ stride_stored moved a number
    ∙ ap (option_and_then (λ (v : View). v.stride)) (unstored_there moved a view number within e)

-- ---- the base

base_kept : (renumber : ℕ → Option ℕ) (bytes : List ℕ) (x : Accessor) (stride : Option ℕ) → base_elements bytes (kept_part renumber x) stride ≡ base_elements bytes x stride
unfolding base_elements
base_kept renumber bytes x stride = refl

zeros_kept : (renumber : ℕ → Option ℕ) (x : Accessor) → zero_elements (kept_part renumber x) ≡ zero_elements x
unfolding zero_elements
zeros_kept renumber x = refl

-- what is asked of a view that is referred to
pub record Stays (moved : List Moved) (a : AssetParts) (view : ℕ) : Type 0 where
  pub within : view < length a.views
  pub stays : survives moved a view ≡ true

items_kept : (moved : List Moved) (a : AssetParts) (contents others : List (List ℕ)) (x : Accessor) (view : Option ℕ) → ContentsStay moved a contents others → IfSome view (Stays moved a)
    → items_in (packed_views moved a) others (kept_part (renumbered moved a) x) (option_map (new_number (renumbered moved a)) view) ≡ items_in a.views contents x view
items_kept moved a contents others x None stay there = zeros_kept (renumbered moved a) x
items_kept moved a contents others x (Some view) stay there =
    let renumber = renumbered moved a in
    let number = new_number renumber view in
    let stride = stride_at (packed_views moved a) number in
    base_kept renumber (content_at others number) x stride
    ∙ ap (λ bytes. base_elements bytes x stride) (content_kept moved a contents others view stay there.within there.stays)
    ∙ ap (base_elements (content_at contents view) x) (stride_of_view moved a view there.within there.stays)

-- ---- the values of a `sparse`

pub record SparseStays (moved : List Moved) (a : AssetParts) (s : Sparse) : Type 0 where
  pub index : Stays moved a s.index_view
  pub value : Stays moved a s.value_view

-- from the bytes of both views
with_bytes : List (List ℕ) → Accessor → Sparse → List ℕ → List ℕ → Elements
with_bytes base x s index value =
    let indices = map number_of (tight index s.index_offset (component_size s.index_component) s.count) in
    if is_resolvable x.count indices
    then (record { items = resolved base indices (tight value s.value_offset (size_of x) s.count); sparse = None })
    else (record { items = base; sparse = Some (part index s.index_offset (s.count * component_size s.index_component), part value s.value_offset (s.count * size_of x)) })

sparse_kept : (moved : List Moved) (a : AssetParts) (contents others base : List (List ℕ)) (x : Accessor) (sparse : Option Sparse) → ContentsStay moved a contents others
    → IfSome sparse (SparseStays moved a)
    → with_sparse base others (kept_part (renumbered moved a) x) (option_map (kept_sparse_part (renumbered moved a)) sparse) ≡ with_sparse base contents x sparse
unfolding with_bytes
sparse_kept moved a contents others base x None stay there = refl
sparse_kept moved a contents others base x (Some s) stay there =
    let renumber = renumbered moved a in
    let value = content_at others (new_number renumber s.value_view) in
    ap (λ index. with_bytes base x s index value) (content_kept moved a contents others s.index_view stay there.index.within there.index.stays)
    ∙ ap (with_bytes base x s (content_at contents s.index_view)) (content_kept moved a contents others s.value_view stay there.value.within there.value.stays)

-- ---- the views of a sound accessor that doesn't move stay

base_stays : (moved : List Moved) (a : AssetParts) (at : ℕ) (x : Accessor) (view : Option ℕ) → slice_get a.accessors at ≡ Some x → is_moved moved at ≡ false → x.view ≡ view
    → IfSome view (λ v. v < length a.views) → IfSome view (Stays moved a)
base_stays moved a at x None found kept e within = tt
base_stays moved a at x (Some view) found kept e within =
    let r = of_accessor at in
    record { within = within; stays = stays_by moved a view r (of_accessors a at x (view, r) found (view_among at view x e)) kept }

-- a view with some bytes is there
some_bytes : (views : List View) (view least : ℕ) → 0 < least → nat_lt (view_length views view) least ≡ false → view < length views
some_bytes [] view least some e = absurd (omega (arith, some, ltb-false 0 least e))
some_bytes (v ∷ views) zero least some e = omega arith
some_bytes (v ∷ views) (suc view) least some e = let rest = some_bytes views view least some e in omega (arith, rest)

component_some : (c : Component) → 0 < component_size c
component_some I8 = omega arith
component_some U8 = omega arith
component_some I16 = omega arith
component_some U16 = omega arith
component_some U32 = omega arith
component_some F32 = omega arith

padded_some : (n : ℕ) → 0 < n → 0 < padded n
padded_some n some = omega (arith, some)

size_some : (c : Component) (s : Shape) → 0 < element_size c s
size_some c Scalar = component_some c
size_some c Vec2 = omega (arith, component_some c)
size_some c Vec3 = omega (arith, component_some c)
size_some c Vec4 = omega (arith, component_some c)
size_some c Mat2 = omega (arith, padded_some (2 * component_size c) (omega (arith, component_some c)))
size_some c Mat3 = omega (arith, padded_some (3 * component_size c) (omega (arith, component_some c)))
size_some c Mat4 = omega (arith, padded_some (4 * component_size c) (omega (arith, component_some c)))

is_some_number : (n : ℕ) → (n == 0) ≡ false → 0 < n
is_some_number zero e = absurd (cc)
is_some_number (suc n) e = omega arith

sparse_there : (views : List View) (x : Accessor) (s : Sparse) → is_bad_sparse views x (Some s) ≡ false → (s.index_view < length views) × (s.value_view < length views)
sparse_there views x s good =
    let index = s.index_offset + s.count * component_size s.index_component in
    let value = s.value_offset + s.count * size_of x in
    let counts = s.count == 0 || nat_lt x.count s.count in
    let last = or_parts ((counts || not (is_index s.index_component)) || nat_lt (view_length views s.index_view) index) (nat_lt (view_length views s.value_view) value) good in
    let front = or_parts (counts || not (is_index s.index_component)) (nat_lt (view_length views s.index_view) index) last.0 in
    let both = or_parts counts (not (is_index s.index_component)) front.0 in
    let some = is_some_number s.count (or_parts (s.count == 0) (nat_lt x.count s.count) both.0).0 in
    let indices = mul-pos some (component_some s.index_component) in
    let values = mul-pos some (size_some x.component x.shape) in (
      some_bytes views s.index_view index (omega (arith, indices)) front.1,
      some_bytes views s.value_view value (omega (arith, values)) last.1,
    )

sparse_is_good : (views : List View) (x : Accessor) → is_bad_accessor views x ≡ false → is_bad_sparse views x x.sparse ≡ false
unfolding is_bad_accessor
sparse_is_good views x good = (or_parts (x.count == 0 || runs_past x (view_at views x.view)) (is_bad_sparse views x x.sparse) good).1

sparse_stays : (moved : List Moved) (a : AssetParts) (at : ℕ) (x : Accessor) (sparse : Option Sparse) → slice_get a.accessors at ≡ Some x → is_moved moved at ≡ false → x.sparse ≡ sparse
    → is_bad_sparse a.views x sparse ≡ false → IfSome sparse (SparseStays moved a)
sparse_stays moved a at x None found kept e good = tt
sparse_stays moved a at x (Some s) found kept e good =
    let both = sparse_there a.views x s good in
    let index = of_sparse_indices at in
    let value = of_sparse_values at in
    record {
      index = record { within = both.0; stays = stays_by moved a s.index_view index (of_accessors a at x (s.index_view, index) found (sparse_among at x s (s.index_view, index) e (inl refl))) kept };
      value = record { within = both.1; stays = stays_by moved a s.value_view value (of_accessors a at x (s.value_view, value) found (sparse_among at x s (s.value_view, value) e (inr (inl refl)))) kept };
    }

-- ---- the laws

pub elements_kept : KeptElements
elements_kept moved a at x contents others kept found sound stay =
    let renumber = renumbered moved a in
    let items = items_in a.views contents x x.view in
    ap (λ base. with_sparse base others (kept_part renumber x) (option_map (kept_sparse_part renumber) x.sparse))
    (items_kept moved a contents others x x.view stay (base_stays moved a at x x.view found kept refl sound.view))
    ∙ sparse_kept moved a contents others items x x.sparse stay (sparse_stays moved a at x x.sparse found kept refl (sparse_is_good a.views x sound.rules))

pub images_kept : KeptImages
images_kept moved a at view contents others found within stay =
    content_kept moved a contents others view stay within (stays_by moved a view (of_image at) (of_images a at view found) refl)

pub all_elements_kept : KeptElementsOfAll
unfolding elements_of
all_elements_kept moved a more packed at contents others is sound stay within kept =
    let x = is_there a.accessors at within in
    let renumber = renumbered moved a in
    let good : IsSound a.views x.0 = subst (IsSound a.views) (get_or_from_slice_get a.accessors at x.0 x.0 x.1) (sound at x.0 within) in
    let there : slice_get packed.accessors at ≡ Some (kept_part renumber x.0) = ap (λ (xs : List Accessor). slice_get xs at) is.accessors ∙ kept_there moved a at x.0 kept x.1 in
    slice_get-map (elements_in packed.views others) packed.accessors at
    ∙ ap (option_map (elements_in packed.views others)) there
    ∙ ap (λ views. Some (elements_in views others (kept_part renumber x.0))) is.views
    ∙ ap Some (elements_kept moved a at x.0 contents others kept x.1 good stay)
    ∙ sym (slice_get-map (elements_in a.views contents) a.accessors at ∙ ap (option_map (elements_in a.views contents)) x.1)
