-- The streams of views, view by view.
use Rattle.std.proofs.Common.{◌≡◌, ℕ, ◌+◌, ◌<◌, ◌≤◌, ◌==◌, Bool, true, false, if◌then◌else◌, List, [], ◌∷◌, ◌++◌, length, map, get_or, take, Option, Some, None, refl, sym, ap, ◌∙◌, arith, rules}
use Rattle.std.specs.Prelude.{IsSome, unwrap_or}
use Rattle.std.specs.List.{All, list_all, enumerate_from}
use Rattle.std.proofs.lemmas.List.{take_more, take_all, length-take-le}
use Rattle.std.proofs.lemmas.List.Elements.{All-get_or}
use Rattle.std.proofs.lemmas.Option.{slice_get-get_or, slice_get-map}
use Rattle.gp_rules.specs.declared.accessing.Accessor.{Accessor}
use Rattle.gp_rules.specs.declared.storage.View.{View}
use Rattle.gp_rules.specs.Accessors.{size_of}
use Rattle.gp_rules.specs.Sizes.{component_size}
use Rattle.gp_asset.specs.Asset.{AssetParts}
use Rattle.gp_asset.specs.Contents.{plain_bytes, plain_if, plain_views, bytes_at}
use Rattle.gp_storage.specs.declared.coding.Stream.{Stream}
use Rattle.gp_storage.specs.declared.shared.Common.TheVariants.{Same, Different}
use Rattle.gp_storage.specs.declared.shared.Shared.{Shared}
use Rattle.gp_storage.specs.Readers.{has_image, readers, one_size}
use Rattle.gp_storage.specs.Coding.{coding_of}
use Rattle.gp_storage.specs.Shared.{common, one_of, shared_by, coding_with}
use Rattle.gp_storage.specs.Streams.{stream_of, stored_views}
use Rattle.gp_storage.proofs.ReadersSoFar.{map_more, numbered_behind}

-- ---- the rule

one_common : (sizes : List ℕ) → one_of (common sizes) ≡ one_size sizes
one_common [] = refl
one_common (one ∷ sizes) = by_test (list_all (λ other. other == one) sizes)
  where
    by_test : (b : Bool) → one_of (if b then Same one else Different) ≡ (if b then Some one else None)
    by_test true = refl
    by_test false = refl

chosen : (a : AssetParts) (moved : List Bool) (at : ℕ) (v : View)
    → coding_with (has_image a.images at) (shared_by a.uses (readers moved a.accessors at)) v (plain_bytes a.buffers v) ≡ coding_of a moved at v
unfolding coding_with shared_by coding_of
chosen a moved at v =
    let rs = readers moved a.accessors at in
    rw (one_common (map (λ (r : ℕ × Accessor). component_size r.1.component) rs), one_common (map (λ (r : ℕ × Accessor). size_of r.1) rs)) refl

-- ---- one view

-- its bytes
pub plain_at : (a : AssetParts) (at : ℕ) (d : View) → All (λ (v : View). v.packed ≡ None) a.views → at < length a.views → bytes_at (plain_views a) at ≡ Some (plain_bytes a.buffers (get_or a.views at d))
plain_at a at d plain within =
    let bytes = λ (v : View). plain_if a.buffers v v.packed in
    let is = All-get_or (λ (v : View). v.packed ≡ None) a.views at d within plain in
    rw (slice_get-map bytes a.views at, slice_get-get_or a.views at d within, is) refl

abbrev stream_at : AssetParts → List Bool → ℕ × View → Option Stream
stream_at a moved p = stream_of (coding_of a moved p.0 p.1) (plain_bytes a.buffers p.1)

pub is_some_at : (a : AssetParts) (at : ℕ) (d : View) → All (λ (v : View). v.packed ≡ None) a.views → at < length a.views → IsSome (bytes_at (plain_views a) at)
is_some_at a at d plain within = rw (plain_at a at d plain within) (search rules)

pub stream_is : (a : AssetParts) (moved : List Bool) (at : ℕ) (d : View) (bytes : List ℕ) (image : Bool) (shared : Shared) → All (λ (v : View). v.packed ≡ None) a.views → at < length a.views
    → bytes_at (plain_views a) at ≡ Some bytes → image ≡ has_image a.images at → shared ≡ shared_by a.uses (readers moved a.accessors at)
    → stream_of (coding_with image shared (get_or a.views at d) bytes) bytes ≡ stream_at a moved (at, get_or a.views at d)
stream_is a moved at d bytes image shared plain within is here common =
    let v = get_or a.views at d in
    let same : bytes ≡ plain_bytes a.buffers v = ap (λ o. unwrap_or o []) (sym is ∙ plain_at a at d plain within) in
    rw (same, here, common) (ap (λ c. stream_of c (plain_bytes a.buffers v)) (chosen a moved at v))

-- ---- the pass

-- the streams of the first views
unfoldable pub AreFirst : AssetParts → List Bool → ℕ → List (Option Stream) → Type 0
AreFirst a moved at streams = streams ≡ map (stream_at a moved) (enumerate_from 0 (take at a.views))

pub none_yet : (a : AssetParts) (moved : List Bool) (streams : List (Option Stream)) → streams ≡ [] → AreFirst a moved 0 streams
unfolding AreFirst
none_yet a moved streams e = e

pub one_more : (a : AssetParts) (moved : List Bool) (at : ℕ) (d : View) (streams now : List (Option Stream)) (stream : Option Stream) → at < length a.views
    → stream ≡ stream_at a moved (at, get_or a.views at d) → now ≡ streams ++ stream ∷ [] → AreFirst a moved at streams → AreFirst a moved (at + 1) now
unfolding AreFirst
one_more a moved at d streams now stream within is pushed before =
    let long = length-take-le at a.views (omega (arith, within)) in
    let v = get_or a.views at d in
    let front = ap (λ xs. enumerate_from 0 xs) (take_more a.views at d within) ∙ numbered_behind 0 at (take at a.views) v (omega (arith, long)) in
    let all = ap (map (stream_at a moved)) front ∙ map_more (stream_at a moved) (enumerate_from 0 (take at a.views)) (at, v) in
    pushed ∙ ap (λ xs. xs ++ stream ∷ []) before ∙ ap (λ x. map (stream_at a moved) (enumerate_from 0 (take at a.views)) ++ x ∷ []) is ∙ sym all

pub all : (a : AssetParts) (moved : List Bool) (at : ℕ) (streams : List (Option Stream)) → length a.views ≤ at → AreFirst a moved at streams → streams ≡ stored_views a moved
unfolding AreFirst stored_views
all a moved at streams end before = rw (take_all at a.views end) at before
