-- What is stored of an asset's views suits them.
use Rattle.std.proofs.Common.{◌≡◌, ℕ, ◌+◌, ◌-◌, ◌*◌, ◌/◌, ◌%◌, ◌<◌, ◌≤◌, Bool, true, false, ◌&&◌, List, [], ◌∷◌, ◌++◌, map, length, replicate, nat_lt, nat_le, Option, Some, None, Result, Ok, if◌then◌else◌, inl, inr, refl, sym, ap, subst, ◌∙◌, arith, length-append}
use Rattle.std.specs.Prelude.{◌==◌, ◌||◌, ◌^◌, ◌⊎◌, max, zip, is_none}
use Rattle.std.specs.List.{All, list_all, enumerate_from, flat_map, range_with_len}
use Rattle.std.specs.Option.{IfSome, option_and_then, option_or}
use Rattle.std.proofs.Math.Nat.{div-add-mod}
use Rattle.std.proofs.lemmas.Bool.{and_parts, or_cases, ltb-true, leb-true, eqb-true, eq-eqb}
use Rattle.std.proofs.lemmas.List.{length-replicate}
use Rattle.std.proofs.lemmas.List.Elements.{All-head, All-tail}
use Rattle.std.proofs.lemmas.Nat.{le-div}
use Rattle.gp_groups.specs.Attributes.{block_len}
use Rattle.gp_groups.specs.WrittenAttributes.{encoded_attributes, written_block}
use Rattle.gp_vertex.proofs.RoundTrip.{stream_read, first_of, first_long}
use Rattle.gp_asset.specs.declared.purpose.Form.TheVariants.{Plain}
use Rattle.gp_rules.specs.declared.accessing.Accessor.{Accessor}
use Rattle.gp_rules.specs.declared.storage.View.{View}
use Rattle.gp_rules.specs.declared.storage.StreamMode.{StreamMode}
use Rattle.gp_rules.specs.declared.storage.StreamMode.TheVariants.{Attributes, Triangles, Indices}
use Rattle.gp_rules.specs.Views.{is_stride, is_stride_in, agrees}
use Rattle.gp_rules.specs.Sizes.{component_size}
use Rattle.gp_asset.specs.declared.usage.AccessorUse.{AccessorUse}
use Rattle.gp_groups.specs.WrittenSequence.{encoded_sequence}
use Rattle.gp_rules.specs.Accessors.{size_of}
use Rattle.gp_asset.specs.Asset.{AssetParts}
use Rattle.gp_asset.specs.Contents.{plain_bytes}
use Rattle.gp_document.specs.Document.{Document, IsDocument}
use Rattle.gp_document.specs.Accepted.{asset_of}
use Rattle.gp_storage.specs.declared.coding.Coding.{Coding}
use Rattle.gp_storage.specs.Readers.{has_image, one_size, readers}
use Rattle.gp_storage.specs.Coding.{numbers_in, is_sequence, are_index_lists, is_attributes, attribute_stride, coding_by, coding_of, sequence_width}
use Rattle.gp_storage.proofs.Codable.{sequence_small}
use Rattle.gp_storage.specs.Streams.{encoded, is_shorter, stream_as, stream_of, stored_views}
use Rattle.gp_rules.specs.Checks.{joined}
use Rattle.gp_unpack.specs.Contents.{FaultyView, decoded, at_view, contents_by, contents_from, all_contents}
use Rattle.gp_unpack.proofs.Whole.{contents_are_whole}
use Rattle.gp_unpack.proofs.Drawn.{rules_hold, asset_holds}
use Rattle.gp_sameness.specs.Moved.{Moved, moved_flags}
use Rattle.gp_packed.specs.Plan.{Stored, stored_as, all_stored}
use Rattle.gp_packed.specs.StoredParts.{AreBytes, IsStreamOf, SuitEach}
use Rattle.gp_packed.proofs.Unpacked.{none_compressed}
use Rattle.gp_packed.specs.RulesMoved.{IsStreamFor}
use Rattle.gp_packed.proofs.SequenceBack.{sequence_back, long_sequence}
use Rattle.gp_packed.proofs.StoredBytes.{each_below, bin_bytes, buffers_below, view_below}

-- ---- a stream of attributes

pub whole_elements : (size stride : ℕ) → size % stride ≡ 0 → stride * (size / stride) ≡ size
whole_elements size stride none = omega (arith, div-add-mod size stride, none)

pub some_elements : (stride : ℕ) → is_stride 256 stride ≡ true → 0 < block_len stride
some_elements stride fits =
    let most = and_parts (stride % 4 == 0 && nat_le 4 stride) (nat_le stride 256) fits in
    let least = and_parts (stride % 4 == 0) (nat_le 4 stride) most.0 in
    let above = leb-true 4 stride least.1 in
    let below = leb-true stride 256 most.1 in
    let many : 32 ≤ 8192 / stride = le-div 32 8192 stride (omega (arith, above)) (omega (arith, below)) in
    omega (arith, many)

-- a first byte, the blocks, and at least 32 bytes
pub long_stream : (bytes : List ℕ) (count stride : ℕ) → length bytes ≡ count * stride → 5 < length (encoded_attributes bytes count stride)
unfolding encoded_attributes
long_stream bytes count stride long =
    let blocks = 0xA0 ∷ flat_map (written_block bytes count stride) (range_with_len 0 ((count + block_len stride - 1) / block_len stride)) in
    let pad : List ℕ = replicate (max 32 stride - stride) 0 in
    let base = first_of bytes count stride in
    let gap = length-replicate {A = ℕ} (max 32 stride - stride) 0 in
    omega (arith, length-append (blocks ++ pad) base, length-append blocks pad, gap, first_long bytes count stride long)

-- ---- what may be coded as attributes

if_so : (stride found : ℕ) (may : Bool) → (if may then Some stride else None) ≡ Some found → (may ≡ true) × (stride ≡ found)
if_so stride found true e = (refl, cc)
if_so stride found false e = absurd (cc)

chosen : (v : View) (wanted : Option ℕ) (stride : ℕ) → option_and_then (λ stride. if is_attributes v stride then Some stride else None) wanted ≡ Some stride
    → (wanted ≡ Some stride) × (is_attributes v stride ≡ true)
chosen v None stride e = absurd (cc)
chosen v (Some found) stride e =
    let so = if_so found stride (is_attributes v found) e in
    (ap Some so.1, ap (is_attributes v) (sym so.1) ∙ so.0)

own_agrees : (own sizes : Option ℕ) (stride : ℕ) → option_or own sizes ≡ Some stride → agrees own stride ≡ true
own_agrees None sizes stride e = refl
own_agrees (Some own) sizes stride e = let same : own ≡ stride = cc in eq-eqb own stride same

-- such a stride has whole elements, and is the view's own where it has one
pub record FitsAttributes (v : View) (stride : ℕ) : Type 0 where
  pub fits : is_stride 256 stride ≡ true
  pub whole : v.length % stride ≡ 0
  pub agree : agrees v.stride stride ≡ true

attributes_fit : (v : View) (readers : List (ℕ × Accessor)) (stride : ℕ) → attribute_stride readers v ≡ Some stride → FitsAttributes v stride
attributes_fit v readers stride e =
    let sizes = one_size (map (λ (r : ℕ × Accessor). size_of r.1) readers) in
    let found = chosen v (option_or v.stride sizes) stride e in
    let both = and_parts (is_stride 256 stride) (v.length % stride == 0) found.1 in
    record { fits = both.0; whole = eqb-true (v.length % stride) 0 both.1; agree = own_agrees v.stride sizes stride found.0 }

-- ---- what may be coded as an index sequence

-- whole numbers of a width that the extension has, each small, in a view without a stride of its own
pub record FitsSequence (v : View) (bytes : List ℕ) (width : ℕ) : Type 0 where
  pub fits : is_stride_in Indices width ≡ true
  pub unstrided : is_none v.stride ≡ true
  pub whole : v.length % width ≡ 0
  pub small : All (λ n. n < 2 ^ 30) (numbers_in width bytes)

sequence_tests : (lists : Bool) (v : View) (bytes : List ℕ) (width : ℕ) → is_sequence lists v bytes width ≡ true → FitsSequence v bytes width
sequence_tests lists v bytes width is =
    let all = and_parts (lists && (width == 2 || width == 4) && is_none v.stride && v.length % width == 0) (list_all (λ n. nat_lt n (2 ^ 30)) (numbers_in width bytes)) is in
    let whole = and_parts (lists && (width == 2 || width == 4) && is_none v.stride) (v.length % width == 0) all.0 in
    let unstrided = and_parts (lists && (width == 2 || width == 4)) (is_none v.stride) whole.0 in
    record {
      fits = (and_parts lists (width == 2 || width == 4) unstrided.0).1;
      unstrided = unstrided.1;
      whole = eqb-true (v.length % width) 0 whole.1;
      small = sequence_small lists v bytes width is;
    }

chosen_width : (lists : Bool) (v : View) (bytes : List ℕ) (one : Option ℕ) (width : ℕ)
    → option_and_then (λ width. if is_sequence lists v bytes width then Some width else None) one ≡ Some width → FitsSequence v bytes width
chosen_width lists v bytes None width e = absurd (cc)
chosen_width lists v bytes (Some found) width e =
    let so = if_so found width (is_sequence lists v bytes found) e in
    sequence_tests lists v bytes width (ap (is_sequence lists v bytes) (sym so.1) ∙ so.0)

sequence_fits : (uses : List AccessorUse) (readers : List (ℕ × Accessor)) (v : View) (bytes : List ℕ) (width : ℕ) → sequence_width uses readers v bytes ≡ Some width → FitsSequence v bytes width
sequence_fits uses readers v bytes width e =
    chosen_width (are_index_lists uses readers) v bytes (one_size (map (λ (r : ℕ × Accessor). component_size r.1.component) readers)) width e

-- ---- what a view may be coded as

-- no view of an asset is coded as triangles
abbrev pub FitsMode : View → List ℕ → StreamMode → ℕ → Type 0
FitsMode v bytes Attributes stride = FitsAttributes v stride
FitsMode v bytes Triangles stride = ⊥
FitsMode v bytes Indices stride = FitsSequence v bytes stride

abbrev pub FitsCoding : View → List ℕ → Coding → Type 0
FitsCoding v bytes c = FitsMode v bytes c.mode c.stride

coded : (v : View) (bytes : List ℕ) (image : Bool) (sequence attributes : Option ℕ) → ((width : ℕ) → sequence ≡ Some width → FitsSequence v bytes width)
    → ((stride : ℕ) → attributes ≡ Some stride → FitsAttributes v stride) → IfSome (coding_by image sequence attributes) (FitsCoding v bytes)
coded v bytes true sequence attributes widths fit = tt
coded v bytes false (Some width) attributes widths fit = widths width refl
coded v bytes false None (Some stride) widths fit = fit stride refl
coded v bytes false None None widths fit = tt

pub coding_fits : (a : AssetParts) (moved : List Bool) (at : ℕ) (v : View) → IfSome (coding_of a moved at v) (FitsCoding v (plain_bytes a.buffers v))
unfolding coding_of
coding_fits a moved at v =
    let own = readers moved a.accessors at in
    let bytes = plain_bytes a.buffers v in
    coded v bytes (has_image a.images at) (sequence_width a.uses own v bytes) (attribute_stride own v) (sequence_fits a.uses own v bytes) (attributes_fit v own)

-- ---- the stream of a view

attributes_stream : (v : View) (stride : ℕ) (bytes : List ℕ) → FitsAttributes v stride → length bytes ≡ v.length → AreBytes bytes
    → length (encoded_attributes bytes (length bytes / stride) stride) < length bytes
    → IsStreamOf v.stride bytes (record { coding = record { mode = Attributes; stride = stride }; bytes = encoded_attributes bytes (length bytes / stride) stride })
unfolding decoded
attributes_stream v stride bytes h long small shorter =
    let whole : stride * (length bytes / stride) ≡ length bytes = whole_elements (length bytes) stride (ap (λ n. n % stride) long ∙ h.whole) in
    let elements : length bytes ≡ length bytes / stride * stride = omega (arith, whole) in
    record {
      strides = h.fits;
      counts = refl;
      whole = whole;
      agree = h.agree;
      shorter = shorter;
      longer = long_stream bytes (length bytes / stride) stride elements;
      means = stream_read bytes (length bytes / stride) stride (some_elements stride h.fits) elements (each_below bytes small);
    }

unstrided_agrees : (own : Option ℕ) (stride : ℕ) → is_none own ≡ true → agrees own stride ≡ true
unstrided_agrees None stride none = refl
unstrided_agrees (Some own) stride none = absurd (cc)

-- whatever the bytes are
pub sequence_for : (v : View) (width : ℕ) (bytes : List ℕ) → FitsSequence v bytes width → length bytes ≡ v.length
    → length (encoded_sequence (numbers_in width bytes)) < length bytes
    → IsStreamFor v.stride bytes (record { coding = record { mode = Indices; stride = width }; bytes = encoded_sequence (numbers_in width bytes) })
sequence_for v width bytes h long shorter =
    let whole = whole_elements (length bytes) width (ap (λ n. n % width) long ∙ h.whole) in
    record {
      strides = h.fits;
      counts = refl;
      whole = whole;
      agree = unstrided_agrees v.stride width h.unstrided;
      shorter = shorter;
      longer = long_sequence width bytes whole (omega (arith, shorter));
    }

two_widths : (width : ℕ) → is_stride_in Indices width ≡ true → (width ≡ 2) ⊎ (width ≡ 4)
two_widths width fits = elim (or_cases (width == 2) (width == 4) fits) [
  | inl two ↦ inl (eqb-true width 2 two)
  | inr four ↦ inr (eqb-true width 4 four)
]

sequence_stream : (v : View) (width : ℕ) (bytes : List ℕ) → FitsSequence v bytes width → length bytes ≡ v.length → AreBytes bytes
    → length (encoded_sequence (numbers_in width bytes)) < length bytes
    → IsStreamOf v.stride bytes (record { coding = record { mode = Indices; stride = width }; bytes = encoded_sequence (numbers_in width bytes) })
unfolding decoded
sequence_stream v width bytes h long small shorter =
    let is = sequence_for v width bytes h long shorter in
    record {
      strides = is.strides;
      counts = is.counts;
      whole = is.whole;
      agree = is.agree;
      shorter = is.shorter;
      longer = is.longer;
      means = sequence_back width bytes (two_widths width h.fits) small h.small is.whole;
    }

by_mode : (v : View) (mode : StreamMode) (stride : ℕ) (bytes : List ℕ) (shorter : Bool)
    → FitsMode v bytes mode stride → length bytes ≡ v.length → AreBytes bytes
    → nat_lt (length (encoded mode stride bytes)) (length bytes) ≡ shorter
    → IfSome (if shorter then Some (stream_as (record { mode = mode; stride = stride }) bytes) else None) (IsStreamOf v.stride bytes)
unfolding encoded
by_mode v mode stride bytes false fits long small is = tt
by_mode v Triangles stride bytes true fits long small is = absurd fits
by_mode v Indices stride bytes true fits long small is =
    sequence_stream v stride bytes fits long small (ltb-true (length (encoded_sequence (numbers_in stride bytes))) (length bytes) is)
by_mode v Attributes stride bytes true fits long small is =
    attributes_stream v stride bytes fits long small (ltb-true (length (encoded_attributes bytes (length bytes / stride) stride)) (length bytes) is)

pub stream_suits : (v : View) (coding : Option Coding) (bytes : List ℕ) → IfSome coding (FitsCoding v bytes) → length bytes ≡ v.length → AreBytes bytes
    → IfSome (stream_of coding bytes) (IsStreamOf v.stride bytes)
unfolding stream_of
stream_suits v None bytes fits long small = tt
stream_suits v (Some c) bytes fits long small = by_mode v c.mode c.stride bytes (is_shorter c bytes) fits long small refl

-- ---- all views

abbrev pub stored_from : AssetParts → List Bool → ℕ → List View → List Stored
stored_from a moved at vs =
    map stored_as (zip (map (λ (v : View). plain_bytes a.buffers v) vs) (map (λ (p : ℕ × View). stream_of (coding_of a moved p.0 p.1) (plain_bytes a.buffers p.1)) (enumerate_from at vs)))

suit_from : (a : AssetParts) (moved : List Bool) (at : ℕ) (vs : List View)
    → map length (map (λ (v : View). plain_bytes a.buffers v) vs) ≡ map (λ (v : View). v.length) vs
    → ((v : View) → AreBytes (plain_bytes a.buffers v))
    → SuitEach vs (stored_from a moved at vs)
suit_from a moved at [] lengths small = tt
suit_from a moved at (v ∷ vs) lengths small =
    let bytes = plain_bytes a.buffers v in
    let long : length bytes ≡ v.length = cc in
    let others : map length (map (λ (v : View). plain_bytes a.buffers v) vs) ≡ map (λ (v : View). v.length) vs = cc in (
      record { whole = long; stream = stream_suits v (coding_of a moved at v) bytes (coding_fits a moved at v) long (small v) },
      suit_from a moved (at + 1) vs others small,
    )

-- the contents of views without compressed forms
pub plain_contents : (a : AssetParts) (k : ℕ) (vs : List View) → All (λ (v : View). v.packed ≡ None) vs
    → contents_from a k vs ≡ Ok (map (λ (v : View). plain_bytes a.buffers v) vs)
plain_contents a k [] plain = refl
plain_contents a k (v ∷ vs) plain =
    let own = All-head (λ (v : View). v.packed ≡ None) v vs plain in
    let others = plain_contents a (k + 1) vs (All-tail (λ (v : View). v.packed ≡ None) v vs plain) in
    let first : Result (List ℕ) FaultyView = Ok (plain_bytes a.buffers v) in
    ap (λ packed. joined (at_view k (contents_by a.buffers v packed)) (contents_from a (k + 1) vs)) own ∙ ap (joined first) others

pub small_views : (bytes : List ℕ) (d : Document) (a : AssetParts) → AreBytes bytes → IsDocument bytes d → asset_of Plain d ≡ Ok a
    → (v : View) → AreBytes (plain_bytes a.buffers v)
unfolding asset_of
small_views bytes d a small is e =
    asset_holds Plain d.tree d.bin a e (λ f used r h all.
    let chunk = bin_bytes bytes is.holds.json d.bin d.rest small is.holds.container in
    let held = (rules_hold f.buffers f.views f.accessors d.bin r h.by_rule).all_buffers in
    let below = buffers_below f.views d.bin f.buffers r.buffers chunk held in
    subst (λ (x : AssetParts). (v : View) → AreBytes (plain_bytes x.buffers v)) all (λ v. view_below r.buffers v below))

pub whole_views : (d : Document) (a : AssetParts) → asset_of Plain d ≡ Ok a → All (λ (v : View). v.packed ≡ None) a.views
    → map length (map (λ (v : View). plain_bytes a.buffers v) a.views) ≡ map (λ (v : View). v.length) a.views
unfolding asset_of all_contents
whole_views d a e plain = contents_are_whole Plain d.tree d.bin a (map (λ (v : View). plain_bytes a.buffers v) a.views) e (plain_contents a 0 a.views plain)

-- whatever moves
pub all_suit : (moved : List Moved) (bytes : List ℕ) (d : Document) (a : AssetParts) → AreBytes bytes → IsDocument bytes d → asset_of Plain d ≡ Ok a → SuitEach a.views (all_stored moved a)
unfolding all_stored stored_views
all_suit moved bytes d a small is e =
    suit_from a (moved_flags moved (length a.accessors)) 0 a.views (whole_views d a e (none_compressed d a e)) (small_views bytes d a small is e)
