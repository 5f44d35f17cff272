-- The rules let through the views of an asset that are stored in one buffer, plain or as streams.
use Rattle.std.proofs.Common.{◌≡◌, ℕ, zero, suc, ◌+◌, ◌*◌, ◌/◌, ◌≤◌, Bool, true, false, not, ◌||◌, List, [], ◌∷◌, length, nat_lt, Option, Some, None, Ok, codes, refl, sym, ap, ◌∙◌, arith}
use Rattle.std.specs.Prelude.{◌==◌}
use Rattle.std.specs.Str.{chars}
use Rattle.std.specs.Option.{IfSome}
use Rattle.std.proofs.lemmas.Bool.{or_parts, or_from, le-ltb, eqb-false, eq-eqb, ne_eqb, not_from_true}
use Rattle.gp_tree.specs.Find.{is_named}
use Rattle.gp_fields.specs.Fields.{BufferFields, ViewFields}
use Rattle.gp_rules.specs.Sizes.{padded}
use Rattle.gp_rules.specs.declared.fault.AssetFault.TheVariants.{View as BadView, Buffer, Extension, Filter}
use Rattle.gp_rules.specs.declared.storage.View.{View}
use Rattle.gp_rules.specs.declared.storage.Packed.{Packed}
use Rattle.gp_rules.specs.declared.storage.StreamMode.{StreamMode}
use Rattle.gp_rules.specs.declared.storage.StreamMode.TheVariants.{Attributes, Triangles, Indices}
use Rattle.gp_rules.specs.Kinds.{mode_name, mode_of}
use Rattle.gp_fields.specs.Record.{◌>>=◌}
use Rattle.gp_rules.specs.Checks.{unless, each}
use Rattle.gp_rules.specs.Views.{is_bad_view, is_stride_of_view, is_bad_packed, is_filter, is_stride_in, is_count_in, agrees, buffer_length, runs_past, packed_with, view_of}
use Rattle.gp_asset.specs.Buffers.{buffer_of, buffer_bytes, bytes_if, is_needed}
use Rattle.gp_rules.proofs.Filters.{none_is_none, none_is_filter}
use Rattle.gp_edits.specs.ReadingBack.{buffer_of_length}
use Rattle.gp_storage.specs.declared.coding.Stream.{Stream}
use Rattle.gp_document.proofs.Few.{with_packed}
use Rattle.gp_packed.specs.Plan.{Stored, Place, stream_bytes, part_of, length_unless}
use Rattle.gp_packed.specs.StoredParts.{fallback_of_length, buffers_for, bytes_for, packed_fields_of, packed_part_of, view_fields_by, view_part_by, stored_views_fields}
use Rattle.gp_packed.specs.RulesMoved.{IsStreamFor}
use Rattle.gp_kept.proofs.StoredRow.{edits_behind}

-- ---- buffers

-- each view has its bytes in the first buffer, and so has a stream
pub in_the_first : (length : ℕ) (stream : Option Stream) (place : Place) (f : ViewFields) (fs : List ViewFields) → is_needed (view_fields_by length stream place f ∷ fs) 0 ≡ true
unfolding is_needed
in_the_first length None place f fs = refl
in_the_first length (Some stream) place f fs = refl

not_in_the_second : (length : ℕ) (stream : Option Stream) (place : Place) (f : ViewFields) (fs : List ViewFields) → is_needed (view_fields_by length stream place f ∷ fs) 1 ≡ is_needed fs 1
unfolding is_needed
not_in_the_second length None place f fs = refl
not_in_the_second length (Some stream) place f fs = refl

pub none_in_the_second : (at fallback : ℕ) (ss : List Stored) (fs : List ViewFields) → is_needed (stored_views_fields (edits_behind at fallback ss) fs) 1 ≡ false
unfolding is_needed
none_in_the_second at fallback [] fs = refl
none_in_the_second at fallback (s ∷ ss) [] = refl
none_in_the_second at fallback (s ∷ ss) (f ∷ fs) =
    let place : Place = record { start = padded at; fallback = padded fallback } in
    let behind = padded at + length (part_of s) in
    let past = padded fallback + length_unless s.contents s.stream in
    not_in_the_second (length s.contents) s.stream place f (stored_views_fields (edits_behind behind past ss) fs)
    ∙ none_in_the_second behind past ss fs

first_passes : (fs : List ViewFields) (n : ℕ) (bytes : List ℕ) → is_needed fs 0 ≡ true → n ≤ length bytes → buffer_of fs (Some bytes) 0 (buffer_of_length n) ≡ Ok (Some bytes)
unfolding buffer_of buffer_bytes
first_passes fs n bytes needed room =
    ap (λ needed. bytes_if needed (Some bytes) 0 (buffer_of_length n)) needed
    ∙ ap (λ short. unless short (Buffer 0) (Ok bytes) >>= λ bytes. Ok (Some bytes)) (le-ltb (length bytes) n room)

second_passes : (fs : List ViewFields) (n : ℕ) (bytes : List ℕ) → is_needed fs 1 ≡ false → buffer_of fs (Some bytes) 1 (fallback_of_length n) ≡ Ok None
unfolding buffer_of chars
second_passes fs n bytes unneeded = ap (λ needed. bytes_if needed (Some bytes) 1 (fallback_of_length n)) unneeded

pub buffers_pass : (two : Bool) (fs : List ViewFields) (n fallback : ℕ) (bytes : List ℕ) → is_needed fs 0 ≡ true → is_needed fs 1 ≡ false → n ≤ length bytes
    → each (buffer_of fs (Some bytes)) 0 (buffers_for two n fallback) ≡ Ok (bytes_for two bytes)
buffers_pass false fs n fallback bytes needed unneeded room = ap (λ r. r >>= λ y. Ok (y ∷ [])) (first_passes fs n bytes needed room)
buffers_pass true fs n fallback bytes needed unneeded room =
    ap (λ r. r >>= λ y. each (buffer_of fs (Some bytes)) 1 (fallback_of_length fallback ∷ []) >>= λ ys. Ok (y ∷ ys)) (first_passes fs n bytes needed room)
    ∙ ap (λ r. (r >>= λ y. Ok (y ∷ [])) >>= λ ys. Ok (Some bytes ∷ ys)) (second_passes fs fallback bytes unneeded)

pub first_length : (two : Bool) (n fallback : ℕ) → buffer_length (buffers_for two n fallback) 0 ≡ n
first_length false n fallback = refl
first_length true n fallback = refl

-- ---- one view

mode_again : (mode : StreamMode) → mode_of (mode_name mode) ≡ Some mode
unfolding mode_of chars
mode_again Attributes = refl
mode_again Triangles = refl
mode_again Indices = refl

-- the four tests of an extension object, of which each finds nothing wrong
finds_nothing : (x1 x2 x3 x4 x5 x6 x7 : Bool) → x1 ≡ true → x2 ≡ false → x3 ≡ true → x4 ≡ true → x5 ≡ true → x6 ≡ true → x7 ≡ false
    → ((not x1 || x2) || (not x3 || not x4) || (not x5 || not x6) || x7) ≡ false
finds_nothing x1 x2 x3 x4 x5 x6 x7 e1 e2 e3 e4 e5 e6 e7 =
    let first = or_from (not x1) x2 (not_from_true x1 e1) e2 in
    let second = or_from (not x3) (not x4) (not_from_true x3 e3) (not_from_true x4 e4) in
    let third = or_from (not x5) (not x6) (not_from_true x5 e5) (not_from_true x6 e6) in
    let both = or_from (not x1 || x2) (not x3 || not x4) first second in
    or_from ((not x1 || x2) || (not x3 || not x4) || (not x5 || not x6)) x7 (or_from ((not x1 || x2) || (not x3 || not x4)) (not x5 || not x6) both third) e7

some_count : (stride count size : ℕ) → stride * count ≡ size → (size == 0) ≡ false → (count == 0) ≡ false
some_count stride zero size whole some = absurd (eqb-false size 0 some (omega (arith, whole)))
some_count stride (suc count) size whole some = ne_eqb (suc count) 0 (λ e. absurd (omega (arith, e)))

packed_good : (buffers : List BufferFields) (n : ℕ) (place : Place) (f : ViewFields) (stride : Option ℕ) (contents : List ℕ) (stream : Stream)
    → buffer_length buffers 0 ≡ n → place.start + length stream.bytes ≤ n → (f.length == 0) ≡ false → f.stride ≡ stride → length contents ≡ f.length → IsStreamFor stride contents stream
    → is_bad_packed buffers (view_fields_by (length contents) (Some stream) place f) (packed_fields_of place.start (length contents) stream) stream.coding.mode ≡ false
unfolding is_bad_packed
packed_good buffers n place f stride contents stream first room some own whole is =
    let count = length contents / stream.coding.stride in
    let all : stream.coding.stride * count ≡ f.length = is.whole ∙ whole in
    let agree : agrees f.stride stream.coding.stride ≡ true = ap (λ o. agrees o stream.coding.stride) own ∙ is.agree in
    let within : runs_past buffers 0 place.start (length stream.bytes) ≡ false = ap (λ m. nat_lt m (place.start + length stream.bytes)) first ∙ le-ltb n (place.start + length stream.bytes) room in
    finds_nothing (is_filter (codes "NONE")) (count == 0) (is_stride_in stream.coding.mode stream.coding.stride) (is_count_in stream.coding.mode count)
    (stream.coding.stride * count == f.length) (agrees f.stride stream.coding.stride) (runs_past buffers 0 place.start (length stream.bytes))
    (sym (none_is_filter (codes "NONE") refl)) (some_count stream.coding.stride count f.length all some) is.strides is.counts (eq-eqb (stream.coding.stride * count) f.length all) agree within

packed_passes : (buffers : List BufferFields) (at n : ℕ) (place : Place) (f : ViewFields) (stride : Option ℕ) (contents : List ℕ) (stream : Stream)
    → buffer_length buffers 0 ≡ n → place.start + length stream.bytes ≤ n → (f.length == 0) ≡ false → f.stride ≡ stride → length contents ≡ f.length → IsStreamFor stride contents stream
    → packed_with buffers at (view_fields_by (length contents) (Some stream) place f) (packed_fields_of place.start (length contents) stream) (mode_of (mode_name stream.coding.mode))
    ≡ Ok (Some (packed_part_of place.start (length contents) stream))
packed_passes buffers at n place f stride contents stream first room some own whole is =
    let v = view_fields_by (length contents) (Some stream) place f in
    let p = packed_fields_of place.start (length contents) stream in
    let packed = packed_part_of place.start (length contents) stream in
    ap (packed_with buffers at v p) (mode_again stream.coding.mode)
    ∙ ap (λ bad. unless bad (Extension at) (unless (not (is_named (codes "NONE") (codes "NONE"))) (Filter at) (Ok (Some packed)))) (packed_good buffers n place f stride contents stream first room some own whole is)
    ∙ ap (λ filtered. unless filtered (Filter at) (Ok (Some packed))) (sym (none_is_none (codes "NONE") refl))

pub one_by : (two : List BufferFields) (n at : ℕ) (contents : List ℕ) (stream : Option Stream) (place : Place) (f : ViewFields) (y : View)
    → buffer_length two 0 ≡ n → (f.length == 0 || not (is_stride_of_view f.stride)) ≡ false → with_packed f y.packed ≡ y
    → length contents ≡ y.length → IfSome stream (IsStreamFor y.stride contents)
    → place.start + length (stream_bytes contents stream) ≤ n
    → view_of two at (view_fields_by (length contents) stream place f) ≡ Ok (view_part_by (length contents) stream place y)
unfolding view_of is_bad_view
one_by two n at contents None place f y first sound own whole is room =
    let long : f.length ≡ length contents = ap (λ (w : View). w.length) own ∙ sym whole in
    let within : runs_past two 0 place.start f.length ≡ false =
    ap (λ m. nat_lt m (place.start + f.length)) first ∙ le-ltb n (place.start + f.length) (omega (arith, room, long)) in
    let good = or_from (f.length == 0 || not (is_stride_of_view f.stride)) (runs_past two 0 place.start f.length) sound within in
    ap (λ bad. unless bad (BadView at) (Ok (view_part_by (length contents) None place (with_packed f y.packed)))) good
    ∙ ap (λ w. Ok (view_part_by (length contents) None place w)) own
one_by two n at contents (Some stream) place f y first sound own whole is room =
    let long : length contents ≡ f.length = whole ∙ sym (ap (λ (w : View). w.length) own) in
    let stride : f.stride ≡ y.stride = ap (λ (w : View). w.stride) own in
    let some = (or_parts (f.length == 0) (not (is_stride_of_view f.stride)) sound).0 in
    let good = or_from (f.length == 0 || not (is_stride_of_view f.stride)) false sound refl in
    let part : Packed = packed_part_of place.start (length contents) stream in
    let made : Option Packed → View = λ packed. record { buffer = 1; offset = place.fallback; length = f.length; stride = f.stride; packed = packed } in
    let packed = packed_passes two at n place f y.stride contents stream first room some stride long is in
    ap (λ bad. unless bad (BadView at) (packed_with two at (view_fields_by (length contents) (Some stream) place f) (packed_fields_of place.start (length contents) stream) (mode_of (mode_name stream.coding.mode)) >>= λ packed. Ok (made packed))) good
    ∙ ap (λ r. r >>= λ packed. Ok (made packed)) packed
    ∙ ap (λ w. Ok (view_part_by (length contents) (Some stream) place w)) own
