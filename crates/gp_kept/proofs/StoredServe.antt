-- What is stored of an asset's views serves them, whatever their bytes are.
use Rattle.std.specs.Prelude.{IfSome, if◌then◌else◌, nat_lt}
use Rattle.std.specs.List.{AllZip}
use Rattle.std.proofs.Common.{◌≡◌, ℕ, ◌+◌, ◌*◌, ◌/◌, ◌%◌, Bool, true, false, List, [], ◌∷◌, map, length, Option, Some, None, Ok, refl, ap, ◌∙◌, arith}
use Rattle.std.proofs.lemmas.Bool.{ltb-true}
use Rattle.gp_groups.specs.WrittenSequence.{encoded_sequence}
use Rattle.gp_tree.specs.Plain.{PlainTree}
use Rattle.gp_rules.specs.declared.storage.View.{View}
use Rattle.gp_rules.specs.declared.storage.StreamMode.{StreamMode}
use Rattle.gp_rules.specs.declared.storage.StreamMode.TheVariants.{Attributes, Triangles, Indices}
use Rattle.gp_asset.specs.declared.purpose.Form.TheVariants.{Plain}
use Rattle.gp_asset.specs.Contents.{plain_bytes}
use Rattle.gp_asset.specs.Asset.{AssetParts, asset}
use Rattle.gp_document.specs.Document.{Document}
use Rattle.gp_document.specs.Accepted.{asset_of}
use Rattle.gp_storage.specs.declared.coding.Coding.{Coding}
use Rattle.gp_storage.specs.Coding.{numbers_in, coding_of}
use Rattle.gp_storage.specs.Streams.{encoded, stream_of, stored_views}
use Rattle.gp_sameness.specs.Moved.{Moved, moved_flags}
use Rattle.gp_packed.specs.Plan.{all_stored}
use Rattle.gp_packed.specs.RulesMoved.{IsStreamFor}
use Rattle.gp_packed.proofs.Unpacked.{none_compressed}
use Rattle.gp_packed.proofs.StoredSuits.{whole_elements, long_stream, FitsAttributes, FitsSequence, FitsMode, FitsCoding, sequence_for, coding_fits, stored_from, whole_views}
use Rattle.gp_kept.proofs.MadeServe.{ServesView, CodesFor, coded}

attributes_code : (v : View) (stride : ℕ) (bytes : List ℕ) → FitsAttributes v stride → length bytes ≡ v.length → CodesFor v.stride bytes (record { mode = Attributes; stride = stride })
unfolding encoded
attributes_code v stride bytes fit long =
    let all : stride * (length bytes / stride) ≡ length bytes = whole_elements (length bytes) stride (ap (λ n. n % stride) long ∙ fit.whole) in
    record { strides = fit.fits; counts = refl; whole = all; agree = fit.agree; longer = long_stream bytes (length bytes / stride) stride (omega (arith, all)) }

sequence_by : (v : View) (width : ℕ) (bytes : List ℕ) (shorter : Bool) → FitsSequence v bytes width → length bytes ≡ v.length
    → nat_lt (length (encoded_sequence (numbers_in width bytes))) (length bytes) ≡ shorter
    → IfSome (if shorter then Some (record { coding = record { mode = Indices; stride = width }; bytes = encoded_sequence (numbers_in width bytes) }) else None) (IsStreamFor v.stride bytes)
sequence_by v width bytes true fits long is = sequence_for v width bytes fits long (ltb-true (length (encoded_sequence (numbers_in width bytes))) (length bytes) is)
sequence_by v width bytes false fits long is = tt

by_mode : (v : View) (mode : StreamMode) (stride : ℕ) (bytes : List ℕ) → FitsMode v bytes mode stride → length bytes ≡ v.length
    → IfSome (stream_of (Some (record { mode = mode; stride = stride })) bytes) (IsStreamFor v.stride bytes)
unfolding stream_of encoded
by_mode v Attributes stride bytes fits long = coded v.stride bytes (record { mode = Attributes; stride = stride }) (attributes_code v stride bytes fits long)
by_mode v Triangles stride bytes fits long = absurd fits
by_mode v Indices stride bytes fits long = sequence_by v stride bytes (nat_lt (length (encoded_sequence (numbers_in stride bytes))) (length bytes)) fits long refl

stream_serves : (v : View) (coding : Option Coding) (bytes : List ℕ) → IfSome coding (FitsCoding v bytes) → length bytes ≡ v.length → IfSome (stream_of coding bytes) (IsStreamFor v.stride bytes)
unfolding stream_of
stream_serves v None bytes fits long = tt
stream_serves v (Some c) bytes fits long = by_mode v c.mode c.stride bytes fits long

from_serve : (a : AssetParts) (moved : List Bool) (at : ℕ) (vs : List View)
    → map length (map (λ (v : View). plain_bytes a.buffers v) vs) ≡ map (λ (v : View). v.length) vs
    → AllZip ServesView vs (stored_from a moved at vs)
from_serve a moved at [] lengths = tt
from_serve a moved at (v ∷ vs) lengths =
    let bytes = plain_bytes a.buffers v in
    let long : length bytes ≡ v.length = cc in
    let others : map length (map (λ (v : View). plain_bytes a.buffers v) vs) ≡ map (λ (v : View). v.length) vs = cc in (
      record { whole = long; stream = stream_serves v (coding_of a moved at v) bytes (coding_fits a moved at v) long },
      from_serve a moved (at + 1) vs others,
    )

document_of : PlainTree → Option (List ℕ) → Document
document_of t bin = record { tree = t; bin = bin; rest = [] }

pub stored_serve : (t : PlainTree) (bin : Option (List ℕ)) (a : AssetParts) (moved : List Moved) → asset Plain t bin ≡ Ok a → AllZip ServesView a.views (all_stored moved a)
unfolding all_stored stored_views asset_of document_of
stored_serve t bin a moved e =
    let d = document_of t bin in
    from_serve a (moved_flags moved (length a.accessors)) 0 a.views (whole_views d a e (none_compressed d a e))
