-- The bytes of an asset's buffers are bytes, since those of its file are.
use Rattle.std.proofs.Common.{◌≡◌, ℕ, zero, suc, ◌+◌, ◌<◌, Bool, true, false, not, List, [], ◌∷◌, ◌++◌, length, drop, get_or, nat_lt, Option, Some, None, Ok, unwrap_or, if◌then◌else◌, inl, inr, refl, sym, ap, subst, arith}
use Rattle.std.specs.Prelude.{◌==◌}
use Rattle.std.specs.List.{All, list_all}
use Rattle.std.specs.Option.{IfSome}
use Rattle.std.proofs.Math.Seq.{take-append_seam, drop-append_seam}
use Rattle.std.proofs.lemmas.Bool.{and_parts, ltb-true, cases_lt}
use Rattle.std.proofs.lemmas.List.{get_or_past}
use Rattle.std.proofs.lemmas.List.Elements.{All-nil, All-head, All-tail, All-take, All-drop, All-from_get_or}
use Rattle.gp_tree.specs.Key.{units}
use Rattle.gp_tree.specs.Values.{all_ascii}
use Rattle.gp_glb.specs.Bytes.{Chunk, chunk_bytes, chunks_bytes, word, headed, header}
use Rattle.gp_glb.specs.Container.{StandsFor, IsGlb, bin_kind, json_kind}
use Rattle.gp_glb.specs.Uri.{code_of, uri_bytes}
use Rattle.gp_glb.proofs.Contents.{contents_agree}
use Rattle.gp_fields.specs.Fields.{BufferFields, ViewFields}
use Rattle.gp_rules.specs.declared.fault.AssetFault.TheVariants.{Buffer}
use Rattle.gp_rules.specs.declared.storage.View.{View}
use Rattle.gp_rules.specs.Checks.{unless, each}
use Rattle.gp_asset.specs.Buffers.{decoded, bytes_of_uri, bytes_of_chunk, stored_bytes, buffer_bytes, bytes_if, is_marker, is_needed, buffer_of}
use Rattle.gp_asset.specs.Contents.{buffer_at, plain_bytes}
use Rattle.gp_document.proofs.Few.{step, passes, same}
use Rattle.gp_unpack.proofs.Shapes.{each_has}
use Rattle.gp_packed.specs.StoredParts.{AreBytes}

-- ---- parts of bytes

front : (xs ys : List ℕ) → AreBytes (xs ++ ys) → AreBytes xs
front xs ys h = subst AreBytes (take-append_seam xs ys) (All-take (λ byte. byte < 256) (length xs) (xs ++ ys) h)

back : (xs ys : List ℕ) → AreBytes (xs ++ ys) → AreBytes ys
back xs ys h = subst AreBytes (drop-append_seam xs ys) (All-drop (λ byte. byte < 256) (length xs) (xs ++ ys) h)

-- past the end it is 0
pub each_below : (bytes : List ℕ) → AreBytes bytes → (k : ℕ) → get_or bytes k 0 < 256
each_below bytes h k = elim (cases_lt k (length bytes)) [
  | inl within ↦ h k 0 within
  | inr past ↦ subst (λ n. n < 256) (sym (get_or_past bytes k 0 past)) (omega arith)
]

-- ---- the BIN chunk

of_chunk : (kind : ℕ) (content : List ℕ) → AreBytes (chunk_bytes (record { kind = kind; content = content })) → AreBytes content
unfolding chunk_bytes
of_chunk kind content h = back (word (length content) ++ word kind) content h

of_chunks : (json bin : List ℕ) (others : List Chunk)
    → AreBytes (chunks_bytes (record { kind = json_kind; content = json } ∷ record { kind = bin_kind; content = bin } ∷ others)) → AreBytes bin
of_chunks json bin others h =
    let second : Chunk = record { kind = bin_kind; content = bin } in
    of_chunk bin_kind bin (front (chunk_bytes second) (chunks_bytes others)
    (back (chunk_bytes (record { kind = json_kind; content = json })) (chunks_bytes (second ∷ others)) h))

of_headed : (bytes body past : List ℕ) → bytes ≡ headed body ++ past → AreBytes bytes → AreBytes body
unfolding headed
of_headed bytes body past is h = back (header (12 + length body)) body (front (headed body) past (subst AreBytes is h))

bin_by : (bytes json : List ℕ) (bin : Option (List ℕ)) (rest : List ℕ) → AreBytes bytes → IsGlb bytes (record { json = json; bin = bin; rest = rest }) → IfSome bin AreBytes
bin_by bytes json None rest h glb = tt
bin_by bytes json (Some bin) rest h glb =
    of_chunks json bin glb.chunks.others (subst AreBytes glb.chunks.is_body (of_headed bytes glb.body glb.head.past glb.head.is_bytes h))

pub bin_bytes : (bytes json : List ℕ) (bin : Option (List ℕ)) (rest : List ℕ) → AreBytes bytes → StandsFor bytes (record { json = json; bin = bin; rest = rest }) → IfSome bin AreBytes
bin_bytes bytes json bin rest h (inl text) = subst (λ o. IfSome o AreBytes) (sym text.bin) tt
bin_bytes bytes json bin rest h (inr glb) = bin_by bytes json bin rest h glb

-- ---- a data URI

abbrev EachBelow : List ℕ → Type 0
EachBelow text = (i : ℕ) → get_or text i 0 < 256

ascii_below : (us : List ℕ) → all_ascii us ≡ true → EachBelow us
ascii_below [] all i = omega arith
ascii_below (u ∷ us) all zero = omega (arith, ltb-true u 128 (and_parts (nat_lt u 128) (all_ascii us) all).0)
ascii_below (u ∷ us) all (suc i) = ascii_below us (and_parts (nat_lt u 128) (all_ascii us) all).1 i

of_code : (at : ℕ) (code held : Option (List ℕ)) (bytes : List ℕ) → decoded at code held ≡ Ok bytes → held ≡ Some bytes
of_code at None held bytes e = absurd (cc)
of_code at (Some code) None bytes e = absurd (cc)
of_code at (Some code) (Some found) bytes e = ap Some (same found bytes e)

of_text : (at : ℕ) (text bytes : List ℕ) → EachBelow text → decoded at (code_of text) (uri_bytes text) ≡ Ok bytes → AreBytes bytes
of_text at text bytes small e =
    let holds = (contents_agree text bytes small).0 (of_code at (code_of text) (uri_bytes text) bytes e) in
    All-from_get_or (λ byte. byte < 256) bytes 0 (λ i within. holds.2.0 i)

of_units : (at : ℕ) (us bytes : List ℕ) (ascii : Bool) → all_ascii us ≡ ascii → bytes_of_uri at (if ascii then Some us else None) ≡ Ok bytes → AreBytes bytes
of_units at us bytes false all e = absurd (cc)
of_units at us bytes true all e = of_text at us bytes (ascii_below us all) e

-- ---- a buffer

chunk_of : (at : ℕ) (bin : Option (List ℕ)) (bytes : List ℕ) → IfSome bin AreBytes → bytes_of_chunk at bin ≡ Ok bytes → AreBytes bytes
chunk_of at None bytes h e = absurd (cc)
chunk_of at (Some bin) bytes h e = subst AreBytes (same bin bytes e) h

first_or_none : (first : Bool) (bin : Option (List ℕ)) → IfSome bin AreBytes → IfSome (if first then bin else None) AreBytes
first_or_none true bin h = h
first_or_none false bin h = tt

stored_below : (bin : Option (List ℕ)) (at : ℕ) (uri : _) (bytes : List ℕ) → IfSome bin AreBytes → stored_bytes bin at uri ≡ Ok bytes → AreBytes bytes
stored_below bin at None bytes h e = chunk_of at (if at == 0 then bin else None) bytes (first_or_none (at == 0) bin h) e
stored_below bin at (Some uri) bytes h e = of_units at (units uri) bytes (all_ascii (units uri)) refl e

whole_below : (bin : Option (List ℕ)) (at : ℕ) (b : BufferFields) (bytes : List ℕ) → IfSome bin AreBytes → buffer_bytes bin at b ≡ Ok bytes → AreBytes bytes
unfolding buffer_bytes
whole_below bin at b bytes h e =
    step (stored_bytes bin at b.uri) (λ bytes. unless (nat_lt (length bytes) b.length) (Buffer at) (Ok bytes)) bytes e (λ found is more.
    passes (nat_lt (length found) b.length) (Buffer at) (Ok found) bytes more (λ enough whole.
    subst AreBytes (same found bytes whole) (stored_below bin at b.uri found h is)))

given_below : (needed : Bool) (bin : Option (List ℕ)) (at : ℕ) (b : BufferFields) (held : Option (List ℕ)) → IfSome bin AreBytes → bytes_if needed bin at b ≡ Ok held → IfSome held AreBytes
given_below false bin at b held h e = subst (λ o. IfSome o AreBytes) (same None held e) tt
given_below true bin at b held h e =
    step (buffer_bytes bin at b) (λ bytes. Ok (Some bytes)) held e (λ bytes is whole.
    subst (λ o. IfSome o AreBytes) (same (Some bytes) held whole) (whole_below bin at b bytes h is))

one_below : (views : List ViewFields) (bin : Option (List ℕ)) → IfSome bin AreBytes → (at : ℕ) (b : BufferFields) (held : Option (List ℕ)) → buffer_of views bin at b ≡ Ok held → IfSome held AreBytes
unfolding buffer_of
one_below views bin h at b held e =
    passes (not (list_all is_marker b.extensions)) (Buffer at) (bytes_if (is_needed views at) bin at b) held e (λ markers more.
    given_below (is_needed views at) bin at b held h more)

-- ---- a view

or_none : (held : Option (List ℕ)) → IfSome held AreBytes → AreBytes (unwrap_or held [])
or_none None h = All-nil (λ byte. byte < 256)
or_none (Some bytes) h = h

buffer_below : (bs : List (Option (List ℕ))) (at : ℕ) → All (λ held. IfSome held AreBytes) bs → AreBytes (buffer_at bs at)
buffer_below [] at h = All-nil (λ byte. byte < 256)
buffer_below (b ∷ bs) zero h = or_none b (All-head (λ held. IfSome held AreBytes) b bs h)
buffer_below (b ∷ bs) (suc at) h = buffer_below bs at (All-tail (λ held. IfSome held AreBytes) b bs h)

pub buffers_below : (views : List ViewFields) (bin : Option (List ℕ)) (buffers : List BufferFields) (bs : List (Option (List ℕ))) → IfSome bin AreBytes
    → each (buffer_of views bin) 0 buffers ≡ Ok bs → All (λ held. IfSome held AreBytes) bs
buffers_below views bin buffers bs h e = each_has (λ held. IfSome held AreBytes) (buffer_of views bin) (one_below views bin h) 0 buffers bs e

pub view_below : (bs : List (Option (List ℕ))) (v : View) → All (λ held. IfSome held AreBytes) bs → AreBytes (plain_bytes bs v)
view_below bs v h =
    let bytes = buffer_at bs v.buffer in
    All-take (λ byte. byte < 256) v.length (drop v.offset bytes) (All-drop (λ byte. byte < 256) v.offset bytes (buffer_below bs v.buffer h))
