-- The contents of views are as long as the views say.
use Rattle.std.proofs.Common.{◌≡◌, ℕ, ◌+◌, ◌*◌, ◌%◌, ◌≤◌, Bool, true, false, not, ◌||◌, ◌&&◌, List, [], ◌∷◌, map, length, take, drop, nat_lt, Option, Some, None, Result, Ok, Err, codes, unwrap_or, refl, sym, ap, subst, ◌∙◌, arith}
use Rattle.std.specs.Prelude.{◌==◌}
use Rattle.std.specs.List.{slice_get, list_any, list_all}
use Rattle.std.specs.Option.{option_map, option_and_then, is_none}
use Rattle.std.proofs.lemmas.Bool.{or_parts, or_left, or_right, eq-eqb, eqb-true, ltb-false}
use Rattle.std.proofs.lemmas.List.{length-take-le, length-drop}
use Rattle.gp_tree.specs.Find.{is_named}
use Rattle.gp_groups.specs.declared.fault.StreamFault.{StreamFault}
use Rattle.gp_fields.specs.Fields.{BufferFields, ViewFields, PackedFields, AccessorFields}
use Rattle.gp_rules.specs.declared.fault.AssetFault.TheVariants.{Buffer, Extension, Filter}
use Rattle.gp_rules.specs.declared.storage.View.{View}
use Rattle.gp_rules.specs.declared.storage.Packed.{Packed}
use Rattle.gp_rules.specs.declared.storage.StreamMode.{StreamMode}
use Rattle.gp_rules.specs.declared.storage.StreamMode.TheVariants.{Attributes, Triangles, Indices}
use Rattle.gp_rules.specs.Kinds.{mode_of}
use Rattle.gp_fields.specs.Record.{◌>>=◌}
use Rattle.gp_rules.specs.Checks.{joined, unless, each}
use Rattle.gp_rules.specs.Views.{is_bad_view, is_bad_packed, is_filter, is_stride_in, agrees, is_count_in, is_stride_of_view, packed_of, packed_with, view_of, buffer_length, runs_past}
use Rattle.gp_asset.specs.Buffers.{buffer_of, buffer_in_use, buffer_bytes, bytes_if, is_marker, is_needed, stored_bytes, refers_to}
use Rattle.gp_asset.specs.Asset.{AssetParts, RuledParts, by_rules}
use Rattle.gp_asset.specs.Contents.{buffer_at, stream_bytes}
use Rattle.gp_unpack.specs.Contents.{FaultyView, decoded, contents_by, contents_of, at_view, contents_from, all_contents}
use Rattle.gp_unpack.specs.Laws.{ContentsAreWhole}
use Rattle.gp_document.proofs.Few.{step, passes, same, with_packed}
use Rattle.gp_unpack.proofs.Shapes.{kept, shape}
use Rattle.gp_unpack.proofs.Lengths.{attributes_length, triangles_length, sequence_length}
use Rattle.gp_unpack.proofs.Drawn.{each_at, view_holds, rules_hold, asset_holds}

-- ---- a buffer that is needed has all its bytes

stored : (bin : Option (List ℕ)) (at : ℕ) (b : BufferFields) (bytes : List ℕ) → buffer_bytes bin at b ≡ Ok bytes → b.length ≤ length bytes
unfolding buffer_bytes
stored bin at b bytes e =
    step (stored_bytes bin at b.uri) (λ bytes. unless (nat_lt (length bytes) b.length) (Buffer at) (Ok bytes)) bytes e (λ found is more.
    passes (nat_lt (length found) b.length) (Buffer at) (Ok found) bytes more (λ enough whole.
    subst (λ (bytes : List ℕ). b.length ≤ length bytes) (same found bytes whole) (ltb-false (length found) b.length enough)))

given : (needed : Bool) (bin : Option (List ℕ)) (at : ℕ) (b : BufferFields) (held : Option (List ℕ)) → needed ≡ true
    → bytes_if needed bin at b ≡ Ok held → b.length ≤ length (unwrap_or held [])
given false bin at b held wanted e = absurd (cc)
given true bin at b held wanted e =
    step (buffer_bytes bin at b) (λ bytes. Ok (Some bytes)) held e (λ bytes is whole.
    subst (λ (held : Option (List ℕ)). b.length ≤ length (unwrap_or held [])) (same (Some bytes) held whole) (stored bin at b bytes is))

one_buffer : (views : List ViewFields) (bin : Option (List ℕ)) (at : ℕ) (b : BufferFields) (held : Option (List ℕ))
    → is_needed views at ≡ true → buffer_of views bin at b ≡ Ok held → b.length ≤ length (unwrap_or held [])
unfolding buffer_of
one_buffer views bin at b held needed e =
    passes (not (list_all is_marker b.extensions)) (Buffer at) (bytes_if (is_needed views at) bin at b) held e (λ markers more.
    given (is_needed views at) bin at b held needed more)

long_by : (buffers : List BufferFields) (bs : List (Option (List ℕ))) (at : ℕ) (found : Option BufferFields)
    → ((b : BufferFields) → found ≡ Some b → (held : Option (List ℕ)) × (slice_get bs at ≡ Some held) × (b.length ≤ length (unwrap_or held [])))
    → unwrap_or (option_map (λ (b : BufferFields). b.length) found) 0 ≤ length (buffer_at bs at)
long_by buffers bs at None each = omega arith
long_by buffers bs at (Some b) each =
    let held = each b refl in
    let is : buffer_at bs at ≡ unwrap_or held.0 [] = ap (λ o. unwrap_or (option_and_then (λ b. b) o) []) held.1 in
    rw is held.2

long : (views : List ViewFields) (bin : Option (List ℕ)) (buffers : List BufferFields) (bs : List (Option (List ℕ))) (at : ℕ)
    → each (buffer_of views bin) 0 buffers ≡ Ok bs → is_needed views at ≡ true → buffer_length buffers at ≤ length (buffer_at bs at)
long views bin buffers bs at e needed = long_by buffers bs at (slice_get buffers at) (λ b is.
    let held = each_at (buffer_of views bin) 0 at at buffers bs b (omega arith) e is in
    (held.0, held.1, one_buffer views bin at b held.0 needed held.2))

-- ---- a view holds as many bytes as it says

decoded_length : (mode : StreamMode) (bytes : List ℕ) (count stride : ℕ) (xs : List ℕ) → is_count_in mode count ≡ true
    → decoded mode bytes count stride ≡ Ok xs → length xs ≡ count * stride
unfolding decoded
decoded_length Attributes bytes count stride xs counted e = attributes_length bytes count stride xs e
decoded_length Triangles bytes count stride xs counted e = triangles_length bytes count stride xs (eqb-true (count % 3) 0 counted) e
decoded_length Indices bytes count stride xs counted e = sequence_length bytes count stride xs e

fits : (x y m a z : Bool) → (x || y || (not m || a) || z) ≡ false → m ≡ true
fits true y m a z e = absurd (cc)
fits false true m a z e = absurd (cc)
fits false false true a z e = refl
fits false false false a z e = absurd (cc)

size : (buffers : List BufferFields) (v : ViewFields) (p : PackedFields) (mode : StreamMode) → is_bad_packed buffers v p mode ≡ false
    → p.stride * p.count ≡ v.length
unfolding is_bad_packed
size buffers v p mode e = eqb-true (p.stride * p.count) v.length (fits
    (not (is_filter p.filter) || p.count == 0) (not (is_stride_in mode p.stride) || not (is_count_in mode p.count))
    (p.stride * p.count == v.length) (not (agrees v.stride p.stride)) (runs_past buffers p.buffer p.offset p.length) e)

abbrev Holds : List (Option (List ℕ)) → ViewFields → Option Packed → Type 0
Holds bs v packed = (c : List ℕ) → contents_by bs (with_packed v packed) packed ≡ Ok c → length c ≡ v.length

packed_with_holds : (buffers : List BufferFields) (bs : List (Option (List ℕ))) (at : ℕ) (v : ViewFields) (p : PackedFields) (mode : Option StreamMode) (packed : Option Packed)
    → packed_with buffers at v p mode ≡ Ok packed → Holds bs v packed
packed_with_holds buffers bs at v p None packed e = absurd (cc)
packed_with_holds buffers bs at v p (Some mode) packed e =
    passes (is_bad_packed buffers v p mode) (Extension at) (unless (not (is_named (codes "NONE") p.filter)) (Filter at) (Ok (Some (kept p mode)))) packed e (λ good more.
    passes (not (is_named (codes "NONE") p.filter)) (Filter at) (Ok (Some (kept p mode))) packed more (λ unfiltered found.
    subst (Holds bs v) (same (Some (kept p mode)) packed found) (λ c is.
    let all = decoded_length mode (stream_bytes bs (kept p mode)) p.count p.stride c (shape buffers v p mode good).1 is in
    let whole = size buffers v p mode good in
    omega (arith, all, whole))))

packed_holds : (buffers : List BufferFields) (bs : List (Option (List ℕ))) (at : ℕ) (v : ViewFields) (p : Option PackedFields) (packed : Option Packed)
    → (is_none p && runs_past buffers v.buffer v.offset v.length) ≡ false
    → buffer_length buffers (buffer_in_use v.buffer p) ≤ length (buffer_at bs (buffer_in_use v.buffer p))
    → packed_of buffers at v p ≡ Ok packed → Holds bs v packed
packed_holds buffers bs at v (Some p) packed within room e = packed_with_holds buffers bs at v p (mode_of p.mode) packed e
packed_holds buffers bs at v None packed within room e =
    subst (Holds bs v) (same None packed e) (λ c is.
    let end = ltb-false (buffer_length buffers v.buffer) (v.offset + v.length) within in
    let bytes = buffer_at bs v.buffer in
    let all : take v.length (drop v.offset bytes) ≡ c = cc in
    ap length (sym all) ∙ length-take-le v.length (drop v.offset bytes) (omega (arith, length-drop v.offset bytes, end, room)))

view_whole : (views : List ViewFields) (bin : Option (List ℕ)) (buffers : List BufferFields) (bs : List (Option (List ℕ))) (at : ℕ) (v : ViewFields) (y : View) (c : List ℕ)
    → each (buffer_of views bin) 0 buffers ≡ Ok bs → is_needed views (buffer_in_use v.buffer v.packed) ≡ true
    → view_of buffers at v ≡ Ok y → contents_by bs y y.packed ≡ Ok c → length c ≡ y.length
unfolding is_bad_view
view_whole views bin buffers bs at v y c held needed e is =
    let h = view_holds buffers at v y e in
    let within = (or_parts (v.length == 0 || not (is_stride_of_view v.stride)) (is_none v.packed && runs_past buffers v.buffer v.offset v.length) h.good).1 in
    let room = long views bin buffers bs (buffer_in_use v.buffer v.packed) held needed in
    let own : contents_by bs (with_packed v y.packed) y.packed ≡ Ok c = ap (λ w. contents_by bs w y.packed) h.own ∙ is in
    packed_holds buffers bs at v v.packed y.packed within room h.packed c own ∙ ap (λ (w : View). w.length) h.own

-- ---- all views

there : (at : ℕ) (r : Result (List ℕ) StreamFault) (c : List ℕ) → at_view at r ≡ Ok c → r ≡ Ok c
there at (Ok found) c e = let d : found ≡ c = cc in ap Ok d
there at (Err fault) c e = absurd (cc)

pub taken : {P : Type 0} (one : Result (List ℕ) FaultyView) (others : Result (List (List ℕ)) FaultyView) (all : List (List ℕ))
    → joined one others ≡ Ok all
    → ((c : List ℕ) (rest : List (List ℕ)) → one ≡ Ok c → others ≡ Ok rest → c ∷ rest ≡ all → P) → P
taken (Err fault) others all e then_holds = absurd (cc)
taken (Ok c) (Err fault) all e then_holds = absurd (cc)
taken (Ok c) (Ok rest) all e then_holds = then_holds c rest refl refl (cc)

used_here : (v : ViewFields) (views : List ViewFields) → is_needed (v ∷ views) (buffer_in_use v.buffer v.packed) ≡ true
unfolding is_needed
used_here v views =
    let at = buffer_in_use v.buffer v.packed in
    or_left (at == at) (list_any (refers_to at) views) (eq-eqb at at refl)

used_later : (v : ViewFields) (views : List ViewFields) (at : ℕ) → is_needed views at ≡ true → is_needed (v ∷ views) at ≡ true
unfolding is_needed
used_later v views at e = or_right (refers_to at v) (list_any (refers_to at) views) e

whole_from : (all : List ViewFields) (bin : Option (List ℕ)) (buffers : List BufferFields) (a : AssetParts) (fs : List ViewFields) (vs : List View) (at k : ℕ) (contents : List (List ℕ))
    → each (buffer_of all bin) 0 buffers ≡ Ok a.buffers → ((i : ℕ) → is_needed fs i ≡ true → is_needed all i ≡ true)
    → each (view_of buffers) at fs ≡ Ok vs → contents_from a k vs ≡ Ok contents → map length contents ≡ map (λ (v : View). v.length) vs
whole_from all bin buffers a [] vs at k contents held needed e is =
    let none : [] ≡ vs = same [] vs e in
    let empty : contents_from a k [] ≡ Ok contents = ap (contents_from a k) none ∙ is in
    let nothing : [] ≡ contents = cc in
    ap (map length) (sym nothing) ∙ ap (map (λ (v : View). v.length)) none
whole_from all bin buffers a (v ∷ fs) vs at k contents held needed e is =
    step (view_of buffers at v) (λ y. each (view_of buffers) (at + 1) fs >>= λ ys. Ok (y ∷ ys)) vs e (λ y one more.
    step (each (view_of buffers) (at + 1) fs) (λ ys. Ok (y ∷ ys)) vs more (λ ys others whole.
    let views = same (y ∷ ys) vs whole in
    let now : contents_from a k (y ∷ ys) ≡ Ok contents = ap (contents_from a k) views ∙ is in
    taken (at_view k (contents_of a y)) (contents_from a (k + 1) ys) contents now (λ c rest here later joins.
    let first = view_whole all bin buffers a.buffers at v y c held (needed (buffer_in_use v.buffer v.packed) (used_here v fs)) one (there k (contents_of a y) c here) in
    let next = whole_from all bin buffers a fs ys (at + 1) (k + 1) rest held (λ i h. needed i (used_later v fs i h)) others later in
    ap (map length) (sym joins) ∙ ap (λ n. n ∷ map length rest) first ∙ ap (λ ns. y.length ∷ ns) next ∙ ap (map (λ (v : View). v.length)) views)))

pub ruled_are_whole : (buffers : List BufferFields) (views : List ViewFields) (accessors : List AccessorFields) (bin : Option (List ℕ)) (r : RuledParts) (a : AssetParts) (contents : List (List ℕ))
    → by_rules buffers views accessors bin ≡ Ok r → r.buffers ≡ a.buffers → r.views ≡ a.views → all_contents a ≡ Ok contents
    → map length contents ≡ map (λ (v : View). v.length) a.views
unfolding all_contents
ruled_are_whole buffers views accessors bin r a contents e same_buffers same_views is =
    let h = rules_hold buffers views accessors bin r e in
    whole_from views bin buffers a views a.views 0 0 contents (h.all_buffers ∙ ap Ok same_buffers) (λ i needed. needed) (h.all_views ∙ ap Ok same_views) is

pub contents_are_whole : ContentsAreWhole
contents_are_whole form t bin a contents e is =
    asset_holds form t bin a e (λ fields used ruled h all.
    ruled_are_whole fields.buffers fields.views fields.accessors bin ruled a contents h.by_rule (ap (λ (x : AssetParts). x.buffers) all) (ap (λ (x : AssetParts). x.views) all) is)
