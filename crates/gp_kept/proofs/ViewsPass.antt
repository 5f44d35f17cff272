-- The views of a packed asset stand for its packed ones, and its buffers have their bytes.
use Rattle.std.specs.Prelude.{cond}
use Rattle.std.specs.List.{AllZip, list_any, enumerate_from}
use Rattle.std.proofs.Common.{◌≡◌, ℕ, ◌+◌, ◌≤◌, ◌==◌, ◌||◌, ◌&&◌, not, Bool, true, false, List, [], ◌∷◌, ◌++◌, map, filter, length, Option, Ok, refl, sym, ap, ◌∙◌, subst, arith}
use Rattle.std.specs.Option.{is_none}
use Rattle.std.proofs.lemmas.Bool.{or_parts}
use Rattle.gp_tree.specs.Lexical.{Each}
use Rattle.gp_fields.specs.Fields.{BufferFields, ViewFields}
use Rattle.gp_fields.specs.Record.{◌>>=◌}
use Rattle.gp_layout.specs.Layout.{end_behind, end, laid}
use Rattle.gp_layout.proofs.Bounds.{end_least}
use Rattle.gp_rules.specs.declared.storage.View.{View}
use Rattle.gp_rules.specs.Sizes.{padded}
use Rattle.gp_rules.specs.Checks.{each}
use Rattle.gp_rules.specs.Views.{is_bad_view, is_stride_of_view, buffer_length, runs_past, view_of}
use Rattle.gp_asset.specs.Buffers.{buffer_of}
use Rattle.gp_asset.specs.Asset.{AssetParts}
use Rattle.gp_document.proofs.Few.{step, same}
use Rattle.gp_unpack.proofs.Drawn.{view_holds}
use Rattle.gp_sameness.specs.Moved.{Moved}
use Rattle.gp_sameness.specs.Survivors.{survives, where_numbered}
use Rattle.gp_packed.specs.MadeViews.{made_views}
use Rattle.gp_packed.specs.Plan.{Stored, Place, part_of, parts, is_stream, length_unless, fallback_end, all_stored, stored_made, output_views}
use Rattle.gp_packed.specs.ViewEdits.{view_edits}
use Rattle.gp_packed.specs.MeshesBack.{made_fields, output_fields}
use Rattle.gp_packed.specs.StoredParts.{buffers_for, stored_buffers, bytes_for, stored_bytes, stored_part_of, stored_views_fields, stored_views_parts}
use Rattle.gp_packed.specs.PackedParts.{made_view, unstored_views}
use Rattle.gp_packed.specs.RulesMoved.{GroupsAreWhole, HasParts, BuffersPass}
use Rattle.gp_kept.proofs.StoredRow.{edits_behind, from_the_start, room_for}
use Rattle.gp_kept.proofs.StoredRules.{in_the_first, none_in_the_second, buffers_pass, first_length, one_by}
use Rattle.gp_packed.proofs.OutputViewsBack.{views_count}
use Rattle.gp_kept.proofs.MadeServe.{Sound, ServesView, MadeServes, made_serve}

-- ---- two lists, item by item

zip_step : {A B : Type 0} (R : A → B → Type 0) (b : Bool) (n : ℕ) (x : A) (y : B) (xs : List (ℕ × A)) (ys : List (ℕ × B)) → R x y
    → AllZip R (map (λ (p : ℕ × A). p.1) xs) (map (λ (p : ℕ × B). p.1) ys)
    → AllZip R (map (λ (p : ℕ × A). p.1) (cond b ((n, x) ∷ xs) xs)) (map (λ (p : ℕ × B). p.1) (cond b ((n, y) ∷ ys) ys))
zip_step R true n x y xs ys here h = (here, h)
zip_step R false n x y xs ys here h = h

zip_passing : {A B : Type 0} (R : A → B → Type 0) (test : ℕ → Bool) (n : ℕ) (xs : List A) (ys : List B) → AllZip R xs ys
    → AllZip R (map (λ (p : ℕ × A). p.1) (filter (λ (p : ℕ × A). test p.0) (enumerate_from n xs))) (map (λ (p : ℕ × B). p.1) (filter (λ (p : ℕ × B). test p.0) (enumerate_from n ys)))
zip_passing R test n [] [] h = tt
zip_passing R test n [] (y ∷ ys) h = absurd h
zip_passing R test n (x ∷ xs) [] h = absurd h
zip_passing {A} {B} R test n (x ∷ xs) (y ∷ ys) h =
    zip_step R (test n) n x y (filter (λ (p : ℕ × A). test p.0) (enumerate_from (n + 1) xs)) (filter (λ (p : ℕ × B). test p.0) (enumerate_from (n + 1) ys)) h.0
    (zip_passing R test (n + 1) xs ys h.1)

-- of those whose numbers pass
pub zip_where : {A B : Type 0} (R : A → B → Type 0) (test : ℕ → Bool) (xs : List A) (ys : List B) → AllZip R xs ys → AllZip R (where_numbered test xs) (where_numbered test ys)
zip_where R test xs ys h = zip_passing R test 0 xs ys h

pub zip_append : {A B : Type 0} (R : A → B → Type 0) (xs us : List A) (ys vs : List B) → AllZip R xs ys → AllZip R us vs → AllZip R (xs ++ us) (ys ++ vs)
zip_append R [] us [] vs h g = g
zip_append R [] us (y ∷ ys) vs h g = absurd h
zip_append R (x ∷ xs) us [] vs h g = absurd h
zip_append R (x ∷ xs) us (y ∷ ys) vs h g = (h.0, zip_append R xs us ys vs h.1 g)

-- of what is made of each
pub zip_mapped : {A B C : Type 0} (R : A → B → Type 0) (f : C → A) (g : C → B) (P : C → Type 0) → ((c : C) → P c → R (f c) (g c)) → (cs : List C) → Each P cs → AllZip R (map f cs) (map g cs)
zip_mapped R f g P one [] h = tt
zip_mapped R f g P one (c ∷ cs) h = (one c h.0, zip_mapped R f g P one cs h.1)

-- ---- the views of the input

sound_of : (buffers : List BufferFields) (at : ℕ) (f : ViewFields) (y : View) → view_of buffers at f ≡ Ok y → Sound f y
unfolding is_bad_view
sound_of buffers at f y e =
    let h = view_holds buffers at f y e in
    ((or_parts (f.length == 0 || not (is_stride_of_view f.stride)) (is_none f.packed && runs_past buffers f.buffer f.offset f.length) h.good).0, h.own)

pub all_sound : (buffers : List BufferFields) (k : ℕ) (fs : List ViewFields) (vs : List View) → each (view_of buffers) k fs ≡ Ok vs → AllZip Sound fs vs
all_sound buffers k [] vs e = subst (AllZip Sound []) (same [] vs e) tt
all_sound buffers k (f ∷ fs) vs e =
    step (view_of buffers k f) (λ y. each (view_of buffers) (k + 1) fs >>= λ ys. Ok (y ∷ ys)) vs e (λ y one more.
    step (each (view_of buffers) (k + 1) fs) (λ ys. Ok (y ∷ ys)) vs more (λ ys others whole.
    subst (AllZip Sound (f ∷ fs)) (same (y ∷ ys) vs whole) (sound_of buffers k f y one, all_sound buffers (k + 1) fs ys others)))

-- ---- the views of the output

pub output_sound : (moved : List Moved) (a : AssetParts) (fs : List ViewFields) → AllZip Sound fs a.views → GroupsAreWhole moved a → AllZip Sound (output_fields moved a fs) (unstored_views moved a)
output_sound moved a fs sound groups =
    let test = survives moved a in
    let made = made_views a moved in
    zip_append Sound (where_numbered test fs) (map made_fields made) (where_numbered test a.views) (map made_view made) (zip_where Sound test fs a.views sound)
    (zip_mapped Sound made_fields made_view MadeServes (λ v h. h.0) made (made_serve a moved groups.each))

pub output_serves : (moved : List Moved) (a : AssetParts) → AllZip ServesView a.views (all_stored moved a) → GroupsAreWhole moved a → AllZip ServesView (unstored_views moved a) (output_views moved a)
unfolding output_views
output_serves moved a serve groups =
    let test = survives moved a in
    let made = made_views a moved in
    zip_append ServesView (where_numbered test a.views) (map made_view made) (where_numbered test (all_stored moved a)) (map stored_made made)
    (zip_where ServesView test a.views (all_stored moved a) serve)
    (zip_mapped ServesView made_view stored_made MadeServes (λ v h. h.1) made (made_serve a moved groups.each))

-- ---- they pass where they are stored

places_pass : (two : List BufferFields) (n at fallback k : ℕ) (fs : List ViewFields) (vs : List View) (ss : List Stored)
    → buffer_length two 0 ≡ n → AllZip Sound fs vs → AllZip ServesView vs ss → end_behind at (map length (parts ss)) ≤ n
    → each (view_of two) k (stored_views_fields (edits_behind at fallback ss) fs) ≡ Ok (stored_views_parts (edits_behind at fallback ss) vs)
places_pass two n at fallback k fs vs [] first sound serve room = refl
places_pass two n at fallback k fs [] (s ∷ ss) first sound serve room = absurd serve
places_pass two n at fallback k [] (v ∷ vs) (s ∷ ss) first sound serve room = absurd sound
places_pass two n at fallback k (f ∷ fs) (v ∷ vs) (s ∷ ss) first sound serve room =
    let place : Place = record { start = padded at; fallback = padded fallback } in
    let behind = padded at + length (part_of s) in
    let past = padded fallback + length_unless s.contents s.stream in
    let this = one_by two n k s.contents s.stream place f v first sound.0.0 sound.0.1 serve.0.whole serve.0.stream (omega (arith, end_least behind (map length (parts ss)), room)) in
    let rest = places_pass two n behind past (k + 1) fs vs ss first sound.1 serve.1 room in
    let placed = edits_behind behind past ss in
    ap (λ r. r >>= λ z. each (view_of two) (k + 1) (stored_views_fields placed fs) >>= λ zs. Ok (z ∷ zs)) this
    ∙ ap (λ r. r >>= λ zs. Ok (stored_part_of (s, place) v ∷ zs)) rest

pub stored_pass : (fs : List ViewFields) (vs : List View) (ss : List Stored) → AllZip Sound fs vs → AllZip ServesView vs ss
    → each (view_of (stored_buffers ss)) 0 (stored_views_fields (view_edits ss) fs) ≡ Ok (stored_views_parts (view_edits ss) vs)
unfolding stored_buffers
stored_pass fs vs [] sound serve = refl
stored_pass fs vs (s ∷ ss) sound serve =
    let all = s ∷ ss in
    let two = list_any is_stream all in
    let n = end (map length (parts all)) in
    subst (λ placed. each (view_of (buffers_for two n (fallback_end all))) 0 (stored_views_fields placed fs) ≡ Ok (stored_views_parts placed vs)) (sym (from_the_start all))
    (places_pass (buffers_for two n (fallback_end all)) n 0 0 0 fs vs all (first_length two n (fallback_end all)) sound serve (omega arith))

pub stored_bytes_pass : (fs : List ViewFields) (ss : List Stored) (more : List ℕ) (chunk : Option (List ℕ)) → length ss ≡ length fs → HasParts ss more chunk
    → each (buffer_of (stored_views_fields (view_edits ss) fs) chunk) 0 (stored_buffers ss) ≡ Ok (stored_bytes ss more)
unfolding stored_buffers stored_bytes
stored_bytes_pass fs [] more chunk count has = refl
stored_bytes_pass [] (s ∷ ss) more chunk count has = absurd (omega (arith, count))
stored_bytes_pass (f ∷ fs) (s ∷ ss) more chunk count has =
    let all = s ∷ ss in
    let two = list_any is_stream all in
    let n = end (map length (parts all)) in
    let bytes = laid (parts all) ++ more in
    let now = stored_views_fields (edits_behind 0 0 all) (f ∷ fs) in
    let place : Place = record { start = padded 0; fallback = padded 0 } in
    let behind = edits_behind (padded 0 + length (part_of s)) (padded 0 + length_unless s.contents s.stream) ss in
    let needed = in_the_first (length s.contents) s.stream place f (stored_views_fields behind fs) in
    let passed = buffers_pass two now n (fallback_end all) bytes needed (none_in_the_second 0 0 all (f ∷ fs)) (room_for all more) in
    subst (λ placed. each (buffer_of (stored_views_fields placed (f ∷ fs)) chunk) 0 (buffers_for two n (fallback_end all)) ≡ Ok (bytes_for two bytes)) (sym (from_the_start all))
    (subst (λ c. each (buffer_of now c) 0 (buffers_for two n (fallback_end all)) ≡ Ok (bytes_for two bytes)) (sym (has (omega arith))) passed)

pub bytes_pass : BuffersPass
bytes_pass moved a f more chunk count has = stored_bytes_pass (output_fields moved a f.views) (output_views moved a) more chunk (views_count moved a f.views count) has
