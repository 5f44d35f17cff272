-- The rules pass again once all views are laid plain into one buffer.
use Rattle.std.proofs.Common.{◌≡◌, ◌≢◌, ℕ, ◌+◌, ◌*◌, ◌^◌, ◌≤◌, Bool, true, false, not, ◌||◌, ◌&&◌, List, [], ◌∷◌, ◌++◌, map, length, nat_lt, Option, Some, None, Ok, unwrap_or, refl, sym, ap, subst, ◌∙◌, arith, length-append}
use Rattle.std.specs.Prelude.{◌==◌, sum}
use Rattle.std.specs.List.{slice_get, sum_by}
use Rattle.std.specs.Option.{option_map, is_none}
use Rattle.std.proofs.lemmas.Bool.{or_parts, or_from, le-ltb}
use Rattle.std.proofs.lemmas.List.Sums.{sum-map}
use Rattle.std.proofs.lemmas.Option.{slice_get-map}
use Rattle.gp_fields.specs.Fields.{BufferFields, ViewFields, AccessorFields}
use Rattle.gp_layout.specs.Layout.{starts_behind, starts, end_behind, end, laid}
use Rattle.gp_layout.proofs.Bounds.{end_least}
use Rattle.gp_layout.proofs.Parts.{length_laid_behind}
use Rattle.gp_rules.specs.declared.fault.AssetFault.TheVariants.{View as BadView, Buffer, Accessor as BadAccessor}
use Rattle.gp_rules.specs.declared.storage.View.{View}
use Rattle.gp_rules.specs.declared.accessing.Accessor.{Accessor}
use Rattle.gp_rules.specs.declared.accessing.Sparse.{Sparse}
use Rattle.gp_rules.specs.Sizes.{component_size, padded}
use Rattle.gp_fields.specs.Record.{◌>>=◌}
use Rattle.gp_rules.specs.Checks.{Checked, unless, each}
use Rattle.gp_rules.specs.Views.{is_bad_view, is_stride_of_view, view_of}
use Rattle.gp_rules.specs.Views.{runs_past as view_runs_past}
use Rattle.gp_asset.specs.Buffers.{buffer_of, buffer_bytes, bytes_if, is_needed}
use Rattle.gp_rules.specs.Accessors.{accessor_of, accepted, known_accessor, is_bad_accessor, is_bad_sparse, is_index, runs_past, size_of, view_at, view_length, load, padded_load, is_too_much}
use Rattle.gp_asset.specs.Asset.{RuledParts, by_rules}
use Rattle.gp_unpack.specs.Laws.{RulesPassAgain, RulesPassWithoutViews}
use Rattle.gp_edits.specs.ReadingBack.{plain_view_fields, plain_views_fields}
use Rattle.gp_unpack.specs.PlainFields.{one_buffer, plain_view_at, plain_views_at}
use Rattle.gp_document.proofs.Few.{step, same, with_packed}
use Rattle.gp_unpack.proofs.Drawn.{ViewHolds, view_holds, RulesHold, rules_hold, rules_pass}

-- ---- accessors see of views only their lengths and strides

abbrev pub bare : View → View
bare v = plain_view_at 0 v

bare_past : (a : Accessor) (found : Option View) → runs_past a (option_map bare found) ≡ runs_past a found
bare_past a None = refl
bare_past a (Some v) = refl

bare_at : (views : List View) (at : Option ℕ) → view_at (map bare views) at ≡ option_map bare (view_at views at)
bare_at views None = refl
bare_at views (Some at) = slice_get-map bare views at

abbrev length_of : Option View → ℕ
length_of found = unwrap_or (option_map (λ (v : View). v.length) found) 0

bare_found : (found : Option View) → length_of (option_map bare found) ≡ length_of found
bare_found None = refl
bare_found (Some v) = refl

bare_length : (views : List View) (at : ℕ) → view_length (map bare views) at ≡ view_length views at
bare_length views at = ap length_of (slice_get-map bare views at) ∙ bare_found (slice_get views at)

abbrev bad_by : Accessor → Sparse → ℕ → ℕ → Bool
bad_by a s places values =
    (s.count == 0 || nat_lt a.count s.count)
    || not (is_index s.index_component)
    || nat_lt places (s.index_offset + s.count * component_size s.index_component)
    || nat_lt values (s.value_offset + s.count * size_of a)

bare_sparse : (views : List View) (a : Accessor) (s : Option Sparse) → is_bad_sparse (map bare views) a s ≡ is_bad_sparse views a s
bare_sparse views a None = refl
bare_sparse views a (Some s) =
    ap (λ n. bad_by a s n (view_length (map bare views) s.value_view)) (bare_length views s.index_view)
    ∙ ap (bad_by a s (view_length views s.index_view)) (bare_length views s.value_view)

bare_bad : (views : List View) (a : Accessor) → is_bad_accessor (map bare views) a ≡ is_bad_accessor views a
unfolding is_bad_accessor
bare_bad views a =
    ap (λ past. (a.count == 0 || past) || is_bad_sparse (map bare views) a a.sparse) (ap (runs_past a) (bare_at views a.view) ∙ bare_past a (view_at views a.view))
    ∙ ap (λ bad. (a.count == 0 || runs_past a (view_at views a.view)) || bad) (bare_sparse views a a.sparse)

bare_accepted : (views : List View) (at : ℕ) (known : Option Accessor) → accepted (map bare views) at known ≡ accepted views at known
bare_accepted views at None = refl
bare_accepted views at (Some a) = ap (λ bad. unless bad (BadAccessor at) (Ok a)) (bare_bad views a)

bare_accessor : (views : List View) (at : ℕ) (a : AccessorFields) → accessor_of (map bare views) at a ≡ accessor_of views at a
unfolding accessor_of
bare_accessor views at a = bare_accepted views at (known_accessor a)

alike : {A B : Type 0} (f g : ℕ → A → Checked B) → ((at : ℕ) (x : A) → f at x ≡ g at x) → (at : ℕ) (xs : List A) → each f at xs ≡ each g at xs
alike f g one at [] = refl
alike f g one at (x ∷ xs) =
    ap (λ r. r >>= λ y. each f (at + 1) xs >>= λ ys. Ok (y ∷ ys)) (one at x)
    ∙ ap (λ rest. g at x >>= λ y. rest >>= λ ys. Ok (y ∷ ys)) (alike f g one (at + 1) xs)

bare_lengths : (views : List View) → map (λ (v : View). v.length) (map bare views) ≡ map (λ (v : View). v.length) views
bare_lengths [] = refl
bare_lengths (v ∷ views) = ap (λ rest. v.length ∷ rest) (bare_lengths views)

bare_load : (views : List View) (accessors : List Accessor) → load (map bare views) accessors ≡ load views accessors
unfolding load
bare_load views accessors =
    ap (λ n. n + sum_by padded_load accessors)
    (sym (sum-map (λ (v : View). v.length) (map bare views)) ∙ ap sum (bare_lengths views) ∙ sum-map (λ (v : View). v.length) views)

-- views that are bare alike
pub same_accessors : (vs ws : List View) (accessors : List AccessorFields) → map bare vs ≡ map bare ws
    → each (accessor_of vs) 0 accessors ≡ each (accessor_of ws) 0 accessors
same_accessors vs ws accessors e =
    sym (alike (accessor_of (map bare vs)) (accessor_of vs) (bare_accessor vs) 0 accessors) ∙ ap (λ views. each (accessor_of views) 0 accessors) e
    ∙ alike (accessor_of (map bare ws)) (accessor_of ws) (bare_accessor ws) 0 accessors

pub same_load : (vs ws : List View) (accessors : List Accessor) → map bare vs ≡ map bare ws → is_too_much vs accessors ≡ is_too_much ws accessors
same_load vs ws accessors e = ap (nat_lt (2 ^ 31)) (sym (bare_load vs accessors) ∙ ap (λ views. load views accessors) e ∙ bare_load ws accessors)

plain_bare : (at : ℕ) (vs : List View) → map bare (plain_views_at (starts_behind at (map (λ (v : View). v.length) vs)) vs) ≡ map bare vs
plain_bare at [] = refl
plain_bare at (v ∷ vs) = ap (λ rest. bare v ∷ rest) (plain_bare (padded at + v.length) vs)

-- the lengths of views, as the fields say
abbrev pub sizes : List ViewFields → List ℕ
sizes fs = map (λ (v : ViewFields). v.length) fs

-- ---- the buffer

buffer_passes : (fs : List ViewFields) (n : ℕ) (bytes : List ℕ) → is_needed fs 0 ≡ true → n ≤ length bytes
    → each (buffer_of fs (Some bytes)) 0 (one_buffer n) ≡ Ok (Some bytes ∷ [])
unfolding buffer_of buffer_bytes
buffer_passes fs n bytes needed room =
    let b : BufferFields = record { length = n; uri = None; extensions = [] } in
    ap (λ needed. bytes_if needed (Some bytes) 0 b >>= λ y. Ok (y ∷ [])) needed
    ∙ ap (λ short. (unless short (Buffer 0) (Ok bytes) >>= λ bytes. Ok (Some bytes)) >>= λ y. Ok (y ∷ [])) (le-ltb (length bytes) n room)

first_needs : (fs : List ViewFields) → fs ≢ [] → is_needed (plain_views_fields (starts (sizes fs)) fs) 0 ≡ true
unfolding is_needed
first_needs [] some = absurd (some refl)
first_needs (v ∷ fs) some = refl

-- ---- the views

one_passes : (n offset at : ℕ) (buffers : List BufferFields) (v : ViewFields) (y : View) → ViewHolds buffers at v y → offset + v.length ≤ n
    → view_of (one_buffer n) at (plain_view_fields offset v) ≡ Ok (plain_view_at offset y)
unfolding view_of is_bad_view
one_passes n offset at buffers v y h room =
    let sound = (or_parts (v.length == 0 || not (is_stride_of_view v.stride)) (is_none v.packed && view_runs_past buffers v.buffer v.offset v.length) h.good).0 in
    let within : nat_lt n (offset + v.length) ≡ false = le-ltb n (offset + v.length) room in
    let good : is_bad_view (one_buffer n) (plain_view_fields offset v) ≡ false = or_from (v.length == 0 || not (is_stride_of_view v.stride)) (nat_lt n (offset + v.length)) sound within in
    ap (λ bad. unless bad (BadView at) (Ok (plain_view_at offset (with_packed v y.packed)))) good ∙ ap (λ w. Ok (plain_view_at offset w)) h.own

views_pass : (n at k : ℕ) (buffers : List BufferFields) (fs : List ViewFields) (vs : List View) → each (view_of buffers) k fs ≡ Ok vs
    → end_behind at (sizes fs) ≤ n
    → each (view_of (one_buffer n)) k (plain_views_fields (starts_behind at (sizes fs)) fs) ≡ Ok (plain_views_at (starts_behind at (sizes fs)) vs)
views_pass n at k buffers [] vs e room = refl
views_pass n at k buffers (v ∷ fs) vs e room =
    step (view_of buffers k v) (λ y. each (view_of buffers) (k + 1) fs >>= λ ys. Ok (y ∷ ys)) vs e (λ y one more.
    step (each (view_of buffers) (k + 1) fs) (λ ys. Ok (y ∷ ys)) vs more (λ ys others whole.
    let behind = padded at + v.length in
    let lengths = sizes fs in
    let first = one_passes n (padded at) k buffers v y (view_holds buffers k v y one) (omega (arith, end_least behind lengths, room)) in
    let rest = views_pass n behind (k + 1) buffers fs ys others room in
    let places = plain_views_fields (starts_behind behind lengths) fs in
    ap (λ r. r >>= λ z. each (view_of (one_buffer n)) (k + 1) places >>= λ zs. Ok (z ∷ zs)) first
    ∙ ap (λ r. r >>= λ zs. Ok (plain_view_at (padded at) y ∷ zs)) rest
    ∙ ap (λ ws. Ok (plain_views_at (padded at ∷ starts_behind behind lengths) ws)) (same (y ∷ ys) vs whole)))

pub lengths_kept : (k : ℕ) (buffers : List BufferFields) (fs : List ViewFields) (vs : List View) → each (view_of buffers) k fs ≡ Ok vs
    → sizes fs ≡ map (λ (v : View). v.length) vs
lengths_kept k buffers [] vs e = ap (map (λ (v : View). v.length)) (same [] vs e)
lengths_kept k buffers (v ∷ fs) vs e =
    step (view_of buffers k v) (λ y. each (view_of buffers) (k + 1) fs >>= λ ys. Ok (y ∷ ys)) vs e (λ y one more.
    step (each (view_of buffers) (k + 1) fs) (λ ys. Ok (y ∷ ys)) vs more (λ ys others whole.
    let own = ap (λ (w : View). w.length) ((view_holds buffers k v y one).own) in
    ap (λ n. n ∷ sizes fs) own ∙ ap (λ ns. y.length ∷ ns) (lengths_kept (k + 1) buffers fs ys others)
    ∙ ap (map (λ (v : View). v.length)) (same (y ∷ ys) vs whole)))

-- ---- all of them

abbrev pub again : List ℕ → List ℕ → RuledParts → RuledParts
again bytes lengths r = record { buffers = Some bytes ∷ []; views = plain_views_at (starts lengths) r.views; accessors = r.accessors }

pub pass_again : (buffers : List BufferFields) (fs : List ViewFields) (accessors : List AccessorFields) (bin : Option (List ℕ)) (r : RuledParts) (bytes : List ℕ)
    → RulesHold buffers fs accessors bin r → fs ≢ [] → end (sizes fs) ≤ length bytes
    → by_rules (one_buffer (end (sizes fs))) (plain_views_fields (starts (sizes fs)) fs) accessors (Some bytes)
    ≡ Ok (again bytes (sizes fs) r)
pass_again buffers fs accessors bin r bytes h some room =
    let lengths = sizes fs in
    let views = plain_views_fields (starts lengths) fs in
    let plain = plain_views_at (starts lengths) r.views in
    let kept : map bare plain ≡ map bare r.views = ap (λ ns. map bare (plain_views_at (starts ns) r.views)) (lengths_kept 0 buffers fs r.views h.all_views) ∙ plain_bare 0 r.views in
    rules_pass (one_buffer (end lengths)) views accessors (Some bytes) (again bytes lengths r) (record {
      all_buffers = buffer_passes views (end lengths) bytes (first_needs fs some) room;
      all_views = views_pass (end lengths) 0 0 buffers fs r.views h.all_views (omega arith);
      all_accessors = same_accessors plain r.views accessors kept ∙ h.all_accessors;
      little = same_load plain r.views r.accessors kept ∙ h.little;
    })

pub rules_pass_again : RulesPassAgain
rules_pass_again buffers fs accessors bin r contents more e lengths some =
    let bytes = laid contents ++ more in
    let long = length_laid_behind 0 contents in
    let room : end (map length contents) ≤ length bytes = omega (arith, long, length-append (laid contents) more) in
    subst (λ ns. by_rules (one_buffer (end ns)) (plain_views_fields (starts ns) fs) accessors (Some bytes) ≡ Ok (again bytes ns r)) (sym lengths)
    (pass_again buffers fs accessors bin r bytes (rules_hold buffers fs accessors bin r e) some (subst (λ ns. end ns ≤ length bytes) lengths room))

pub rules_pass_without_views : RulesPassWithoutViews
rules_pass_without_views buffers accessors bin r e =
    let h = rules_hold buffers [] accessors bin r e in
    let none : [] ≡ r.views = same [] r.views h.all_views in
    rules_pass [] [] accessors None (record { buffers = []; views = []; accessors = r.accessors }) (record {
      all_buffers = refl;
      all_views = refl;
      all_accessors = ap (λ views. each (accessor_of views) 0 accessors) none ∙ h.all_accessors;
      little = ap (λ views. is_too_much views r.accessors) none ∙ h.little;
    })
