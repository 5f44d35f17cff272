-- Lists in a row behind the contents of views: their bytes, their views and their accessors, one list more at a time.
use Rattle.std.specs.Prelude.{flat_map, option_map, option_and_then}
use Rattle.std.proofs.Common.{◌≡◌, ◌≢◌, ℕ, zero, suc, ◌+◌, ◌-◌, ◌*◌, ◌%◌, List, [], ◌∷◌, ◌++◌, length, map, take, replicate, slice_get, Option, Some, None, refl, sym, ap, ◌∙◌, append_assoc, append-nil, arith}
use Rattle.std.proofs.lemmas.List.{length-append, length-map}
use Rattle.std.proofs.lemmas.Option.{slice_get-map}
use Rattle.gp_rules.specs.Sizes.{padded}
use Rattle.gp_layout.specs.Layout.{end_behind, end, laid_behind, laid}
use Rattle.gp_layout.specs.Row.{zero_padded}
use Rattle.gp_layout.proofs.Parts.{length_laid}
use Rattle.gp_moves.specs.declared.made.MadeList.{MadeList}
use Rattle.gp_asset.specs.declared.geometry.Primitive.{Primitive}
use Rattle.gp_asset.specs.Asset.{AssetParts}
use Rattle.gp_strips.specs.declared.editing.ListView.{ListView}
use Rattle.gp_strips.specs.Listed.{triangles_of}
use Rattle.gp_strips.specs.ListedDocument.{all_lists, made_lists, list_bytes, output_contents, list_views, list_accessors, accessor_number}
use Rattle.gp_strips.specs.Making.{RowParts, with_list, with_list_if, next_accessor, row_of}

-- ---- bytes

pub length_bytes : (corners : List ℕ) → length (list_bytes corners) ≡ 4 * length corners
length_bytes [] = refl
length_bytes (c ∷ corners) = let more = length_bytes corners in omega (arith, more)

bytes_push : (made : List (List ℕ)) (corners : List ℕ) → flat_map list_bytes (made ++ corners ∷ []) ≡ flat_map list_bytes made ++ list_bytes corners
bytes_push [] corners = append-nil (list_bytes corners)
bytes_push (first ∷ made) corners = ap (λ bs. list_bytes first ++ bs) (bytes_push made corners) ∙ sym (append_assoc (list_bytes first) (flat_map list_bytes made) (list_bytes corners))

-- ---- views and accessors

abbrev view_at : ℕ → List ℕ → ListView
view_at offset corners = record { offset = offset; length = 4 * length corners }

views_push : (at : ℕ) (made : List (List ℕ)) (corners : List ℕ)
    → list_views at (made ++ corners ∷ []) ≡ list_views at made ++ view_at (padded at + length (flat_map list_bytes made)) corners ∷ []
views_push at [] corners = let here : padded at ≡ padded at + 0 = omega arith in ap (λ n. view_at n corners ∷ []) here
views_push at (first ∷ made) corners =
    let past = padded at + 4 * length first in
    let further : padded past + length (flat_map list_bytes made) ≡ padded at + length (list_bytes first ++ flat_map list_bytes made)
    = omega (arith, length-append (list_bytes first) (flat_map list_bytes made), length_bytes first) in
    ap (λ vs. view_at (padded at) first ∷ vs) (views_push past made corners ∙ ap (λ n. list_views past made ++ view_at n corners ∷ []) further)

abbrev accessor_at : ℕ → List ℕ → MadeList
accessor_at view corners = record { view = view; component = 5125; count = length corners }

accessors_push : (view : ℕ) (made : List (List ℕ)) (corners : List ℕ)
    → list_accessors view (made ++ corners ∷ []) ≡ list_accessors view made ++ accessor_at (view + length made) corners ∷ []
accessors_push view [] corners = let here : view ≡ view + 0 = omega arith in ap (λ n. accessor_at n corners ∷ []) here
accessors_push view (first ∷ made) corners =
    let further : view + 1 + length made ≡ view + suc (length made) = omega arith in
    ap (λ l. accessor_at view first ∷ l) (accessors_push (view + 1) made corners ∙ ap (λ n. list_accessors (view + 1) made ++ accessor_at n corners ∷ []) further)

pub length_views : (at : ℕ) (made : List (List ℕ)) → length (list_views at made) ≡ length made
length_views at [] = refl
length_views at (corners ∷ made) = ap suc (length_views (padded at + 4 * length corners) made)

pub length_accessors : (view : ℕ) (made : List (List ℕ)) → length (list_accessors view made) ≡ length made
length_accessors view [] = refl
length_accessors view (corners ∷ made) = ap suc (length_accessors (view + 1) made)

-- ---- a list more

pub list_more : (before view accessor : ℕ) (made : List (List ℕ)) (corners : List ℕ) → with_list (row_of before view accessor made) corners ≡ row_of before view accessor (made ++ corners ∷ [])
list_more before view accessor made corners =
    let counted = length_views before made in
    let accessors : list_accessors view made ++ accessor_at (view + length (list_views before made)) corners ∷ [] ≡ list_accessors view (made ++ corners ∷ [])
    = ap (λ n. list_accessors view made ++ accessor_at (view + n) corners ∷ []) counted ∙ sym (accessors_push view made corners) in
    ap (λ bs. record { start = padded before; view = view; accessor = accessor; bytes = bs; views = list_views before made ++ view_at (padded before + length (flat_map list_bytes made)) corners ∷ []; accessors = list_accessors view made ++ accessor_at (view + length (list_views before made)) corners ∷ [] }) (sym (bytes_push made corners))
    ∙ ap (λ vs. record { start = padded before; view = view; accessor = accessor; bytes = flat_map list_bytes (made ++ corners ∷ []); views = vs; accessors = list_accessors view made ++ accessor_at (view + length (list_views before made)) corners ∷ [] }) (sym (views_push before made corners))
    ∙ ap (λ l. record { start = padded before; view = view; accessor = accessor; bytes = flat_map list_bytes (made ++ corners ∷ []); views = list_views before (made ++ corners ∷ []); accessors = l }) accessors

-- ---- the lists of the first primitives

-- with that of one primitive more, if it has one
abbrev with_option : List (List ℕ) → Option (List ℕ) → List (List ℕ)
with_option made None = made
with_option made (Some corners) = made ++ corners ∷ []

made_more : (lists : List (Option (List ℕ))) (k : ℕ) (l : Option (List ℕ)) → slice_get lists k ≡ Some l → made_lists (take (k + 1) lists) ≡ with_option (made_lists (take k lists)) l
made_more [] k l here = absurd (cc)
made_more (None ∷ lists) zero l here = let same : ◌≡◌ {A = Option (List ℕ)} None l = cc in ap (with_option []) same
made_more (Some corners ∷ lists) zero l here = let same : Some corners ≡ l = cc in ap (with_option []) same
made_more (None ∷ lists) (suc k) l here = let more : suc k + 1 ≡ suc (k + 1) = omega arith in rw more (made_more lists k l here)
made_more (Some corners ∷ lists) (suc k) l here = let more : suc k + 1 ≡ suc (k + 1) = omega arith in rw more (ap (λ m. corners ∷ m) (made_more lists k l here) ∙ by_option l)
  where
    by_option : (o : Option (List ℕ)) → corners ∷ with_option (made_lists (take k lists)) o ≡ with_option (corners ∷ made_lists (take k lists)) o
    by_option None = refl
    by_option (Some other) = refl

row_more : (before view accessor : ℕ) (made : List (List ℕ)) (l : Option (List ℕ)) → with_list_if (row_of before view accessor made) l ≡ row_of before view accessor (with_option made l)
row_more before view accessor made None = refl
row_more before view accessor made (Some corners) = list_more before view accessor made corners

-- the list of a primitive
pub list_here : (a : AssetParts) (contents : List (List ℕ)) (k : ℕ) (p : Primitive) → slice_get a.primitives k ≡ Some p → slice_get (all_lists a contents) k ≡ Some (triangles_of a contents p)
list_here a contents k p here = slice_get-map (triangles_of a contents) a.primitives k ∙ ap (option_map (triangles_of a contents)) here

pub row_next : (a : AssetParts) (contents : List (List ℕ)) (before k : ℕ) (p : Primitive) (r s : RowParts) → slice_get a.primitives k ≡ Some p
    → r ≡ row_of before (length a.views) (length a.accessors) (made_lists (take k (all_lists a contents))) → s ≡ with_list_if r (triangles_of a contents p)
    → s ≡ row_of before (length a.views) (length a.accessors) (made_lists (take (k + 1) (all_lists a contents)))
row_next a contents before k p r s here is more =
    let l = triangles_of a contents p in
    more ∙ ap (λ t. with_list_if t l) is
    ∙ row_more before (length a.views) (length a.accessors) (made_lists (take k (all_lists a contents))) l
    ∙ ap (row_of before (length a.views) (length a.accessors)) (sym (made_more (all_lists a contents) k l (list_here a contents k p here)))

-- the accessor of a primitive's list is the next one
number_by : (n m : ℕ) (o : Option (List ℕ)) → n ≡ m → option_map (λ corners. n) o ≡ option_map (λ corners. m) o
number_by n m o same = ap (λ k. option_map (λ corners. k) o) same

pub number_next : (a : AssetParts) (contents : List (List ℕ)) (before k : ℕ) (p : Primitive) (r : RowParts) (number : Option ℕ) → slice_get a.primitives k ≡ Some p
    → r ≡ row_of before (length a.views) (length a.accessors) (made_lists (take k (all_lists a contents))) → number ≡ option_map (λ corners. next_accessor r) (triangles_of a contents p)
    → number ≡ accessor_number (length a.accessors) (all_lists a contents) k
number_next a contents before k p r number here is given =
    let made = made_lists (take k (all_lists a contents)) in
    let n = length a.accessors in
    let counted : next_accessor r ≡ n + length made = ap next_accessor is ∙ ap (λ m. n + m) (length_accessors (length a.views) made) in
    given
    ∙ number_by (next_accessor r) (n + length made) (triangles_of a contents p) counted
    ∙ sym (ap (λ o. option_map (λ corners. n + length made) (option_and_then (λ l. l) o)) (list_here a contents k p here))

-- ---- in the one buffer

pub laid_append : (at : ℕ) (parts others : List (List ℕ)) → laid_behind at (parts ++ others) ≡ laid_behind at parts ++ laid_behind (end_behind at (map length parts)) others
laid_append at [] others = refl
laid_append at (part ∷ parts) others =
    let front = replicate (padded at - at) 0 ++ part in
    let past = padded at + length part in
    ap (λ l. front ++ l) (laid_append past parts others) ∙ sym (append_assoc front (laid_behind past parts) (laid_behind (end_behind past (map length parts)) others))

-- no gap between lists
lists_in_row : (at : ℕ) (made : List (List ℕ)) → at % 4 ≡ 0 → laid_behind at (map list_bytes made) ≡ flat_map list_bytes made
lists_in_row at [] aligned = refl
lists_in_row at (corners ∷ made) aligned =
    let none : padded at - at ≡ 0 = omega (arith, aligned) in
    let past = padded at + length (list_bytes corners) in
    let more : past % 4 ≡ 0 = omega (arith, aligned, length_bytes corners) in
    ap (λ n. (replicate n 0 ++ list_bytes corners) ++ laid_behind past (map list_bytes made)) none ∙ ap (λ l. list_bytes corners ++ l) (lists_in_row past made more)

-- the first list begins at the next multiple of 4
pub lists_behind : (contents : List (List ℕ)) (made : List (List ℕ)) → length made ≢ 0 → zero_padded (laid contents) ++ flat_map list_bytes made ≡ laid (output_contents contents made)
lists_behind contents [] some = absurd (some refl)
lists_behind contents (corners ∷ made) some =
    let e = end (map length contents) in
    let gap = replicate (padded e - e) 0 in
    let past = padded e + length (list_bytes corners) in
    let aligned : past % 4 ≡ 0 = omega (arith, length_bytes corners) in
    let behind : laid_behind e (map list_bytes (corners ∷ made)) ≡ (gap ++ list_bytes corners) ++ flat_map list_bytes made
    = ap (λ l. (gap ++ list_bytes corners) ++ l) (lists_in_row past made aligned) in
    ap (λ n. (laid contents ++ replicate (padded n - n) 0) ++ (list_bytes corners ++ flat_map list_bytes made)) (length_laid contents)
    ∙ append_assoc (laid contents) gap (list_bytes corners ++ flat_map list_bytes made)
    ∙ ap (λ l. laid contents ++ l) (sym (append_assoc gap (list_bytes corners) (flat_map list_bytes made)))
    ∙ ap (λ l. laid contents ++ l) (sym behind)
    ∙ sym (laid_append 0 contents (map list_bytes (corners ∷ made)))

pub nothing_behind : (contents : List (List ℕ)) (made : List (List ℕ)) → length made ≡ 0 → laid contents ≡ laid (output_contents contents made)
nothing_behind contents [] none = ap laid (sym (append-nil contents))
nothing_behind contents (corners ∷ made) none = absurd (omega (arith, none))

pub length_output : (contents made : List (List ℕ)) → length (output_contents contents made) ≡ length contents + length made
length_output contents made = length-append contents (map list_bytes made) ∙ ap (λ n. length contents + n) (length-map made list_bytes)

-- a row of lists behind contents
pub none_behind : (contents made : List (List ℕ)) (before view accessor : ℕ) (r : RowParts) (buffer : List ℕ) → r ≡ row_of before view accessor made → buffer ≡ laid contents → length r.views ≡ 0
    → buffer ≡ laid (output_contents contents made)
none_behind contents made before view accessor r buffer is holds none =
    holds ∙ nothing_behind contents made (sym (ap (λ (p : RowParts). length p.views) is ∙ length_views before made) ∙ none)

pub all_behind : (contents made : List (List ℕ)) (before view accessor : ℕ) (r : RowParts) (buffer whole : List ℕ) → r ≡ row_of before view accessor made → buffer ≡ laid contents → length r.views ≢ 0
    → whole ≡ zero_padded buffer ++ r.bytes → whole ≡ laid (output_contents contents made)
all_behind contents made before view accessor r buffer whole is holds some joined =
    joined ∙ ap (λ b. zero_padded b ++ r.bytes) holds ∙ ap (λ (p : RowParts). zero_padded (laid contents) ++ p.bytes) is
    ∙ lists_behind contents made (λ none. some (ap (λ (p : RowParts). length p.views) is ∙ length_views before made ∙ none))
