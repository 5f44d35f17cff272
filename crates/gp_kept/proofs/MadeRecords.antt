-- The elements of all made columns together are the records.
use Rattle.std.proofs.Common.{◌≡◌, ℕ, ◌+◌, ◌<◌, List, [], ◌∷◌, ◌++◌, map, take, drop, get_or, length, Some, refl, sym, ap, ◌∙◌, arith, append_assoc, length-append}
use Rattle.std.specs.Prelude.{slice_get, sum_by}
use Rattle.std.specs.List.{enumerate_from, range_with_len}
use Rattle.std.proofs.Math.ListN.{drop_of_length-le}
use Rattle.std.proofs.lemmas.List.{drop-drop, get_or-map, append-nil, ext_get_or, take-append-drop, take_at}
use Rattle.std.proofs.lemmas.List.FromFn.{get_or-map-range_with_len, length-map-range_with_len}
use Rattle.std.proofs.lemmas.List.Sums.{sum_by_push}
use Rattle.gp_rules.specs.declared.accessing.Accessor.{Accessor}
use Rattle.gp_rules.specs.Sizes.{padded}
use Rattle.gp_rules.specs.Accessors.{size_of}
use Rattle.gp_asset.specs.Contents.{part}
use Rattle.gp_asset.specs.Asset.{AssetParts}
use Rattle.gp_elements.specs.Elements.{base_elements}
use Rattle.gp_sameness.specs.Moved.{Moved}
use Rattle.gp_packed.specs.MadeViews.{accessors_at, column_contents}
use Rattle.gp_packed.specs.MadeLaws.{IsWhole, ReadsLike, column_part, made_accessor, column_elements, joined_at, RecordsReadBack}
use Rattle.gp_kept.proofs.MadeColumns.{columns_back_at}

-- the accessor behind others
behind : (front : List Accessor) (x : Accessor) (xs : List Accessor) → slice_get (front ++ x ∷ xs) (length front) ≡ Some x
behind [] x xs = refl
behind (y ∷ front) x xs = behind front x xs

-- parts behind one another are what stands from the first on
joined_from : (front xs all : List Accessor) (k : ℕ) (r : List ℕ) (items : ℕ × Accessor → List (List ℕ)) (i : ℕ)
    → all ≡ front ++ xs → k ≡ length front → length r ≡ sum_by size_of all
    → ((k : ℕ) (x : Accessor) → slice_get all k ≡ Some x → get_or (items (k, x)) i [] ≡ part r (sum_by size_of (take k all)) (size_of x))
    → joined_at (map items (enumerate_from k xs)) i ≡ drop (sum_by size_of front) r
joined_from front [] all k r items i is at long each =
    let whole : all ≡ front = is ∙ append-nil front in
    let most : length r ≡ sum_by size_of front = long ∙ ap (sum_by size_of) whole in
    sym (drop_of_length-le r (omega (arith, most)))
joined_from front (x ∷ xs) all k r items i is at long each =
    let total = sum_by size_of front in
    let here : slice_get all k ≡ Some x = ap (λ (l : List Accessor). slice_get l k) is ∙ ap (slice_get (front ++ x ∷ xs)) at ∙ behind front x xs in
    let before : take k all ≡ front = ap (take k) is ∙ take_at front (x ∷ xs) k (sym at) in
    let first : get_or (items (k, x)) i [] ≡ part r total (size_of x) = each k x here ∙ ap (λ (l : List Accessor). part r (sum_by size_of l) (size_of x)) before in
    let next : k + 1 ≡ length (front ++ x ∷ []) = omega (arith, at, length-append front (x ∷ [])) in
    let others = joined_from (front ++ x ∷ []) xs all (k + 1) r items i (is ∙ sym (append_assoc front (x ∷ []) xs)) next long each in
    let rest = others ∙ ap (λ n. drop n r) (sum_by_push size_of front x) ∙ sym (drop-drop (size_of x) total r) in
    ap (λ (bytes : List ℕ). bytes ++ joined_at (map items (enumerate_from (k + 1) xs)) i) first
    ∙ ap (λ bytes. part r total (size_of x) ++ bytes) rest
    ∙ take-append-drop (size_of x) (drop total r)

-- one record
record_back : (a : AssetParts) (m : Moved) (i : ℕ) → IsWhole a m → i < length m.records → joined_at (column_elements a m) i ≡ get_or m.records i []
record_back a m i whole below =
    let xs = accessors_at a m.columns in
    joined_from [] xs xs 0 (get_or m.records i []) (λ (p : ℕ × Accessor). base_elements (column_contents a m p.0 p.1) (made_accessor m p.1) (Some (padded (size_of p.1)))) i
    refl refl (whole.long i [] below) (λ k x at.
    let reads : ReadsLike x (made_accessor m x) (length m.records) = record { offset = refl; component = refl; shape = refl; count = refl } in
    ap (λ (items : List (List ℕ)). get_or items i []) (columns_back_at a m k x (made_accessor m x) whole at reads) ∙ get_or-map (column_part a m k x) m.records i [] [] below)

pub records_back : RecordsReadBack
records_back a m whole =
    let n = length m.records in
    let all = map (joined_at (column_elements a m)) (range_with_len 0 n) in
    let long : length all ≡ n = length-map-range_with_len (joined_at (column_elements a m)) 0 n in
    ext_get_or [] all m.records long (λ i lt.
    let below : i < n = omega (arith, lt, long) in
    get_or-map-range_with_len (joined_at (column_elements a m)) 0 n i i [] below (omega arith) ∙ record_back a m i whole below)
