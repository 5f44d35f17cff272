-- The bytes of columns and lists.
use Rattle.std.proofs.Common.{◌≡◌, ◌≢◌, ℕ, zero, suc, ◌+◌, ◌-◌, ◌*◌, ◌/◌, ◌%◌, ◌^◌, ◌<◌, ◌≤◌, List, [], ◌∷◌, ◌++◌, map, length, take, drop, replicate, get_or, sum_by, Option, Some, None, refl, sym, ap, ◌∙◌, append_assoc, take-append-drop, arith}
use Rattle.std.specs.Prelude.{slice_get, unwrap_or, option_map}
use Rattle.std.specs.List.{All, concat, flat_map, filter_map, cons_option}
use Rattle.std.proofs.lemmas.List.{take_more, take_all, map-id, append-nil, take-take, drop-take, drop-drop}
use Rattle.std.proofs.lemmas.List.Elements.{All-head, All-tail}
use Rattle.std.proofs.lemmas.List.Folds.{concat-append}
use Rattle.std.proofs.lemmas.List.Sums.{sum_by-cons, sum_by-append}
use Rattle.std.proofs.lemmas.Grind.{flat_map-append}
use Rattle.std.proofs.lemmas.Option.{slice_get-get_or, slice_get_within}
use Rattle.gp_rules.specs.declared.accessing.Accessor.{Accessor}
use Rattle.gp_rules.specs.Accessors.{size_of}
use Rattle.gp_rules.specs.Sizes.{padded}
use Rattle.gp_asset.specs.Contents.{part}
use Rattle.gp_asset.specs.Asset.{AssetParts}
use Rattle.gp_alias.specs.Records.{accessors_at, ends_from}
use Rattle.gp_groups.specs.Sequence.{le_bytes}
use Rattle.gp_layout.specs.Row.{zero_padded}
use Rattle.gp_merge.specs.Records.{record_at, records}
use Rattle.gp_merge.proofs.Cuts.{length-records, get_or-records}
use Rattle.gp_mover.specs.MadeBytes.{size_at, column_contents}
use Rattle.gp_mover.specs.MovedParts.{record_size}
use Rattle.gp_mover.specs.Standing.{parts_of}
use Rattle.gp_mover.specs.declared.moved.MovedGroup.{MovedGroup}
use Rattle.gp_mover.proofs.Rows.{length-ends, ends_at}
use Rattle.gp_mover.proofs.Turns.{Turn, end_is, ends_within, list_is}

-- ---- sizes of columns

sizes_found : (all : List Accessor) (o : Option Accessor) (rest : List Accessor) → sum_by size_of (cons_option o rest) ≡ unwrap_or (option_map size_of o) 0 + sum_by size_of rest
sizes_found all None rest = omega arith
sizes_found all (Some acc) rest = sum_by-cons size_of acc rest

pub sizes_are : (all : List Accessor) (columns : List ℕ) → sum_by (size_at all) columns ≡ sum_by size_of (filter_map (slice_get all) columns)
sizes_are all [] = refl
sizes_are all (k ∷ ks) = omega (arith, sum_by-cons (size_at all) k ks, sizes_found all (slice_get all k) (filter_map (slice_get all) ks), sizes_are all ks)

some_at : (all : List Accessor) (c : ℕ) → c < length all → (acc : Accessor) × (slice_get all c ≡ Some acc)
some_at [] c within = absurd (omega (arith, within))
some_at (acc ∷ all) c within = (get_or (acc ∷ all) c acc, slice_get-get_or (acc ∷ all) c acc within)

-- the first columns, where each is an accessor
pub first_found : (all : List Accessor) (columns : List ℕ) (k : ℕ) → All (λ c. c < length all) columns → filter_map (slice_get all) (take k columns) ≡ take k (filter_map (slice_get all) columns)
first_found all columns zero there = refl
first_found all [] (suc k) there = refl
first_found all (c ∷ cs) (suc k) there = by_found (slice_get all c) refl (first_found all cs k (All-tail (λ (c : ℕ). c < length all) c cs there))
  where
    by_found : (o : Option Accessor) → slice_get all c ≡ o → filter_map (slice_get all) (take k cs) ≡ take k (filter_map (slice_get all) cs)
        → cons_option o (filter_map (slice_get all) (take k cs)) ≡ take (suc k) (cons_option o (filter_map (slice_get all) cs))
    by_found None found rest =
        let one = some_at all c (All-head (λ (c : ℕ). c < length all) c cs there) in
        let never : None ≡ Some one.0 = sym found ∙ one.1 in
        absurd (cc)
    by_found (Some acc) found rest = ap (λ xs. acc ∷ xs) rest

pub size_first : (all : List Accessor) (columns : List ℕ) (k : ℕ) → All (λ c. c < length all) columns → sum_by (size_at all) (take k columns) ≡ sum_by size_of (take k (filter_map (slice_get all) columns))
size_first all columns k there = sizes_are all (take k columns) ∙ ap (λ (xs : List Accessor). sum_by size_of xs) (first_found all columns k there)

pub sum_more : (f : ℕ → ℕ) (xs : List ℕ) (at sum : ℕ) → at < length xs → sum ≡ sum_by f (take at xs) → sum + f (get_or xs at 0) ≡ sum_by f (take (at + 1) xs)
sum_more f xs at sum within is =
    let more : sum_by f (take (at + 1) xs) ≡ sum_by f (take at xs ++ get_or xs at 0 ∷ []) = ap (sum_by f) (take_more xs at 0 within) in
    let none : sum_by f [] ≡ 0 = refl in
    omega (arith, is, more, none, sum_by-append f (take at xs) (get_or xs at 0 ∷ []), sum_by-cons f (get_or xs at 0) [])

pub sum_within : (f : ℕ → ℕ) (xs : List ℕ) (at : ℕ) → at < length xs → sum_by f (take at xs) + f (get_or xs at 0) ≤ sum_by f xs
sum_within f [] at within = absurd (omega arith)
sum_within f (x ∷ xs) zero within = omega (arith, sum_by-cons f x xs)
sum_within f (x ∷ xs) (suc at) within = omega (arith, sum_within f xs at (omega arith), sum_by-cons f x (take at xs), sum_by-cons f x xs)

-- ---- parts of records

-- a part of a record is a part of the bytes
pub part_of_record : (size : ℕ) (bytes : List ℕ) (at start width : ℕ) → start + width ≤ size → part bytes (at * size + start) width ≡ part (record_at size bytes at) start width
part_of_record size bytes at start width fits =
    let rest = drop (at * size) bytes in
    let whole : size ≡ start + (size - start) = omega arith in
    sym (ap (λ n. take width (drop start (take n rest))) whole
    ∙ ap (take width) (drop-take start (size - start) rest)
    ∙ take-take width (size - start) (drop start rest) (omega arith)
    ∙ ap (take width) (drop-drop start (at * size) bytes))

pub padded_more : (size : ℕ) (bytes joined now : List ℕ) (at start width : ℕ) → start + width ≤ size → at < length bytes / size
    → joined ≡ flat_map (λ r. zero_padded (part r start width)) (take at (records size bytes))
    → now ≡ joined ++ zero_padded (take ((at * size + start + width) - (at * size + start)) (drop (at * size + start) bytes))
    → now ≡ flat_map (λ r. zero_padded (part r start width)) (take (at + 1) (records size bytes))
padded_more size bytes joined now at start width fits within is step =
    let f = λ (r : List ℕ). zero_padded (part r start width) in
    let rows = records size bytes in
    let r = get_or rows at [] in
    let inside : at < length rows = omega (arith, within, length-records size bytes) in
    let count : (at * size + start + width) - (at * size + start) ≡ width = omega arith in
    let piece : take ((at * size + start + width) - (at * size + start)) (drop (at * size + start) bytes) ≡ part r start width =
    ap (λ n. take n (drop (at * size + start) bytes)) count ∙ part_of_record size bytes at start width fits ∙ ap (λ (x : List ℕ). part x start width) (sym (get_or-records size bytes at within)) in
    step ∙ ap (λ l. l ++ zero_padded (take ((at * size + start + width) - (at * size + start)) (drop (at * size + start) bytes))) is
    ∙ ap (λ (l : List ℕ). flat_map f (take at rows) ++ zero_padded l) piece
    ∙ sym (ap (flat_map f) (take_more rows at [] inside) ∙ flat_map-append f (take at rows) (r ∷ []) ∙ ap (λ l. flat_map f (take at rows) ++ l) (append-nil (f r)))

pub all_padded : (size : ℕ) (bytes joined : List ℕ) (at start width : ℕ) → length bytes / size ≤ at → joined ≡ flat_map (λ r. zero_padded (part r start width)) (take at (records size bytes))
    → joined ≡ flat_map (λ r. zero_padded (part r start width)) (records size bytes)
all_padded size bytes joined at start width past is =
    is ∙ ap (flat_map (λ r. zero_padded (part r start width))) (take_all at (records size bytes) (omega (arith, past, length-records size bytes)))

-- the contents of a column
pub column_is : (a : AssetParts) (m : MovedGroup) (at : ℕ) (accessor : Accessor) (start width : ℕ) → All (λ k. k < length a.accessors) m.group.columns → slice_get a.accessors (get_or m.group.columns at 0) ≡ Some accessor
    → start ≡ sum_by (size_at a.accessors) (take at m.group.columns) → width ≡ size_at a.accessors (get_or m.group.columns at 0)
    → flat_map (λ r. zero_padded (part r start width)) (records m.size m.records) ≡ column_contents a (parts_of m) at accessor
unfolding parts_of
column_is a m at accessor start width there found start_is width_is =
    let rows = records m.size m.records in
    let offset = sum_by size_of (take at (accessors_at a m.group.columns)) in
    ap (λ s. flat_map (λ r. zero_padded (part r s width)) rows) (start_is ∙ size_first a.accessors m.group.columns at there)
    ∙ ap (λ w. flat_map (λ r. zero_padded (part r offset w)) rows) (width_is ∙ ap (λ o. unwrap_or (option_map size_of o) 0) found)

-- a column is within the record
pub column_within : (a : AssetParts) (columns : List ℕ) (at start width size : ℕ) → at < length columns → size ≡ record_size a columns
    → start ≡ sum_by (size_at a.accessors) (take at columns) → width ≡ size_at a.accessors (get_or columns at 0) → start + width ≤ size
column_within a columns at start width size within size_is start_is width_is =
    omega (arith, size_is, start_is, width_is, sizes_are a.accessors columns, sum_within (size_at a.accessors) columns at within)

-- ---- lists

pub count_is : (m : MovedGroup) → length (parts_of m).records ≡ length m.records / m.size
unfolding parts_of
count_is m = length-records m.size m.records

pub start_first : (at : ℕ) (lists : List (List ℕ)) → at ≡ 0 → 0 ≡ length (concat (take at lists))
start_first at lists e = ap (λ n. length (concat (take n lists))) (sym e)

pub start_later : (at : ℕ) (ends : List ℕ) (lists : List (List ℕ)) → at ≢ 0 → at < length ends → ends ≡ ends_from 0 lists → get_or ends (at - 1) 0 ≡ length (concat (take at lists))
start_later at ends lists some within is =
    let back : at - 1 + 1 ≡ at = omega (arith, some) in
    let count : length ends ≡ length lists = ap (λ (es : List ℕ). length es) is ∙ length-ends 0 lists in
    let here : get_or ends (at - 1) 0 ≡ 0 + length (concat (take (at - 1 + 1) lists)) = ap (λ (es : List ℕ). get_or es (at - 1) 0) is ∙ ends_at 0 lists (at - 1) (omega (arith, within, count)) in
    let there : length (concat (take (at - 1 + 1) lists)) ≡ length (concat (take at lists)) = ap (λ n. length (concat (take n lists))) back in
    omega (arith, here, there)

module _ (lists : List (List ℕ)) (ends joined : List ℕ) (at start : ℕ) (joined_are : joined ≡ concat lists) (ends_are : ends ≡ ends_from 0 lists) (start_is : start ≡ length (concat (take at lists))) (within : at < length ends) where
  inside : at < length lists
  inside = let count : length ends ≡ length lists = ap (λ (es : List ℕ). length es) ends_are ∙ length-ends 0 lists in omega (arith, within, count)

  turn : Turn (λ (l : List ℕ). l) lists at joined start
  turn = record {
    start_is = start_is;
    joined_is =
        joined_are ∙ ap (λ (ls : List (List ℕ)). concat ls) (sym (take-append-drop at lists)) ∙ concat-append (take at lists) (drop at lists)
        ∙ ap (λ (ls : List (List ℕ)). concat ls ++ concat (drop at lists)) (sym (map-id (take at lists)));
    long = ap (λ (ls : List (List ℕ)). length (concat ls)) (map-id (take at lists)) ∙ sym start_is;
  }

  end_here : get_or ends at 0 ≡ start + length (get_or lists at [])
  end_here = end_is (λ (l : List ℕ). l) lists at joined start turn inside ends (get_or ends at 0) ends_are refl

  pub list_begins : start ≤ get_or ends at 0
  list_begins = omega (arith, end_here)

  pub list_ends : get_or ends at 0 ≤ length joined
  list_ends = ends_within (λ (l : List ℕ). l) lists at joined start turn inside (get_or ends at 0) end_here

  pub list_here : take (get_or ends at 0 - start) (drop start joined) ≡ get_or lists at []
  list_here = list_is (λ (l : List ℕ). l) lists at joined start turn inside (get_or ends at 0) end_here

-- ---- numbers

pub digit_more : (width at rest : ℕ) (before written now : List ℕ) (whole : List ℕ) → at < width → before ++ whole ≡ written ++ le_bytes (width - at) rest
    → now ≡ written ++ rest % 256 ∷ [] → before ++ whole ≡ now ++ le_bytes (width - (at + 1)) (rest / 256)
digit_more width at rest before written now whole within is step =
    let more : width - at ≡ suc (width - (at + 1)) = omega arith in
    let others = le_bytes (width - (at + 1)) (rest / 256) in
    is ∙ ap (λ n. written ++ le_bytes n rest) more ∙ sym (append_assoc written (rest % 256 ∷ []) others) ∙ ap (λ l. l ++ others) (sym step)

pub no_digit : (width at rest : ℕ) (before written whole : List ℕ) → width ≤ at → before ++ whole ≡ written ++ le_bytes (width - at) rest → written ≡ before ++ whole
no_digit width at rest before written whole past is =
    let none : width - at ≡ 0 = omega arith in
    sym (is ∙ ap (λ n. written ++ le_bytes n rest) none ∙ append-nil written)

pub numbers_more : (f : ℕ → List ℕ) (list bytes now : List ℕ) (at : ℕ) → at < length list → bytes ≡ flat_map f (take at list) → now ≡ bytes ++ f (get_or list at 0) → now ≡ flat_map f (take (at + 1) list)
numbers_more f list bytes now at within is step =
    step ∙ ap (λ l. l ++ f (get_or list at 0)) is
    ∙ sym (ap (flat_map f) (take_more list at 0 within) ∙ flat_map-append f (take at list) (get_or list at 0 ∷ []) ∙ ap (λ l. flat_map f (take at list) ++ l) (append-nil (f (get_or list at 0))))
