-- The elements of a made column are its parts of the records.
use Rattle.std.proofs.Common.{◌≡◌, ℕ, zero, suc, ◌+◌, ◌-◌, ◌*◌, ◌<◌, ◌≤◌, List, [], ◌∷◌, map, take, drop, get_or, length, replicate, Option, Some, None, refl, ap, ◌∙◌, arith, length-append}
use Rattle.std.specs.Prelude.{slice_get, sum_by, filter_map}
use Rattle.std.specs.List.{All, range_with_len, cons_option}
use Rattle.std.specs.Option.{IsSome}
use Rattle.std.proofs.lemmas.List.{length-drop, length-replicate, length-take-le, take_at}
use Rattle.std.proofs.lemmas.List.Elements.{All-append, All-drop, All-head, All-replicate, All-tail, All-take}
use Rattle.std.proofs.lemmas.List.Sums.{sum_by-cons}
use Rattle.gp_rules.specs.declared.accessing.Accessor.{Accessor}
use Rattle.gp_rules.specs.Sizes.{padded, element_size}
use Rattle.gp_rules.specs.Accessors.{size_of}
use Rattle.gp_layout.specs.Row.{zero_padded}
use Rattle.gp_asset.specs.Contents.{part}
use Rattle.gp_asset.specs.Asset.{AssetParts}
use Rattle.gp_elements.specs.Elements.{base_elements}
use Rattle.gp_sameness.specs.Moved.{Moved}
use Rattle.gp_packed.specs.MadeViews.{accessors_at, column_contents}
use Rattle.gp_packed.specs.MadeLaws.{IsWhole, IsColumn, ReadsLike, column_part, ColumnsReadBack, ColumnPartsAreLong, ColumnsAreLong, ColumnsHaveRoom, ColumnsAreBytes}
use Rattle.gp_kept.proofs.Blocks.{blocks, length-blocks, all_blocks, map_as}

-- ---- a column among those that exist

first_found : (xs : List Accessor) (o : Option Accessor) (x : Accessor) → o ≡ Some x → slice_get (cons_option o xs) 0 ≡ Some x
first_found xs (Some y) x is = is
first_found xs None x is = absurd (cc)

next_found : (xs : List Accessor) (o : Option Accessor) (k : ℕ) → IsSome o → slice_get (cons_option o xs) (suc k) ≡ slice_get xs k
next_found xs (Some y) k some = refl
next_found xs None k some = absurd (cc)

pub found : (all : List Accessor) (columns : List ℕ) (k : ℕ) (x : Accessor) → All (λ at. IsSome (slice_get all at)) columns → k < length columns
    → slice_get all (get_or columns k 0) ≡ Some x → slice_get (filter_map (slice_get all) columns) k ≡ Some x
found all [] k x exist below is = absurd (omega arith)
found all (c ∷ columns) zero x exist below is = first_found (filter_map (slice_get all) columns) (slice_get all c) x is
found all (c ∷ columns) (suc k) x exist below is =
    let P = λ (at : ℕ). IsSome (slice_get all at) in
    next_found (filter_map (slice_get all) columns) (slice_get all c) k (All-head P c columns exist) ∙ found all columns k x (All-tail P c columns exist) (omega arith) is

pub column_found : (a : AssetParts) (m : Moved) (k : ℕ) (x : Accessor) → IsWhole a m → IsColumn a m k x → slice_get (accessors_at a m.columns) k ≡ Some x
column_found a m k x whole column = found a.accessors m.columns k x whole.exist column.within column.accessor

-- ---- its part of a record

-- it is within the record
within : (xs : List Accessor) (k : ℕ) (x : Accessor) → slice_get xs k ≡ Some x → sum_by size_of (take k xs) + size_of x ≤ sum_by size_of xs
within [] k x is = absurd (cc)
within (y ∷ ys) zero x is = let same : y ≡ x = cc in omega (arith, sum_by-cons size_of y ys, ap size_of same)
within (y ∷ ys) (suc k) x is = omega (arith, within ys k x is, sum_by-cons size_of y (take k ys), sum_by-cons size_of y ys)

part_long : (xs : List Accessor) (k : ℕ) (x : Accessor) (r : List ℕ) → slice_get xs k ≡ Some x → length r ≡ sum_by size_of xs
    → length (part r (sum_by size_of (take k xs)) (size_of x)) ≡ size_of x
part_long xs k x r is long =
    let start = sum_by size_of (take k xs) in
    length-take-le (size_of x) (drop start r) (omega (arith, length-drop start r, within xs k x is, long))

-- the column with this number among those that exist
abbrev pub At : AssetParts → Moved → ℕ → Accessor → Type 0
At a m k x = slice_get (accessors_at a m.columns) k ≡ Some x

pub parts_long_at : (a : AssetParts) (m : Moved) (k : ℕ) (x : Accessor) → IsWhole a m → At a m k x → All (λ r. length (column_part a m k x r) ≡ size_of x) m.records
parts_long_at a m k x whole at i d below = part_long (accessors_at a m.columns) k x (get_or m.records i d) at (whole.long i d below)

-- ---- its contents

length-zero_padded : (bytes : List ℕ) → length (zero_padded bytes) ≡ padded (length bytes)
length-zero_padded bytes =
    let gap = length-replicate {A = ℕ} (padded (length bytes) - length bytes) 0 in
    omega (arith, gap, length-append bytes (replicate (padded (length bytes) - length bytes) 0))

blocks_long : (a : AssetParts) (m : Moved) (k : ℕ) (x : Accessor) → IsWhole a m → At a m k x → All (λ r. length (zero_padded (column_part a m k x r)) ≡ padded (size_of x)) m.records
blocks_long a m k x whole at i d below =
    length-zero_padded (column_part a m k x (get_or m.records i d)) ∙ ap padded (parts_long_at a m k x whole at i d below)

pub columns_long_at : (a : AssetParts) (m : Moved) (k : ℕ) (x : Accessor) → IsWhole a m → At a m k x → length (column_contents a m k x) ≡ length m.records * padded (size_of x)
columns_long_at a m k x whole at = length-blocks (λ r. zero_padded (column_part a m k x r)) (padded (size_of x)) m.records (blocks_long a m k x whole at)

same_size : (x y : Accessor) (number : ℕ) → ReadsLike x y number → size_of y ≡ size_of x
same_size x y number reads = ap (element_size y.component) reads.shape ∙ ap (λ c. element_size c x.shape) reads.component

pub columns_back_at : (a : AssetParts) (m : Moved) (k : ℕ) (x y : Accessor) → IsWhole a m → At a m k x → ReadsLike x y (length m.records)
    → base_elements (column_contents a m k x) y (Some (padded (size_of x))) ≡ map (column_part a m k x) m.records
unfolding base_elements
columns_back_at a m k x y whole at reads =
    let bytes = column_contents a m k x in
    let stride = padded (size_of x) in
    let own = column_part a m k x in
    let zeros = λ (r : List ℕ). replicate {A = ℕ} (padded (length (own r)) - length (own r)) 0 in
    ap (λ n. map (λ i. part bytes (y.offset + i * stride) n) (range_with_len 0 y.count)) (same_size x y (length m.records) reads)
    ∙ ap (λ n. map (λ i. part bytes (y.offset + i * stride) (size_of x)) (range_with_len 0 n)) reads.count
    ∙ blocks (λ r. zero_padded (own r)) (λ b. b) stride (size_of x) (λ i. y.offset + i * stride) m.records (omega arith) (λ i. omega (arith, reads.offset)) (blocks_long a m k x whole at)
    ∙ map_as (λ r. take (size_of x) (zero_padded (own r))) own m.records (λ i d below. take_at (own (get_or m.records i d)) (zeros (get_or m.records i d)) (size_of x) (parts_long_at a m k x whole at i d below))

pub last_within : (count stride size : ℕ) → 1 ≤ count → size ≤ stride → (count - 1) * stride + size ≤ count * stride
last_within zero stride size some fits = absurd (omega arith)
last_within (suc c) stride size some fits = let one : suc c - 1 ≡ c = omega arith in rw one (omega (arith, fits))

-- ---- the laws

pub columns_back : ColumnsReadBack
columns_back a m k x y whole column reads = columns_back_at a m k x y whole (column_found a m k x whole column) reads

pub parts_long : ColumnPartsAreLong
parts_long a m k x whole column = parts_long_at a m k x whole (column_found a m k x whole column)

pub columns_long : ColumnsAreLong
columns_long a m k x whole column = columns_long_at a m k x whole (column_found a m k x whole column)

pub columns_room : ColumnsHaveRoom
columns_room a m k x y whole column reads =
    let stride = padded (size_of x) in
    let long = columns_long a m k x whole column in
    let size = same_size x y (length m.records) reads in
    let last = last_within (length m.records) stride (size_of x) whole.some (omega arith) in
    let count : (y.count - 1) * stride ≡ (length m.records - 1) * stride = ap (λ n. (n - 1) * stride) reads.count in
    omega (arith, long, size, last, count, reads.offset)

pub columns_bytes : ColumnsAreBytes
columns_bytes a m k x small =
    let P = λ (byte : ℕ). byte < 256 in
    let start = sum_by size_of (take k (accessors_at a m.columns)) in
    all_blocks P (λ r. zero_padded (column_part a m k x r)) m.records (λ i d below.
    let r = get_or m.records i d in
    let own = column_part a m k x r in
    All-append P own (replicate (padded (length own) - length own) 0)
    (All-take P (size_of x) (drop start r) (All-drop P start r (small i d below)))
    (All-replicate P (padded (length own) - length own) 0 (omega arith)))
