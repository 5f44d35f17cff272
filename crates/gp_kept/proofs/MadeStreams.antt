-- Streams of made views are read back.
use Rattle.std.proofs.Common.{◌≡◌, ℕ, zero, suc, ◌+◌, ◌*◌, ◌/◌, ◌%◌, ◌^◌, ◌<◌, ◌≤◌, Bool, true, false, nat_le, List, [], ◌∷◌, ◌++◌, map, get_or, length, Some, None, refl, sym, ap, ◌∙◌, subst, arith, length-append}
use Rattle.std.specs.Prelude.{◌&&◌, ◌==◌}
use Rattle.std.specs.List.{All, flat_map}
use Rattle.std.proofs.lemmas.Bool.{and_parts, eq-eqb, le-leb, leb-true}
use Rattle.std.proofs.lemmas.List.Elements.{All-from_get_or}
use Rattle.gp_groups.specs.Triangles.{at_first}
use Rattle.gp_groups.specs.WrittenTriangles.{Piece, codeaux, encoded_triangles, pieces}
use Rattle.gp_vertex.proofs.RoundTrip.{stream_read}
use Rattle.gp_index.specs.SameTriangles.{HasTriangles, SameTriangles, triangle_at}
use Rattle.gp_index.proofs.PiecesBack.{rotated_all}
use Rattle.gp_index.proofs.ListsBack.{in_four, in_two}
use Rattle.gp_rules.specs.declared.accessing.Accessor.{Accessor}
use Rattle.gp_rules.specs.declared.storage.View.{View}
use Rattle.gp_rules.specs.declared.storage.StreamMode.TheVariants.{Attributes, Triangles}
use Rattle.gp_rules.specs.Sizes.{padded}
use Rattle.gp_rules.specs.Views.{is_stride, is_stride_in}
use Rattle.gp_rules.specs.Accessors.{size_of}
use Rattle.gp_asset.specs.Asset.{AssetParts}
use Rattle.gp_storage.specs.Coding.{numbers_in}
use Rattle.gp_storage.specs.Streams.{encoded}
use Rattle.gp_unpack.specs.Contents.{decoded}
use Rattle.gp_sameness.specs.Moved.{Moved}
use Rattle.gp_packed.specs.MadeViews.{Made, column_contents, is_narrow, list_width}
use Rattle.gp_packed.specs.Plan.{stored_made}
use Rattle.gp_packed.specs.StoredParts.{Suits}
use Rattle.gp_packed.specs.MadeLaws.{IsWhole, list_contents, StreamedListsReadBack, StreamedListsSuit, StreamedColumnsReadBack, StoredColumnsSuit}
use Rattle.gp_kept.proofs.MadeColumns.{At, column_found, columns_bytes}
use Rattle.gp_kept.proofs.MadeLists.{count_back, lists_back, lists_long, width_if}
use Rattle.gp_kept.proofs.MadeSizes.{all_columns, column_view}
use Rattle.gp_packed.proofs.StoredBytes.{each_below}
use Rattle.gp_packed.proofs.StoredSuits.{FitsAttributes, some_elements, whole_elements, stream_suits}

-- ---- lists

-- what holds of all numbers of a list holds of those of a list with the same triangles
abbrev Corners : (ℕ → Type 0) → ℕ × ℕ × ℕ → Type 0
Corners P t = P t.0 × P t.1 × P t.2

corner_has : (P : ℕ → Type 0) (other : List ℕ) (k i r : ℕ) → i ≡ 3 * k + r → r < 3 → Corners P (triangle_at other k) → P (get_or other i 0)
corner_has P other k i zero is below all = let here : 3 * k ≡ i = omega (arith, is) in subst (λ n. P (get_or other n 0)) here all.0
corner_has P other k i (suc zero) is below all = let here : 3 * k + 1 ≡ i = omega (arith, is) in subst (λ n. P (get_or other n 0)) here all.1
corner_has P other k i (suc (suc zero)) is below all = let here : 3 * k + 2 ≡ i = omega (arith, is) in subst (λ n. P (get_or other n 0)) here all.2
corner_has P other k i (suc (suc (suc r))) is below all = absurd (omega arith)

pub same_have : (P : ℕ → Type 0) (list other : List ℕ) → SameTriangles list other → length list % 3 ≡ 0 → All P list → All P other
same_have P list other same triple all =
    All-from_get_or P other 0 (λ i below.
    let k = i / 3 in
    let whole : 3 * k + 2 < length list = omega (arith, triple, same.long, below) in
    let turn = same.turned k (omega arith) in
    let t = triangle_at list k in
    let corners = rotated_all P t turn.0 (all (3 * k) 0 (omega arith)) (all (3 * k + 1) 0 (omega arith)) (all (3 * k + 2) 0 (omega arith)) in
    corner_has P other k i (i % 3) (omega arith) (omega arith) (subst (Corners P) (sym turn.2) corners))

has_if : (narrow : Bool) (count : ℕ) (list : List ℕ) → nat_le count 65535 ≡ narrow → count ≤ 2 ^ 24 → All (λ n. n < count) list → length list % 3 ≡ 0
    → HasTriangles (encoded_triangles list) list (width_if narrow)
has_if true count list is few numbers triple =
    let most : count ≤ 65535 = leb-true count 65535 is in
    in_two list (encoded_triangles list) triple (λ k d below. omega (arith, numbers k d below, most)) refl
has_if false count list is few numbers triple =
    in_four list (encoded_triangles list) triple (λ k d below. omega (arith, numbers k d below, few)) refl

pub streamed_lists_back : StreamedListsReadBack
unfolding decoded encoded
streamed_lists_back m list few numbers triple =
    let width = list_width m in
    let written : encoded_triangles list ≡ encoded Triangles width (list_contents m list) = ap encoded_triangles (sym (lists_back m list few numbers)) in
    let has = has_if (is_narrow m) (length m.records) list refl few numbers triple in
    record {
      other = has.other;
      same = has.same;
      numbers = same_have (λ n. n < length m.records) list has.other has.same triple numbers;
      meant =
          ap (λ n. decoded Triangles (encoded Triangles width (list_contents m list)) n width) (count_back m list)
          ∙ ap (λ (stream : List ℕ). decoded Triangles stream (length list) width) (sym written)
          ∙ has.meant;
    }

-- ---- their sizes

width_fits : (narrow : Bool) → is_stride_in Triangles (width_if narrow) ≡ true
width_fits true = refl
width_fits false = refl

-- a first byte and a table
long_triangles : (list : List ℕ) → 5 < length (encoded_triangles list)
unfolding encoded_triangles
long_triangles list =
    let written = pieces (at_first []) list in
    let front : List ℕ = 0xE1 ∷ map (λ (p : Piece). p.code) written in
    let rest = flat_map (λ (p : Piece). p.bytes) written in
    omega (arith, length-append (front ++ rest) codeaux)

pub streamed_lists_suit : StreamedListsSuit
unfolding encoded
streamed_lists_suit m list triple =
    let width = list_width m in
    let count = count_back m list in
    record {
      strides = width_fits (is_narrow m);
      counts = eq-eqb (length (list_contents m list) / width % 3) 0 (ap (λ n. n % 3) count ∙ triple);
      whole = ap (λ n. width * n) count ∙ sym (lists_long m list);
      longer = long_triangles (numbers_in width (list_contents m list));
    }

-- ---- columns

-- what fits in 16 bytes fits in more
pub wider : (most stride : ℕ) → 16 ≤ most → is_stride 16 stride ≡ true → is_stride most stride ≡ true
wider most stride more is =
    let both = and_parts (stride % 4 == 0 && nat_le 4 stride) (nat_le stride 16) is in
    rw (both.0, le-leb stride most (omega (arith, more, leb-true stride 16 both.1))) refl

-- as a view of its length and stride it may be coded as attributes
pub fits_attributes : (a : AssetParts) (m : Moved) (k at : ℕ) (x : Accessor) → IsWhole a m → At a m k x
    → FitsAttributes (record { buffer = 0; offset = 0; length = length (column_contents a m k x); stride = Some (padded (size_of x)); packed = None }) (padded (size_of x))
fits_attributes a m k at x whole here =
    let view = column_view a m k at x whole here in
    record {
      fits = wider 256 (padded (size_of x)) (omega arith) view.stride;
      whole = view.elements.whole;
      agree = eq-eqb (padded (size_of x)) (padded (size_of x)) refl;
    }

pub columns_stored : StoredColumnsSuit
columns_stored a m whole small =
    all_columns (λ (v : Made). Suits (length v.contents) (Some v.coding.stride) (stored_made v)) a m whole (λ k at x here.
    let contents = column_contents a m k x in
    let stride = padded (size_of x) in
    let v : View = record { buffer = 0; offset = 0; length = length contents; stride = Some stride; packed = None } in
    record {
      whole = refl;
      stream = stream_suits v (Some (record { mode = Attributes; stride = stride })) contents (fits_attributes a m k at x whole here) refl (columns_bytes a m k x small);
    })

pub streamed_columns_back : StreamedColumnsReadBack
unfolding decoded encoded
streamed_columns_back a m k x whole column small =
    let contents = column_contents a m k x in
    let stride = padded (size_of x) in
    let fit = fits_attributes a m k 0 x whole (column_found a m k x whole column) in
    let elements : length contents ≡ length contents / stride * stride = omega (arith, whole_elements (length contents) stride fit.whole) in
    stream_read contents (length contents / stride) stride (some_elements stride fit.fits) elements (each_below contents (columns_bytes a m k x small))
