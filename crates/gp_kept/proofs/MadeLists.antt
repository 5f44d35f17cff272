-- The numbers of a made list are read back.
use Rattle.std.proofs.Common.{◌≡◌, ℕ, zero, suc, ◌+◌, ◌-◌, ◌*◌, ◌/◌, ◌%◌, ◌^◌, ◌<◌, ◌≤◌, Bool, true, false, if◌then◌else◌, nat_le, List, map, take, length, Some, refl, sym, ap, ◌∙◌, arith}
use Rattle.std.specs.List.{All, range_with_len}
use Rattle.std.proofs.lemmas.Bool.{leb-true}
use Rattle.std.proofs.lemmas.List.{take_all}
use Rattle.std.proofs.lemmas.List.Elements.{All-nil, All-cons}
use Rattle.gp_groups.specs.Sequence.{le_bytes}
use Rattle.gp_rules.specs.declared.accessing.Accessor.{Accessor}
use Rattle.gp_rules.specs.declared.accessing.Component.{Component}
use Rattle.gp_rules.specs.declared.accessing.Component.TheVariants.{U16, U32}
use Rattle.gp_rules.specs.Kinds.{component_of}
use Rattle.gp_rules.specs.Sizes.{component_size, element_size}
use Rattle.gp_rules.specs.Accessors.{size_of}
use Rattle.gp_asset.specs.Contents.{part}
use Rattle.gp_elements.specs.Elements.{number_of, base_elements, element_at}
use Rattle.gp_sameness.specs.Moved.{Moved}
use Rattle.gp_packed.specs.MadeViews.{is_narrow, list_width}
use Rattle.gp_packed.specs.StoredParts.{AreBytes}
use Rattle.gp_packed.specs.MadeLaws.{AreNumbers, ReadsNumbers, list_contents, ListsReadBack, ListElementsReadBack, ListsAreLong, ListsAreBytes, ListsAreBelow}
use Rattle.gp_kept.proofs.Blocks.{blocks, length-blocks, all_blocks, map_alone, map_twice}

-- ---- one number

pub length-le_bytes : (width n : ℕ) → length (le_bytes width n) ≡ width
length-le_bytes zero n = refl
length-le_bytes (suc more) n = ap suc (length-le_bytes more (n / 256))

below_256 : (width n : ℕ) → AreBytes (le_bytes width n)
below_256 zero n = All-nil (λ byte. byte < 256)
below_256 (suc more) n = All-cons (λ byte. byte < 256) (n % 256) (le_bytes more (n / 256)) (omega arith) (below_256 more (n / 256))

one_byte : (more n : ℕ) → number_of (le_bytes more (n / 256)) ≡ n / 256 → number_of (le_bytes (suc more) n) ≡ n
one_byte more n rest = omega (arith, rest)

in_two : (n : ℕ) → n ≤ 65535 → number_of (le_bytes 2 n) ≡ n
in_two n low = one_byte 1 n (one_byte 0 (n / 256) (omega arith))

in_four : (n : ℕ) → n < 2 ^ 24 → number_of (le_bytes 4 n) ≡ n
in_four n low = one_byte 3 n (one_byte 2 (n / 256) (one_byte 1 (n / 256 / 256) (one_byte 0 (n / 256 / 256 / 256) (omega arith))))

-- ---- by their width

abbrev pub width_if : Bool → ℕ
width_if narrow = if narrow then 2 else 4

abbrev greatest_if : Bool → ℕ
greatest_if narrow = if narrow then 65535 else 2 ^ 32 - 1

number_if : (narrow : Bool) (count n : ℕ) → nat_le count 65535 ≡ narrow → count ≤ 2 ^ 24 → n < count → number_of (le_bytes (width_if narrow) n) ≡ n
number_if true count n is few low = in_two n (omega (arith, leb-true count 65535 is))
number_if false count n is few low = in_four n (omega (arith, few, low))

pub number_back : (m : Moved) (n : ℕ) → length m.records ≤ 2 ^ 24 → n < length m.records → number_of (le_bytes (list_width m) n) ≡ n
number_back m n few low = number_if (is_narrow m) (length m.records) n refl few low

below_if : (narrow : Bool) (count n : ℕ) → nat_le count 65535 ≡ narrow → count ≤ 2 ^ 24 → n < count → n < greatest_if narrow
below_if true count n is few low = omega (arith, leb-true count 65535 is)
below_if false count n is few low = omega (arith, few, low)

pub some_width : (narrow : Bool) (n : ℕ) → n * width_if narrow / width_if narrow ≡ n
some_width true n = omega arith
some_width false n = omega arith

-- ---- the list

-- each is a block of the width
sized : (width : ℕ) (list : List ℕ) → All (λ n. length (le_bytes width n) ≡ width) list
sized width list k d lt = length-le_bytes width _

pub lists_long : ListsAreLong
lists_long m list = omega (arith, length-blocks (le_bytes (list_width m)) (list_width m) list (sized (list_width m) list))

pub lists_bytes : ListsAreBytes
lists_bytes m list = all_blocks (λ byte. byte < 256) (le_bytes (list_width m)) list (λ k d lt. below_256 (list_width m) _)

pub lists_below : ListsAreBelow
lists_below m list few numbers k d lt = below_if (is_narrow m) (length m.records) _ refl few (numbers k d lt)

-- its numbers, found by their places
placed : (m : Moved) (list : List ℕ) (at : ℕ → ℕ) → length m.records ≤ 2 ^ 24 → AreNumbers m list → ((i : ℕ) → at i ≡ i * list_width m)
    → map (λ i. number_of (part (list_contents m list) (at i) (list_width m))) (range_with_len 0 (length list)) ≡ list
placed m list at few numbers places =
    let width = list_width m in
    let whole : (n : ℕ) → take width (le_bytes width n) ≡ le_bytes width n = λ n. take_all width (le_bytes width n) (omega (arith, length-le_bytes width n)) in
    blocks (le_bytes width) number_of width width at list (omega arith) places (sized width list)
    ∙ map_alone (λ n. number_of (take width (le_bytes width n))) list (λ k d lt. ap number_of (whole _) ∙ number_back m _ few (numbers k d lt))

pub count_back : (m : Moved) (list : List ℕ) → length (list_contents m list) / list_width m ≡ length list
count_back m list =
    let long = length-blocks (le_bytes (list_width m)) (list_width m) list (sized (list_width m) list) in
    ap (λ n. n / list_width m) long ∙ some_width (is_narrow m) (length list)

pub lists_back : ListsReadBack
lists_back m list few numbers =
    ap (λ n. map (λ i. number_of (part (list_contents m list) (i * list_width m) (list_width m))) (range_with_len 0 n)) (count_back m list)
    ∙ placed m list (λ i. i * list_width m) few numbers (λ i. refl)

-- ---- an accessor that reads it

component_if : (narrow : Bool) (c : Component) → component_of (if narrow then 5123 else 5125) ≡ Some c → component_size c ≡ width_if narrow
unfolding component_of
component_if true c is = let same : U16 ≡ c = cc in ap component_size (sym same)
component_if false c is = let same : U32 ≡ c = cc in ap component_size (sym same)

pub number_size : (m : Moved) (y : Accessor) (count : ℕ) → ReadsNumbers m y count → size_of y ≡ list_width m
number_size m y count reads = ap (element_size y.component) reads.shape ∙ component_if (is_narrow m) y.component reads.component

pub list_elements_back : ListElementsReadBack
unfolding base_elements
list_elements_back m list y few numbers reads =
    let size = number_size m y (length list) reads in
    let bytes = list_contents m list in
    map_twice number_of (element_at bytes y (size_of y)) (range_with_len 0 y.count)
    ∙ ap (λ n. map (λ i. number_of (part bytes (y.offset + i * n) n)) (range_with_len 0 y.count)) size
    ∙ ap (λ n. map (λ i. number_of (part bytes (y.offset + i * list_width m) (list_width m))) (range_with_len 0 n)) reads.count
    ∙ placed m list (λ i. y.offset + i * list_width m) few numbers (λ i. omega (arith, reads.offset))
