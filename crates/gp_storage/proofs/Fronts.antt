-- The stream of attributes is made from whole elements alone.
use Rattle.std.proofs.Common.{◌≡◌, ℕ, zero, suc, ◌+◌, ◌-◌, ◌*◌, ◌/◌, ◌<◌, ◌≤◌, ◌==◌, false, min, if◌then◌else◌, nat_lt, ◌⊎◌, inl, inr, List, ◌++◌, map, take, replicate, refl, ap, arith}
use Rattle.std.specs.List.{range_with_len, flat_map}
use Rattle.std.proofs.lemmas.Bool.{cases_lt, lt-ltb, le-ltb, ne_eqb}
use Rattle.std.proofs.lemmas.List.{get_or-take, take-take}
use Rattle.std.proofs.Math.Nat.{mul-le-mul_right}
use Rattle.gp_groups.specs.Places.{byte_of}
use Rattle.gp_groups.specs.WrittenGroup.{best}
use Rattle.gp_groups.specs.Attributes.{block_len}
use Rattle.gp_groups.specs.WrittenAttributes.{coded_delta, encoded_attributes, group_values, header_byte, written_best, written_block, written_part}
use Rattle.gp_vertex.proofs.RoundTrip.{same_on}

-- the same bytes in the first elements
record AreAlike (left right : List ℕ) (count stride : ℕ) : Type 0 where
  bytes : (i p : ℕ) → i < count → p < stride → byte_of left stride i p ≡ byte_of right stride i p

delta_alike : (left right : List ℕ) (count stride p i : ℕ) → AreAlike left right count stride → p < stride → i < count → coded_delta left stride p i ≡ coded_delta right stride p i
delta_alike left right count stride p i alike place within =
    rw (alike.bytes i p within place, alike.bytes (i - 1) p (omega (arith, within)) place) refl

abbrev value : List ℕ → ℕ → ℕ → ℕ → ℕ → ℕ → ℕ
value source stride p from n i = if nat_lt i n then coded_delta source stride p (from + i) else 0

value_alike : (left right : List ℕ) (count stride p from n i : ℕ) → AreAlike left right count stride → p < stride → (i < n → from + i < count) → value left stride p from n i ≡ value right stride p from n i
value_alike left right count stride p from n i alike place within = by_order (cases_lt i n)
  where
    by_order : (i < n) ⊎ (n ≤ i) → value left stride p from n i ≡ value right stride p from n i
    by_order (inl below) = rw (lt-ltb i n below) (delta_alike left right count stride p (from + i) alike place (within below))
    by_order (inr past) = rw (le-ltb i n past) refl

part_alike : (left right : List ℕ) (count stride from n p : ℕ) → AreAlike left right count stride → p < stride → ((i : ℕ) → i < n → from + i < count) → written_part left stride from n p ≡ written_part right stride from n p
unfolding written_part
part_alike left right count stride from n p alike place within =
    let groups = same_on (group_values left stride p from n) (group_values right stride p from n) 0 ((n + 15) / 16)
    (λ k low high. same_on (value left stride p from n) (value right stride p from n) (16 * k) 16 (λ i lowest highest. value_alike left right count stride p from n i alike place (within i))) in
    ap (λ gs. map (header_byte (map best gs)) (range_with_len 0 (((n + 15) / 16 + 3) / 4)) ++ flat_map written_best gs) groups

same_flat : (f g : ℕ → List ℕ) (a n : ℕ) → ((i : ℕ) → a ≤ i → i < a + n → f i ≡ g i) → flat_map f (range_with_len a n) ≡ flat_map g (range_with_len a n)
same_flat f g a zero same = refl
same_flat f g a (suc n) same =
    rw (same a (omega arith) (omega arith)) (ap (λ rest. g a ++ rest) (same_flat f g (a + 1) n (λ i low high. same i (omega (arith, low)) (omega (arith, high)))))

block_alike : (left right : List ℕ) (count stride k : ℕ) → AreAlike left right count stride → written_block left count stride k ≡ written_block right count stride k
block_alike left right count stride k alike =
    let from = k * block_len stride in
    let n = min (block_len stride) (count - from) in
    same_flat (written_part left stride from n) (written_part right stride from n) 0 stride
    (λ p low high. part_alike left right count stride from n p alike (omega (arith, high)) (λ i below. omega (arith, below)))

front_alike : (source : List ℕ) (count stride : ℕ) → AreAlike (take (count * stride) source) source count stride
front_alike source count stride = record {
  bytes = λ i p within place. (
      let most : (i + 1) * stride ≤ count * stride = mul-le-mul_right stride (omega (arith, within)) in
      let next : (i + 1) * stride ≡ i * stride + stride = omega arith in
      get_or-take (count * stride) source (i * stride + p) 0 (omega (arith, most, next, place)));
}

first_alike : (source : List ℕ) (count stride : ℕ) → (if count == 0 then replicate stride 0 else take stride (take (count * stride) source)) ≡ (if count == 0 then replicate stride 0 else take stride source)
first_alike source zero stride = refl
first_alike source (suc count) stride =
    let one_or_more : 1 * stride ≤ suc count * stride = mul-le-mul_right stride (omega arith) in
    let least : stride ≤ suc count * stride = omega (arith, one_or_more) in
    let more : (suc count == 0) ≡ false = ne_eqb (suc count) 0 (λ e. omega (arith, e)) in
    rw more (take-take stride (suc count * stride) source least)

-- bytes behind the last whole element don't matter
pub encoded_attributes-front : (source : List ℕ) (count stride : ℕ) → encoded_attributes (take (count * stride) source) count stride ≡ encoded_attributes source count stride
unfolding encoded_attributes
encoded_attributes-front source count stride =
    let alike = front_alike source count stride in
    let front = take (count * stride) source in
    let blocks = (count + block_len stride - 1) / block_len stride in
    let same = same_flat (written_block front count stride) (written_block source count stride) 0 blocks (λ k low high. block_alike front source count stride k alike) in
    rw (same, first_alike source count stride) refl
