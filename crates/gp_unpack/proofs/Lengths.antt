-- How many bytes streams stand for.
use Rattle.std.proofs.Common.{◌≡◌, ℕ, suc, zero, ◌+◌, ◌-◌, ◌*◌, ◌/◌, ◌%◌, ◌≤◌, Bool, true, false, cond, List, [], ◌∷◌, ◌++◌, map, length, drop, take, nat_lt, Option, Some, None, Result, Ok, Err, refl, sym, ap, subst, ◌∙◌, arith, length-append}
use Rattle.std.specs.Prelude.{max, ◌==◌}
use Rattle.std.specs.List.{flat_map, range_with_len, position, slice_index, slice_range}
use Rattle.std.proofs.lemmas.Bool.{ltb-false}
use Rattle.std.proofs.lemmas.List.{length-take-le, length-drop}
use Rattle.std.proofs.lemmas.List.FromFn.{length-range_with_len, length-map-range_with_len}
use Rattle.gp_groups.specs.declared.fault.StreamFault.{StreamFault}
use Rattle.gp_groups.specs.declared.fault.StreamFault.TheVariants.{Header, Short, Tail, Width}
use Rattle.gp_groups.specs.Steps.{and_then, in_row}
use Rattle.gp_groups.specs.Varint.{varint}
use Rattle.gp_groups.specs.Attributes.{decoded_attributes, with_tail, block, block_lens, elements, element_byte}
use Rattle.gp_groups.specs.Triangles.{decoded_triangles, triangles, triangle, Triangle, State, after, at_first, corners, narrow, with_table, has_nibble_15}
use Rattle.gp_groups.specs.Sequence.{decoded_sequence, body, values, indices, index_at, checked, le_bytes, is_too_wide}

-- ---- checks that let a value through

let_through : {A : Type 0} (condition : Bool) (rest : Result A StreamFault) (fault : StreamFault) (a : A)
    → cond condition rest (Err fault) ≡ Ok a → rest ≡ Ok a
let_through true rest fault a e = e
let_through false rest fault a e = absurd (cc)

not_stopped : {A P : Type 0} (condition : Bool) (rest : Result A StreamFault) (fault : StreamFault) (a : A)
    → cond condition (Err fault) rest ≡ Ok a → (condition ≡ false → rest ≡ Ok a → P) → P
not_stopped true rest fault a e then_holds = absurd (cc)
not_stopped false rest fault a e then_holds = then_holds refl e

step : {A B P : Type 0} (first : Result A StreamFault) (f : A → Result B StreamFault) (b : B) → and_then first f ≡ Ok b
    → ((a : A) → first ≡ Ok a → f a ≡ Ok b → P) → P
step (Ok a) f b e then_holds = then_holds a refl e
step (Err fault) f b e then_holds = absurd (cc)

same : {A : Type 0} (x y : A) → ◌≡◌ {A = Result A StreamFault} (Ok x) (Ok y) → x ≡ y
same x y e = cc

-- ---- rows of one length

rows : {X : Type 0} (f : X → List ℕ) (s : ℕ) → ((x : X) → length (f x) ≡ s) → (xs : List X) → length (flat_map f xs) ≡ length xs * s
rows f s each [] = omega arith
rows f s each (x ∷ xs) = omega (arith, length-append (f x) (flat_map f xs), each x, rows f s each xs)

number : (s n : ℕ) → length (le_bytes s n) ≡ s
number zero n = refl
number (suc more) n = ap suc (number more (n / 256))

-- ---- attributes

element_rows : (baseline : List ℕ) (blocks : List (List (List ℕ))) (count stride : ℕ)
    → length (elements baseline blocks count stride) ≡ count * stride
element_rows baseline blocks count stride =
    rows (λ i. map (element_byte baseline blocks i) (range_with_len 0 stride)) stride (λ i. length-map-range_with_len (element_byte baseline blocks i) 0 stride) (range_with_len 0 count)
    ∙ ap (λ n. n * stride) (length-range_with_len 0 count)

tail_length : (count stride : ℕ) (row : Option (List (List (List ℕ)) × List ℕ)) (xs : List ℕ) → with_tail count stride row ≡ Ok xs
    → length xs ≡ count * stride
tail_length count stride None xs e = absurd (cc)
tail_length count stride (Some (blocks, tail)) xs e =
    let list = elements (drop (max 32 stride - stride) tail) blocks count stride in
    let is = let_through (length tail == max 32 stride) (Ok list) (Tail (length tail)) xs e in
    ap length (sym (same list xs is)) ∙ element_rows (drop (max 32 stride - stride) tail) blocks count stride

pub attributes_length : (bytes : List ℕ) (count stride : ℕ) (xs : List ℕ) → decoded_attributes bytes count stride ≡ Ok xs → length xs ≡ count * stride
unfolding decoded_attributes
attributes_length bytes count stride xs e =
    let row = in_row (block stride) (block_lens count stride) (drop 1 bytes) in
    tail_length count stride row xs (let_through (slice_index bytes 0 == 0xA0) (with_tail count stride row) Header xs e)

-- ---- triangles

abbrev narrowed : ℕ → List ℕ → Option ℕ → Result (List ℕ) StreamFault
narrowed at list wide = elim wide [ None ↦ Ok list | Some k ↦ Err (Width (at + k)) ]

narrow_by : (at : ℕ) (list first : List ℕ) (wide : Option ℕ) → narrowed at list wide ≡ Ok first → list ≡ first
narrow_by at list first None e = cc
narrow_by at list first (Some k) e = absurd (cc)

all_triangles : (stride : ℕ) (table : List ℕ) (at : ℕ) (codes : List ℕ) (s : State) (list : List ℕ)
    → triangles stride table at codes s ≡ Ok list → length list ≡ length codes * 3
all_triangles stride table at [] s list e =
    let none : [] ≡ list = same [] list (let_through (length s.cursor.unread == 0) (Ok []) (Tail (length s.cursor.unread)) list e) in
    subst (λ (l : List ℕ). length l ≡ 0 * 3) none (omega arith)
all_triangles stride table at (code ∷ codes) s list e =
    step (triangle table code s) _ list e (λ (t : Triangle) read more.
    step (narrow stride at (corners t.corners)) _ list more (λ first wide others_too.
    step (triangles stride table (at + 3) codes (after s t)) (λ others. Ok (first ++ others)) list others_too (λ others rest whole.
    let three : length first ≡ 3 = ap length (sym (narrow_by at (corners t.corners) first (position (is_too_wide stride) (corners t.corners)) wide)) in
    let long = ap length (sym (same (first ++ others) list whole)) in
    omega (arith, three, long, length-append first others, all_triangles stride table (at + 3) codes (after s t) others rest))))

table_passed : (entry : Option ℕ) (list : Result (List ℕ) StreamFault) (xs : List ℕ) → with_table entry list ≡ Ok xs → list ≡ Ok xs
table_passed None list xs e = e
table_passed (Some at) list xs e = absurd (cc)

bytes_of : (stride n : ℕ) (list xs : List ℕ) → length list ≡ n
    → ◌≡◌ {A = Result (List ℕ) StreamFault} (Ok (flat_map (le_bytes stride) list)) (Ok xs) → length xs ≡ n * stride
bytes_of stride n list xs long e =
    ap length (sym (same (flat_map (le_bytes stride) list) xs e)) ∙ rows (le_bytes stride) stride (number stride) list ∙ ap (λ m. m * stride) long

pub triangles_length : (bytes : List ℕ) (count stride : ℕ) (xs : List ℕ) → count % 3 ≡ 0 → decoded_triangles bytes count stride ≡ Ok xs → length xs ≡ count * stride
unfolding decoded_triangles
triangles_length bytes count stride xs whole e =
    let codes = slice_range bytes 1 (1 + count / 3) in
    let unread = slice_range bytes (1 + count / 3) (length bytes - 16) in
    let table = drop (length bytes - 16) bytes in
    let list = and_then (triangles stride table 0 codes (at_first unread)) (λ list. Ok (flat_map (le_bytes stride) list)) in
    let checked = with_table (position has_nibble_15 (take 14 table)) list in
    not_stopped (nat_lt (length bytes) (1 + count / 3 + 16)) checked Short xs
    (let_through (slice_index bytes 0 == 0xE1) (cond (nat_lt (length bytes) (1 + count / 3 + 16)) (Err Short) checked) Header xs e) (λ long is.
    step (triangles stride table 0 codes (at_first unread)) (λ list. Ok (flat_map (le_bytes stride) list)) xs (table_passed (position has_nibble_15 (take 14 table)) list xs is) (λ list read found.
    let room : 1 + count / 3 + 16 ≤ length bytes = ltb-false (length bytes) (1 + count / 3 + 16) long in
    let after_first = length-drop 1 bytes in
    let many : length codes ≡ (1 + count / 3) - 1 = length-take-le ((1 + count / 3) - 1) (drop 1 bytes) (omega (arith, room, after_first)) in
    let three = all_triangles stride table 0 codes (at_first unread) list read in
    bytes_of stride count list xs (omega (arith, three, many, whole)) found))

-- ---- a sequence

abbrev values_by : ℕ → List ℕ → Result (ℕ × ℕ) StreamFault → List ℕ × Result (List ℕ) StreamFault
values_by more bytes (Ok read) = let others = values more (drop read.1 bytes) in (read.0 ∷ others.0, others.1)
values_by more bytes (Err fault) = ([], Err fault)

value_by : (more : ℕ) (bytes : List ℕ) (read : Result (ℕ × ℕ) StreamFault) (tail : List ℕ)
    → ((rest : List ℕ) → (values more rest).1 ≡ Ok tail → length (values more rest).0 ≡ more)
    → (values_by more bytes read).1 ≡ Ok tail → length (values_by more bytes read).0 ≡ suc more
value_by more bytes (Ok read) tail each e = ap suc (each (drop read.1 bytes) e)
value_by more bytes (Err fault) tail each e = absurd (cc)

all_values : (count : ℕ) (bytes tail : List ℕ) → (values count bytes).1 ≡ Ok tail → length (values count bytes).0 ≡ count
all_values zero bytes tail e = refl
all_values (suc more) bytes tail e = value_by more bytes (varint bytes) tail (λ rest is. all_values more rest tail is) e

many_indices : (coded : List ℕ) → length (indices coded) ≡ length coded
many_indices coded = length-map-range_with_len (index_at coded) 0 (length coded)

checked_length : (stride : ℕ) (list : List ℕ) (wide : Option ℕ) (rest : Result (List ℕ) StreamFault) (xs : List ℕ) (n : ℕ)
    → ((tail : List ℕ) → rest ≡ Ok tail → length list ≡ n) → checked stride list wide rest ≡ Ok xs → length xs ≡ n * stride
checked_length stride list (Some at) rest xs n many e = absurd (cc)
checked_length stride list None (Err fault) xs n many e = absurd (cc)
checked_length stride list None (Ok tail) xs n many e =
    bytes_of stride n list xs (many tail refl) (let_through (length tail == 4) (Ok (flat_map (le_bytes stride) list)) (Tail (length tail)) xs e)

pub sequence_length : (bytes : List ℕ) (count stride : ℕ) (xs : List ℕ) → decoded_sequence bytes count stride ≡ Ok xs → length xs ≡ count * stride
unfolding decoded_sequence
sequence_length bytes count stride xs e =
    let read = values count (drop 1 bytes) in
    let list = indices read.0 in
    checked_length stride list (position (is_too_wide stride) list) read.1 xs count
    (λ tail is. many_indices read.0 ∙ all_values count (drop 1 bytes) tail is)
    (let_through (slice_index bytes 0 == 0xD1) (body stride count (drop 1 bytes)) Header xs e)
