-- Rows of records of one size, and lists behind one another.
use Rattle.std.proofs.Common.{◌≡◌, ℕ, zero, suc, ◌+◌, ◌-◌, ◌*◌, ◌/◌, ◌%◌, ◌<◌, ◌≤◌, List, [], ◌∷◌, ◌++◌, map, length, take, drop, get_or, refl, sym, ap, ◌∙◌, subst, append_assoc, length-append, arith}
use Rattle.std.specs.List.{All, concat, range_with_len}
use Rattle.std.proofs.lemmas.Nat.{div-mul-add, div-add-mod'}
use Rattle.std.proofs.lemmas.List.{take_at, drop_at, append-nil, map-append, length-drop, length-take-le}
use Rattle.std.proofs.lemmas.List.Elements.{All-nil, All-head, All-tail, All-append}
use Rattle.gp_asset.specs.Contents.{part}
use Rattle.gp_alias.specs.Records.{ends_from}
use Rattle.gp_merge.specs.Records.{record_at, records}
use Rattle.gp_mover.specs.Standing.{between}

-- each of these has so many items
abbrev pub Sized : ℕ → List (List ℕ) → Type 0
Sized size rows = All (λ (r : List ℕ). length r ≡ size) rows

-- ---- records

pub length-rows : (size : ℕ) (rows : List (List ℕ)) → Sized size rows → length (concat rows) ≡ length rows * size
length-rows size [] sizes = omega arith
length-rows size (r ∷ rows) sizes =
    let P = λ (r : List ℕ). length r ≡ size in
    omega (arith, length-append r (concat rows), All-head P r rows sizes, length-rows size rows (All-tail P r rows sizes))

rows_from : (size : ℕ) (rows : List (List ℕ)) (before : List ℕ) (k : ℕ) → Sized size rows → length before ≡ k * size
    → map (record_at size (before ++ concat rows)) (range_with_len k (length rows)) ≡ rows
rows_from size [] before k sizes is = refl
rows_from size (r ∷ rows) before k sizes is =
    let P = λ (r : List ℕ). length r ≡ size in
    let own : length r ≡ size = All-head P r rows sizes in
    let here : record_at size (before ++ (r ++ concat rows)) k ≡ r = ap (take size) (drop_at before (r ++ concat rows) (k * size) is) ∙ take_at r (concat rows) size own in
    let front : length (before ++ r) ≡ (k + 1) * size = omega (arith, length-append before r, own, is) in
    let others = rows_from size rows (before ++ r) (k + 1) (All-tail P r rows sizes) front in
    let behind = subst (λ (bytes : List ℕ). map (record_at size bytes) (range_with_len (k + 1) (length rows)) ≡ rows) (append_assoc before r (concat rows)) others in
    ap (λ y. y ∷ map (record_at size (before ++ (r ++ concat rows))) (range_with_len (k + 1) (length rows))) here ∙ ap (λ ys. r ∷ ys) behind

pub cut_rows : (size : ℕ) (rows : List (List ℕ)) (bytes : List ℕ) → 1 ≤ size → Sized size rows → bytes ≡ concat rows → records size bytes ≡ rows
cut_rows size rows bytes some sizes is =
    let count : length (concat rows) / size ≡ length rows = ap (λ n. n / size) (length-rows size rows sizes ∙ (let zero_more : length rows * size ≡ length rows * size + 0 = omega arith in zero_more)) ∙ div-mul-add (length rows) size 0 (omega (arith, some)) in
    ap (records size) is ∙ ap (λ n. map (record_at size (concat rows)) (range_with_len 0 n)) count ∙ rows_from size rows [] 0 sizes (omega arith)

pub whole_rows : (size : ℕ) (rows : List (List ℕ)) (bytes : List ℕ) → 1 ≤ size → Sized size rows → bytes ≡ concat rows → length bytes % size ≡ 0
whole_rows size rows bytes some sizes is =
    let n = length rows * size in
    let long : length bytes ≡ n = ap (λ (l : List ℕ). length l) is ∙ length-rows size rows sizes in
    let count : n / size ≡ length rows = ap (λ k. k / size) (let zero_more : n ≡ n + 0 = omega arith in zero_more) ∙ div-mul-add (length rows) size 0 (omega (arith, some)) in
    let back : n / size * size ≡ n = ap (λ k. k * size) count in
    ap (λ k. k % size) long ∙ omega (arith, div-add-mod' n size, back)

-- ---- lists

-- what stands between two places
pub part_between : (before list rest : List ℕ) (start end : ℕ) → length before ≡ start → end ≡ start + length list → take (end - start) (drop start (before ++ (list ++ rest))) ≡ list
part_between before list rest start end is ends =
    let long : length list ≡ end - start = omega (arith, ends) in
    ap (take (end - start)) (drop_at before (list ++ rest) start is) ∙ take_at list rest (end - start) long

between_from : (start : ℕ) (before : List ℕ) (lists : List (List ℕ)) → length before ≡ start → between start (ends_from start lists) (before ++ concat lists) ≡ lists
between_from start before [] is = refl
between_from start before (list ∷ lists) is =
    let end = start + length list in
    let front : length (before ++ list) ≡ end = omega (arith, length-append before list, is) in
    let others = between_from end (before ++ list) lists front in
    let behind = subst (λ (joined : List ℕ). between end (ends_from end lists) joined ≡ lists) (append_assoc before list (concat lists)) others in
    ap (λ l. l ∷ between end (ends_from end lists) (before ++ (list ++ concat lists))) (part_between before list (concat lists) start end is refl)
    ∙ ap (λ ls. list ∷ ls) behind

pub between_joined : (ends joined : List ℕ) (lists : List (List ℕ)) → joined ≡ concat lists → ends ≡ ends_from 0 lists → between 0 ends joined ≡ lists
between_joined ends joined lists is at = ap (between 0 ends) is ∙ ap (λ es. between 0 es (concat lists)) at ∙ between_from 0 [] lists refl

pub length-ends : (start : ℕ) (lists : List (List ℕ)) → length (ends_from start lists) ≡ length lists
length-ends start [] = refl
length-ends start (list ∷ lists) = omega (arith, length-ends (start + length list) lists)

pub ends_at : (start : ℕ) (lists : List (List ℕ)) (at : ℕ) → at < length lists → get_or (ends_from start lists) at 0 ≡ start + length (concat (take (at + 1) lists))
ends_at start [] at within = absurd (omega arith)
ends_at start (list ∷ lists) zero within = omega (arith, length-append list [])
ends_at start (list ∷ lists) (suc at) within =
    let more : suc at + 1 ≡ suc (at + 1) = omega arith in
    rw more (omega (arith, ends_at (start + length list) lists at (omega arith), length-append list (concat (take (at + 1) lists))))

-- where lists of the same lengths end
pub same_ends : (f : List ℕ → List ℕ) (start : ℕ) (lists : List (List ℕ)) → All (λ (l : List ℕ). length (f l) ≡ length l) lists → ends_from start (map f lists) ≡ ends_from start lists
same_ends f start [] long = refl
same_ends f start (list ∷ lists) long =
    let P = λ (l : List ℕ). length (f l) ≡ length l in
    let here : length (f list) ≡ length list = All-head P list lists long in
    ap (λ n. (start + n) ∷ ends_from (start + n) (map f lists)) here ∙ ap (λ es. (start + length list) ∷ es) (same_ends f (start + length list) lists (All-tail P list lists long))

pub map-joined : (f : ℕ → ℕ) (lists : List (List ℕ)) → map f (concat lists) ≡ concat (map (map f) lists)
map-joined f [] = refl
map-joined f (list ∷ lists) = map-append f list (concat lists) ∙ ap (λ l. map f list ++ l) (map-joined f lists)

pub all_joined : (P : ℕ → Type 0) (lists : List (List ℕ)) → All (All P) lists → All P (concat lists)
all_joined P [] each = All-nil P
all_joined P (list ∷ lists) each = All-append P list (concat lists) (All-head (All P) list lists each) (all_joined P lists (All-tail (All P) list lists each))
