-- Parts in a row: how long it is, and where each part is found.
use Rattle.std.proofs.Common.{◌≡◌, ℕ, zero, suc, ◌+◌, ◌-◌, ◌%◌, Option, ◌≤◌, List, [], ◌∷◌, ◌++◌, length, map, take, drop, replicate, slice_get, Some, refl, sym, ap, ◌∙◌, append_assoc, append-nil, arith}
use Rattle.std.proofs.lemmas.List.{length-append, length-replicate}
use Rattle.std.proofs.Math.Seq.{take-append_seam, drop-append_seam}
use Rattle.gp_rules.specs.Sizes.{padded}
use Rattle.gp_layout.specs.Layout.{starts_behind, starts, end_behind, end, laid_behind, laid}
use Rattle.gp_layout.proofs.Bounds.{padded_least}

gap_length : (at : ℕ) (part : List ℕ) → length (replicate (padded at - at) 0 ++ part) ≡ padded at - at + length part
gap_length at part =
    let a = length-append (replicate (padded at - at) 0) part in
    let b = length-replicate {A = ℕ} (padded at - at) 0 in
    omega (arith, a, b)

-- ---- lengths

pub length_starts_behind : (at : ℕ) (lengths : List ℕ) → length (starts_behind at lengths) ≡ length lengths
length_starts_behind at [] = refl
length_starts_behind at (n ∷ lengths) = ap suc (length_starts_behind (padded at + n) lengths)

pub length_starts : (lengths : List ℕ) → length (starts lengths) ≡ length lengths
length_starts = length_starts_behind 0

pub length_laid_behind : (at : ℕ) (parts : List (List ℕ)) → at + length (laid_behind at parts) ≡ end_behind at (map length parts)
length_laid_behind at [] = omega arith
length_laid_behind at (part ∷ parts) =
    let a = length-append (replicate (padded at - at) 0 ++ part) (laid_behind (padded at + length part) parts) in
    let b = gap_length at part in
    let c = length_laid_behind (padded at + length part) parts in
    omega (arith, a, b, c, padded_least at)

pub length_laid : (parts : List (List ℕ)) → length (laid parts) ≡ end (map length parts)
length_laid parts = omega (arith, length_laid_behind 0 parts)

-- ---- one part more

pub laid_push : (at : ℕ) (parts : List (List ℕ)) (part : List ℕ)
    → laid_behind at (parts ++ part ∷ [])
    ≡ laid_behind at parts ++ (replicate (padded (end_behind at (map length parts)) - end_behind at (map length parts)) 0 ++ part)
laid_push at [] part = append-nil (replicate (padded at - at) 0 ++ part)
laid_push at (first ∷ parts) part =
    let front : List ℕ = replicate (padded at - at) 0 ++ first in
    let past : ℕ = padded at + length first in
    let e : ℕ = end_behind past (map length parts) in
    ap (λ l. front ++ l) (laid_push past parts part) ∙ sym (append_assoc front (laid_behind past parts) (replicate (padded e - e) 0 ++ part))

pub starts_push : (at : ℕ) (parts : List (List ℕ)) (part : List ℕ)
    → starts_behind at (map length (parts ++ part ∷ [])) ≡ starts_behind at (map length parts) ++ padded (end_behind at (map length parts)) ∷ []
starts_push at [] part = refl
starts_push at (first ∷ parts) part = ap (λ l. padded at ∷ l) (starts_push (padded at + length first) parts part)

pub end_push : (at : ℕ) (parts : List (List ℕ)) (part : List ℕ) → end_behind at (map length (parts ++ part ∷ [])) ≡ padded (end_behind at (map length parts)) + length part
end_push at [] part = refl
end_push at (first ∷ parts) part = end_push (padded at + length first) parts part

-- ---- where a part is found

-- the bytes before a part, and those behind it
abbrev pub Splits : ℕ → List (List ℕ) → List ℕ → ℕ → Type 0
Splits at parts part start = (front : List ℕ) × (back : List ℕ) × (laid_behind at parts ≡ front ++ (part ++ back)) × (at + length front ≡ start)

splits_first : (at : ℕ) (first : List ℕ) (parts : List (List ℕ)) (part : List ℕ) (start : ℕ)
    → Some first ≡ Some part → ◌≡◌ {A = Option ℕ} (Some (padded at)) (Some start) → Splits at (first ∷ parts) part start
splits_first at first parts part start e f =
    let same : first ≡ part = cc in
    let begins : padded at ≡ start = cc in
    let zeros : List ℕ = replicate (padded at - at) 0 in
    let back : List ℕ = laid_behind (padded at + length first) parts in
    let h : laid_behind at (first ∷ parts) ≡ zeros ++ (part ++ back) = append_assoc zeros first back ∙ ap (λ y. zeros ++ (y ++ back)) same in
    let n : at + length zeros ≡ start = omega (arith, length-replicate {A = ℕ} (padded at - at) 0, padded_least at, begins) in
    (zeros, back, h, n)

pub splits : (at : ℕ) (parts : List (List ℕ)) (i : ℕ) (part : List ℕ) (start : ℕ)
    → slice_get parts i ≡ Some part → slice_get (starts_behind at (map length parts)) i ≡ Some start → Splits at parts part start
splits at [] i part start e f = absurd (cc)
splits at (first ∷ parts) zero part start e f = splits_first at first parts part start e f
splits at (first ∷ parts) (suc i) part start e f =
    let before : List ℕ = replicate (padded at - at) 0 ++ first in
    let s = splits (padded at + length first) parts i part start e f in
    let h : laid_behind at (first ∷ parts) ≡ (before ++ s.0) ++ (part ++ s.1) = ap (λ l. before ++ l) s.2 ∙ sym (append_assoc before s.0 (part ++ s.1)) in
    let n : at + length (before ++ s.0) ≡ start = omega (arith, length-append before s.0, gap_length at first, padded_least at, s.3) in
    (before ++ s.0, s.1, h, n)

-- the part is there, also where more bytes follow
found_in : (parts : List (List ℕ)) (part : List ℕ) (start : ℕ) (more : List ℕ) → Splits 0 parts part start → take (length part) (drop start (laid parts ++ more)) ≡ part
found_in parts part start more s =
    let rest : List ℕ = s.1 ++ more in
    let e : laid parts ++ more ≡ s.0 ++ (part ++ rest) = ap (λ l. l ++ more) s.2 ∙ append_assoc s.0 (part ++ s.1) more ∙ ap (λ l. s.0 ++ l) (append_assoc part s.1 more) in
    let n : start ≡ length s.0 = omega (arith, s.3) in
    ap (λ k. take (length part) (drop k (laid parts ++ more))) n
    ∙ ap (λ l. take (length part) (drop (length s.0) l)) e
    ∙ ap (take (length part)) (drop-append_seam s.0 (part ++ rest))
    ∙ take-append_seam part rest

pub part_laid_before : (parts : List (List ℕ)) (more : List ℕ) (i : ℕ) (part : List ℕ) (start : ℕ)
    → slice_get parts i ≡ Some part → slice_get (starts (map length parts)) i ≡ Some start → take (length part) (drop start (laid parts ++ more)) ≡ part
part_laid_before parts more i part start e f = found_in parts part start more (splits 0 parts i part start e f)

pub part_laid : (parts : List (List ℕ)) (i : ℕ) (part : List ℕ) (start : ℕ)
    → slice_get parts i ≡ Some part → slice_get (starts (map length parts)) i ≡ Some start → take (length part) (drop start (laid parts)) ≡ part
part_laid parts i part start e f =
    ap (λ l. take (length part) (drop start l)) (sym (append-nil (laid parts))) ∙ part_laid_before parts [] i part start e f

pub part_within : (parts : List (List ℕ)) (i : ℕ) (part : List ℕ) (start : ℕ)
    → slice_get parts i ≡ Some part → slice_get (starts (map length parts)) i ≡ Some start → start + length part ≤ end (map length parts)
part_within parts i part start e f =
    let s = splits 0 parts i part start e f in
    let a : length (laid parts) ≡ length (s.0 ++ (part ++ s.1)) = ap length s.2 in
    omega (arith, a, length-append s.0 (part ++ s.1), length-append part s.1, length_laid parts, s.3)

-- each part begins at a multiple of 4
pub start_aligned : (at : ℕ) (lengths : List ℕ) (i start : ℕ) → slice_get (starts_behind at lengths) i ≡ Some start → start % 4 ≡ 0
start_aligned at [] i start e = absurd (cc)
start_aligned at (n ∷ lengths) zero start e = let f : padded at ≡ start = cc in omega (arith, f)
start_aligned at (n ∷ lengths) (suc i) start e = start_aligned (padded at + n) lengths i start e
