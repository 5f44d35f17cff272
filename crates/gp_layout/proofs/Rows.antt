-- Laying views in a row, one after the other.
use Rattle.std.proofs.Common.{◌≡◌, ℕ, zero, suc, ◌+◌, ◌-◌, ◌<◌, ◌≤◌, List, [], ◌∷◌, ◌++◌, length, map, take, replicate, get_or, Option, Some, None, IsSome, refl, sym, ap, subst, ◌∙◌, append_assoc, arith}
use Rattle.std.proofs.lemmas.List.{take_all}
use Rattle.std.proofs.lemmas.Option.{slice_get-get_or}
use Rattle.std.proofs.lemmas.List.Elements.{All-get_or}
use Rattle.std.specs.Option.{option_and_then}
use Rattle.gp_asset.specs.Contents.{bytes_at}
use Rattle.gp_rules.specs.Sizes.{padded}
use Rattle.gp_layout.specs.Layout.{starts, end, laid}
use Rattle.gp_layout.specs.Row.{RowParts, row_of, zero_padded, with_part, HasEach, held, row_length}
use Rattle.gp_layout.proofs.Parts.{length_laid, laid_push, starts_push, end_push}

bytes_push : (parts : List (List ℕ)) (part : List ℕ) → laid (parts ++ part ∷ []) ≡ zero_padded (laid parts) ++ part
bytes_push parts part =
    let e : length (laid parts) ≡ end (map length parts) = length_laid parts in
    laid_push 0 parts part
    ∙ ap (λ n. laid parts ++ (replicate (padded n - n) 0 ++ part)) (sym e)
    ∙ sym (append_assoc (laid parts) (replicate (padded (length (laid parts)) - length (laid parts)) 0) part)

starts_more : (parts : List (List ℕ)) (part : List ℕ) → starts (map length (parts ++ part ∷ [])) ≡ starts (map length parts) ++ padded (length (laid parts)) ∷ []
starts_more parts part = starts_push 0 parts part ∙ ap (λ n. starts (map length parts) ++ padded n ∷ []) (sym (length_laid parts))

-- one part more
pub row_push : (parts : List (List ℕ)) (part : List ℕ) → row_of (parts ++ part ∷ []) ≡ with_part (row_of parts) part
unfolding row_of
row_push parts part =
    let made : List ℕ → List ℕ → RowParts = λ b s. record { bytes = b; starts = s } in
    ap (λ b. made b (starts (map length (parts ++ part ∷ [])))) (bytes_push parts part) ∙ ap (made (zero_padded (laid parts) ++ part)) (starts_more parts part)

-- ---- views

none_more : (v : Option (List ℕ)) (views : List (Option (List ℕ))) (k : ℕ) (part : List ℕ)
    → held (take (k + 1) views) ≡ held (take k views) ++ part ∷ [] → held (v ∷ take (k + 1) views) ≡ held (v ∷ take k views) ++ part ∷ []
none_more None views k part ih = ih
none_more (Some b) views k part ih = ap (λ l. b ∷ l) ih

pub held_more : (views : List (Option (List ℕ))) (k : ℕ) (part : List ℕ) → bytes_at views k ≡ Some part → held (take (k + 1) views) ≡ held (take k views) ++ part ∷ []
held_more [] k part e = absurd (cc)
held_more (v ∷ views) zero part e = let f : v ≡ Some part = e in rw f refl
held_more (v ∷ views) (suc k) part e = let n : suc k + 1 ≡ suc (k + 1) = omega arith in rw n (none_more v views k part (held_more views k part e))

-- ---- the turns of `room`

pub length_more : (views : List (Option (List ℕ))) (k : ℕ) (part : List ℕ) → bytes_at views k ≡ Some part → row_length (take (k + 1) views) ≡ padded (row_length (take k views)) + length part
length_more views k part e = ap (λ parts. end (map length parts)) (held_more views k part e) ∙ end_push 0 (held (take k views)) part

pub length_all : (views : List (Option (List ℕ))) (number k : ℕ) → HasEach views number → number ≤ k → row_length (take k views) ≡ row_length views
length_all views number k h past = ap row_length (take_all k views (omega (arith, h.count, past)))

-- ---- the turns of `lay`

abbrev pub so_far : List (Option (List ℕ)) → ℕ → RowParts
so_far views k = row_of (held (take k views))

pub begin : (views : List (Option (List ℕ))) (row : RowParts) → row.bytes ≡ [] → row.starts ≡ [] → row ≡ so_far views 0
unfolding row_of
begin views row b s =
    let made : List ℕ → List ℕ → RowParts = λ b s. record { bytes = b; starts = s } in
    ap (λ x. made x row.starts) b ∙ ap (made []) s

pub has_view : (views : List (Option (List ℕ))) (number k : ℕ) → HasEach views number → k < number → IsSome (bytes_at views k)
has_view views number k h below =
    let within : k < length views = omega (arith, h.count, below) in
    let e : bytes_at views k ≡ get_or views k None = ap (option_and_then (λ bytes. bytes)) (slice_get-get_or views k None within) in
    subst IsSome (sym e) (All-get_or IsSome views k None within h.each)

pub next : (views : List (Option (List ℕ))) (row longer : RowParts) (k : ℕ) (part : List ℕ)
    → bytes_at views k ≡ Some part → longer ≡ with_part row part → row ≡ so_far views k → longer ≡ so_far views (k + 1)
next views row longer k part e more before =
    more ∙ ap (λ r. with_part r part) before ∙ sym (row_push (held (take k views)) part) ∙ ap row_of (sym (held_more views k part e))

pub all : (views : List (Option (List ℕ))) (row : RowParts) (number k : ℕ) → HasEach views number → number ≤ k → row ≡ so_far views k → row ≡ row_of (held views)
all views row number k h past e = e ∙ ap (λ vs. row_of (held vs)) (take_all k views (omega (arith, h.count, past)))
