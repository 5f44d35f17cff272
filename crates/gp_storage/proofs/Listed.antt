-- The list of the numbers in bytes, number by number.
use Rattle.std.proofs.Common.{◌≡◌, ℕ, ◌+◌, ◌-◌, ◌*◌, ◌/◌, List, [], ◌∷◌, ◌++◌, length, take, drop, sym, ap, ◌∙◌, arith}
use Rattle.std.proofs.lemmas.List.FromFn.{map-range_with_len_more}
use Rattle.gp_elements.specs.Elements.{number_of}
use Rattle.gp_storage.specs.Coding.{numbers_in}
use Rattle.gp_storage.proofs.Numbers.{number_at, first_numbers, slice_is}

-- those before this place
unfoldable pub AreFirst : List ℕ → ℕ → ℕ → List ℕ → Type 0
AreFirst bytes width at list = list ≡ first_numbers bytes width at

pub none_yet : (bytes : List ℕ) (width : ℕ) (list : List ℕ) → list ≡ [] → AreFirst bytes width 0 list
unfolding AreFirst
none_yet bytes width list e = e

pub one_more : (bytes : List ℕ) (width at number : ℕ) (list now : List ℕ) → number ≡ number_of (take (at * width + width - at * width) (drop (at * width) bytes))
    → now ≡ list ++ number ∷ [] → AreFirst bytes width at list → AreFirst bytes width (at + 1) now
unfolding AreFirst
one_more bytes width at number list now is pushed before =
    let here : number ≡ number_at bytes width at = is ∙ ap number_of (slice_is bytes width at) in
    let more = map-range_with_len_more (number_at bytes width) 0 at at (omega arith) in
    pushed ∙ ap (λ xs. xs ++ number ∷ []) before ∙ ap (λ n. first_numbers bytes width at ++ n ∷ []) here ∙ sym more

pub all : (bytes : List ℕ) (width at : ℕ) (list : List ℕ) → at ≡ length bytes / width → AreFirst bytes width at list → list ≡ numbers_in width bytes
unfolding AreFirst
all bytes width at list end before = before ∙ ap (first_numbers bytes width) end
