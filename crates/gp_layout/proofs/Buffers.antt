-- The buffer that a row makes.
use Rattle.std.proofs.Common.{◌≡◌, ℕ, suc, ◌==◌, Bool, true, false, true≢false, List, [], ◌∷◌, map, length, Some, None, refl, sym, ap, ◌∙◌, arith}
use Rattle.std.proofs.lemmas.Bool.Decides.{nat_tests}
use Rattle.gp_layout.specs.Layout.{starts, laid}
use Rattle.gp_layout.specs.Row.{RowParts, row_of, laid_buffer, buffer_length}
use Rattle.gp_layout.proofs.Parts.{length_laid}

-- no count of something is 0
pub some_left : (n : ℕ) → (suc n == 0) ≡ false
some_left n = grind (arith, nat_tests)

abbrev pub all_bytes : (parts : List (List ℕ)) (row : RowParts) → row ≡ row_of parts → row.bytes ≡ laid parts
unfolding row_of
all_bytes parts row same = ap (λ (r : RowParts). r.bytes) same

abbrev pub all_starts : (parts : List (List ℕ)) (row : RowParts) → row ≡ row_of parts → row.starts ≡ starts (map length parts)
unfolding row_of
all_starts parts row same = ap (λ (r : RowParts). r.starts) same

-- a row has no starts exactly where there are no parts
no_starts : (parts : List (List ℕ)) (row : RowParts) (places : List ℕ) (b : Bool) → places ≡ row.starts → b ≡ (length places == 0) → row ≡ row_of parts
    → b ≡ (length (starts (map length parts)) == 0)
no_starts parts row places b is tests same = tests ∙ ap (λ ps. length ps == 0) (is ∙ all_starts parts row same)

-- where the test says that there are none
none_there : (parts : List (List ℕ)) (row : RowParts) (places : List ℕ) (b : Bool) → places ≡ row.starts → b ≡ (length places == 0) → b ≡ true
    → row ≡ row_of parts → parts ≡ []
none_there [] row places b is tests empty same = refl
none_there (part ∷ parts) row places b is tests empty same = absurd (true≢false (sym empty ∙ no_starts (part ∷ parts) row places b is tests same ∙ some_left _))

pub no_buffer : (parts : List (List ℕ)) (row : RowParts) (places : List ℕ) (b : Bool) → places ≡ row.starts → b ≡ (length places == 0) → b ≡ true
    → row ≡ row_of parts → None ≡ laid_buffer parts
unfolding laid_buffer
no_buffer parts row places b is tests empty same = sym (ap laid_buffer (none_there parts row places b is tests empty same))

pub no_length : (parts : List (List ℕ)) (row : RowParts) (places : List ℕ) (b : Bool) → places ≡ row.starts → b ≡ (length places == 0) → b ≡ true
    → row ≡ row_of parts → None ≡ buffer_length parts
unfolding buffer_length
no_length parts row places b is tests empty same = sym (ap buffer_length (none_there parts row places b is tests empty same))

-- where it says that there are some
pub some_buffer : (parts : List (List ℕ)) (row : RowParts) (places bytes : List ℕ) (b : Bool) → places ≡ row.starts → bytes ≡ row.bytes → b ≡ (length places == 0)
    → b ≡ false → row ≡ row_of parts → Some bytes ≡ laid_buffer parts
unfolding laid_buffer
some_buffer [] row places bytes b is holds tests full same = absurd (true≢false (sym (no_starts [] row places b is tests same) ∙ full))
some_buffer (part ∷ parts) row places bytes b is holds tests full same = ap Some (holds ∙ all_bytes (part ∷ parts) row same)

pub some_length : (parts : List (List ℕ)) (row : RowParts) (places bytes : List ℕ) (b : Bool) → places ≡ row.starts → bytes ≡ row.bytes → b ≡ (length places == 0)
    → b ≡ false → row ≡ row_of parts → Some (length bytes) ≡ buffer_length parts
unfolding buffer_length
some_length [] row places bytes b is holds tests full same = absurd (true≢false (sym (no_starts [] row places b is tests same) ∙ full))
some_length (part ∷ parts) row places bytes b is holds tests full same = ap Some (ap length (holds ∙ all_bytes (part ∷ parts) row same) ∙ length_laid (part ∷ parts))
