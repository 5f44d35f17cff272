-- A row of 3, 4, 0 and 5 bytes.
use Rattle.std.proofs.Common.{◌≡◌, [], ◌∷◌, refl}
use Rattle.gp_layout.specs.Layout.{starts, end, laid}

four_starts : starts (3 ∷ 4 ∷ 0 ∷ 5 ∷ []) ≡ 0 ∷ 4 ∷ 8 ∷ 8 ∷ []
four_starts = refl

four_end : end (3 ∷ 4 ∷ 0 ∷ 5 ∷ []) ≡ 13
four_end = refl

four_laid : laid ((1 ∷ 2 ∷ 3 ∷ []) ∷ (4 ∷ 5 ∷ 6 ∷ 7 ∷ []) ∷ [] ∷ (8 ∷ 9 ∷ 10 ∷ 11 ∷ 12 ∷ []) ∷ [])
    ≡ 1 ∷ 2 ∷ 3 ∷ 0 ∷ 4 ∷ 5 ∷ 6 ∷ 7 ∷ 8 ∷ 9 ∷ 10 ∷ 11 ∷ 12 ∷ []
four_laid = refl
