-- Small strips and fans, by computing.
use Rattle.std.proofs.Common.{◌≡◌, ℕ, List, [], ◌∷◌, refl}
use Rattle.gp_strips.specs.Strips.{corners_in_row, listed_corners}

abbrev four : List ℕ
four = 0 ∷ 1 ∷ 2 ∷ 3 ∷ []

strip_of_four : listed_corners 5 four ≡ 0 ∷ 1 ∷ 2 ∷ 1 ∷ 3 ∷ 2 ∷ []
unfolding corners_in_row
strip_of_four = refl

fan_of_four : listed_corners 6 four ≡ 1 ∷ 2 ∷ 0 ∷ 2 ∷ 3 ∷ 0 ∷ []
unfolding corners_in_row
fan_of_four = refl

-- other numbers than their places, and five of them
strip_of_five : listed_corners 5 (7 ∷ 4 ∷ 9 ∷ 2 ∷ 5 ∷ []) ≡ 7 ∷ 4 ∷ 9 ∷ 4 ∷ 2 ∷ 9 ∷ 9 ∷ 2 ∷ 5 ∷ []
unfolding corners_in_row
strip_of_five = refl

-- two vertices make no triangle
strip_of_two : listed_corners 5 (7 ∷ 4 ∷ []) ≡ []
unfolding corners_in_row
strip_of_two = refl
