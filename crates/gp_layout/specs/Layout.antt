-- Parts in a row, each at the next multiple of 4, as a buffer of glTF 2.0 (section 3.6.2.4) and the streams of EXT_meshopt_compression want
-- them.
use Rattle.std.specs.Prelude.{ℕ, ◌+◌, ◌-◌, List, [], ◌∷◌, ◌++◌, length, replicate}
use Rattle.gp_rules.specs.Sizes.{padded}

-- where each part of these lengths begins, behind so many bytes
abbrev pub starts_behind : ℕ → List ℕ → List ℕ
starts_behind at [] = []
starts_behind at (n ∷ lengths) = padded at ∷ starts_behind (padded at + n) lengths

abbrev pub starts : List ℕ → List ℕ
starts lengths = starts_behind 0 lengths

-- where the last part ends
abbrev pub end_behind : ℕ → List ℕ → ℕ
end_behind at [] = at
end_behind at (n ∷ lengths) = end_behind (padded at + n) lengths

abbrev pub end : List ℕ → ℕ
end lengths = end_behind 0 lengths

-- the parts, with zeros in the gaps between them
abbrev pub laid_behind : ℕ → List (List ℕ) → List ℕ
laid_behind at [] = []
laid_behind at (part ∷ parts) = replicate (padded at - at) 0 ++ part ++ laid_behind (padded at + length part) parts

abbrev pub laid : List (List ℕ) → List ℕ
laid parts = laid_behind 0 parts
