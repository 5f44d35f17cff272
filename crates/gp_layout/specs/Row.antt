-- What laying the views of an asset in a row gives.
use Rattle.std.specs.Prelude.{◌≡◌, ℕ, ◌-◌, List, [], ◌∷◌, ◌++◌, map, length, replicate, filter_map, Option, Some, None, IsSome, All}
use Rattle.gp_rules.specs.Sizes.{padded}
use Rattle.gp_layout.specs.Layout.{starts, end, laid}

-- the bytes of parts in a row, and where each of them begins
pub record RowParts : Type 0 where
  pub bytes : List ℕ
  pub starts : List ℕ

unfoldable pub row_of : List (List ℕ) → RowParts
row_of parts = record { bytes = laid parts; starts = starts (map length parts) }

-- the bytes of the one buffer that parts make; none where there are no parts
unfoldable pub laid_buffer : List (List ℕ) → Option (List ℕ)
laid_buffer [] = None
laid_buffer (part ∷ parts) = Some (laid (part ∷ parts))

-- how long that buffer is
unfoldable pub buffer_length : List (List ℕ) → Option ℕ
buffer_length [] = None
buffer_length (part ∷ parts) = Some (end (map length (part ∷ parts)))

-- zeros behind bytes, up to the next multiple of 4
abbrev pub zero_padded : List ℕ → List ℕ
zero_padded bytes = bytes ++ replicate (padded (length bytes) - length bytes) 0

-- one part more
abbrev pub with_part : RowParts → List ℕ → RowParts
with_part row part = record { bytes = zero_padded row.bytes ++ part; starts = row.starts ++ padded (length row.bytes) ∷ [] }

-- there are so many views, and each has its bytes
pub record HasEach (views : List (Option (List ℕ))) (number : ℕ) : Type 0 where
  pub count : length views ≡ number
  pub each : All IsSome views

-- the bytes of those views that have some
abbrev pub held : List (Option (List ℕ)) → List (List ℕ)
held views = filter_map (λ view. view) views

-- how long the row of those views is
abbrev pub row_length : List (Option (List ℕ)) → ℕ
row_length views = end (map length (held views))
