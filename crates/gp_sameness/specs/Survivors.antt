-- Which buffer views stay, and their new numbers.
use Rattle.std.specs.Prelude.{ℕ, Bool, false, not, ◌==◌, if◌then◌else◌, List, [], ◌∷◌, map, filter, Option, Some, None}
use Rattle.std.specs.List.{list_all, range_with_len, count_by, enumerate_from}
use Rattle.gp_asset.specs.Asset.{AssetParts}
use Rattle.gp_asset.specs.Uses.{Referrer, of_accessor, of_sparse_indices, of_sparse_values, of_image, references}
use Rattle.gp_sameness.specs.Moved.{Moved, is_moved}

-- who refers to the view
abbrev pub referrers : AssetParts → ℕ → List Referrer
referrers a view = map (λ (r : ℕ × Referrer). r.1) (filter (λ (r : ℕ × Referrer). r.0 == view) (references a.accessors a.images))

abbrev pub is_of_moved : List Moved → Referrer → Bool
is_of_moved moved (of_accessor at) = is_moved moved at
is_of_moved moved (of_sparse_indices at) = is_moved moved at
is_of_moved moved (of_sparse_values at) = is_moved moved at
is_of_moved moved (of_image at) = false

-- moved accessors refer to it, and nobody else
abbrev pub is_dropped : List Moved → List Referrer → Bool
is_dropped moved [] = false
is_dropped moved (r ∷ referrers) = list_all (is_of_moved moved) (r ∷ referrers)

unfoldable pub survives : List Moved → AssetParts → ℕ → Bool
survives moved a view = not (is_dropped moved (referrers a view))

-- the new number of a view: how many before it stay
unfoldable pub renumbered : List Moved → AssetParts → ℕ → Option ℕ
renumbered moved a view = if survives moved a view then Some (count_by (survives moved a) (range_with_len 0 view)) else None

-- the items of a list whose numbers pass
abbrev pub where_numbered : {A : Type 0} → (ℕ → Bool) → List A → List A
where_numbered {A} test items = map (λ (p : ℕ × A). p.1) (filter (λ (p : ℕ × A). test p.0) (enumerate_from 0 items))
