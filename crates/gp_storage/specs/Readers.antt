-- Who reads a buffer view (glTF 2.0, sections 5.1, 5.11 and 5.18).
use Rattle.std.specs.Prelude.{ℕ, Bool, true, false, not, ◌&&◌, ◌==◌, if◌then◌else◌, List, [], ◌∷◌, filter, slice_get, unwrap_or, Option, Some, None}
use Rattle.std.specs.List.{enumerate_from, list_any, list_all}
use Rattle.gp_rules.specs.declared.accessing.Accessor.{Accessor}
use Rattle.gp_asset.specs.declared.usage.AccessorUse.{AccessorUse}
use Rattle.gp_asset.specs.declared.usage.Role.{Role}
use Rattle.gp_asset.specs.declared.usage.Role.TheVariants.{Indices}

-- an accessor or an image names this view
abbrev pub names : ℕ → Option ℕ → Bool
names view None = false
names view (Some at) = at == view

-- an image refers to the view
abbrev pub has_image : List (Option ℕ) → ℕ → Bool
has_image images view = list_any (names view) images

-- the accessor with this number is one of those that move; those past the flags don't
abbrev pub is_flagged : List Bool → ℕ → Bool
is_flagged moved at = unwrap_or (slice_get moved at) false

-- the accessors that don't move and whose own `bufferView` it is, each with its number
abbrev pub readers : List Bool → List Accessor → ℕ → List (ℕ × Accessor)
readers moved accessors view = filter (λ (a : ℕ × Accessor). not (is_flagged moved a.0) && names view a.1.view) (enumerate_from 0 accessors)

-- the size that all have, where there is one
abbrev pub one_size : List ℕ → Option ℕ
one_size [] = None
one_size (size ∷ sizes) = if list_all (λ other. other == size) sizes then Some size else None

-- ---- what an accessor is used for

abbrev pub is_indices : Role → Bool
is_indices Indices = true
is_indices _ = false

abbrev pub is_empty : List AccessorUse → Bool
is_empty [] = true
is_empty (u ∷ uses) = false

abbrev pub uses_of : List AccessorUse → ℕ → List AccessorUse
uses_of uses at = filter (λ (u : AccessorUse). u.accessor == at) uses

-- it is used, and as the indices of primitives alone
abbrev pub is_index_list : List AccessorUse → ℕ → Bool
is_index_list uses at = not (is_empty (uses_of uses at)) && list_all (λ (u : AccessorUse). is_indices u.role) (uses_of uses at)
