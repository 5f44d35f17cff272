-- What is known of accessors and of the readers of a buffer view, as one after another is gone through.
use Rattle.std.specs.Prelude.{ℕ, Bool, true, false, ◌&&◌, ◌==◌, nat_lt, if◌then◌else◌, List, [], ◌∷◌, map, Option, Some, None, option_and_then}
use Rattle.std.specs.Option.{option_or}
use Rattle.std.specs.List.{list_all}
use Rattle.gp_rules.specs.declared.accessing.Accessor.{Accessor}
use Rattle.gp_rules.specs.declared.storage.View.{View}
use Rattle.gp_asset.specs.declared.usage.AccessorUse.{AccessorUse}
use Rattle.gp_asset.specs.declared.usage.Role.{Role}
use Rattle.gp_rules.specs.Sizes.{component_size}
use Rattle.gp_rules.specs.Accessors.{size_of}
use Rattle.gp_storage.specs.declared.coding.Coding.{Coding}
use Rattle.gp_storage.specs.declared.usage.Usage.{Usage}
use Rattle.gp_storage.specs.declared.usage.Usage.TheVariants.{Unused, IndexList, Other}
use Rattle.gp_storage.specs.declared.shared.Common.{Common}
use Rattle.gp_storage.specs.declared.shared.Common.TheVariants.{Nothing, Same, Different}
use Rattle.gp_storage.specs.declared.shared.Shared.{Shared}
use Rattle.gp_storage.specs.Readers.{is_flagged, is_indices, uses_of}
use Rattle.gp_storage.specs.Coding.{is_sequence, are_index_lists, is_attributes, coding_by}

-- a number that is below the count
abbrev pub placed : ℕ → Option ℕ → Option ℕ
placed count None = None
placed count (Some at) = if nat_lt at count then Some at else None

-- ---- what an accessor is used for

-- of a used one, by whether all uses are as indices
abbrev pub first_use : Bool → Usage
first_use true = IndexList
first_use false = Other

abbrev pub usage_by : List AccessorUse → Usage
usage_by [] = Unused
usage_by (u ∷ uses) = first_use (list_all (λ (v : AccessorUse). is_indices v.role) (u ∷ uses))

unfoldable pub usage_in : List AccessorUse → ℕ → Usage
usage_in uses at = usage_by (uses_of uses at)

-- with one use more
abbrev pub with_use : Usage → Role → Usage
with_use Unused role = first_use (is_indices role)
with_use IndexList role = first_use (is_indices role)
with_use Other role = Other

abbrev pub is_list : Usage → Bool
is_list IndexList = true
is_list _ = false

-- ---- what sizes have in common

abbrev pub common : List ℕ → Common
common [] = Nothing
common (size ∷ sizes) = if list_all (λ other. other == size) sizes then Same size else Different

-- with one size more
abbrev pub with_size : Common → ℕ → Common
with_size Nothing size = Same size
with_size (Same one) size = if size == one then Same one else Different
with_size Different size = Different

abbrev pub one_of : Common → Option ℕ
one_of (Same one) = Some one
one_of _ = None

-- ---- what readers have in common

unfoldable pub shared_by : List AccessorUse → List (ℕ × Accessor) → Shared
shared_by uses readers = record {
  components = common (map (λ (r : ℕ × Accessor). component_size r.1.component) readers);
  elements = common (map (λ (r : ℕ × Accessor). size_of r.1) readers);
  index_lists = are_index_lists uses readers;
}

-- with one reader more
abbrev pub with_reader : Shared → Accessor → Bool → Shared
with_reader s a is_list = record {
  components = with_size s.components (component_size a.component);
  elements = with_size s.elements (size_of a);
  index_lists = s.index_lists && is_list;
}

-- the view of accessor `at`, where it has one and doesn't move
abbrev pub view_read : List Bool → ℕ → Option ℕ → ℕ → Option ℕ
view_read moved at view views = if is_flagged moved at then None else placed views view

-- ---- the rule, by what readers have in common

abbrev pub sequence_by : Shared → View → List ℕ → Option ℕ
sequence_by s v bytes = option_and_then (λ width. if is_sequence s.index_lists v bytes width then Some width else None) (one_of s.components)

abbrev pub attributes_by : Shared → View → Option ℕ
attributes_by s v = option_and_then (λ stride. if is_attributes v stride then Some stride else None) (option_or v.stride (one_of s.elements))

unfoldable pub coding_with : Bool → Shared → View → List ℕ → Option Coding
coding_with image s v bytes = coding_by image (sequence_by s v bytes) (attributes_by s v)
