-- Which stream of EXT_meshopt_compression a buffer view may be stored as.
use Rattle.std.specs.Prelude.{ℕ, ◌*◌, ◌/◌, ◌%◌, ◌^◌, Bool, true, false, ◌&&◌, ◌||◌, ◌==◌, nat_lt, if◌then◌else◌, List, map, length, is_none, Option, Some, None, option_and_then}
use Rattle.std.specs.Option.{option_or}
use Rattle.std.specs.List.{range_with_len, list_all}
use Rattle.gp_rules.specs.declared.accessing.Accessor.{Accessor}
use Rattle.gp_rules.specs.declared.storage.View.{View}
use Rattle.gp_rules.specs.declared.storage.StreamMode.TheVariants.{Attributes, Indices}
use Rattle.gp_asset.specs.declared.usage.AccessorUse.{AccessorUse}
use Rattle.gp_rules.specs.Sizes.{component_size}
use Rattle.gp_rules.specs.Accessors.{size_of}
use Rattle.gp_asset.specs.Contents.{part, plain_bytes}
use Rattle.gp_asset.specs.Asset.{AssetParts}
use Rattle.gp_rules.specs.Views.{is_stride}
use Rattle.gp_elements.specs.Elements.{number_of}
use Rattle.gp_storage.specs.declared.coding.Coding.{Coding}
use Rattle.gp_storage.specs.Readers.{has_image, readers, one_size, is_index_list}

-- the numbers of `width` bytes in a row, the lowest byte first
abbrev pub numbers_in : ℕ → List ℕ → List ℕ
numbers_in width bytes = map (λ i. number_of (part bytes (i * width) width)) (range_with_len 0 (length bytes / width))

-- ---- an index sequence

-- the numbers of `width` bytes may be an index sequence, where it is given whether all readers are index lists
abbrev pub is_sequence : Bool → View → List ℕ → ℕ → Bool
is_sequence index_lists v bytes width =
    index_lists
    && (width == 2 || width == 4)
    && is_none v.stride
    && v.length % width == 0
    && list_all (λ n. nat_lt n (2 ^ 30)) (numbers_in width bytes)

abbrev pub are_index_lists : List AccessorUse → List (ℕ × Accessor) → Bool
are_index_lists uses readers = list_all (λ (r : ℕ × Accessor). is_index_list uses r.0) readers

-- the size of all components is the width
abbrev pub sequence_width : List AccessorUse → List (ℕ × Accessor) → View → List ℕ → Option ℕ
sequence_width uses readers v bytes =
    option_and_then (λ width. if is_sequence (are_index_lists uses readers) v bytes width then Some width else None)
    (one_size (map (λ (r : ℕ × Accessor). component_size r.1.component) readers))

-- ---- attributes

-- whole elements of a stride that the extension has
abbrev pub is_attributes : View → ℕ → Bool
is_attributes v stride = is_stride 256 stride && v.length % stride == 0

-- the view's own stride, or else the size of all elements
abbrev pub attribute_stride : List (ℕ × Accessor) → View → Option ℕ
attribute_stride readers v =
    option_and_then (λ stride. if is_attributes v stride then Some stride else None)
    (option_or v.stride (one_size (map (λ (r : ℕ × Accessor). size_of r.1) readers)))

-- ---- the rule

-- plain where an image refers to the view; else an index sequence, else attributes, else plain
abbrev pub coding_by : Bool → Option ℕ → Option ℕ → Option Coding
coding_by true sequence attributes = None
coding_by false (Some width) attributes = Some (record { mode = Indices; stride = width })
coding_by false None (Some stride) = Some (record { mode = Attributes; stride = stride })
coding_by false None None = None

abbrev pub coding_for : AssetParts → ℕ → View → List (ℕ × Accessor) → Option Coding
coding_for a at v readers = coding_by (has_image a.images at) (sequence_width a.uses readers v (plain_bytes a.buffers v)) (attribute_stride readers v)

-- of view `at`, where the flagged accessors move
unfoldable pub coding_of : AssetParts → List Bool → ℕ → View → Option Coding
coding_of a moved at v = coding_for a at v (readers moved a.accessors at)
