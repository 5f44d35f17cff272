-- The bytes of the buffer views that are made for a moved group: one for each column and each list.
use Rattle.std.specs.Prelude.{ℕ, Bool, nat_le, if◌then◌else◌, List, flat_map, length, take, slice_get, sum_by, unwrap_or, option_map}
use Rattle.gp_groups.specs.Sequence.{le_bytes}
use Rattle.gp_rules.specs.declared.accessing.Accessor.{Accessor}
use Rattle.gp_rules.specs.Accessors.{size_of}
use Rattle.gp_asset.specs.Contents.{part}
use Rattle.gp_asset.specs.Asset.{AssetParts}
use Rattle.gp_alias.specs.Records.{accessors_at}
use Rattle.gp_layout.specs.Row.{zero_padded}
use Rattle.gp_mover.specs.MovedParts.{MovedParts}

-- the elements of column k of the records, each with zeros up to a multiple of 4 bytes
abbrev pub column_contents : AssetParts → MovedParts → ℕ → Accessor → List ℕ
column_contents a m k accessor =
    flat_map (λ r. zero_padded (part r (sum_by size_of (take k (accessors_at a m.columns))) (size_of accessor))) m.records

-- unsigned shorts serve where no vertex has their greatest number
abbrev pub is_narrow : MovedParts → Bool
is_narrow m = nat_le (length m.records) 65535

abbrev pub list_width : MovedParts → ℕ
list_width m = if is_narrow m then 2 else 4

-- the numbers of a list, the lowest byte first
abbrev pub list_contents : MovedParts → List ℕ → List ℕ
list_contents m list = flat_map (le_bytes (list_width m)) list

-- the bytes of an element of the accessor with this number; for contracts within the crate
abbrev pub size_at : List Accessor → ℕ → ℕ
size_at accessors at = unwrap_or (option_map size_of (slice_get accessors at)) 0
