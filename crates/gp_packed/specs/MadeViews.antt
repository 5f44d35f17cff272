-- The buffer views that packing makes: one for each column and each list of a group that moves.
use Rattle.std.specs.Prelude.{ℕ, Bool, nat_le, ◌==◌, if◌then◌else◌, List, ◌++◌, map, filter_map, flat_map, length, take, slice_get, sum_by, zip, option_map, option_to_list}
use Rattle.std.specs.List.{enumerate_from, position_or_len}
use Rattle.gp_groups.specs.Sequence.{le_bytes}
use Rattle.gp_rules.specs.Sizes.{padded}
use Rattle.gp_layout.specs.Row.{zero_padded}
use Rattle.gp_rules.specs.declared.accessing.Accessor.{Accessor}
use Rattle.gp_rules.specs.declared.storage.StreamMode.TheVariants.{Attributes, Triangles}
use Rattle.gp_rules.specs.Accessors.{size_of}
use Rattle.gp_asset.specs.Contents.{part}
use Rattle.gp_asset.specs.Asset.{AssetParts}
use Rattle.gp_storage.specs.declared.coding.Coding.{Coding}
use Rattle.gp_sameness.specs.Moved.{Moved}

-- the accessor that reads it, its contents, and how it may be coded
pub record Made : Type 0 where
  pub accessor : ℕ
  pub contents : List ℕ
  pub coding : Coding

-- ---- columns

abbrev pub accessors_at : AssetParts → List ℕ → List Accessor
accessors_at a numbers = filter_map (slice_get a.accessors) numbers

-- the elements of column k of the records
abbrev pub column_contents : AssetParts → Moved → ℕ → Accessor → List ℕ
column_contents a m k accessor =
    flat_map (λ r. zero_padded (part r (sum_by size_of (take k (accessors_at a m.columns))) (size_of accessor))) m.records

abbrev pub made_column : AssetParts → Moved → ℕ → ℕ → Accessor → Made
made_column a m k at accessor = record {
  accessor = at;
  contents = column_contents a m k accessor;
  coding = record { mode = Attributes; stride = padded (size_of accessor) };
}

abbrev pub made_columns : AssetParts → Moved → List Made
made_columns a m = filter_map (λ (p : ℕ × ℕ). option_map (made_column a m p.0 p.1) (slice_get a.accessors p.1)) (enumerate_from 0 m.columns)

-- ---- lists

-- in unsigned shorts where no vertex has their greatest number, else in unsigned ints
abbrev pub is_narrow : Moved → Bool
is_narrow m = nat_le (length m.records) 65535

abbrev pub list_width : Moved → ℕ
list_width m = if is_narrow m then 2 else 4

abbrev pub list_component : Moved → ℕ
list_component m = if is_narrow m then 5123 else 5125

abbrev pub made_list : Moved → ℕ × List ℕ → Made
made_list m p = record {
  accessor = p.0;
  contents = flat_map (le_bytes (list_width m)) p.1;
  coding = record { mode = Triangles; stride = list_width m };
}

abbrev pub made_lists : Moved → List Made
made_lists m = map (made_list m) (zip (m.lists ++ option_to_list m.list_accessor) m.ordered)

-- ---- all, group by group

abbrev pub made_views : AssetParts → List Moved → List Made
made_views a moved = flat_map (λ m. made_columns a m ++ made_lists m) moved

-- the place among them of the view that an accessor reads
abbrev pub made_place : List Made → ℕ → ℕ
made_place made at = position_or_len (λ (v : Made). v.accessor == at) made
