-- The views that packing makes, as they are stored: their streams where those are shorter, else their contents.
use Rattle.std.specs.Prelude.{ℕ, Bool, nat_le, if◌then◌else◌, is_some, List, map, filter_map, length, slice_get, Option, Some, option_map}
use Rattle.std.specs.List.{enumerate_from}
use Rattle.gp_rules.specs.declared.accessing.Accessor.{Accessor}
use Rattle.gp_rules.specs.declared.storage.StreamMode.TheVariants.{Attributes, Triangles}
use Rattle.gp_rules.specs.Sizes.{padded}
use Rattle.gp_rules.specs.Accessors.{size_of}
use Rattle.gp_asset.specs.Asset.{AssetParts}
use Rattle.gp_mover.specs.MovedParts.{MovedParts}
use Rattle.gp_mover.specs.MadeBytes.{column_contents, list_width, list_contents}
use Rattle.gp_storage.specs.declared.coding.Coding.{Coding}
use Rattle.gp_storage.specs.declared.coding.Stream.{Stream}
use Rattle.gp_storage.specs.Streams.{stream_of}
use Rattle.gp_moves.specs.declared.group_edit.GroupEdit.{GroupEdit}
use Rattle.gp_pack.specs.declared.made.MadePart.{MadePart}
use Rattle.gp_packed.specs.MadeViews.{Made}
use Rattle.gp_packed.specs.Plan.{stream_bytes}

-- ---- a view

abbrev pub part_by : Coding → List ℕ → Option Stream → MadePart
part_by coding contents stream = record {
  length = length contents;
  coding = coding;
  is_stream = is_some stream;
  bytes = stream_bytes contents stream;
}

abbrev pub made_part : Coding → List ℕ → MadePart
made_part coding contents = part_by coding contents (stream_of (Some coding) contents)

abbrev pub made_part_of : Made → MadePart
made_part_of v = made_part v.coding v.contents

-- ---- those of a group

abbrev pub column_coding : Accessor → Coding
column_coding accessor = record { mode = Attributes; stride = padded (size_of accessor) }

abbrev pub column_part_of : AssetParts → MovedParts → ℕ → Accessor → MadePart
column_part_of a m k accessor = made_part (column_coding accessor) (column_contents a m k accessor)

unfoldable pub column_parts : AssetParts → MovedParts → List MadePart
column_parts a m = filter_map (λ (p : ℕ × ℕ). option_map (column_part_of a m p.0) (slice_get a.accessors p.1)) (enumerate_from 0 m.columns)

abbrev pub list_coding : ℕ → Coding
list_coding width = record { mode = Triangles; stride = width }

abbrev pub list_part_of : MovedParts → List ℕ → MadePart
list_part_of m list = made_part (list_coding (list_width m)) (list_contents m list)

unfoldable pub list_parts : MovedParts → List MadePart
list_parts m = map (list_part_of m) m.ordered

-- ---- the group itself

abbrev pub edit_of : MovedParts → Option ℕ → GroupEdit
edit_of m list_accessor = record {
  primitives = m.primitives;
  columns = m.columns;
  lists = m.lists;
  list_accessor = list_accessor;
  count = m.count;
  records = length m.records;
}
