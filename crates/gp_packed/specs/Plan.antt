-- The buffer views of a packed asset, and where each stands.
use Rattle.std.specs.Prelude.{ℕ, Bool, List, ◌++◌, map, filter, length, zip, is_some, Option, Some, None}
use Rattle.gp_rules.specs.declared.storage.View.{View}
use Rattle.gp_asset.specs.Contents.{plain_bytes}
use Rattle.gp_asset.specs.Asset.{AssetParts}
use Rattle.gp_layout.specs.Layout.{starts, end}
use Rattle.gp_layout.specs.Row.{laid_buffer}
use Rattle.gp_storage.specs.declared.coding.Stream.{Stream}
use Rattle.gp_storage.specs.Streams.{stream_of, stored_views}
use Rattle.gp_sameness.specs.Moved.{Moved, moved_flags}
use Rattle.gp_sameness.specs.Survivors.{survives, where_numbered}
use Rattle.gp_packed.specs.MadeViews.{Made, made_views}

-- a view of the output: its contents, and its stream where it is stored as one
pub record Stored : Type 0 where
  pub contents : List ℕ
  pub stream : Option Stream

abbrev pub stored_as : List ℕ × Option Stream → Stored
stored_as p = record { contents = p.0; stream = p.1 }

-- every view of an asset, with its stream where it has one
abbrev pub stored_with : AssetParts → List (Option Stream) → List Stored
stored_with a streams = map stored_as (zip (map (λ (v : View). plain_bytes a.buffers v) a.views) streams)

unfoldable pub all_stored : List Moved → AssetParts → List Stored
all_stored moved a = stored_with a (stored_views a (moved_flags moved (length a.accessors)))

abbrev pub stored_made : Made → Stored
stored_made v = record { contents = v.contents; stream = stream_of (Some v.coding) v.contents }

-- those that stay, then those that are made
unfoldable pub output_views : List Moved → AssetParts → List Stored
output_views moved a = where_numbered (survives moved a) (all_stored moved a) ++ map stored_made (made_views a moved)

-- ---- their places

abbrev pub stream_bytes : List ℕ → Option Stream → List ℕ
stream_bytes contents None = contents
stream_bytes contents (Some stream) = stream.bytes

-- what stands for a view in the first buffer: its stream, or its contents
abbrev pub part_of : Stored → List ℕ
part_of s = stream_bytes s.contents s.stream

abbrev pub parts : List Stored → List (List ℕ)
parts views = map part_of views

-- where each begins there
abbrev pub part_starts : List Stored → List ℕ
part_starts views = starts (map length (parts views))

abbrev pub is_stream : Stored → Bool
is_stream s = is_some s.stream

-- the streams' views are in a row in the second buffer, which has no bytes; the others take no place there
abbrev pub length_unless : List ℕ → Option Stream → ℕ
length_unless contents None = 0
length_unless contents (Some stream) = length contents

abbrev pub fallback_lengths : List Stored → List ℕ
fallback_lengths views = map (λ (s : Stored). length_unless s.contents s.stream) views

abbrev pub streamed_lengths : List Stored → List ℕ
streamed_lengths views = map (λ (s : Stored). length s.contents) (filter is_stream views)

abbrev pub fallback_end : List Stored → ℕ
fallback_end views = end (streamed_lengths views)

-- where each view stands in the first buffer and in the second one
pub record Place : Type 0 where
  pub start : ℕ
  pub fallback : ℕ

abbrev pub place_at : ℕ × ℕ → Place
place_at p = record { start = p.0; fallback = p.1 }

unfoldable pub places : List Stored → List Place
places views = map place_at (zip (part_starts views) (starts (fallback_lengths views)))

-- how many are stored as streams
unfoldable pub count_streams : List Stored → ℕ
count_streams views = length (filter is_stream views)

-- ---- the first buffer

abbrev pub packed_bin : List Stored → Option (List ℕ)
packed_bin views = laid_buffer (parts views)
