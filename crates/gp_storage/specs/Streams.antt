-- The streams of EXT_meshopt_compression that buffer views are stored as, each where it is shorter than the view.
use Rattle.std.specs.Prelude.{⊤, ◌≡◌, ℕ, ◌/◌, ◌%◌, ◌^◌, ◌<◌, Bool, nat_lt, if◌then◌else◌, List, map, length, Option, Some, None}
use Rattle.std.specs.List.{All, enumerate_from}
use Rattle.gp_groups.specs.WrittenAttributes.{encoded_attributes}
use Rattle.gp_groups.specs.WrittenTriangles.{encoded_triangles}
use Rattle.gp_groups.specs.WrittenSequence.{encoded_sequence}
use Rattle.gp_rules.specs.declared.storage.View.{View}
use Rattle.gp_rules.specs.declared.storage.StreamMode.{StreamMode}
use Rattle.gp_rules.specs.declared.storage.StreamMode.TheVariants.{Attributes, Triangles, Indices}
use Rattle.gp_asset.specs.Contents.{plain_bytes}
use Rattle.gp_asset.specs.Asset.{AssetParts}
use Rattle.gp_storage.specs.declared.coding.Coding.{Coding}
use Rattle.gp_storage.specs.declared.coding.Stream.{Stream}
use Rattle.gp_storage.specs.Coding.{numbers_in, coding_of}

-- the bytes of a stream
unfoldable pub encoded : StreamMode → ℕ → List ℕ → List ℕ
encoded Attributes stride bytes = encoded_attributes bytes (length bytes / stride) stride
encoded Triangles stride bytes = encoded_triangles (numbers_in stride bytes)
encoded Indices stride bytes = encoded_sequence (numbers_in stride bytes)

-- such numbers may be in a stream of this kind; whatever attributes are, they may
abbrev pub MayHold : StreamMode → List ℕ → Type 0
MayHold Attributes numbers = ⊤
MayHold Triangles numbers = (length numbers % 3 ≡ 0) × All (λ n. n < 2 ^ 24) numbers
MayHold Indices numbers = All (λ n. n < 2 ^ 30) numbers

-- the bytes may be coded so
abbrev pub MayBeCoded : List ℕ → Coding → Type 0
MayBeCoded bytes c = MayHold c.mode (numbers_in c.stride bytes)

abbrev pub is_shorter : Coding → List ℕ → Bool
is_shorter c bytes = nat_lt (length (encoded c.mode c.stride bytes)) (length bytes)

abbrev pub stream_as : Coding → List ℕ → Stream
stream_as c bytes = record { coding = c; bytes = encoded c.mode c.stride bytes }

-- the stream of bytes that may be coded so, where it has fewer bytes
unfoldable pub stream_of : Option Coding → List ℕ → Option Stream
stream_of None bytes = None
stream_of (Some c) bytes = if is_shorter c bytes then Some (stream_as c bytes) else None

-- that of each view of an asset where the flagged accessors move; none where the view stays plain
unfoldable pub stored_views : AssetParts → List Bool → List (Option Stream)
stored_views a moved = map (λ (p : ℕ × View). stream_of (coding_of a moved p.0 p.1) (plain_bytes a.buffers p.1)) (enumerate_from 0 a.views)
