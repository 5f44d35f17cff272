-- The bytes of buffer views (glTF 2.0, section 5.11, and EXT_meshopt_compression).
use Rattle.std.specs.Prelude.{ℕ, List, [], map, take, drop, slice_get, unwrap_or, Option, Some, None, option_map, option_and_then}
use Rattle.gp_rules.specs.declared.storage.View.{View}
use Rattle.gp_rules.specs.declared.storage.Packed.{Packed}
use Rattle.gp_asset.specs.Asset.{AssetParts}

-- so many bytes from an offset on
abbrev pub part : List ℕ → ℕ → ℕ → List ℕ
part bytes offset length = take length (drop offset bytes)

-- the bytes of a buffer that needs them
abbrev pub buffer_at : List (Option (List ℕ)) → ℕ → List ℕ
buffer_at buffers at = unwrap_or (option_and_then (λ b. b) (slice_get buffers at)) []

-- a view without a compressed form is a slice of its buffer
abbrev pub plain_bytes : List (Option (List ℕ)) → View → List ℕ
plain_bytes buffers v = part (buffer_at buffers v.buffer) v.offset v.length

-- the stream of a compressed form is the slice that it names
abbrev pub stream_bytes : List (Option (List ℕ)) → Packed → List ℕ
stream_bytes buffers p = part (buffer_at buffers p.buffer) p.offset p.length

-- ---- of an asset

abbrev pub packed_at : AssetParts → ℕ → Option Packed
packed_at a at = option_and_then (λ (v : View). v.packed) (slice_get a.views at)

abbrev pub stream_at : AssetParts → ℕ → Option (List ℕ)
stream_at a at = option_map (stream_bytes a.buffers) (packed_at a at)

abbrev pub plain_if : List (Option (List ℕ)) → View → Option Packed → Option (List ℕ)
plain_if buffers v None = Some (plain_bytes buffers v)
plain_if buffers v (Some p) = None

-- what an asset itself has of each view: its bytes where it has no compressed form
abbrev pub plain_views : AssetParts → List (Option (List ℕ))
plain_views a = map (λ (v : View). plain_if a.buffers v v.packed) a.views

-- the bytes of view `at`, where it is there and has some
abbrev pub bytes_at : List (Option (List ℕ)) → ℕ → Option (List ℕ)
bytes_at views at = option_and_then (λ bytes. bytes) (slice_get views at)
