-- How the program holds the bytes of a buffer. No public contract cites it.
use Rattle.std.specs.Prelude.{ℕ, List, [], unwrap_or, Option, Some, None, Ok, Err}
use Rattle.gp_asset.specs.declared.buffers.BufferBytes.{BufferBytes}
use Rattle.gp_asset.specs.declared.buffers.BufferBytes.TheVariants.{Unneeded, Chunk, Decoded}
use Rattle.gp_rules.specs.Checks.{Checked}

abbrev pub bytes_in : BufferBytes → Option (List ℕ)
bytes_in Unneeded = None
bytes_in (Chunk bytes) = Some bytes.now
bytes_in (Decoded bytes) = Some bytes.items

-- none where they aren't needed
abbrev pub shown : BufferBytes → List ℕ
shown b = unwrap_or (bytes_in b) []

-- bytes that are there, or what is wrong with them
abbrev pub present : Checked (List ℕ) → Checked (Option (List ℕ))
present (Ok bytes) = Ok (Some bytes)
present (Err fault) = Err fault
