-- The bytes of buffers (glTF 2.0, sections 3.6.1 and 5.10), and what is wrong with them.
use Rattle.std.specs.Prelude.{ℕ, Bool, true, false, not, ◌==◌, nat_lt, if◌then◌else◌, List, length, Option, Some, None, Ok, Err, codes}
use Rattle.std.specs.List.{list_any, list_all}
use Rattle.gp_tree.specs.Key.{units}
use Rattle.gp_tree.specs.Values.{ascii_of}
use Rattle.gp_tree.specs.Find.{is_named}
use Rattle.gp_glb.specs.Uri.{code_of, uri_bytes}
use Rattle.gp_fields.specs.Fields.{BufferFields, ViewFields, PackedFields}
use Rattle.gp_rules.specs.declared.fault.AssetFault.TheVariants.{Buffer, Scheme, Base64}
use Rattle.gp_fields.specs.Record.{◌>>=◌}
use Rattle.gp_rules.specs.Checks.{Checked, unless}

-- ---- which buffers need their bytes

-- a compressed view has its stream in the buffer that its extension object names, another has its bytes in its own
abbrev pub buffer_in_use : ℕ → Option PackedFields → ℕ
buffer_in_use own None = own
buffer_in_use own (Some p) = p.buffer

abbrev pub refers_to : ℕ → ViewFields → Bool
refers_to at v = buffer_in_use v.buffer v.packed == at

unfoldable pub is_needed : List ViewFields → ℕ → Bool
is_needed views at = list_any (refers_to at) views

-- ---- the bytes of a buffer

-- of the text of a data URI, by its base64 and what that stands for
abbrev pub decoded : ℕ → Option (List ℕ) → Option (List ℕ) → Checked (List ℕ)
decoded at None bytes = Err (Scheme at)
decoded at (Some code) None = Err (Base64 at)
decoded at (Some code) (Some bytes) = Ok bytes

-- of a `uri`, which is ASCII or no data URI
abbrev pub bytes_of_uri : ℕ → Option (List ℕ) → Checked (List ℕ)
bytes_of_uri at None = Err (Scheme at)
bytes_of_uri at (Some text) = decoded at (code_of text) (uri_bytes text)

abbrev pub bytes_of_chunk : ℕ → Option (List ℕ) → Checked (List ℕ)
bytes_of_chunk at None = Err (Buffer at)
bytes_of_chunk at (Some bytes) = Ok bytes

-- those of its `uri` where it has one, else buffer 0 is the BIN chunk
abbrev pub stored_bytes : Option (List ℕ) → ℕ → Option (List ℕ) → Checked (List ℕ)
stored_bytes bin at None = bytes_of_chunk at (if at == 0 then bin else None)
stored_bytes bin at (Some uri) = bytes_of_uri at (ascii_of (units uri))

-- a BIN chunk may be longer than its buffer
unfoldable pub buffer_bytes : Option (List ℕ) → ℕ → BufferFields → Checked (List ℕ)
buffer_bytes bin at b = do
  bytes ← stored_bytes bin at b.uri
  unless (nat_lt (length bytes) b.length) (Buffer at) (Ok bytes)

-- where they are needed
abbrev pub bytes_if : Bool → Option (List ℕ) → ℕ → BufferFields → Checked (Option (List ℕ))
bytes_if true bin at b = do
  bytes ← buffer_bytes bin at b
  Ok (Some bytes)
bytes_if false bin at b = Ok None

-- the one extension that a buffer may have
abbrev pub is_marker : List ℕ → Bool
is_marker name = is_named (codes "EXT_meshopt_compression") name

-- no other extension, and the bytes where they are needed
unfoldable pub buffer_of : List ViewFields → Option (List ℕ) → ℕ → BufferFields → Checked (Option (List ℕ))
buffer_of views bin at b = unless (not (list_all is_marker b.extensions)) (Buffer at) (bytes_if (is_needed views at) bin at b)
