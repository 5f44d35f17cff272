-- What bytes stand for: a JSON text, maybe a BIN chunk, and the rest (glTF 2.0, GLB file format).
use Rattle.std.specs.Prelude.{◌≡◌, ◌≢◌, ◌⊎◌, ℕ, ◌+◌, ◌<◌, ◌^◌, ◌==◌, ◌||◌, Bool, List, [], ◌∷◌, ◌++◌, length, get_or, Option, None, Some}
use Rattle.std.specs.Option.{option_map}
use Rattle.std.specs.List.{prefix_len}
use Rattle.gp_glb.specs.Bytes.{Each, Chunk, IsWhole, chunks_bytes, headed, padded, missing}

-- the parts of a container; the rest are whole chunks
pub record Container : Type 0 where
  pub json : List ℕ
  pub bin : Option (List ℕ)
  pub rest : List ℕ

-- space, tab, line feed and carriage return (RFC 8259, section 2)
abbrev pub is_blank : ℕ → Bool
is_blank byte = byte == 32 || byte == 9 || byte == 10 || byte == 13

-- past white space, the bytes go on with `{`
unfoldable pub IsText : List ℕ → Type 0
IsText bytes = get_or bytes (prefix_len is_blank bytes) 0 ≡ 123

-- the types `JSON` and `BIN`
abbrev pub json_kind : ℕ
json_kind = 0x4E4F534A

abbrev pub bin_kind : ℕ
bin_kind = 0x004E4942

abbrev pub IsOther : Chunk → Type 0
IsOther chunk = (chunk.kind ≢ json_kind) × (chunk.kind ≢ bin_kind)

-- the JSON chunk, the BIN chunk where there is one, and others
abbrev pub bin_chunks : Option (List ℕ) → List Chunk
bin_chunks None = []
bin_chunks (Some bin) = record { kind = bin_kind; content = bin } ∷ []

abbrev pub all_chunks : List ℕ → Option (List ℕ) → List Chunk → List Chunk
all_chunks json bin others = record { kind = json_kind; content = json } ∷ bin_chunks bin ++ others

-- whole chunks that are neither JSON nor BIN
pub record IsRest (rest : List ℕ) (others : List Chunk) : Type 0 where
  pub whole : Each IsWhole others
  pub kinds : Each IsOther others
  pub bytes : rest ≡ chunks_bytes others

-- these bytes are whole chunks: JSON, maybe BIN, and others
pub record AreChunks (body : List ℕ) (parts : Container) : Type 0 where
  pub others : List Chunk
  pub is_rest : IsRest parts.rest others
  pub whole : Each IsWhole (all_chunks parts.json parts.bin others)
  pub is_body : body ≡ chunks_bytes (all_chunks parts.json parts.bin others)

-- a header that states the total, then the body, then bytes that don't count
pub record HasBody (bytes body : List ℕ) : Type 0 where
  pub past : List ℕ
  pub total : 12 + length body < 2 ^ 32
  pub is_bytes : bytes ≡ headed body ++ past

pub record IsGlb (bytes : List ℕ) (parts : Container) : Type 0 where
  pub body : List ℕ
  pub head : HasBody bytes body
  pub chunks : AreChunks body parts

-- a text is all JSON
pub record IsAllJson (bytes : List ℕ) (parts : Container) : Type 0 where
  pub text : IsText bytes
  pub json : parts.json ≡ bytes
  pub bin : parts.bin ≡ None
  pub rest : parts.rest ≡ []

abbrev pub StandsFor : List ℕ → Container → Type 0
StandsFor bytes parts = IsAllJson bytes parts ⊎ IsGlb bytes parts

-- whole chunks, one after the other
pub record AreWholeChunks (bytes : List ℕ) : Type 0 where
  pub chunks : List Chunk
  pub whole : Each IsWhole chunks
  pub is_bytes : bytes ≡ chunks_bytes chunks

-- the joined container: JSON padded with spaces, BIN with zeros
unfoldable pub glb : List ℕ → Option (List ℕ) → List ℕ → List ℕ
glb json bin rest = headed (chunks_bytes (all_chunks (padded 32 json) (option_map (padded 0) bin) []) ++ rest)

-- its length, by the lengths of its parts
abbrev pub padded_len : ℕ → ℕ
padded_len n = n + missing n

abbrev pub bin_len : Option ℕ → ℕ
bin_len None = 0
bin_len (Some n) = 8 + padded_len n

abbrev pub glb_len : ℕ → Option ℕ → ℕ → ℕ
glb_len json bin rest = 20 + padded_len json + bin_len bin + rest
