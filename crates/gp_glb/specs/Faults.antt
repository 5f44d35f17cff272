-- The faults of a container, each a condition, in their order (glTF 2.0, GLB file format).
use Rattle.std.specs.Prelude.{◌≡◌, ◌≢◌, ◌⊎◌, ℕ, suc, ◌+◌, ◌-◌, ◌%◌, ◌<◌, ◌≤◌, ◌^◌, List, [], ◌∷◌, ◌++◌, length, take, drop, Result, Ok, Err, ⊤}
use Rattle.gp_glb.specs.Bytes.{Chunk, IsWhole, word_at, chunks_bytes}
use Rattle.gp_glb.specs.Container.{Container, IsText, StandsFor, json_kind, bin_kind}
use Rattle.gp_glb.specs.declared.fault.GlbFault.{GlbFault}
use Rattle.gp_glb.specs.declared.fault.GlbFault.TheVariants.{TooShort, Magic, Version, Length, Chunk as BrokenChunk, JsonTooLarge}

-- JSON is chunk 0, and BIN is chunk 1 where it is there
pub record IsInPlace (at kind : ℕ) : Type 0 where
  pub first : at ≡ 0 → kind ≡ json_kind
  pub later : 0 < at → kind ≢ json_kind
  pub third : 2 ≤ at → kind ≢ bin_kind

-- whole chunks in place, the first of which has this number
abbrev pub AreSound : ℕ → List Chunk → Type 0
AreSound at [] = ⊤
AreSound at (chunk ∷ chunks) = IsWhole chunk × IsInPlace at chunk.kind × AreSound (suc at) chunks

-- what can be wrong with chunk `at`, in front of the bytes that are left
abbrev pub IsBroken : ℕ → List ℕ → Type 0
IsBroken at left =
    (length left < 8)
    ⊎ (word_at left 0 % 4 ≢ 0)
    ⊎ (length left < 8 + word_at left 0)
    ⊎ ((at ≡ 0) × (word_at left 4 ≢ json_kind))
    ⊎ ((0 < at) × (word_at left 4 ≡ json_kind))
    ⊎ ((2 ≤ at) × (word_at left 4 ≡ bin_kind))

-- the first chunk that isn't sound, in bytes whose first chunk has the number `start`: sound ones stand before it, and it is broken; only chunk 0 can be missed where no bytes are left
pub record BreaksFrom (start : ℕ) (bytes : List ℕ) (at : ℕ) : Type 0 where
  pub before : List Chunk
  pub left : List ℕ
  pub number : at ≡ start + length before
  pub sound : AreSound start before
  pub is_bytes : bytes ≡ chunks_bytes before ++ left
  pub goes_on : 0 < at → 0 < length left
  pub broken : IsBroken at left

-- the bytes from the header up to the stated total
abbrev pub body : List ℕ → List ℕ
body bytes = take (word_at bytes 8 - 12) (drop 12 bytes)

abbrev pub IsShort : List ℕ → Type 0
IsShort bytes = length bytes < 12

abbrev pub HasOtherMagic : List ℕ → Type 0
HasOtherMagic bytes = word_at bytes 0 ≢ 0x46546C67

abbrev pub HasOtherVersion : List ℕ → Type 0
HasOtherVersion bytes = word_at bytes 4 ≢ 2

abbrev pub HasOtherLength : List ℕ → Type 0
HasOtherLength bytes = (word_at bytes 8 < 12) ⊎ (length bytes < word_at bytes 8)

abbrev pub HasLargeJson : List ℕ → Type 0
HasLargeJson bytes = (parts : Container) × StandsFor bytes parts × (2 ^ 26 < length parts.json)

abbrev pub Not : Type 0 → Type 0
Not P = P → ⊥

-- none of the faults of a header
pub record IsHeaded (bytes : List ℕ) : Type 0 where
  pub long : Not (IsShort bytes)
  pub magic : Not (HasOtherMagic bytes)
  pub version : Not (HasOtherVersion bytes)
  pub total : Not (HasOtherLength bytes)

-- the first fault
abbrev pub IsFirstFault : List ℕ → GlbFault → Type 0
IsFirstFault bytes TooShort = Not (IsText bytes) × IsShort bytes
IsFirstFault bytes Magic = Not (IsText bytes) × Not (IsShort bytes) × HasOtherMagic bytes
IsFirstFault bytes Version = Not (IsText bytes) × Not (IsShort bytes) × Not (HasOtherMagic bytes) × HasOtherVersion bytes
IsFirstFault bytes Length = Not (IsText bytes) × Not (IsShort bytes) × Not (HasOtherMagic bytes) × Not (HasOtherVersion bytes) × HasOtherLength bytes
IsFirstFault bytes (BrokenChunk at) = Not (IsText bytes) × IsHeaded bytes × BreaksFrom 0 (body bytes) at
IsFirstFault bytes JsonTooLarge = HasLargeJson bytes

-- what reading bytes gives: the container that they stand for, or their first fault
abbrev pub Reads : List ℕ → Result Container GlbFault → Type 0
Reads bytes (Ok parts) = StandsFor bytes parts × (length parts.json ≤ 2 ^ 26)
Reads bytes (Err fault) = IsFirstFault bytes fault
