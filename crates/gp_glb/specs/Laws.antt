-- Laws of containers and data URIs.
use Rattle.std.specs.Prelude.{◌≡◌, ◌↔◌, ℕ, ◌<◌, ◌≤◌, ◌^◌, List, length, Option, Some, Ok, Result, IfSome, codes}
use Rattle.std.specs.Option.{option_map}
use Rattle.base64.specs.GeneralPurpose.{IsBytes, engine_symbols}
use Rattle.base64.specs.Engines.{standard}
use Rattle.gp_glb.specs.Bytes.{Chunk, padded}
use Rattle.gp_glb.specs.Container.{Container, StandsFor, AreWholeChunks, IsRest, glb, glb_len}
use Rattle.gp_glb.specs.Faults.{Reads}
use Rattle.gp_glb.specs.Uri.{HasCode, Holds, code_of, uri_bytes}
use Rattle.gp_glb.specs.declared.fault.GlbFault.{GlbFault}

-- bytes have one reading
abbrev pub HaveOneReading : Type 0
HaveOneReading = (bytes : List ℕ) (one other : Result Container GlbFault) → Reads bytes one → Reads bytes other → one ≡ other

-- bytes stand for one container, however long its JSON is
abbrev pub StandForOne : Type 0
StandForOne = (bytes : List ℕ) (one other : Container) → StandsFor bytes one → StandsFor bytes other → one ≡ other

-- the length of a joined container
abbrev pub HasLength : Type 0
HasLength = (json : List ℕ) (bin : Option (List ℕ)) (rest : List ℕ) → length (glb json bin rest) ≡ glb_len (length json) (option_map length bin) (length rest)

-- the length of what is joined fits four bytes
abbrev pub Fits : List ℕ → Option (List ℕ) → List ℕ → Type 0
Fits json bin rest = glb_len (length json) (option_map length bin) (length rest) < 2 ^ 32

-- what is joined, with its padding
abbrev pub padded_parts : List ℕ → Option (List ℕ) → List ℕ → Container
padded_parts json bin rest = record { json = padded 32 json; bin = option_map (padded 0) bin; rest = rest }

-- a joined container that fits stands for its parts with their padding, where no chunk of the rest is JSON or BIN
abbrev pub StandsForItsParts : Type 0
StandsForItsParts = (json : List ℕ) (bin : Option (List ℕ)) (rest : List ℕ) (others : List Chunk) → Fits json bin rest → IsRest rest others
    → StandsFor (glb json bin rest) (padded_parts json bin rest)

-- it reads back as these parts, where its JSON isn't too large
abbrev pub ReadsBack : Type 0
ReadsBack = (json : List ℕ) (bin : Option (List ℕ)) (rest : List ℕ) (others : List Chunk) → Fits json bin rest → length (padded 32 json) ≤ 2 ^ 26 → IsRest rest others
    → Reads (glb json bin rest) (Ok (padded_parts json bin rest))

-- the rest of what bytes stand for is whole chunks, as joining asks
abbrev pub RestsAreWhole : Type 0
RestsAreWhole = (bytes : List ℕ) (parts : Container) → StandsFor bytes parts → AreWholeChunks parts.rest

-- none of them is JSON or BIN, as reading back asks
abbrev pub RestsHaveChunks : Type 0
RestsHaveChunks = (bytes : List ℕ) (parts : Container) → StandsFor bytes parts → (others : List Chunk) × IsRest parts.rest others

-- with the rest of what bytes stand for, other JSON and another BIN chunk can be joined
abbrev pub RestsAreKept : Type 0
RestsAreKept = (bytes : List ℕ) (parts : Container) (json : List ℕ) (bin : Option (List ℕ)) → StandsFor bytes parts → Fits json bin parts.rest
    → StandsFor (glb json bin parts.rest) (padded_parts json bin parts.rest)

-- no part is longer than the bytes
pub record AreWithin (bytes : List ℕ) (parts : Container) : Type 0 where
  pub json : length parts.json ≤ length bytes
  pub bin : IfSome parts.bin (λ bin. length bin ≤ length bytes)
  pub rest : length parts.rest ≤ length bytes

abbrev pub PartsAreWithin : Type 0
PartsAreWithin = (bytes : List ℕ) (parts : Container) → StandsFor bytes parts → AreWithin bytes parts

-- a text has one code
abbrev pub HaveOneCode : Type 0
HaveOneCode = (text one other : List ℕ) → HasCode text one → HasCode text other → one ≡ other

-- a text holds one list of bytes
abbrev pub HaveOneContent : Type 0
HaveOneContent = (text one other : List ℕ) → Holds text one → Holds text other → one ≡ other

-- the function gives the code that a text has, and none where it has none
abbrev pub CodesAgree : Type 0
CodesAgree = (text code : List ℕ) → (code_of text ≡ Some code) ↔ HasCode text code

-- the function gives the bytes that a text of bytes holds, and none where it holds none
abbrev pub ContentsAgree : Type 0
ContentsAgree = (text bytes : List ℕ) → IsBytes text → (uri_bytes text ≡ Some bytes) ↔ Holds text bytes

-- the alphabet of the codes (RFC 4648, section 4, table 1)
abbrev pub HasAlphabet : Type 0
HasAlphabet = engine_symbols standard ≡ codes "ABCDEFGHIJKLMNOPQRSTUVWXYZabcdefghijklmnopqrstuvwxyz0123456789+/"
