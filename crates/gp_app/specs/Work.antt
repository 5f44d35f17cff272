-- What each command takes, refuses and makes.
use Rattle.std.specs.Prelude.{◌≡◌, ℕ, ◌≤◌, ⊤, List, length, None, Some}
use Rattle.std.specs.declared.option.Option.{Option}
use Rattle.gp_host.specs.Source.{SourceAt}
use Rattle.gp_document.specs.Operation.{Operation}
use Rattle.gp_document.specs.Faults.{HasFault}
use Rattle.gp_document.specs.Answers.{IsMade}
use Rattle.gp_document.specs.declared.output.Output.{Output}
use Rattle.gp_packed.specs.Packed.{packing}
use Rattle.gp_packed.specs.StoredParts.{AreBytes}
use Rattle.gp_unpack.specs.Unpacked.{unpacking}
use Rattle.gp_analyse.specs.Reports.{IsReport, HasFault as HasAnalysisFault}
use Rattle.gp_meshlets.specs.Telling.{IsMeshletText}
use Rattle.gp_strips.specs.ListedDocument.{listing}
use Rattle.gp_strips.specs.Answers.{IsListed}
use Rattle.gp_strips.specs.declared.files.ListsOut.{ListsOut}
use Rattle.gp_sample.specs.Sample.{sample}
use Rattle.gp_asset.specs.declared.refusal.Refusal.{Refusal}
use Rattle.gp_app.specs.Lines.{packed_line, unpacked_line, listed_line}
use Rattle.gp_app.specs.Input.{ReadToEnd, ReadPart}
use Rattle.gp_app.specs.declared.commands.Command.{Command}
use Rattle.gp_app.specs.declared.commands.Command.TheVariants.{Pack, Unpack, Analyse, Sample, Lists, Meshlets}

-- a sample has a size from 1 to 512
abbrev pub HasSize : Command → Type 0
HasSize (Sample n) = (1 ≤ n) × (n ≤ 512)
HasSize _ = ⊤

-- the command reads its source
abbrev pub IsReading : Command → Type 0
IsReading (Sample n) = ⊥
IsReading _ = ⊤

-- these bytes are the input of the command: the sample, and nothing was read; or all that the source had left
abbrev pub Takes : Command → SourceAt → SourceAt → List ℕ → Type 0
Takes (Sample n) before after bytes = (after ≡ before) × (bytes ≡ sample n)
Takes _ before after bytes = ReadToEnd before after bytes

-- what was read where there was no memory: nothing for a sample, else a part of what the source had left
abbrev pub Waits : Command → SourceAt → SourceAt → Type 0
Waits (Sample n) before after = after ≡ before
Waits _ before after = ReadPart before after

-- these bytes are the input of the command, where the source tells this of its bytes
abbrev pub HasInput : Command → Option (List ℕ) → List ℕ → Type 0
HasInput (Sample n) left bytes = bytes ≡ sample n
HasInput _ left bytes = left ≡ Some bytes

-- the input has this first fault
unfoldable pub Refuses : Command → List ℕ → Refusal → Type 0
Refuses Pack bytes refusal = HasFault packing bytes refusal
Refuses Unpack bytes refusal = HasFault unpacking bytes refusal
Refuses Analyse bytes refusal = HasAnalysisFault bytes refusal
Refuses Lists bytes refusal = HasFault listing bytes refusal
Refuses Meshlets bytes refusal = HasAnalysisFault bytes refusal
Refuses (Sample n) bytes refusal = HasFault packing bytes refusal

-- what is written for an input without a fault, and the line of Done, where there is one
pub record Made : Type 0 where
  pub out : List ℕ
  pub line : Option (List ℕ)

-- the container that an operation makes of an input, which is bytes, and its line
abbrev pub MakesFile : Operation → (Output → ℕ → List ℕ) → List ℕ → Made → Type 0
MakesFile operation line bytes made =
    (out : Output) × AreBytes bytes × IsMade operation bytes out × (made ≡ record { out = out.glb; line = Some (line out (length bytes)) })

-- the container in which strips and fans are lists, of an input, which is bytes, and its line
abbrev pub MakesLists : List ℕ → Made → Type 0
MakesLists bytes made = (out : ListsOut) × AreBytes bytes × IsListed bytes out × (made ≡ record { out = out.glb; line = Some (listed_line out (length bytes)) })

-- the text of an input, and no line
abbrev pub MakesText : (List ℕ → List ℕ → Type 0) → List ℕ → Made → Type 0
MakesText IsText bytes made = (text : List ℕ) × IsText bytes text × (made ≡ record { out = text; line = None })

unfoldable pub Makes : Command → List ℕ → Made → Type 0
Makes Pack bytes made = MakesFile packing packed_line bytes made
Makes Unpack bytes made = MakesFile unpacking unpacked_line bytes made
Makes Analyse bytes made = MakesText IsReport bytes made
Makes Lists bytes made = MakesLists bytes made
Makes Meshlets bytes made = MakesText IsMeshletText bytes made
Makes (Sample n) bytes made = MakesFile packing packed_line bytes made
