-- The headline of packing: whatever bytes the source gives, where memory is found and no count of faults rises, the run reports
-- their first fault and writes nothing, or it writes a file that is the same asset. What unpacking keeps. And the texts that are written.
use Rattle.std.specs.Prelude.{◌≡◌, ◌≢◌, ◌⊎◌, ℕ, ◌<◌, ◌≤◌, ◌^◌, ⊤, List, length, Some}
use Rattle.gp_document.specs.Faults.{HasFault}
use Rattle.gp_packed.specs.Packed.{packing}
use Rattle.gp_sameness.specs.Same.{Same}
use Rattle.gp_unpack.specs.Kept.{KeepsViews}
use Rattle.gp_analyse.specs.Reports.{IsReport}
use Rattle.gp_meshlets.specs.Telling.{IsMeshletText}
use Rattle.gp_asset.specs.declared.refusal.Refusal.{Refusal}
use Rattle.gp_app.specs.Words.{command}
use Rattle.gp_app.specs.Lines.{too_large_line, line_of_refusal}
use Rattle.gp_app.specs.Moment.{Moment, NoneRose}
use Rattle.gp_app.specs.Input.{ReadToEnd}
use Rattle.gp_app.specs.Work.{Takes, HasInput}
use Rattle.gp_app.specs.Written.{WroteAll}
use Rattle.gp_app.specs.declared.commands.Command.{Command}
use Rattle.gp_app.specs.declared.commands.Command.TheVariants.{Unpack, Analyse, Lists, Meshlets}
use Rattle.gp_app.specs.declared.status.Status.{Status}
use Rattle.gp_app.specs.declared.status.Status.TheVariants.{Done, Refused, Memory}

-- the line of the first fault of these bytes: that there are too many, or the fault of what they hold
abbrev pub TellsFault : List ℕ → List ℕ → Type 0
TellsFault bytes line =
    ((2 ^ 29 < length bytes) × (line ≡ too_large_line))
    ⊎ ((length bytes ≤ 2 ^ 29) × ((refusal : Refusal) × HasFault packing bytes refusal × (line ≡ line_of_refusal refusal)))

-- the first fault was reported, and nothing was written to the output
pub record ReportsFault (bytes : List ℕ) (before after : Moment) (status : Status) : Type 0 where
  pub refused : status ≡ Refused
  pub line : List ℕ
  pub fault : TellsFault bytes line
  pub told : WroteAll before.report after.report line
  pub untouched : after.output ≡ before.output

-- the whole input was taken, and what was written is the same asset
pub record WritesSame (asked : Command) (bytes : List ℕ) (before after : Moment) : Type 0 where
  pub taken : Takes asked before.input after.input bytes
  pub glb : List ℕ
  pub written : WroteAll before.output after.output glb
  pub same : Same bytes glb

-- the command packs its input
abbrev pub IsPacking : Command → Type 0
IsPacking Unpack = ⊥
IsPacking Analyse = ⊥
IsPacking Lists = ⊥
IsPacking Meshlets = ⊥
IsPacking _ = ⊤

-- where packing is done, the same asset was written
abbrev pub KeepsAsset : List (List ℕ) → Moment → Moment → Status → Type 0
KeepsAsset words before after status = (asked : Command) → command words ≡ Some asked → IsPacking asked → status ≡ Done → (bytes : List ℕ) × WritesSame asked bytes before after

abbrev pub Headline : List (List ℕ) → Moment → Moment → Status → Type 0
Headline words before after status = (asked : Command) (bytes : List ℕ) → command words ≡ Some asked → IsPacking asked → HasInput asked before.input.left bytes → NoneRose before after → status ≢ Memory
    → ReportsFault bytes before after status ⊎ ((status ≡ Done) × WritesSame asked bytes before after)

-- ---- unpacking

-- all bytes were read, and what was written has the same views
pub record WritesKept (bytes : List ℕ) (before after : Moment) : Type 0 where
  pub read : ReadToEnd before.input after.input bytes
  pub glb : List ℕ
  pub written : WroteAll before.output after.output glb
  pub kept : KeepsViews bytes glb

-- where unpacking is done, an asset whose views have the same contents was written
abbrev pub KeepsContents : List (List ℕ) → Moment → Moment → Status → Type 0
KeepsContents words before after status = command words ≡ Some Unpack → status ≡ Done → (bytes : List ℕ) × WritesKept bytes before after

-- ---- texts

-- the text that a command writes of an input
abbrev pub IsTextOf : Command → List ℕ → List ℕ → Type 0
IsTextOf Analyse bytes text = IsReport bytes text
IsTextOf Meshlets bytes text = IsMeshletText bytes text
IsTextOf _ bytes text = ⊥

-- the command writes a text
abbrev pub IsTelling : Command → Type 0
IsTelling Analyse = ⊤
IsTelling Meshlets = ⊤
IsTelling _ = ⊥

-- all bytes were read, exactly their text was written, and the report is as it was
pub record WritesText (asked : Command) (bytes : List ℕ) (before after : Moment) : Type 0 where
  pub read : ReadToEnd before.input after.input bytes
  pub text : List ℕ
  pub is_text : IsTextOf asked bytes text
  pub written : WroteAll before.output after.output text
  pub silent : after.report ≡ before.report

-- where such a command is done, its text was written so
abbrev pub TellsText : List (List ℕ) → Moment → Moment → Status → Type 0
TellsText words before after status = (asked : Command) → command words ≡ Some asked → IsTelling asked → status ≡ Done
    → (bytes : List ℕ) × WritesText asked bytes before after
