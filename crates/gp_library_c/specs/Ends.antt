-- What a command answers over bytes in memory: as a run of the program whose input is these bytes, and whose writes are taken.
use Rattle.std.specs.Prelude.{ℕ, ◌≡◌, ◌⊎◌, ◌^◌, ◌<◌, ◌≤◌, ⊤, List, [], length, None, Some}
use Rattle.std.specs.declared.option.Option.{Option}
use Rattle.gp_asset.specs.declared.refusal.Refusal.{Refusal}
use Rattle.gp_sameness.specs.Same.{Same}
use Rattle.gp_unpack.specs.Kept.{KeepsViews}
use Rattle.gp_app.specs.Lines.{line_of_refusal, memory_line, too_large_line}
use Rattle.gp_app.specs.Status.{exit_code}
use Rattle.gp_app.specs.Work.{Made, Makes, Refuses}
use Rattle.gp_app.specs.declared.commands.Command.{Command}
use Rattle.gp_app.specs.declared.commands.Command.TheVariants.{Pack, Unpack}
use Rattle.gp_app.specs.declared.status.Status.{Status}
use Rattle.gp_app.specs.declared.status.Status.TheVariants.{Done, Refused, Memory}
use Rattle.gp_library_c.specs.Places.{Place, with_bytes}

-- what an output keeps of its input: packed, it is the same asset; unpacked, its views have the same contents
abbrev pub Keeps : Command → List ℕ → List ℕ → Type 0
Keeps Pack bytes out = Same bytes out
Keeps Unpack bytes out = KeepsViews bytes out
Keeps _ bytes out = ⊤

-- the line, or none
abbrev pub line_or_none : Option (List ℕ) → List ℕ
line_or_none None = []
line_or_none (Some line) = line

-- the bytes have no fault, and this is made of them
pub record IsMade (asked : Command) (bytes out told : List ℕ) : Type 0 where
  pub fits : length bytes ≤ 2 ^ 29
  pub made : Made
  pub makes : Makes asked bytes made
  pub output : out ≡ made.out
  pub line : told ≡ line_or_none made.line
  pub keeps : Keeps asked bytes out

-- the line of the first fault of the bytes
abbrev pub TellsFault : Command → List ℕ → List ℕ → Type 0
TellsFault asked bytes told =
    ((2 ^ 29 < length bytes) × (told ≡ too_large_line))
    ⊎ ((length bytes ≤ 2 ^ 29) × ((refusal : Refusal) × Refuses asked bytes refusal × (told ≡ line_of_refusal refusal)))

-- how the command ends over the bytes, with this output and this line; it never ends otherwise
abbrev pub EndsWith : Command → List ℕ → Status → List ℕ → List ℕ → Type 0
EndsWith asked bytes Done out told = IsMade asked bytes out told
EndsWith asked bytes Refused out told = (out ≡ []) × TellsFault asked bytes told
EndsWith asked bytes Memory out told = (out ≡ []) × (told ≡ memory_line)
EndsWith asked bytes _ out told = ⊥

-- what a caller gets of it: the exit code, the output at its place, and the line at its place
pub record Answers (asked : Command) (bytes : List ℕ) (answer : ℕ) (before after line_before line_after : Place) : Type 0 where
  pub status : Status
  pub out : List ℕ
  pub told : List ℕ
  pub ends : EndsWith asked bytes status out told
  pub code : answer ≡ exit_code status
  pub output : after ≡ with_bytes out before
  pub line : line_after ≡ with_bytes told line_before
