-- Laws of analyses, over the definitions alone.
use Rattle.std.specs.Prelude.{◌≡◌, ℕ, List, Result}
use Rattle.gp_asset.specs.declared.refusal.Refusal.{Refusal}
use Rattle.gp_analyse.specs.Reports.{Reports}

-- an input has one answer: its text, or one first fault
abbrev pub HaveOneReport : Type 0
HaveOneReport = (bytes : List ℕ) (one other : Result (List ℕ) Refusal) → Reports bytes one → Reports bytes other → one ≡ other
