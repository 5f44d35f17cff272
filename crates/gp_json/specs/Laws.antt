-- What holds of texts and their values.
use Rattle.std.specs.Prelude.{◌≡◌, ℕ, List}
use Rattle.gp_tree.specs.Plain.{PlainTree}
use Rattle.gp_tree.specs.Sound.{IsSpelled, IsSound}
use Rattle.gp_json.specs.Text.{text_of}
use Rattle.gp_json.specs.Spelling.{Spells}
use Rattle.gp_json.specs.Fault.{HasFault}
use Rattle.gp_json.specs.declared.fault.JsonFault.{JsonFault}

-- a text spells at most one value
abbrev pub SpellsOne : Type 0
SpellsOne = (text : List ℕ) (t u : PlainTree) → Spells text t → Spells text u → t ≡ u

-- a value whose numbers, strings and keys are spelled well is spelled by its compact text
abbrev pub CompactSpells : Type 0
CompactSpells = (t : PlainTree) → IsSpelled t → Spells (text_of t) t

-- what a text spells is spelled well
abbrev pub SpelledWell : Type 0
SpelledWell = (text : List ℕ) (t : PlainTree) → Spells text t → IsSpelled t

-- a text has at most one first fault
abbrev pub HasOneFault : Type 0
HasOneFault = (text : List ℕ) (f g : JsonFault) → HasFault text f → HasFault text g → f ≡ g

-- a text that spells a sound value has no fault
abbrev pub SoundHasNoFault : Type 0
SoundHasNoFault = (text : List ℕ) (t : PlainTree) → Spells text t → IsSound t → (f : JsonFault) → HasFault text f → ⊥

-- no text has neither: it spells a sound value, or it has a first fault
abbrev pub SpellsSoundOrHasFault : Type 0
SpellsSoundOrHasFault = (text : List ℕ) → ((t : PlainTree) → Spells text t → IsSound t → ⊥) → ((f : JsonFault) → HasFault text f → ⊥) → ⊥
