-- What bundling a file of a folder with its external buffers answers: their container, or the first refusal.
use Rattle.std.specs.Prelude.{◌≡◌, ◌⊎◌, ℕ, ◌+◌, ◌-◌, ◌<◌, ◌≤◌, ◌^◌, List, length, Some, None, Result, Ok, Err}
use Rattle.std.specs.declared.option.Option.{Option}
use Rattle.gp_folder.specs.declared.file.File.{File}
use Rattle.gp_folder.specs.Folder.{Gives, Lacks, Exceeds}
use Rattle.gp_json.specs.Text.{text_of}
use Rattle.gp_glb.specs.declared.fault.GlbFault.TheVariants.{JsonTooLarge}
use Rattle.gp_asset.specs.declared.refusal.Refusal.{Refusal}
use Rattle.gp_asset.specs.declared.refusal.Refusal.TheVariants.{Glb}
use Rattle.gp_document.specs.Document.{Document, IsDocument, glb_of}
use Rattle.gp_document.specs.Reading.{HasTextFault}
use Rattle.gp_pair.specs.External.{files_of}
use Rattle.gp_pair.specs.Joined.{is_text, joined}
use Rattle.gp_pair.specs.Taking.{LacksNext, ExceedsNext, TakesAll, contents_len}
use Rattle.gp_pair.specs.declared.bundled.Bundled.{Bundled}
use Rattle.gp_pair.specs.declared.refusal.BundleRefusal.{BundleRefusal}
use Rattle.gp_pair.specs.declared.refusal.BundleRefusal.TheVariants.{Failed, Missing, TooLarge, Bad, Memory}

-- the most bytes that the file and the files of its buffers have in all
abbrev pub most_bytes : ℕ
most_bytes = 2 ^ 29

-- the file was taken, of these bytes
pub record IsTaken (files : Option (List File)) (name bytes : List ℕ) : Type 0 where
  pub given : Gives files name bytes
  pub within : length bytes ≤ most_bytes

-- the file is a text or a container without a fault
pub record IsInput (files : Option (List File)) (name : List ℕ) : Type 0 where
  pub bytes : List ℕ
  pub taken : IsTaken files name bytes
  pub document : Document
  pub is_document : IsDocument bytes document

-- the files of its external buffers, and what is left for them
abbrev pub names_in : {files : Option (List File)} {name : List ℕ} → IsInput files name → List (Option (List ℕ))
names_in {files} {name} input = files_of name input.document.tree

abbrev pub left_for : {files : Option (List File)} {name : List ℕ} → IsInput files name → ℕ
left_for input = most_bytes - length input.bytes

-- the container or the text of the file has this fault
pub record IsFaulty (files : Option (List File)) (name : List ℕ) (refusal : Refusal) : Type 0 where
  pub bytes : List ℕ
  pub taken : IsTaken files name bytes
  pub faulty : HasTextFault bytes refusal

-- the files of external buffers before this one were taken, and the folder lacks that of this one
pub record LacksBuffer (files : Option (List File)) (name : List ℕ) (at : ℕ) : Type 0 where
  pub input : IsInput files name
  pub lacks : LacksNext files (names_in input) (left_for input) at

-- with the file of a buffer, all that were taken are too large
pub record ExceedsAtBuffer (files : Option (List File)) (name : List ℕ) : Type 0 where
  pub input : IsInput files name
  pub exceeds : ExceedsNext files (names_in input) (left_for input)

-- all were taken
pub record IsWhole (files : Option (List File)) (name : List ℕ) : Type 0 where
  pub input : IsInput files name
  pub contents : List (Option (List ℕ))
  pub taken : TakesAll files (names_in input) (left_for input) contents

-- the document with all contents in it
abbrev pub joined_of : {files : Option (List File)} {name : List ℕ} → IsWhole files name → Document
joined_of whole = joined (is_text whole.input.bytes) whole.contents whole.input.document

-- the text of its JSON is too large
pub record IsLarge (files : Option (List File)) (name : List ℕ) : Type 0 where
  pub whole : IsWhole files name
  pub large : 2 ^ 26 < length (text_of (joined_of whole).tree)

-- its container, and how many bytes were taken for it
pub record IsBundled (files : Option (List File)) (name : List ℕ) (bundled : Bundled) : Type 0 where
  pub whole : IsWhole files name
  pub small : length (text_of (joined_of whole).tree) ≤ 2 ^ 26
  pub glb : bundled.glb ≡ glb_of (joined_of whole)
  pub taken : bundled.taken ≡ length whole.input.bytes + contents_len whole.contents

-- each refusal comes where nothing before it refuses: the file, then its faults, then the files of buffers by rising number,
-- and at last the length of the text
abbrev pub Bundles : Option (List File) → List ℕ → Result Bundled BundleRefusal → Type 0
Bundles files name (Ok bundled) = IsBundled files name bundled
Bundles files name (Err (Missing None)) = Lacks files name
Bundles files name (Err (Missing (Some at))) = LacksBuffer files name at
Bundles files name (Err TooLarge) = Exceeds files name most_bytes ⊎ ExceedsAtBuffer files name
Bundles files name (Err (Bad refusal)) = IsFaulty files name refusal ⊎ ((refusal ≡ Glb JsonTooLarge) × IsLarge files name)
Bundles files name (Err Failed) = ⊥
Bundles files name (Err Memory) = ⊥

-- the folder failed, or there was no memory
abbrev pub Stops : Result Bundled BundleRefusal → Type 0
Stops answer = (answer ≡ Err Failed) ⊎ (answer ≡ Err Memory)

-- of known files there is one answer, whatever the folder is otherwise
abbrev pub IsOnlyAnswer : Option (List File) → List ℕ → Result Bundled BundleRefusal → Type 0
IsOnlyAnswer files name answer = (known : List File) (other : Result Bundled BundleRefusal) → files ≡ Some known → Bundles files name other → (answer ≡ other) ⊎ Stops answer
