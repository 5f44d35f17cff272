-- What the steps of bundling answer. No public contract cites it.
use Rattle.std.specs.Prelude.{◌≡◌, ◌≢◌, ◌⊎◌, ℕ, ◌+◌, ◌<◌, ◌≤◌, ◌^◌, List, ◌++◌, length, IfSome, Some, None, Result, Ok, Err, ⊤}
use Rattle.std.specs.declared.option.Option.{Option}
use Rattle.gp_folder.specs.declared.file.File.{File}
use Rattle.gp_folder.specs.Folder.{FolderAt, Lacks, Exceeds, after_put, PutsSome}
use Rattle.gp_folder.specs.declared.refusals.PutRefusal.{PutRefusal}
use Rattle.gp_folder.specs.declared.refusals.PutRefusal.TheVariants as put
use Rattle.gp_host.specs.Causes.{Rose}
use Rattle.gp_folder.specs.declared.refusals.TakeRefusal.{TakeRefusal}
use Rattle.gp_folder.specs.declared.refusals.TakeRefusal.TheVariants as take
use Rattle.gp_asset.specs.declared.refusal.Refusal.{Refusal}
use Rattle.gp_asset.specs.declared.refusal.Refusal.TheVariants as file
use Rattle.gp_pair.specs.Taking.{IsContent, LacksNext, ExceedsNext, TakesAll, content_len, contents_len}
use Rattle.gp_json.specs.Text.{text_of}
use Rattle.gp_glb.specs.Bytes.{Each, Chunk, IsWhole, chunks_bytes}
use Rattle.gp_glb.specs.Container.{IsOther, all_chunks, bin_chunks}
use Rattle.gp_glb.specs.declared.fault.GlbFault.TheVariants.{JsonTooLarge}
use Rattle.gp_asset.specs.declared.refusal.Refusal.TheVariants.{Glb}
use Rattle.gp_document.specs.Document.{Document, glb_of}
use Rattle.gp_pair.specs.Bundle.{IsTaken, Bundles, Stops}
use Rattle.gp_pair.specs.Pair.{bin_len, text_name, with_bin, FailsAtBin}
use Rattle.gp_pair.specs.declared.bundled.Bundled.{Bundled}
use Rattle.gp_pair.specs.declared.taking.Contents.{Contents}
use Rattle.gp_pair.specs.declared.refusal.BundleRefusal.{BundleRefusal}
use Rattle.gp_pair.specs.declared.refusal.BundleRefusal.TheVariants.{Failed, Missing, TooLarge, Bad, Memory}

abbrev pub refusal_of_take : Option ℕ → TakeRefusal → BundleRefusal
refusal_of_take buffer take.Failed = Failed
refusal_of_take buffer take.Missing = Missing buffer
refusal_of_take buffer take.TooLarge = TooLarge
refusal_of_take buffer take.Memory = Memory

abbrev pub refusal_of_text : Refusal → BundleRefusal
refusal_of_text file.Memory = Memory
refusal_of_text refusal = Bad refusal

-- no file is changed, the count of faults doesn't fall, a failure raises it, and any other answer leaves it
pub record Asks {T : Type 0} (before now : FolderAt) (answer : Result T BundleRefusal) : Type 0 where
  pub files : now.files ≡ before.files
  pub later : before.faults ≤ now.faults
  pub failed : answer ≡ Err Failed → Rose before.faults now.faults
  pub kept : answer ≢ Err Failed → now.faults ≡ before.faults

-- there is a file, and it holds of its name
abbrev pub OfFile : (List ℕ → Type 0) → Option (List ℕ) → Type 0
OfFile P None = ⊥
OfFile P (Some name) = P name

-- the content of buffer `at` was taken, or why its file wasn't
abbrev pub TakesOne : Option (List File) → Option (List ℕ) → ℕ → ℕ → Result (Option (List ℕ)) BundleRefusal → Type 0
TakesOne files name at limit (Ok content) = IsContent files name content × (content_len content ≤ limit)
TakesOne files name at limit (Err (Missing None)) = ⊥
TakesOne files name at limit (Err (Missing (Some number))) = (number ≡ at) × OfFile (λ file. Lacks files file) name
TakesOne files name at limit (Err TooLarge) = OfFile (λ file. Exceeds files file limit) name
TakesOne files name at limit (Err (Bad refusal)) = ⊥
TakesOne files name at limit (Err Failed) = ⊤
TakesOne files name at limit (Err Memory) = ⊤

-- all files were taken, or why one wasn't
abbrev pub Takes : Option (List File) → List (Option (List ℕ)) → ℕ → Result Contents BundleRefusal → Type 0
Takes files names limit (Ok taken) = TakesAll files names limit taken.contents.items × (taken.count ≡ contents_len taken.contents.items)
Takes files names limit (Err (Missing None)) = ⊥
Takes files names limit (Err (Missing (Some at))) = LacksNext files names limit at
Takes files names limit (Err TooLarge) = ExceedsNext files names limit
Takes files names limit (Err (Bad refusal)) = ⊥
Takes files names limit (Err Failed) = ⊤
Takes files names limit (Err Memory) = ⊤

-- ---- bundling

-- the file was taken, or why not
abbrev pub TakesInput : Option (List File) → List ℕ → Result (List ℕ) BundleRefusal → Type 0
TakesInput files name (Ok bytes) = IsTaken files name bytes
TakesInput files name (Err refusal) = Bundles files name (Err refusal) ⊎ Stops (Err refusal)

-- BIN chunk and rest are no longer than what was taken may be
pub record IsSmall (document : Document) : Type 0 where
  pub bin : IfSome document.bin (λ bytes. length bytes ≤ 2 ^ 29)
  pub rest : length document.rest ≤ 2 ^ 29

-- the container of a document, of so many bytes that were taken
pub record IsJoined (document : Document) (count : ℕ) (bundled : Bundled) : Type 0 where
  pub small : length (text_of document.tree) ≤ 2 ^ 26
  pub glb : bundled.glb ≡ glb_of document
  pub taken : bundled.taken ≡ count

abbrev pub Joins : Document → ℕ → Result Bundled BundleRefusal → Type 0
Joins document taken (Ok bundled) = IsJoined document taken bundled
Joins document taken (Err (Bad refusal)) = (refusal ≡ Glb JsonTooLarge) × (2 ^ 26 < length (text_of document.tree))
Joins document taken (Err Memory) = ⊤
Joins document taken (Err Failed) = ⊥
Joins document taken (Err (Missing buffer)) = ⊥
Joins document taken (Err TooLarge) = ⊥

-- ---- a pair

-- a JSON chunk, BIN, where there is one, and others
pub record HasJson (body json : List ℕ) (bin : Option (List ℕ)) : Type 0 where
  pub others : List Chunk
  pub whole : Each IsWhole (all_chunks json bin others)
  pub kinds : Each IsOther others
  pub is_body : body ≡ chunks_bytes (all_chunks json bin others)

-- the chunks behind the JSON chunk: BIN, where there is one, and others
pub record HasBin (chunks : List ℕ) (bin : Option (List ℕ)) : Type 0 where
  pub others : List Chunk
  pub whole : Each IsWhole (bin_chunks bin ++ others)
  pub kinds : Each IsOther others
  pub is_chunks : chunks ≡ chunks_bytes (bin_chunks bin ++ others)

-- the count of faults doesn't fall, a failure raises it, and any other answer leaves it
pub record Counts {T : Type 0} (before now : FolderAt) (answer : Result T PutRefusal) : Type 0 where
  pub later : before.faults ≤ now.faults
  pub failed : answer ≡ Err put.Failed → Rose before.faults now.faults
  pub kept : answer ≢ Err put.Failed → now.faults ≡ before.faults

-- the BIN chunk was put, where there is one
abbrev pub PutsBin : {T : Type 0} → List ℕ → Option (List ℕ) → Option (List File) → Option (List File) → Result T PutRefusal → Type 0
PutsBin stem bin before now (Ok done) = now ≡ with_bin stem bin before
PutsBin stem bin before now (Err put.Failed) = FailsAtBin stem bin before now
PutsBin stem bin before now (Err put.Memory) = now ≡ before

-- the text was put
abbrev pub PutsText : {T : Type 0} → List ℕ → List ℕ → Option (List File) → Option (List File) → Result T PutRefusal → Type 0
PutsText stem text before now (Ok done) = now ≡ after_put (text_name stem) text before
PutsText stem text before now (Err put.Failed) = PutsSome before now (text_name stem) text
PutsText stem text before now (Err put.Memory) = now ≡ before

-- the BIN chunk was put, where there is one, and then the text
abbrev pub PutsFiles : List ℕ → List ℕ → Option (List ℕ) → Option (List File) → Option (List File) → Result ℕ PutRefusal → Type 0
PutsFiles stem text bin before now (Ok count) = (now ≡ after_put (text_name stem) text (with_bin stem bin before)) × (count ≡ length text + bin_len bin)
PutsFiles stem text bin before now (Err put.Failed) = FailsAtBin stem bin before now ⊎ PutsSome (with_bin stem bin before) now (text_name stem) text
PutsFiles stem text bin before now (Err put.Memory) = (now ≡ before) ⊎ (now ≡ with_bin stem bin before)
