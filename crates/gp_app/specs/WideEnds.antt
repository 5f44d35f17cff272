-- How a run with a folder ends, by its status.
use Rattle.std.specs.Prelude.{◌≡◌, ◌⊎◌, ℕ, ⊤, List, length, None, Some, Result, Ok, Err}
use Rattle.std.specs.declared.option.Option.{Option}
use Rattle.gp_host.specs.Causes.{Rose}
use Rattle.gp_folder.specs.declared.refusals.PutRefusal.{PutRefusal}
use Rattle.gp_folder.specs.declared.refusals.PutRefusal.TheVariants as put
use Rattle.gp_document.specs.Document.{Document, Holds}
use Rattle.gp_document.specs.declared.output.Output.{Output}
use Rattle.gp_pair.specs.Pair.{PutsPair}
use Rattle.gp_pair.specs.declared.refusal.BundleRefusal.{BundleRefusal}
use Rattle.gp_app.specs.WideWords.{wide_command, file_in, stem_in}
use Rattle.gp_app.specs.WideMoment.{WideMoment, NoneRoseWidely}
use Rattle.gp_app.specs.Bundling.{IsPacked, IsRefused, CanPack}
use Rattle.gp_app.specs.Lines.{packed_line, pair_line, line_of_bundle, folder_failed_line, memory_line}
use Rattle.gp_app.specs.Written.{Says}
use Rattle.gp_app.specs.Delivered.{Delivers, TellsDone}
use Rattle.gp_app.specs.Ends.{Ends, Completes}
use Rattle.gp_app.specs.Headline.{KeepsAsset, KeepsContents, TellsText, Headline}
use Rattle.gp_app.specs.declared.commands.Wide.{Wide}
use Rattle.gp_app.specs.declared.commands.Wide.TheVariants.{Plain, Bundle, Pair}
use Rattle.gp_app.specs.declared.status.Status.{Status}
use Rattle.gp_app.specs.declared.status.Status.TheVariants.{Done, Refused, Usage, Outside, Memory}

-- without a file of the folder: all that is said of such a run, and the folder is as before
pub record EndsPlainly (words : List (List ℕ)) (before after : WideMoment) (status : Status) : Type 0 where
  pub ends : Ends words before.streams after.streams status
  pub complete : Completes words before.streams after.streams status
  pub keeps : KeepsAsset words before.streams after.streams status
  pub unpacks : KeepsContents words before.streams after.streams status
  pub texts : TellsText words before.streams after.streams status
  pub headline : Headline words before.streams after.streams status
  pub folder : after.folder ≡ before.folder

-- ---- a file and the files of its buffers are taken

-- nothing is made of them, for this reason
pub record EndsRefused (name : List ℕ) (before after : WideMoment) : Type 0 where
  pub refusal : BundleRefusal
  pub refused : IsRefused before.folder.files name refusal
  pub told : Says before.streams.report after.streams.report (line_of_bundle refusal)
  pub output : after.streams.output ≡ before.streams.output
  pub folder : after.folder ≡ before.folder

-- a take failed
pub record EndsTakeFailed (before after : WideMoment) : Type 0 where
  pub failed : Rose before.folder.faults after.folder.faults
  pub told : Says before.streams.report after.streams.report folder_failed_line
  pub output : after.streams.output ≡ before.streams.output
  pub files : after.folder.files ≡ before.folder.files

-- there was no memory
pub record EndsForgotten (before after : WideMoment) : Type 0 where
  pub told : Says before.streams.report after.streams.report memory_line
  pub output : after.streams.output ≡ before.streams.output
  pub folder : after.folder ≡ before.folder

-- ---- bundling

-- the bundle is packed, and written as far as the output and the report took it
pub record EndsBundled (name : List ℕ) (before after : WideMoment) (status : Status) : Type 0 where
  pub out : Output
  pub taken : ℕ
  pub packed : IsPacked before.folder.files name out taken
  pub delivers : Delivers out.glb (Some (packed_line out taken)) before.streams.output after.streams.output before.streams.report after.streams.report status
  pub folder : after.folder ≡ before.folder

abbrev pub BundleEnds : List ℕ → WideMoment → WideMoment → Status → Type 0
BundleEnds name before after Done = EndsBundled name before after Done
BundleEnds name before after Refused = EndsRefused name before after
BundleEnds name before after Usage = ⊥
BundleEnds name before after Outside = EndsTakeFailed before after ⊎ EndsBundled name before after Outside
BundleEnds name before after Memory = EndsForgotten before after

-- ---- a pair

-- the bundle is packed, and the puts of its two files answer so
pub record PutsFiles (name stem : List ℕ) (before after : WideMoment) (answer : Result ℕ PutRefusal) : Type 0 where
  pub out : Output
  pub taken : ℕ
  pub packed : IsPacked before.folder.files name out taken
  pub document : Document
  pub holds : Holds out.glb document
  pub puts : PutsPair stem document before.folder.files after.folder.files answer
  pub output : after.streams.output ≡ before.streams.output

-- both were put, and it was told as far as the report took it
pub record EndsPaired (name stem : List ℕ) (before after : WideMoment) (status : Status) : Type 0 where
  pub count : ℕ
  pub files : PutsFiles name stem before after (Ok count)
  pub told : TellsDone (Some (pair_line files.out files.taken count)) before.streams.report after.streams.report status
  pub faults : after.folder.faults ≡ before.folder.faults

-- a put failed
pub record EndsPutFailed (name stem : List ℕ) (before after : WideMoment) : Type 0 where
  pub files : PutsFiles name stem before after (Err put.Failed)
  pub failed : Rose before.folder.faults after.folder.faults
  pub told : Says before.streams.report after.streams.report folder_failed_line

-- there was no memory for the puts
pub record EndsPutForgotten (name stem : List ℕ) (before after : WideMoment) : Type 0 where
  pub files : PutsFiles name stem before after (Err put.Memory)
  pub told : Says before.streams.report after.streams.report memory_line
  pub faults : after.folder.faults ≡ before.folder.faults

abbrev pub PairEnds : List ℕ → List ℕ → WideMoment → WideMoment → Status → Type 0
PairEnds name stem before after Done = EndsPaired name stem before after Done
PairEnds name stem before after Refused = EndsRefused name before after
PairEnds name stem before after Usage = ⊥
PairEnds name stem before after Outside = EndsTakeFailed before after ⊎ (EndsPutFailed name stem before after ⊎ EndsPaired name stem before after Outside)
PairEnds name stem before after Memory = EndsForgotten before after ⊎ EndsPutForgotten name stem before after

-- ---- all commands

abbrev pub WideCommandEnds : Option Wide → List (List ℕ) → WideMoment → WideMoment → Status → Type 0
WideCommandEnds None words before after status = EndsPlainly words before after status
WideCommandEnds (Some (Plain asked)) words before after status = EndsPlainly words before after status
WideCommandEnds (Some Bundle) words before after status = BundleEnds (file_in words) before after status × (after.streams.input ≡ before.streams.input)
WideCommandEnds (Some Pair) words before after status = PairEnds (file_in words) (stem_in words) before after status × (after.streams.input ≡ before.streams.input)

-- as the command of the words ends
abbrev pub WideEnds : List (List ℕ) → WideMoment → WideMoment → Status → Type 0
WideEnds words before after status = WideCommandEnds (wide_command words) words before after status

-- the command takes a file of the folder
abbrev pub IsTaking : Option Wide → Type 0
IsTaking (Some Bundle) = ⊤
IsTaking (Some Pair) = ⊤
IsTaking _ = ⊥

-- where the bundle can be packed, and no count has risen, all of it is done, or there was no memory
abbrev pub TakingCompletes : List ℕ → WideMoment → WideMoment → Status → Type 0
TakingCompletes name before after status = CanPack before.folder.files name → NoneRoseWidely before after → (status ≡ Done) ⊎ (status ≡ Memory)

abbrev pub WideCompletes : List (List ℕ) → WideMoment → WideMoment → Status → Type 0
WideCompletes words before after status = IsTaking (wide_command words) → TakingCompletes (file_in words) before after status
