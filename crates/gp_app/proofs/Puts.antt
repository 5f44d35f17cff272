-- Where a bundle is packed: how the run ends that writes it, and the one that puts it as a pair of files.
use Rattle.std.proofs.Common.{◌≡◌, ◌⊎◌, inl, inr, ℕ, List, Some, Result, Ok, Err, refl, sym, subst}
use Rattle.gp_host.specs.Causes.{Rose}
use Rattle.gp_document.specs.Document.{Document, Holds}
use Rattle.gp_document.specs.declared.output.Output.{Output}
use Rattle.gp_folder.specs.declared.refusals.PutRefusal.{PutRefusal}
use Rattle.gp_folder.specs.declared.refusals.PutRefusal.TheVariants as put
use Rattle.gp_folder.specs.Folder.{FolderAt}
use Rattle.gp_pair.specs.Pair.{PutsPair}
use Rattle.gp_app.specs.Lines.{packed_line, pair_line, folder_failed_line, memory_line}
use Rattle.gp_app.specs.Written.{Says}
use Rattle.gp_app.specs.Delivered.{Delivers, TellsDone}
use Rattle.gp_app.specs.WideMoment.{WideMoment, NoneRoseWidely}
use Rattle.gp_app.specs.Bundling.{IsPacked}
use Rattle.gp_app.specs.WideEnds.{EndsBundled, BundleEnds, PutsFiles, PairEnds, TakingCompletes}
use Rattle.gp_app.proofs.Headlines.{not_rose, no_line_fails}
use Rattle.gp_app.specs.declared.status.Status.{Status}
use Rattle.gp_app.specs.declared.status.Status.TheVariants.{Done, Refused, Usage, Outside, Memory}

module _ (name : List ℕ) (before after : WideMoment) where
  abbrev DeliversBundle : Output → ℕ → Status → Type 0
  DeliversBundle out taken status =
      Delivers out.glb (Some (packed_line out taken)) before.streams.output after.streams.output before.streams.report after.streams.report status

  module _ (out : Output) (taken : ℕ) where
    pub bundle_ends : IsPacked before.folder.files name out taken → after.folder ≡ before.folder → (status : Status) → DeliversBundle out taken status → BundleEnds name before after status
    bundle_ends packed folder Done d = record { out = out; taken = taken; packed = packed; delivers = d; folder = folder }
    bundle_ends packed folder Outside d = inr (record { out = out; taken = taken; packed = packed; delivers = d; folder = folder })
    bundle_ends packed folder Refused d = absurd d
    bundle_ends packed folder Usage d = absurd d
    bundle_ends packed folder Memory d = absurd d

    pub bundle_completes : (status : Status) → DeliversBundle out taken status → TakingCompletes name before after status
    bundle_completes Done d can steady = inl refl
    bundle_completes Outside (inl output) can steady = absurd (not_rose before.streams.output.faults after.streams.output.faults steady.streams.output output.short.failed)
    bundle_completes Outside (inr report) can steady =
        absurd (no_line_fails before.streams.report after.streams.report (Some (packed_line out taken)) steady.streams.report report.report)
    bundle_completes Refused d can steady = absurd d
    bundle_completes Usage d can steady = absurd d
    bundle_completes Memory d can steady = absurd d

  -- what the puts say of the folder as it was after the takes
  abbrev pub puts_files : (stem : List ℕ) (between : FolderAt) (out : Output) (taken : ℕ) (packed : IsPacked before.folder.files name out taken) → between.files ≡ before.folder.files
      → (glb : List ℕ) → glb ≡ out.glb → (answer : Result ℕ PutRefusal) → ((document : Document) → Holds glb document → PutsPair stem document between.files after.folder.files answer)
      → after.streams.output ≡ before.streams.output → PutsFiles name stem before after answer
  puts_files stem between out taken packed same glb is answer puts output =
      let document = packed.same.output.document in
      let holds = packed.same.output.holds in
      record {
        out = out;
        taken = taken;
        packed = packed;
        document = document;
        holds = holds;
        puts = subst (λ files. PutsPair stem document files after.folder.files answer) same (puts document (subst (λ bytes. Holds bytes document) (sym is) holds));
        output = output;
      }

  abbrev TellsPair : Output → ℕ → ℕ → Status → Type 0
  TellsPair out taken count status = TellsDone (Some (pair_line out taken count)) before.streams.report after.streams.report status

  pub pair_ends : (stem : List ℕ) (count : ℕ) (files : PutsFiles name stem before after (Ok count)) → after.folder.faults ≡ before.folder.faults → (status : Status)
      → TellsPair files.out files.taken count status → PairEnds name stem before after status
  pair_ends stem count files faults Done told = record { count = count; files = files; told = told; faults = faults }
  pair_ends stem count files faults Outside told = inr (inr (record { count = count; files = files; told = told; faults = faults }))
  pair_ends stem count files faults Refused told = absurd told
  pair_ends stem count files faults Usage told = absurd told
  pair_ends stem count files faults Memory told = absurd told

  pub pair_completes : (out : Output) (taken count : ℕ) (status : Status) → TellsPair out taken count status → TakingCompletes name before after status
  pair_completes out taken count Done told can steady = inl refl
  pair_completes out taken count Outside told can steady =
      absurd (no_line_fails before.streams.report after.streams.report (Some (pair_line out taken count)) steady.streams.report told)
  pair_completes out taken count Refused told can steady = absurd told
  pair_completes out taken count Usage told can steady = absurd told
  pair_completes out taken count Memory told can steady = absurd told

  pub put_fails : (stem : List ℕ) (refusal : PutRefusal) → refusal ≡ put.Failed → PutsFiles name stem before after (Err refusal) → Rose before.folder.faults after.folder.faults
      → Says before.streams.report after.streams.report folder_failed_line → PairEnds name stem before after Outside
  put_fails stem refusal is files failed told =
      inr (inl (record { files = subst (λ r. PutsFiles name stem before after (Err r)) is files; failed = failed; told = told }))

  pub put_forgets : (stem : List ℕ) (refusal : PutRefusal) → refusal ≡ put.Memory → PutsFiles name stem before after (Err refusal) → after.folder.faults ≡ before.folder.faults
      → Says before.streams.report after.streams.report memory_line → PairEnds name stem before after Memory
  put_forgets stem refusal is files faults told =
      inr (record { files = subst (λ r. PutsFiles name stem before after (Err r)) is files; told = told; faults = faults })
