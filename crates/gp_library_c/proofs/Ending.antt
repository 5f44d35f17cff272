-- From how a run ends to what a command answers over bytes in memory.
use Rattle.std.proofs.Common.{◌≡◌, inl, inr, ℕ, ◌+◌, ◌<◌, ◌≤◌, ◌^◌, List, [], ◌∷◌, ◌++◌, length, None, Some, Option, MatchOption, refl, sym, ap, ◌∙◌, subst, arith, append-nil, length-append}
use Rattle.gp_host.specs.Sink.{SinkAt}
use Rattle.gp_host.specs.Source.{SourceAt}
use Rattle.gp_sameness.specs.Same.{Same}
use Rattle.gp_unpack.specs.Kept.{KeepsViews}
use Rattle.gp_app.specs.Words.{command}
use Rattle.gp_app.specs.Input.{ReadToEnd, ReadTooMany}
use Rattle.gp_app.specs.Moment.{Moment, moment}
use Rattle.gp_app.specs.Written.{FellShort, Says}
use Rattle.gp_app.specs.Work.{Takes, Makes, Refuses}
use Rattle.gp_app.specs.Delivered.{Tells, LineFails}
use Rattle.gp_app.specs.Ends.{Ends, CommandEnds, NoCommandEnds, EndsFaulty}
use Rattle.gp_app.specs.Headline.{KeepsAsset, KeepsContents}
use Rattle.gp_app.specs.declared.commands.Command.{Command}
use Rattle.gp_app.specs.declared.status.Status.{Status}
use Rattle.gp_app.specs.declared.status.Status.TheVariants.{Done, Refused, Usage, Outside, Memory}
use Rattle.gp_library_c.specs.declared.running.Task.{Task}
use Rattle.gp_library_c.specs.declared.running.Task.TheVariants.{Pack, Unpack, Analyse}
use Rattle.gp_library_c.specs.Ends.{Keeps, line_or_none, EndsWith}
use Rattle.gp_library_c.specs.InMemory.{command_of, word_of}

abbrev source : List ℕ → SourceAt
source left = record { left = Some left; faults = 0; calls = 0 }

abbrev sink : List ℕ → SinkAt
sink held = record { held = Some held; settled = None; faults = 0 }

command_is : (task : Task) → command (word_of task ∷ []) ≡ Some (command_of task)
unfolding command
command_is Pack = refl
command_is Unpack = refl
command_is Analyse = refl

-- ---- what was read

takes : (task : Task) (before after : SourceAt) (read : List ℕ) → Takes (command_of task) before after read → ReadToEnd before after read
takes Pack before after read h = h
takes Unpack before after read h = h
takes Analyse before after read h = h

whole : (bytes rest read : List ℕ) → ReadToEnd (source bytes) (source rest) read → read ≡ bytes
whole bytes rest read h = sym (append-nil read) ∙ ap (λ l. read ++ l) (sym h.at_end) ∙ sym h.all

many : (bytes rest read : List ℕ) → ReadTooMany (source bytes) (source rest) read → 2 ^ 29 < length bytes
many bytes rest read h =
    let long : length bytes ≡ length read + length rest = ap length h.lost ∙ length-append read rest in
    let more = h.many in
    omega (arith, long, more)

-- ---- what was written

never_short : (out bytes : List ℕ) → FellShort (sink []) (sink out) bytes → ⊥
never_short out bytes short = let rose = short.failed in grind (arith, rose)

says : (out line : List ℕ) → Says (sink []) (sink out) line → out ≡ line
says out line (inl wrote) = wrote.all
says out line (inr short) = absurd (never_short out line short)

untouched : (out : List ℕ) → sink out ≡ sink [] → out ≡ []
untouched out e = let held : ◌≡◌ {A = Option (List ℕ)} (Some out) (Some []) = ap (λ (s : SinkAt). s.held) e in cc

tells : (out : List ℕ) (line : Option (List ℕ)) → Tells (sink []) (sink out) line → out ≡ line_or_none line
tells out None e = untouched out e
tells out (Some line) wrote = wrote.all

never_fails : (told : List ℕ) (line : Option (List ℕ)) → LineFails (sink []) (sink told) line → ⊥
never_fails told None fails = fails
never_fails told (Some line) fails =
    let rose = fails.short.failed in
    let later : fails.between.faults ≤ 0 = elim fails.told [ inl wrote ↦ (let k = wrote.kept in omega (arith, k)) | inr short ↦ short.later ] in
    grind (arith, rose, later)

-- ---- how it ends

module _ (bytes rest out told : List ℕ) where
  abbrev before : Moment
  before = moment (source bytes) (sink []) (sink [])

  abbrev after : Moment
  after = moment (source rest) (sink out) (sink told)

  keeps : (task : Task) → KeepsAsset (word_of task ∷ []) before after Done → KeepsContents (word_of task ∷ []) before after Done → Keeps (command_of task) bytes out
  keeps Pack asset contents =
      let (read, same) = asset _ (command_is Pack) tt refl in
      subst (λ b. Same b out) (whole bytes rest read same.taken) (subst (Same read) (sym same.written.all) same.same)
  keeps Unpack asset contents =
      let (read, kept) = contents (command_is Unpack) refl in
      subst (λ b. KeepsViews b out) (whole bytes rest read kept.read) (subst (KeepsViews read) (sym kept.written.all) kept.kept)
  keeps Analyse asset contents = tt

  faulty : (task : Task) → EndsFaulty (command_of task) before after → EndsWith (command_of task) bytes Refused out told
  faulty task ends =
      let read = takes task before.input after.input ends.bytes ends.taken in
      let all = whole bytes rest ends.bytes read in
      (untouched out ends.untouched, inr (subst (λ b. length b ≤ 2 ^ 29) all read.fits, (ends.refusal, subst (λ b. Refuses (command_of task) b ends.refusal) all ends.first, says told _ ends.told)))

  by_status : (task : Task) (status : Status) → CommandEnds (command_of task) before after status
      → KeepsAsset (word_of task ∷ []) before after status → KeepsContents (word_of task ∷ []) before after status → EndsWith (command_of task) bytes status out told
  by_status task Done ends asset contents =
      let read = takes task before.input after.input ends.bytes ends.taken in
      let all = whole bytes rest ends.bytes read in
      record {
        fits = subst (λ b. length b ≤ 2 ^ 29) all read.fits;
        made = ends.made;
        makes = subst (λ b. Makes (command_of task) b ends.made) all ends.makes;
        output = ends.written.all;
        line = tells told ends.made.line ends.told;
        keeps = keeps task asset contents;
      }
  by_status task Refused (inl large) asset contents = (untouched out large.untouched, inl (many bytes rest large.bytes large.read, says told _ large.told))
  by_status task Refused (inr fault) asset contents = faulty task fault
  by_status task Usage ends asset contents = absurd ends
  by_status task Outside (inl input) asset contents = absurd (let rose = input.failed in grind (arith, rose))
  by_status task Outside (inr (inl output)) asset contents = absurd (never_short out output.made.out output.short)
  by_status task Outside (inr (inr report)) asset contents = absurd (never_fails told report.made.line report.told)
  by_status task Memory ends asset contents = (untouched out ends.untouched, says told _ ends.told)

  by_command : (task : Task) (status : Status) → Ends (word_of task ∷ []) before after status → CommandEnds (command_of task) before after status
  by_command task status ends =
      let P : Option Command → Type 0 = λ o. MatchOption o (NoCommandEnds before after status) (λ asked. CommandEnds asked before after status) in
      subst P (command_is task) ends

-- what the program's call says of a run of these words, into these sinks, which failed so often
abbrev pub Ran : (bytes rest out told : List ℕ) (status : Status) (words : List (List ℕ)) (output report : SinkAt) (output_faults report_faults : ℕ) → Type 0
Ran bytes rest out told status words output report output_faults report_faults =
    let old = moment (source bytes) output report in
    let new = moment (source rest) (record (sink out) { faults = output_faults }) (record (sink told) { faults = report_faults }) in
    Ends words old new status × KeepsAsset words old new status × KeepsContents words old new status

-- where they are the words of the task, and the sinks were empty and didn't fail
pub ends_with : (task : Task) (bytes rest out told : List ℕ) (status : Status) (words : List (List ℕ)) (output report : SinkAt) (output_faults report_faults : ℕ)
    → words ≡ word_of task ∷ [] → output ≡ sink [] → report ≡ sink [] → output_faults ≡ 0 → report_faults ≡ 0
    → Ran bytes rest out told status words output report output_faults report_faults → EndsWith (command_of task) bytes status out told
ends_with task bytes rest out told status words output report output_faults report_faults are o r fo fr ran =
    let R = Ran bytes rest out told status in
    let a = subst (λ w. R w output report output_faults report_faults) are ran in
    let b = subst (λ s. R (word_of task ∷ []) s report output_faults report_faults) o a in
    let c = subst (λ s. R (word_of task ∷ []) (sink []) s output_faults report_faults) r b in
    let d = subst (λ n. R (word_of task ∷ []) (sink []) (sink []) n report_faults) fo c in
    let e = subst (λ n. R (word_of task ∷ []) (sink []) (sink []) 0 n) fr d in
    by_status bytes rest out told task status (by_command bytes rest out told task status e.0) e.1 e.2
