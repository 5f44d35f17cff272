-- From how a run ends to the headline of packing, to what unpacking keeps, and to the texts that are written.
use Rattle.std.proofs.Common.{◌≡◌, ◌≢◌, ◌⊎◌, inl, inr, ℕ, ◌+◌, ◌<◌, ◌≤◌, ◌^◌, List, ◌++◌, length, None, Some, Option, MatchOption, refl, sym, ap, ◌∙◌, subst, arith, append-nil, length-append}
use Rattle.std.specs.Io.KnownBytes.{Consumes, IsAtEnd}
use Rattle.gp_host.specs.Causes.{Rose}
use Rattle.gp_host.specs.Sink.{SinkAt}
use Rattle.gp_host.specs.Source.{SourceAt}
use Rattle.gp_document.specs.Faults.{HasFault}
use Rattle.gp_packed.specs.Packed.{packing}
use Rattle.gp_sameness.specs.Same.{Same}
use Rattle.gp_kept.proofs.Sameness.{packed_is_same}
use Rattle.gp_unpack.specs.Kept.{KeepsViews}
use Rattle.gp_unpack.proofs.Keeping.{unpacked_keeps_views}
use Rattle.gp_asset.specs.declared.refusal.Refusal.{Refusal}
use Rattle.gp_app.specs.Words.{command}
use Rattle.gp_app.specs.Lines.{too_large_line, line_of_refusal}
use Rattle.gp_app.specs.Input.{ReadToEnd}
use Rattle.gp_app.specs.Moment.{Moment, IsSteady, NoneRose}
use Rattle.gp_app.specs.Written.{WroteAll, Says}
use Rattle.gp_sample.proofs.Lengths.{sample_fits}
use Rattle.gp_app.specs.Work.{HasSize, IsReading, Takes, HasInput, Made, Makes, MakesText, Refuses}
use Rattle.gp_app.specs.Delivered.{Tells, LineFails}
use Rattle.gp_app.specs.Ends.{Ends, CommandEnds, NoCommandEnds, EndsDone, EndsTooLarge, EndsFaulty}
use Rattle.gp_app.specs.Headline.{IsPacking, ReportsFault, WritesSame, KeepsAsset, Headline, KeepsContents, IsTextOf, IsTelling, WritesText, TellsText}
use Rattle.gp_app.proofs.Sizes.{has_size}
use Rattle.gp_app.specs.declared.commands.Command.{Command}
use Rattle.gp_app.specs.declared.commands.Command.TheVariants.{Pack, Unpack, Analyse, Sample, Lists, Meshlets}
use Rattle.gp_app.specs.declared.status.Status.{Status}
use Rattle.gp_app.specs.declared.status.Status.TheVariants.{Done, Refused, Usage, Outside, Memory}

-- what was read to the end is all that was left
taken : (left now : Option (List ℕ)) (bytes all : List ℕ) → Consumes left now bytes → IsAtEnd now → left ≡ Some all → bytes ≡ all
taken None now bytes all lost end told = absurd (let e : ◌≡◌ {A = Option (List ℕ)} None (Some all) = told in cc)
taken (Some xs) None bytes all lost end told = absurd lost
taken (Some xs) (Some ys) bytes all lost end told =
    let same : xs ≡ all = cc in
    sym (append-nil bytes) ∙ ap (λ l. bytes ++ l) (sym end) ∙ sym lost ∙ same

-- what was taken is the input of the command
the_input : (asked : Command) (before after : SourceAt) (bytes all : List ℕ) → Takes asked before after bytes → HasInput asked before.left all → bytes ≡ all
the_input Pack before after bytes all read told = taken before.left after.left bytes all read.all read.at_end told
the_input Unpack before after bytes all read told = taken before.left after.left bytes all read.all read.at_end told
the_input Analyse before after bytes all read told = taken before.left after.left bytes all read.all read.at_end told
the_input Lists before after bytes all read told = taken before.left after.left bytes all read.all read.at_end told
the_input Meshlets before after bytes all read told = taken before.left after.left bytes all read.all read.at_end told
the_input (Sample n) before after bytes all (unread, is) told = is ∙ sym told

-- and it is within the limit
within : (asked : Command) (before after : SourceAt) (bytes : List ℕ) → HasSize asked → Takes asked before after bytes → length bytes ≤ 2 ^ 29
within Pack before after bytes size read = read.fits
within Unpack before after bytes size read = read.fits
within Analyse before after bytes size read = read.fits
within Lists before after bytes size read = read.fits
within Meshlets before after bytes size read = read.fits
within (Sample n) before after bytes size (unread, is) = subst (λ b. length b ≤ 2 ^ 29) (sym is) (sample_fits n size.1)

-- more than the limit was left where more than it was taken
too_many : (left now : Option (List ℕ)) (bytes all : List ℕ) → Consumes left now bytes → 2 ^ 29 < length bytes → left ≡ Some all → 2 ^ 29 < length all
too_many None now bytes all lost many told = absurd (let e : ◌≡◌ {A = Option (List ℕ)} None (Some all) = told in cc)
too_many (Some xs) None bytes all lost many told = absurd lost
too_many (Some xs) (Some ys) bytes all lost many told =
    let same : xs ≡ all = cc in
    let long : length all ≡ length bytes + length ys = ap length (sym same ∙ lost) ∙ length-append bytes ys in
    omega (arith, long, many)

pub not_rose : (before now : ℕ) → IsSteady before now → Rose before now → ⊥
not_rose before now steady rose = grind (arith, steady.same, steady.below, rose)

says_all : (before after : SinkAt) (line : List ℕ) → IsSteady before.faults after.faults → Says before after line → WroteAll before after line
says_all before after line steady (inl wrote) = wrote
says_all before after line steady (inr short) = absurd (not_rose before.faults after.faults steady short.failed)

pub no_line_fails : (before after : SinkAt) (line : Option (List ℕ)) → IsSteady before.faults after.faults → LineFails before after line → ⊥
no_line_fails before after None steady fails = fails
no_line_fails before after (Some line) steady fails =
    let later : fails.between.faults ≤ after.faults = elim fails.told [ inl wrote ↦ (let k = wrote.kept in omega (arith, k)) | inr short ↦ short.later ] in
    let rose = fails.short.failed in
    grind (arith, steady.same, steady.below, later, rose)

-- the written bytes are the same asset
same_made : (asked : Command) (bytes : List ℕ) (made : Made) → IsPacking asked → Makes asked bytes made → Same bytes made.out
unfolding Makes
same_made Pack bytes made packs (packed, small, is, e) = subst (Same bytes) (sym (ap (λ (m : Made). m.out) e)) (packed_is_same bytes packed small is)
same_made Unpack bytes made packs makes = absurd packs
same_made Analyse bytes made packs makes = absurd packs
same_made Lists bytes made packs makes = absurd packs
same_made Meshlets bytes made packs makes = absurd packs
same_made (Sample n) bytes made packs (packed, small, is, e) = subst (Same bytes) (sym (ap (λ (m : Made). m.out) e)) (packed_is_same bytes packed small is)

done_same : (asked : Command) (before after : Moment) → IsPacking asked → (done : EndsDone asked before after) → WritesSame asked done.bytes before after
done_same asked before after packs done = record {
  taken = done.taken;
  glb = done.made.out;
  written = done.written;
  same = same_made asked done.bytes done.made packs done.makes;
}

-- how the command of these words ends
ends_as : (words : List (List ℕ)) (asked : Command) (before after : Moment) (status : Status) → command words ≡ Some asked → Ends words before after status → CommandEnds asked before after status
ends_as words asked before after status is ends =
    let P : Option Command → Type 0 = λ o. MatchOption o (NoCommandEnds before after status) (λ asked. CommandEnds asked before after status) in
    subst P is ends

pub keeps_asset : (words : List (List ℕ)) (before after : Moment) (status : Status) → Ends words before after status → KeepsAsset words before after status
keeps_asset words before after status ends asked is packs done =
    let own = subst (CommandEnds asked before after) done (ends_as words asked before after status is ends) in
    (own.bytes, done_same asked before after packs own)

-- ---- unpacking

kept_made : (bytes : List ℕ) (made : Made) → Makes Unpack bytes made → KeepsViews bytes made.out
unfolding Makes
kept_made bytes made (out, small, is, e) = subst (KeepsViews bytes) (sym (ap (λ (m : Made). m.out) e)) (unpacked_keeps_views bytes out is)

pub keeps_contents : (words : List (List ℕ)) (before after : Moment) (status : Status) → Ends words before after status → KeepsContents words before after status
keeps_contents words before after status ends is done =
    let own = subst (CommandEnds Unpack before after) done (ends_as words Unpack before after status is ends) in
    (own.bytes, record { read = own.taken; glb = own.made.out; written = own.written; kept = kept_made own.bytes own.made own.makes })

-- ---- texts

-- the text of a command that writes one, and no line
text_made : (asked : Command) (bytes : List ℕ) (made : Made) → IsTelling asked → Makes asked bytes made → MakesText (IsTextOf asked) bytes made
unfolding Makes
text_made Analyse bytes made tells makes = makes
text_made Meshlets bytes made tells makes = makes
text_made Pack bytes made tells makes = absurd tells
text_made Unpack bytes made tells makes = absurd tells
text_made Lists bytes made tells makes = absurd tells
text_made (Sample n) bytes made tells makes = absurd tells

-- such a command reads its source
read_whole : (asked : Command) (before after : SourceAt) (bytes : List ℕ) → IsTelling asked → Takes asked before after bytes → ReadToEnd before after bytes
read_whole Analyse before after bytes tells read = read
read_whole Meshlets before after bytes tells read = read
read_whole Pack before after bytes tells read = absurd tells
read_whole Unpack before after bytes tells read = absurd tells
read_whole Lists before after bytes tells read = absurd tells
read_whole (Sample n) before after bytes tells read = absurd tells

done_text : (asked : Command) (before after : Moment) → IsTelling asked → (done : EndsDone asked before after) → MakesText (IsTextOf asked) done.bytes done.made
    → WritesText asked done.bytes before after
done_text asked before after tells done (text, is, e) = record {
  read = read_whole asked before.input after.input done.bytes tells done.taken;
  text = text;
  is_text = is;
  written = subst (WroteAll before.output after.output) (ap (λ (m : Made). m.out) e) done.written;
  silent = subst (Tells before.report after.report) (ap (λ (m : Made). m.line) e) done.told;
}

pub tells_text : (words : List (List ℕ)) (before after : Moment) (status : Status) → Ends words before after status → TellsText words before after status
tells_text words before after status ends asked is tells done =
    let own = subst (CommandEnds asked before after) done (ends_as words asked before after status is ends) in
    (own.bytes, done_text asked before after tells own (text_made asked own.bytes own.made tells own.makes))

-- ---- the headline

told_left : (asked : Command) (left : Option (List ℕ)) (bytes : List ℕ) → IsReading asked → HasInput asked left bytes → left ≡ Some bytes
told_left Pack left bytes reads told = told
told_left Unpack left bytes reads told = told
told_left Analyse left bytes reads told = told
told_left Lists left bytes reads told = told
told_left Meshlets left bytes reads told = told
told_left (Sample n) left bytes reads told = absurd reads

reports_large : (asked : Command) (bytes : List ℕ) (before after : Moment) → HasInput asked before.input.left bytes → NoneRose before after → EndsTooLarge asked before after → ReportsFault bytes before after Refused
reports_large asked bytes before after told steady ends = record {
  refused = refl;
  line = too_large_line;
  fault = inl (too_many before.input.left after.input.left ends.bytes bytes ends.read.lost ends.read.many (told_left asked before.input.left bytes ends.reads told), refl);
  told = says_all before.report after.report too_large_line steady.report ends.told;
  untouched = ends.untouched;
}

has_fault : (asked : Command) (bytes : List ℕ) (refusal : Refusal) → IsPacking asked → Refuses asked bytes refusal → HasFault packing bytes refusal
unfolding Refuses
has_fault Pack bytes refusal packs h = h
has_fault Unpack bytes refusal packs h = absurd packs
has_fault Analyse bytes refusal packs h = absurd packs
has_fault Lists bytes refusal packs h = absurd packs
has_fault Meshlets bytes refusal packs h = absurd packs
has_fault (Sample n) bytes refusal packs h = h

module _ (asked : Command) (bytes : List ℕ) (before after : Moment) (size : HasSize asked) (packs : IsPacking asked) (told : HasInput asked before.input.left bytes) (steady : NoneRose before after) where
  reports_fault : EndsFaulty asked before after → ReportsFault bytes before after Refused
  reports_fault ends =
      let all = the_input asked before.input after.input ends.bytes bytes ends.taken told in
      record {
        refused = refl;
        line = line_of_refusal ends.refusal;
        fault = inr (
          subst (λ b. length b ≤ 2 ^ 29) all (within asked before.input after.input ends.bytes size ends.taken),
          (ends.refusal, subst (λ b. HasFault packing b ends.refusal) all (has_fault asked ends.bytes ends.refusal packs ends.first), refl),
        );
        told = says_all before.report after.report (line_of_refusal ends.refusal) steady.report ends.told;
        untouched = ends.untouched;
      }

  by_status : (status : Status) → status ≢ Memory → CommandEnds asked before after status → ReportsFault bytes before after status ⊎ ((status ≡ Done) × WritesSame asked bytes before after)
  by_status Done memory ends =
      let all = the_input asked before.input after.input ends.bytes bytes ends.taken told in
      inr (refl, subst (λ b. WritesSame asked b before after) all (done_same asked before after packs ends))
  by_status Refused memory (inl large) = inl (reports_large asked bytes before after told steady large)
  by_status Refused memory (inr fault) = inl (reports_fault fault)
  by_status Usage memory ends = absurd ends
  by_status Outside memory (inl input) = absurd (not_rose before.input.faults after.input.faults steady.input input.failed)
  by_status Outside memory (inr (inl output)) = absurd (not_rose before.output.faults after.output.faults steady.output output.short.failed)
  by_status Outside memory (inr (inr report)) = absurd (no_line_fails before.report after.report report.made.line steady.report report.told)
  by_status Memory memory ends = absurd (memory refl)

pub headline : (words : List (List ℕ)) (before after : Moment) (status : Status) → Ends words before after status → Headline words before after status
headline words before after status ends asked bytes is packs told steady memory =
    by_status asked bytes before after (has_size words asked is) packs told steady status memory (ends_as words asked before after status is ends)
