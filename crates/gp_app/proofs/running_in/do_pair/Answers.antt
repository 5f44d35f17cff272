use Rattle.std.proofs.Common.{rules, ◌≡◌, ◌≢◌, ◌⊎◌, inl, inr, refl, sym, ap, ◌∙◌, subst, map, string_bytes, ℕ, ◌+◌, ◌<◌, ◌≤◌, length, Bool, true, false, List, Some, None, Ok, Err, get_or}
use Rattle.gp_app.proofs.Stops.{pair_ends_stopped}
use Rattle.gp_app.proofs.Puts.{pair_ends, puts_files, put_fails, put_forgets}
use Rattle.gp_host.specs.Causes.{Rose}
use Rattle.gp_app.specs.Delivered.{TellsDone}
use Rattle.gp_app.proofs.running_in.do_pair.Goals as goal

pub returns-in-Err-clause-ends : goal.returns-in-Err-clause-ends
returns-in-Err-clause-ends g c input output = rw c.refuse.ensures.status (pair_ends_stopped _ _ _ _ c.in-Err.refusal (record {
  packs = c.in-Err.ensures.answers;
  files = c.in-Err.ensures.files;
  failed = c.in-Err.ensures.failed;
  kept = c.in-Err.ensures.kept;
  told = c.refuse.ensures.told;
  output = refl;
}))

pub returns-in-Ok-put_pair-clause-ends : goal.returns-in-Ok-put_pair-clause-ends
returns-in-Ok-put_pair-clause-ends g c input output =
    pair_ends _ _ _ _ c.in-Ok-put_pair.count
    (puts_files _ _ _ _ (g.F.Folder.state c.packed_bundle.new.folder) c.in-Ok.packed.out c.in-Ok.packed.taken c.in-Ok.ensures.answers c.in-Ok.ensures.files _ c.as_slice.ensures _ c.in-Ok-put_pair.ensures.puts refl)
    (c.in-Ok-put_pair.ensures.kept (λ e. cc e) ∙ c.in-Ok.ensures.kept (λ e. cc e))
    c.tell_line.result
    (subst (λ line. TellsDone (Some line) (g.R.Sink.state c.args.report.now) (g.R.Sink.state c.tell_line.new.report) c.tell_line.result)
    (c.as_slice-in-Ok-put_pair.ensures.value ∙ c.done_line.ensures) c.tell_line.ensures)

pub returns-in-Err-Failed-clause-ends : goal.returns-in-Err-Failed-clause-ends
returns-in-Err-Failed-clause-ends g c input output =
    put_fails _ _ _ _ c.in-Err-Failed.field-0 c.in-Err-Failed.field-0-is
    (puts_files _ _ _ _ (g.F.Folder.state c.packed_bundle.new.folder) c.in-Ok.packed.out c.in-Ok.packed.taken c.in-Ok.ensures.answers c.in-Ok.ensures.files _ c.as_slice.ensures _ c.in-Err-Failed.ensures.puts refl)
    (subst (λ n. Rose n (g.F.Folder.state c.put_pair.new.folder).faults) (c.in-Ok.ensures.kept (λ e. cc e)) (c.in-Err-Failed.ensures.failed (ap Err c.in-Err-Failed.field-0-is)))
    c.say.ensures

pub returns-clause-ends : goal.returns-clause-ends
returns-clause-ends g c input output =
    put_forgets _ _ _ _ c.in-Err-Memory.field-0 c.in-Err-Memory.field-0-is
    (puts_files _ _ _ _ (g.F.Folder.state c.packed_bundle.new.folder) c.in-Ok.packed.out c.in-Ok.packed.taken c.in-Ok.ensures.answers c.in-Ok.ensures.files _ c.as_slice.ensures _ c.in-Err-Memory.ensures.puts refl)
    (c.in-Err-Memory.ensures.kept (λ e. let is = c.in-Err-Memory.field-0-is in cc) ∙ c.in-Ok.ensures.kept (λ e. cc e))
    c.say-in-Err-Memory.ensures
