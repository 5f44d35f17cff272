use Rattle.std.proofs.Common.{rules, ◌≡◌, ◌≢◌, ◌⊎◌, inl, inr, refl, sym, ap, ◌∙◌, subst, map, string_bytes, ℕ, ◌+◌, ◌<◌, ◌≤◌, length, Bool, true, false, List, Some, None, Ok, Err, get_or}
use Rattle.gp_app.proofs.Stops.{bundle_ends_stopped}
use Rattle.gp_app.proofs.running_in.do_bundle.Goals as goal

pub returns-in-Err-clause-ends : goal.returns-in-Err-clause-ends
returns-in-Err-clause-ends g c input = rw c.refuse.ensures.status (bundle_ends_stopped _ _ _ c.in-Err.refusal (record {
  packs = c.in-Err.ensures.answers;
  files = c.in-Err.ensures.files;
  failed = c.in-Err.ensures.failed;
  kept = c.in-Err.ensures.kept;
  told = c.refuse.ensures.told;
  output = refl;
}))
