use Rattle.std.proofs.Common.{◌≡◌, true, false}
use Rattle.gp_pair.proofs.SafeNames.{safe_text}
use Rattle.gp_pair.proofs.names.name_of.Goals as goal

pub unreachable-requires : goal.unreachable-requires
unreachable-requires c =
    let safe = c.is_safe.ensures in
    let ok = c.in-Err.ensures.succeeds (safe_text _ (let e = c.if-not-is_safe.false in cc)) in
    let no : false ≡ true = ok in cc
