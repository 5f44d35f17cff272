use Rattle.gp_pair.proofs.SafeNames.{tested}
use Rattle.gp_pair.proofs.names.is_safe.Goals as goal

pub returns : goal.returns
returns c = tested c.args.name.now _ _ _ _ c.is_empty.ensures c.are_name_bytes.ensures c.starts_with.ensures.value c.leads_out.ensures
