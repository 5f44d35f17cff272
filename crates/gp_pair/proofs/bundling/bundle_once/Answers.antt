use Rattle.gp_pair.proofs.Takes.{asks_then}
use Rattle.gp_pair.proofs.Steps.{as_before, taken_on}
use Rattle.gp_pair.proofs.bundling.bundle_once.Goals as goal

pub bundle_bytes-requires : goal.bundle_bytes-requires
bundle_bytes-requires g c = taken_on _ _ _ c.in-Ok.bytes _ c.in-Ok.ensures.asks.files c.as_slice.ensures c.in-Ok.ensures.answers

pub returns-in-Ok-clause-answers : goal.returns-in-Ok-clause-answers
returns-in-Ok-clause-answers g c = as_before _ _ _ _ c.in-Ok.ensures.asks.files c.bundle_bytes.ensures.answers

pub returns-in-Ok-clause-asks : goal.returns-in-Ok-clause-asks
returns-in-Ok-clause-asks g c = asks_then _ _ _ c.in-Ok.bytes _ c.in-Ok.ensures.asks c.bundle_bytes.ensures.asks
