use Rattle.std.proofs.Common.{sym, subst}
use Rattle.gp_storage.specs.Streams.{MayBeCoded}
use Rattle.gp_pack.proofs.making.column_part.Goals as goal

pub store_made-requires-clause-numbers : goal.store_made-requires-clause-numbers
store_made-requires-clause-numbers c = subst (MayBeCoded c.in_ok-contents.contents.items) (sym c.column_coding-coding.ensures.value) tt
