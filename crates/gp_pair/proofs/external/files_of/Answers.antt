use Rattle.std.proofs.Common.{option_map, string_bytes, arith}
use Rattle.gp_pair.proofs.Externals.{none_of, next_pushed, whole}
use Rattle.gp_pair.proofs.external.files_of.Goals as goal

pub returns-in_default : goal.returns-in_default
returns-in_default c = none_of _ _ _ _ c.new.ensures.items c.in_default.ensures

pub buffers-preserved : goal.buffers-preserved
buffers-preserved c =
    next_pushed (λ o. option_map string_bytes o) _ _ c.buffers.files.items c.push.new.self.items c.in_ok-file.file c.buffers.at c.buffers.invariant (omega (arith, c.len-at-end.ensures, c.buffers-test.true))
    c.in_ok-file.ensures c.in_ok-push.ensures.items

pub returns : goal.returns
returns c = whole _ _ _ _ _ c.buffers.at c.in-Some.ensures c.front_of-front.ensures c.buffers.invariant (omega (arith, c.len-at-end.ensures, c.buffers-test.false))
