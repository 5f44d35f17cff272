use Rattle.std.proofs.Common.{◌+◌, ◌-◌, ◌<◌, ◌≤◌, length, take, arith, length-take}
use Rattle.gp_host.proofs.Turns.{refused_many, refused_memory}
use Rattle.gp_host.proofs.reading.read_all.Goals as goal

pub returns-in-Ok-clause-refused : goal.returns-in-Ok-clause-refused
returns-in-Ok-clause-refused g c =
    let bytes = c.turns.bytes.items in
    let piece = take c.in-Ok.count c.read.new.piece in
    let long = c.in-Ok.ensures.bound.1 in
    let many : c.args.limit - length bytes < length piece = omega (arith, c.if-count-limit.true) in
    let most : length piece ≤ c.args.limit + 1 - length bytes = omega (arith, c.in-Ok.ensures.bound.0, c.min-room.ensures, c.len.ensures, length-take c.min-room.result c.turns.piece) in
    refused_many c.args.limit _ (g.S.Source.state c.turns.source) _ bytes piece c.turns.invariant c.in-Ok.ensures.bytes.0 many most c.read.ensures.turn

pub returns-in-Err-extend_from_slice-clause-refused :
    goal.returns-in-Err-extend_from_slice-clause-refused
returns-in-Err-extend_from_slice-clause-refused g c =
    let bytes = c.turns.bytes.items in
    let piece = take c.in-Ok.count c.read.new.piece in
    let long = c.in-Ok.ensures.bound.1 in
    let few : length piece ≤ c.args.limit - length bytes = omega (arith, c.if-count-limit.false) in
    refused_memory c.args.limit _ (g.S.Source.state c.turns.source) _ bytes piece c.turns.invariant c.in-Ok.ensures.bytes.0 few
