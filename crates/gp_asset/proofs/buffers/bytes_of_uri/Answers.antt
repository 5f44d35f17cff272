use Rattle.std.proofs.Common.{rules, ◌≡◌, Some}
use Rattle.gp_tree.specs.Key.{units}
use Rattle.gp_tree.specs.Values.{ascii_of}
use Rattle.gp_asset.proofs.Held.{decoded}
use Rattle.gp_asset.proofs.buffers.bytes_of_uri.Goals as goal

pub returns-in-Ok : goal.returns-in-Ok
returns-in-Ok c =
    let has : Some c.deref.result.now ≡ ascii_of (units c.args.uri.now) = search rules in
    decoded c.args.at c.deref.result.now c.in-Ok.bytes.items (ascii_of (units c.args.uri.now)) has c.in-Ok.ensures.meaning
