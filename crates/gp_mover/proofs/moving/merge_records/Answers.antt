use Rattle.std.proofs.Common.{◌≡◌, ◌*◌, ◌≤◌, length, ap, ◌∙◌, arith}
use Rattle.gp_merge.specs.Records.{records, distinct}
use Rattle.gp_mover.proofs.Steps.{merged_fits}
use Rattle.gp_mover.proofs.moving.merge_records.Goals as goal

pub overflow_mul-remap : goal.overflow_mul-remap
overflow_mul-remap c =
    let fits = merged_fits c.args.size c.in_ok-remap.remap.count c.args.bytes.now.items (c.in_ok-remap.ensures.count ∙ ap (λ bytes. length (distinct (records c.args.size bytes))) c.deref.ensures.value) in
    omega (arith, fits, c.args.bytes.now.ok, c.args.bytes.now.small)
