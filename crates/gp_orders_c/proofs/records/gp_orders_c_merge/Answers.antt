use Rattle.std.proofs.Common.{length, sym, ap, ◌∙◌}
use Rattle.std.specs.List.{position_or_len}
use Rattle.std.specs.Str.{bytes_eq}
use Rattle.std.proofs.lemmas.List.{length-map}
use Rattle.gp_merge.specs.Records.{records, distinct}
use Rattle.gp_merge.proofs.Cuts.{length-records}
use Rattle.gp_orders_c.proofs.records.gp_orders_c_merge.Goals as goal

-- there is a place for each record
pub copy_from_slice-requires : goal.copy_from_slice-requires
copy_from_slice-requires c =
    let all = records c.args.size c.args.bytes.now in
    let shape = c.has_shape.ensures.told.0 c.if-not-has_shape.false in
    sym shape.3 ∙ sym (length-records c.args.size c.args.bytes.now) ∙ sym (length-map all (λ r. position_or_len (bytes_eq r) (distinct all))) ∙ sym (ap length (c.as_slice.ensures ∙ c.in-Ok.ensures.places))
