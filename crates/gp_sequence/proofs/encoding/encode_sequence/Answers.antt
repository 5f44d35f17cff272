use Rattle.std.proofs.Common.{◌≡◌, arith, ◌∙◌}
use Rattle.gp_groups.specs.Varint.{spelled}
use Rattle.gp_groups.specs.WrittenSequence.{encoded_sequence}
use Rattle.gp_sequence.proofs.Writing.{wide_back, narrow_back, next_written, last_written}
use Rattle.gp_sequence.proofs.encoding.encode_sequence.Goals as goal

pub indices-preserved : goal.indices-preserved
indices-preserved c = record {
  so_far = rw c.in_ok-append_varint.ensures.appended (next_written c.args.indices.now _ c.indices.bytes.items (spelled c.next_value-value.result) c.indices.k c.indices.baselines.number c.indices.baselines.used c.indices.baselines.other c.next_value-value.new.self.number c.next_value-value.new.self.used c.next_value-value.new.self.other c.indices-test.true c.indices.invariant.so_far c.next_value-value.ensures.value);
  number = c.next_value-value.ensures.number;
  used = c.next_value-value.ensures.used;
  other = c.next_value-value.ensures.other;
}

pub returns : goal.returns
returns c =
    let list = c.args.indices.now in
    let written : c.extend_from_slice.new.self.items ≡ encoded_sequence list = c.in_ok-extend_from_slice.ensures.items ∙ last_written list c.indices.bytes.items c.indices.k c.indices.baselines.number c.indices.baselines.used c.indices.baselines.other (omega arith) c.indices.invariant.so_far in
    record {
      written = written;
      read_back = rw written (wide_back list c.requires);
      read_back_narrow = λ fits. rw written (narrow_back list c.requires fits);
    }
