use Rattle.std.proofs.Common.{◌∙◌}
use Rattle.gp_storage.proofs.Fronts.{encoded_attributes-front}
use Rattle.gp_storage.proofs.encoding.attribute_stream.Goals as goal

pub returns : goal.returns
returns c = c.from_vec.ensures ∙ c.in_ok-stream.ensures.value ∙ encoded_attributes-front c.args.bytes.now _ c.args.stride
