use Rattle.gp_storage.proofs.Codable.{codable}
use Rattle.gp_storage.proofs.storing.store_view.Goals as goal

pub encode-requires-clause-numbers : goal.encode-requires-clause-numbers
encode-requires-clause-numbers c = codable c.args.has_image c.args.shared.now c.args.view.now c.args.bytes.now c.choose_coding-coding.result c.choose_coding-coding.ensures.value
