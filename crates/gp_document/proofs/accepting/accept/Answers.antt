use Rattle.gp_document.specs.Accepted.{asset_of}
use Rattle.gp_document.proofs.Whole.{is_accepted}
use Rattle.gp_document.proofs.accepting.accept.Goals as goal

pub returns-in-Ok-read_asset-clause-accepted : goal.returns-in-Ok-read_asset-clause-accepted
unfolding asset_of
returns-in-Ok-read_asset-clause-accepted c =
    is_accepted c.args.form c.args.bytes.now (record { document = c.in-Ok.document; asset = c.in-Ok-read_asset.asset }) c.in-Ok.ensures.holds c.in-Ok-read_asset.ensures
