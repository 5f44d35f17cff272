use Rattle.gp_unpack.proofs.Shapes.{assets_have_shapes}
use Rattle.gp_unpack.proofs.tests.contents_with.Goals as goal

pub decode_views-requires : goal.decode_views-requires
decode_views-requires c = assets_have_shapes _ _ _ c.in-Ok-read_asset.asset c.in-Ok-read_asset.ensures
