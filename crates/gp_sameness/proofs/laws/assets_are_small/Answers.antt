use Rattle.gp_sameness.proofs.AnySize.{assets_are_of_any_size, small_ones_are_assets}
use Rattle.gp_sameness.proofs.laws.assets_are_small.Goals as goal

pub returns : goal.returns
returns c = record { there = assets_are_of_any_size; back = small_ones_are_assets }
