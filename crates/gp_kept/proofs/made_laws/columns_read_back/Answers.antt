use Rattle.gp_kept.proofs.MadeColumns.{columns_back, parts_long, columns_long, columns_room, columns_bytes}
use Rattle.gp_kept.proofs.made_laws.columns_read_back.Goals as goal

pub returns : goal.returns
returns c = record { elements = columns_back; parts = parts_long; long = columns_long; room = columns_room; bytes = columns_bytes }
