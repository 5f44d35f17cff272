use Rattle.gp_unpack.proofs.Finishing.{no_bin, some_bin}
use Rattle.gp_strips.proofs.files.bin_of.Goals as goal

pub returns-then-views-eq0 : goal.returns-then-views-eq0
returns-then-views-eq0 c contents count laid = no_bin contents c.args.views count c.if-views-eq0.true

pub returns : goal.returns
returns c contents count laid = some_bin contents c.args.views c.args.buffer.now count c.if-views-eq0.false laid
