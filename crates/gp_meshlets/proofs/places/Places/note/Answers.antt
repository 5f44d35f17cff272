use Rattle.std.proofs.Common.{subst, sym, ap, ◌≤◌, ◌%◌, slice_set}
use Rattle.gp_meshlets.proofs.FewBits.{noted_finds}
use Rattle.gp_meshlets.proofs.places.Places.note.Goals as goal

pub returns : goal.returns
returns c vertices long new finds = noted_finds c.args.self.now _ vertices c.args.vertex (ap (λ n. slice_set c.args.self.now.table (c.args.vertex % 512) n) (sym long)) (subst (λ n. n ≤ 66) (sym long) c.requires) new finds
