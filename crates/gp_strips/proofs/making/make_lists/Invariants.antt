use Rattle.gp_elements.specs.Held.{contents_of}
use Rattle.gp_strips.specs.Making.{IsBegun}
use Rattle.gp_strips.proofs.making.make_lists.Given as goal

abbrev pub invariant-primitives : goal.invariant-primitives
invariant-primitives g l = IsBegun l.asset (contents_of (g.V.ViewBytes.views l.views)) l.before l.row l.meshes l.at
