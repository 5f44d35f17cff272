use Rattle.std.specs.Prelude.{List, ◌++◌, map}
use Rattle.std.proofs.Common.{ap, arith}
use Rattle.gp_moving.specs.Triangles.{triples}
use Rattle.gp_compare.specs.Turned.{Corners, least}
use Rattle.gp_compare.proofs.Steps.{turned_more, turned_all}
use Rattle.gp_compare.proofs.triangles.turned_triangles.Goals as goal

pub triangles-init : goal.triangles-init
triangles-init c = ap (λ (done : List Corners). done ++ map least (triples c.args.list.now)) c.in_ok-turned.ensures.items

pub triangles-preserved : goal.triangles-preserved
triangles-preserved c =
    turned_more c.args.list.now c.triangles.at c.triangles.turned.items c.push.new.self.items c.least_rotation.result (omega arith) c.in_ok-push.ensures.items
    c.least_rotation.ensures c.triangles.invariant

pub returns : goal.returns
returns c = turned_all c.args.list.now c.triangles.at c.triangles.turned.items (omega arith) c.triangles.invariant
