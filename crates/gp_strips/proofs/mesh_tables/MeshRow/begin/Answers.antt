use Rattle.gp_strips.specs.MeshRows.{rows}
use Rattle.gp_strips.proofs.MeshRows.{next_begun, all_begun, one_done}
use Rattle.gp_strips.proofs.mesh_tables.MeshRow.begin.Goals as goal

pub meshes-preserved : goal.meshes-preserved
meshes-preserved c =
    next_begun c.args.mesh c.meshes.at (rows c.meshes.self) (record { meshes = c.push.new.self.items; last = c.replace-last.new.dest.items }) _ c.meshes.invariant c.meshes-test.true
    (one_done (rows c.meshes.self) c.from_vec.result c.replace-last.new.dest.items c.push.new.self.items
    c.in_ok-push.ensures.items
    (cc)
    (cc))

pub returns : goal.returns
returns c = all_begun c.args.mesh c.meshes.at (rows c.meshes.self) _ c.meshes.invariant c.meshes-test.false
