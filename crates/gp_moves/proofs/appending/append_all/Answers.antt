use Rattle.gp_tree.specs.Plain.{plain}
use Rattle.gp_moves.proofs.AppendedItems.{none_appended, one_appended, all_appended}
use Rattle.gp_moves.proofs.appending.append_all.Goals as goal

pub trees-preserved : goal.trees-preserved
trees-preserved g c =
    one_appended (g.M.Makes.trees c.args.makes.now) (plain c.args.tree.now) (plain c.trees.tree) (plain c.append.new.self) (plain c.in_ok-made.made) c.trees.at
    c.trees.invariant c.in_ok-made.ensures c.in_ok-append.ensures.appended

pub returns : goal.returns
returns g c =
    all_appended (g.M.Makes.trees c.args.makes.now) (plain c.args.tree.now) (plain c.trees.tree) c.count-count.result c.trees.at c.trees.invariant c.count-count.ensures c.trees-test.false

pub trees-init : goal.trees-init
trees-init g c = none_appended (g.M.Makes.trees c.args.makes.now) (plain c.args.tree.now)
