use Rattle.std.proofs.Common.{◌≡◌, [], ◌∷◌, ◌++◌, map, ap, ◌∙◌, arith}
use Rattle.std.proofs.lemmas.Grind.{common_steps}
use Rattle.gp_tree.specs.Plain.{plain}
use Rattle.gp_tree.proofs.Edited.{trees_edit, map_tree_push}
use Rattle.gp_tree.proofs.tree.Trees.append.Goals as goal

pub returns-clause-appended : goal.returns-clause-appended
returns-clause-appended c =
    let t = plain c.args.value in
    let step = trees_edit c.args.self.now c.push.new.self (λ ts. ts ++ t ∷ []) in
    let push = map_tree_push c.args.self.now.items.items c.args.value in
    let pushed : c.push.new.self.items ≡ c.args.self.now.items.items ++ c.args.value ∷ [] = grind (arith, common_steps) in
    let done = step (ap (map plain) pushed ∙ push) in
    grind (arith, common_steps, done)
