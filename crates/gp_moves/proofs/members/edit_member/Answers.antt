use Rattle.std.proofs.Common.{Some, None, sym, ◌≡◌, Option, ◌∙◌}
use Rattle.gp_tree.specs.Plain.{plain, PlainTree}
use Rattle.gp_edits.proofs.Empties.{none_found}
use Rattle.gp_edits.proofs.ViewsIn.{member_stays}
use Rattle.gp_moves.proofs.members.edit_member.Goals as goal

pub returns-then-is_none : goal.returns-then-is_none
returns-then-is_none g c =
    let none = none_found _ c.find.result _ c.is_none.result c.find.ensures c.is_none.ensures c.if-is_none.true in
    sym (member_stays c.args.key.now (g.E.TreeEdit.change c.args.edit.now) (plain c.args.tree.now) (λ x found. absurd (let e : ◌≡◌ {A = Option PlainTree} None (Some x) = sym none ∙ found in cc)))
