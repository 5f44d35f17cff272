use Rattle.std.proofs.Common.{◌≡◌, rules, true, codes, ◌∙◌}
use Rattle.gp_tree.specs.declared.tree.Tree.{Truth, the_lemmas}
use Rattle.gp_tree.specs.Plain.{plain, truth, members, no_members}
use Rattle.gp_edits.specs.Edits.{extension_name, sized_buffer}
use Rattle.gp_edits.proofs.MadeValues.{one_more, fallback_made}
use Rattle.gp_edits.proofs.buffers.fallback_buffer.Goals as goal

pub returns : goal.returns
returns c =
    let seen : plain (Truth true) ≡ truth true = search (rules, the_lemmas) in
    let mark = one_more (codes "fallback") (plain c.set.new.self) _ (members no_members) (plain (Truth true)) (truth true) c.in_ok-set.ensures.set seen c.object-mark.ensures in
    let extensions = one_more extension_name (plain c.set-2.new.self) _ (members no_members) _ _ c.in_ok-set-2.ensures.set mark c.object-extensions.ensures in
    one_more (codes "extensions") (plain c.set-3.new.self) _ (sized_buffer c.args.length) _ _ c.in_ok-set-3.ensures.set extensions c.in_ok-buffer.ensures
    ∙ fallback_made c.args.length
