use Rattle.std.proofs.Common.{[], ◌∷◌, sym, ap, ◌∙◌}
use Rattle.gp_tree.specs.Plain.{plain}
use Rattle.gp_tree.specs.TreeEdits.{at_member, and_items}
use Rattle.gp_tree.proofs.Inner.{value_written, value_kept}
use Rattle.gp_edits.proofs.ViewsIn.{on_ok, on_err}
use Rattle.gp_edits.proofs.names.append_in.Goals as goal

pub returns : goal.returns
returns c =
    let change = and_items (plain c.args.value ∷ []) in
    let w = c.append.new.self in
    let v = c.members_mut.result.now in
    let x = plain c.find_mut.result.now in
    record {
      appended = on_ok c.append.result c.append.ensures.appended (λ appended.
          value_written v c.args.key.now w x change c.find_mut.ensures.value appended (c.find_mut.ensures.puts w)
          ∙ sym (ap (λ t. at_member c.args.key.now change (plain t)) c.members_mut.ensures.value));
      stays = on_err c.append.result c.append.ensures.stays (λ kept.
          value_kept v c.args.key.now w x c.find_mut.ensures.value kept (c.find_mut.ensures.puts w) ∙ sym (ap plain c.members_mut.ensures.value));
    }
