use Rattle.std.proofs.Common.{codes, sym, ap, ◌∙◌}
use Rattle.gp_tree.specs.Plain.{plain}
use Rattle.gp_tree.specs.TreeEdits.{at_member, with_member}
use Rattle.gp_tree.proofs.Inner.{value_written, value_kept}
use Rattle.gp_edits.specs.Edits.{extension_name}
use Rattle.gp_edits.proofs.ViewsIn.{on_ok, on_err}
use Rattle.gp_edits.proofs.compression.set_extension.Goals as goal

pub returns : goal.returns
returns c =
    let change = with_member extension_name (plain c.args.object) in
    let w = c.set.new.self in
    let v = c.members_mut.result.now in
    let x = plain c.find_mut.result.now in
    record {
      set = on_ok c.set.result c.set.ensures.set (λ is_set.
          value_written v (codes "extensions") w x change c.find_mut.ensures.value is_set (c.find_mut.ensures.puts w)
          ∙ sym (ap (λ t. at_member (codes "extensions") change (plain t)) c.members_mut.ensures.value));
      stays = on_err c.set.result c.set.ensures.stays (λ kept.
          value_kept v (codes "extensions") w x c.find_mut.ensures.value kept (c.find_mut.ensures.puts w) ∙ sym (ap plain c.members_mut.ensures.value));
    }
