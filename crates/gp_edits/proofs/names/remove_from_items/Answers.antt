use Rattle.std.proofs.Common.{ap, ◌∙◌, not, rules}
use Rattle.std.proofs.lemmas.Fn.{filter_same}
use Rattle.gp_tree.specs.Plain.{plain, plain_trees}
use Rattle.gp_edits.specs.Changes.{is_text_named}
use Rattle.gp_edits.specs.Edits.{extension_name}
use Rattle.gp_edits.proofs.Texts.{kept}
use Rattle.gp_edits.proofs.names.remove_from_items.Goals as goal

pub returns : goal.returns
returns c =
    let filtered = filter_same _ (λ t. not (is_text_named extension_name (plain t))) _ (λ x b f' k. search rules) _ _ c.retain.ensures.filtered in
    c.from_vec-2.ensures ∙ kept (λ item. not (is_text_named extension_name item)) _ _ (plain_trees c.args.items.now) (c.into_vec-kept.ensures ∙ ap plain_trees c.replace.ensures.value) filtered
