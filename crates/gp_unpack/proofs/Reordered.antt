-- The buffers may as well be set before the names of the extension are taken out.
use Rattle.std.proofs.Common.{◌≡◌, ℕ, List, [], ◌∷◌, map, length, refl, sym, ap, ◌∙◌}
use Rattle.gp_tree.specs.Plain.{PlainTree, list, no_items, item}
use Rattle.gp_tree.specs.TreeEdits.{with_member, without}
use Rattle.gp_layout.specs.Layout.{starts, end}
use Rattle.gp_layout.specs.Row.{buffer_length}
use Rattle.gp_edits.specs.Edits.{sized_buffer, with_one_buffer, without_extension_named, with_plain_views}
use Rattle.gp_edits.specs.ReadingBack.{plain_in_one, plain_in_none}
use Rattle.gp_edits.proofs.Members.{names_apart, alter, gone, removed_is, commute, set_other}
use Rattle.gp_edits.proofs.Emptied.{unless_emptied}
use Rattle.gp_edits.proofs.CommonRoots.{listed, names_out_are}
use Rattle.gp_edits.proofs.KeyNames.{used_key, required_key, buffers_key, buffers_is_own}
use Rattle.gp_unpack.specs.Unpacked.{unpacked_views, unpacked_tree}

set_named : (v t : PlainTree) → with_member buffers_key v (without_extension_named t) ≡ without_extension_named (with_member buffers_key v t)
set_named v t =
    let E = unless_emptied listed in
    sym (
    names_out_are (with_member buffers_key v t)
    ∙ ap (alter required_key E) (set_other used_key buffers_key E v (names_apart used_key buffers_key refl) buffers_is_own t)
    ∙ set_other required_key buffers_key E v (names_apart required_key buffers_key refl) buffers_is_own (alter used_key E t)
    ∙ ap (with_member buffers_key v) (sym (names_out_are t)))

removed_named : (t : PlainTree) → without buffers_key (without_extension_named t) ≡ without_extension_named (without buffers_key t)
removed_named t =
    let E = unless_emptied listed in
    removed_is buffers_key (without_extension_named t)
    ∙ ap (alter buffers_key gone) (names_out_are t)
    ∙ commute buffers_key required_key gone E (names_apart buffers_key required_key refl) (alter used_key E t)
    ∙ ap (alter required_key E) (commute buffers_key used_key gone E (names_apart buffers_key used_key refl) t)
    ∙ ap (λ u. alter required_key E (alter used_key E u)) (sym (removed_is buffers_key t))
    ∙ sym (names_out_are (without buffers_key t))

-- without a view, and with views
pub none_as : (t : PlainTree) → unpacked_tree [] t ≡ plain_in_none [] t
unfolding unpacked_tree unpacked_views buffer_length
none_as t = removed_named (with_plain_views [] t)

pub some_as : (bytes : List ℕ) (others : List (List ℕ)) (t : PlainTree)
    → unpacked_tree (bytes ∷ others) t ≡ plain_in_one (end (map length (bytes ∷ others))) (starts (map length (bytes ∷ others))) t
unfolding unpacked_tree unpacked_views buffer_length with_one_buffer
some_as bytes others t =
    let lengths = map length (bytes ∷ others) in
    set_named (list (item (sized_buffer (end lengths)) no_items)) (with_plain_views (starts lengths) t)
