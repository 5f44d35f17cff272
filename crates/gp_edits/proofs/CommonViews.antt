-- What a view has in common with the view that it was.
use Rattle.std.proofs.Common.{◌≡◌, ℕ, List, refl, sym, ap, ◌∙◌}
use Rattle.gp_tree.specs.Plain.{PlainTree}
use Rattle.gp_tree.specs.Sound.{HasDistinctKeys}
use Rattle.gp_tree.specs.TreeEdits.{with_member, without}
use Rattle.gp_edits.specs.Changes.{whole_number, emptied, left_out}
use Rattle.gp_edits.specs.Edits.{extension_name, placed, without_compression}
use Rattle.gp_edits.specs.Common.{common_view}
use Rattle.gp_edits.proofs.Members.{IsOwn, IsApart, names_apart, alter, once, set_other, set_then_removed, removed_set, removed_twice}
use Rattle.gp_edits.proofs.Emptied.{unless_empty, emptied_is, left_out_is, absorbed, value_distinct}
use Rattle.gp_edits.proofs.KeyNames.{extensions_key, buffer_key, offset_key, buffer_is_own, offset_is_own}

abbrev pub unplaced : PlainTree → PlainTree
unplaced v = without offset_key (without buffer_key v)

set_left_out : (key : List ℕ) (value v : PlainTree) → IsApart extensions_key key → IsOwn key
    → left_out extensions_key (without extension_name) (with_member key value v) ≡ with_member key value (left_out extensions_key (without extension_name) v)
set_left_out key value v apart own =
    left_out_is extensions_key (without extension_name) (with_member key value v)
    ∙ set_other extensions_key key (unless_empty (without extension_name)) value apart own v
    ∙ ap (with_member key value) (sym (left_out_is extensions_key (without extension_name) v))

set_unplaced : (buffer offset v : PlainTree) → unplaced (with_member offset_key offset (with_member buffer_key buffer v)) ≡ unplaced v
set_unplaced buffer offset v =
    ap (without offset_key) (removed_set buffer_key offset_key offset (names_apart buffer_key offset_key refl) offset_is_own (with_member buffer_key buffer v))
    ∙ set_then_removed offset_key offset offset_is_own (without buffer_key (with_member buffer_key buffer v))
    ∙ ap (without offset_key) (set_then_removed buffer_key buffer buffer_is_own v)

pub placed_common : (buffer offset : ℕ) (v : PlainTree) → common_view (placed buffer offset v) ≡ common_view v
unfolding placed common_view
placed_common buffer offset v =
    let o = whole_number offset in
    let b = whole_number buffer in
    ap unplaced (
    set_left_out offset_key o (with_member buffer_key b v) (names_apart extensions_key offset_key refl) offset_is_own
    ∙ ap (with_member offset_key o) (set_left_out buffer_key b v (names_apart extensions_key buffer_key refl) buffer_is_own))
    ∙ set_unplaced b o (left_out extensions_key (without extension_name) v)

emptied_left_out : (v : PlainTree) → HasDistinctKeys v
    → left_out extensions_key (without extension_name) (emptied extensions_key (without extension_name) v) ≡ left_out extensions_key (without extension_name) v
emptied_left_out v h =
    left_out_is extensions_key (without extension_name) (emptied extensions_key (without extension_name) v)
    ∙ ap (alter extensions_key (unless_empty (without extension_name))) (emptied_is extensions_key (without extension_name) v)
    ∙ absorbed extensions_key (without extension_name) v (once extensions_key v h) (λ w e. removed_twice extension_name w (once extension_name w (value_distinct extensions_key w v h e)))
    ∙ sym (left_out_is extensions_key (without extension_name) v)

pub uncompressed_common : (v : PlainTree) → HasDistinctKeys v → common_view (without_compression v) ≡ common_view v
unfolding without_compression common_view
uncompressed_common v h = ap unplaced (emptied_left_out v h)
