-- What an asset has in common with the one that it was, where a view is compressed, a second buffer is there or the extension is named.
use Rattle.std.proofs.Common.{◌≡◌, ℕ, not, List, [], ◌∷◌, ◌++◌, filter, refl, sym, ap, ◌∙◌}
use Rattle.gp_tree.specs.Plain.{PlainTree, null, truth, number, text, list, members, no_items, item, no_members, trees_of}
use Rattle.gp_tree.specs.Sound.{HasDistinctKeys}
use Rattle.gp_tree.specs.Find.{item_list}
use Rattle.gp_tree.specs.TreeEdits.{with_member, without, at_member}
use Rattle.gp_tree.proofs.Edited.{items_of}
use Rattle.gp_edits.specs.Changes.{whole_number, is_text_named, without_text}
use Rattle.gp_edits.specs.Edits.{extension_name, placed, sized_buffer, fallback_buffer, compression_object, compressed, with_two_buffers, with_extension_named}
use Rattle.gp_edits.specs.Common.{common_view, common_names, common}
use Rattle.gp_edits.specs.declared.compression.Compression.{Compression}
use Rattle.gp_edits.proofs.Members.{IsOwn, IsApart, HasOnce, names_apart, alter, gone, made, once, once_kept, once_set, set_then_removed}
use Rattle.gp_edits.proofs.Emptied.{unless_empty, left_out_is}
use Rattle.gp_edits.proofs.Defaults.{with_default, default_other, once_default, default_absorbed}
use Rattle.gp_edits.proofs.Compressions.{given, compressed_is, and_name}
use Rattle.gp_edits.proofs.CommonViews.{unplaced, placed_common}
use Rattle.gp_edits.proofs.CommonRoots.{shared_views, others, names_are, others_are, once_others}
use Rattle.gp_edits.proofs.KeyNames.{extensions_key, used_key, required_key, buffers_key, views_key, buffer_key, offset_key, extensions_is_own, used_is_own, required_is_own, buffers_is_own, buffer_is_own, offset_is_own, name_is_own}

-- ---- a view

pub once_compressed_common : (c : Compression) (v : PlainTree) → HasOnce extensions_key v → common_view (compressed c v) ≡ common_view v
unfolding common_view
once_compressed_common c v one =
    let f = without extension_name in
    ap unplaced (
    left_out_is extensions_key f (compressed c v)
    ∙ ap (alter extensions_key (unless_empty f)) (compressed_is c v)
    ∙ default_absorbed extensions_key f (given (compression_object c)) (members no_members) v extensions_is_own one
    (λ w. set_then_removed extension_name (compression_object c) name_is_own w) refl
    ∙ sym (left_out_is extensions_key f v))

pub compressed_common : (c : Compression) (v : PlainTree) → HasDistinctKeys v → common_view (compressed c v) ≡ common_view v
compressed_common c v h = once_compressed_common c v (once extensions_key v h)

once_placed : (buffer offset : ℕ) (v : PlainTree) → HasOnce extensions_key v → HasOnce extensions_key (placed buffer offset v)
unfolding placed
once_placed buffer offset v one =
    once_set extensions_key offset_key (whole_number offset) (with_member buffer_key (whole_number buffer) v) (names_apart extensions_key offset_key refl) offset_is_own
    (once_set extensions_key buffer_key (whole_number buffer) v (names_apart extensions_key buffer_key refl) buffer_is_own one)

-- where it was placed before
pub placed_compressed_common : (c : Compression) (buffer offset : ℕ) (v : PlainTree) → HasDistinctKeys v → common_view (compressed c (placed buffer offset v)) ≡ common_view v
placed_compressed_common c buffer offset v h =
    once_compressed_common c (placed buffer offset v) (once_placed buffer offset v (once extensions_key v h)) ∙ placed_common buffer offset v

-- ---- the buffers

abbrev pub two_buffers : ℕ → ℕ → PlainTree
two_buffers length fallback = list (item (sized_buffer length) (item (fallback_buffer fallback) no_items))

pub two_buffers_common : (length fallback : ℕ) (t : PlainTree) → common (with_two_buffers length fallback t) ≡ common t
unfolding common with_two_buffers
two_buffers_common length fallback t =
    ap (λ u. common_names (at_member views_key shared_views u)) (set_then_removed buffers_key (two_buffers length fallback) buffers_is_own t)

pub once_two_buffers : (key : List ℕ) (length fallback : ℕ) (t : PlainTree) → IsApart key buffers_key → HasOnce key t
    → HasOnce key (with_two_buffers length fallback t)
unfolding with_two_buffers
once_two_buffers key length fallback t apart one = once_set key buffers_key (two_buffers length fallback) t apart buffers_is_own one

-- ---- the names

name_filtered : (ts : List PlainTree) → filter (λ item. not (is_text_named extension_name item)) (ts ++ text extension_name ∷ []) ≡ filter (λ item. not (is_text_named extension_name item)) ts
name_filtered [] = rw name_is_own refl
name_filtered (t ∷ ts) = rw (name_filtered ts) refl

-- the name that was put behind the others is taken out with them
pub name_undone : (t : PlainTree) → without_text extension_name (and_name t) ≡ without_text extension_name t
name_undone null = refl
name_undone (truth b) = refl
name_undone (number s) = refl
name_undone (text s) = refl
name_undone (members ms) = refl
name_undone (list ts) =
    ap (λ us. list (trees_of (filter (λ item. not (is_text_named extension_name item)) us))) (items_of (item_list ts ++ text extension_name ∷ []))
    ∙ ap (λ us. list (trees_of us)) (name_filtered (item_list ts))

abbrev pub with_name : List ℕ → PlainTree → PlainTree
with_name key t = with_default key and_name (list no_items) t

pub named_is : (t : PlainTree) → with_extension_named t ≡ with_name required_key (with_name used_key t)
unfolding with_extension_named
named_is t = refl

pub once_named : (key other : List ℕ) (t : PlainTree) → IsApart key other → IsOwn other → HasOnce key t → HasOnce key (with_name other t)
once_named key other t apart own one = once_default key other and_name (list no_items) t apart own one

abbrev listed_text : PlainTree → PlainTree
listed_text t = without_text extension_name t

name_absorbed : (key : List ℕ) (t : PlainTree) → IsOwn key → HasOnce key t → alter key (unless_empty listed_text) (with_name key t) ≡ alter key (unless_empty listed_text) t
name_absorbed key t own one = default_absorbed key listed_text and_name (list no_items) t own one name_undone refl

-- both lists, without the name
names_added_common : (t : PlainTree) → HasOnce used_key t → HasOnce required_key t → common_names (with_name required_key (with_name used_key t)) ≡ common_names t
names_added_common t used required =
    let L = unless_empty listed_text in
    let once_required : HasOnce required_key (alter used_key L (with_name used_key t)) =
    (let apart = names_apart required_key used_key refl in once_kept required_key used_key L (with_name used_key t) apart (once_named required_key used_key t apart used_is_own required)) in
    names_are (with_name required_key (with_name used_key t))
    ∙ ap (alter required_key L) (default_other used_key required_key L and_name (list no_items) (names_apart used_key required_key refl) required_is_own (with_name used_key t))
    ∙ name_absorbed required_key (alter used_key L (with_name used_key t)) required_is_own once_required
    ∙ ap (alter required_key L) (name_absorbed used_key t used_is_own used)
    ∙ sym (names_are t)

others_name : (key : List ℕ) (t : PlainTree) → IsApart views_key key → IsApart buffers_key key → IsOwn key → others (with_name key t) ≡ with_name key (others t)
others_name key t a b own =
    let M = made shared_views in
    others_are (with_name key t)
    ∙ ap (alter views_key M) (default_other buffers_key key gone and_name (list no_items) b own t)
    ∙ default_other views_key key M and_name (list no_items) a own (alter buffers_key gone t)
    ∙ ap (with_name key) (sym (others_are t))

pub added_names_common : (t : PlainTree) → HasOnce used_key t → HasOnce required_key t → common (with_extension_named t) ≡ common t
unfolding common
added_names_common t used required =
    ap (λ u. common_names (others u)) (named_is t)
    ∙ ap common_names (
    others_name required_key (with_name used_key t) (names_apart views_key required_key refl) (names_apart buffers_key required_key refl) required_is_own
    ∙ ap (with_name required_key) (others_name used_key t (names_apart views_key used_key refl) (names_apart buffers_key used_key refl) used_is_own))
    ∙ names_added_common
    (others t)
    (once_others used_key t (names_apart used_key views_key refl) (names_apart used_key buffers_key refl) used)
    (once_others required_key t (names_apart required_key views_key refl) (names_apart required_key buffers_key refl) required)
