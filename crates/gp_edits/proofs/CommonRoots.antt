-- What the tree of an asset has in common with the tree that it was.
use Rattle.std.proofs.Common.{◌≡◌, ℕ, List, [], ◌∷◌, map, Some, refl, sym, ap, ap₂, ◌∙◌}
use Rattle.gp_tree.specs.Plain.{PlainTree, PlainTrees, null, truth, number, text, list, members, no_items, item, trees_of}
use Rattle.gp_tree.specs.Sound.{HasDistinctKeys, ItemsHaveDistinctKeys}
use Rattle.gp_tree.specs.Find.{item_list, find_member}
use Rattle.gp_tree.specs.TreeEdits.{without, at_member, with_items}
use Rattle.gp_tree.proofs.Edited.{items_of}
use Rattle.gp_edits.specs.Changes.{emptied, left_out, without_text, change_each}
use Rattle.gp_edits.specs.Edits.{plain_view, with_plain_views, extension_name, sized_buffer, with_one_buffer, without_extension_named, without_compression}
use Rattle.gp_edits.specs.Common.{common_view, common_names, common}
use Rattle.gp_edits.proofs.Members.{IsApart, HasOnce, names_apart, alter, gone, made, once, once_kept, once_set, once_removed, once_changed, removed_is, changed_is, commute, removed_changed, set_then_removed, removed_twice, changed_twice, changes_agree}
use Rattle.gp_edits.proofs.Emptied.{unless_empty, unless_emptied, emptied_is, left_out_is, absorbed, text_out_twice, value_distinct}
use Rattle.gp_edits.proofs.CommonViews.{placed_common, uncompressed_common}
use Rattle.gp_edits.proofs.KeyNames.{used_key, required_key, buffers_key, views_key, buffers_is_own}

-- ---- the names of the extension

abbrev pub listed : PlainTree → PlainTree
listed t = without_text extension_name t

pub names_are : (t : PlainTree) → common_names t ≡ alter required_key (unless_empty listed) (alter used_key (unless_empty listed) t)
unfolding common_names
names_are t = left_out_is required_key listed (left_out used_key listed t) ∙ ap (alter required_key (unless_empty listed)) (left_out_is used_key listed t)

pub names_out_are : (t : PlainTree)
    → without_extension_named t ≡ alter required_key (unless_emptied listed) (alter used_key (unless_emptied listed) t)
unfolding without_extension_named
names_out_are t = emptied_is required_key listed (emptied used_key listed t) ∙ ap (alter required_key (unless_emptied listed)) (emptied_is used_key listed t)

pub names_common : (t : PlainTree) → HasOnce used_key t → HasOnce required_key t → common_names (without_extension_named t) ≡ common_names t
names_common t used required =
    let L = unless_empty listed in
    let E = unless_emptied listed in
    let once_required : HasOnce required_key (alter used_key L (alter used_key E t)) =
    (let apart = names_apart required_key used_key refl in once_kept required_key used_key L (alter used_key E t) apart (once_kept required_key used_key E t apart required)) in
    names_are (without_extension_named t)
    ∙ ap (λ u. alter required_key L (alter used_key L u)) (names_out_are t)
    ∙ ap (alter required_key L) (commute used_key required_key L E (names_apart used_key required_key refl) (alter used_key E t))
    ∙ absorbed required_key listed (alter used_key L (alter used_key E t)) once_required (λ v e. text_out_twice extension_name v)
    ∙ ap (alter required_key L) (absorbed used_key listed t used (λ v e. text_out_twice extension_name v))
    ∙ sym (names_are t)

-- ---- all else

abbrev pub shared_views : PlainTree → PlainTree
shared_views t = with_items (map common_view) t

abbrev pub others : PlainTree → PlainTree
others t = at_member views_key shared_views (without buffers_key t)

pub others_are : (t : PlainTree) → others t ≡ alter views_key (made shared_views) (alter buffers_key gone t)
others_are t = changed_is views_key shared_views (without buffers_key t) ∙ ap (alter views_key (made shared_views)) (removed_is buffers_key t)

others_named : (t : PlainTree) → others (without_extension_named t) ≡ without_extension_named (others t)
others_named t =
    let E = unless_emptied listed in
    let M = made shared_views in
    others_are (without_extension_named t)
    ∙ ap (λ u. alter views_key M (alter buffers_key gone u)) (names_out_are t)
    ∙ ap (alter views_key M) (commute buffers_key required_key gone E (names_apart buffers_key required_key refl) (alter used_key E t))
    ∙ ap (λ u. alter views_key M (alter required_key E u)) (commute buffers_key used_key gone E (names_apart buffers_key used_key refl) t)
    ∙ commute views_key required_key M E (names_apart views_key required_key refl) (alter used_key E (alter buffers_key gone t))
    ∙ ap (alter required_key E) (commute views_key used_key M E (names_apart views_key used_key refl) (alter buffers_key gone t))
    ∙ sym (ap (λ u. alter required_key E (alter used_key E u)) (others_are t))
    ∙ sym (names_out_are (others t))

pub once_others : (key : List ℕ) (t : PlainTree) → IsApart key views_key → IsApart key buffers_key → HasOnce key t → HasOnce key (others t)
once_others key t a b one = once_changed key views_key shared_views (without buffers_key t) a (once_removed key buffers_key t b one)

pub named_common : (t : PlainTree) → HasOnce used_key t → HasOnce required_key t → common (without_extension_named t) ≡ common t
unfolding common
named_common t used required =
    ap common_names (others_named t)
    ∙ names_common
    (others t)
    (once_others used_key t (names_apart used_key views_key refl) (names_apart used_key buffers_key refl) used)
    (once_others required_key t (names_apart required_key views_key refl) (names_apart required_key buffers_key refl) required)

pub buffer_common : (length : ℕ) (t : PlainTree) → common (with_one_buffer length t) ≡ common t
unfolding common with_one_buffer
buffer_common length t = ap (λ u. common_names (at_member views_key shared_views u)) (set_then_removed buffers_key (list (item (sized_buffer length) no_items)) buffers_is_own t)

pub once_one_buffer : (key : List ℕ) (length : ℕ) (t : PlainTree) → IsApart key buffers_key → HasOnce key t
    → HasOnce key (with_one_buffer length t)
unfolding with_one_buffer
once_one_buffer key length t apart one = once_set key buffers_key (list (item (sized_buffer length) no_items)) t apart buffers_is_own one

pub buffers_common : (t : PlainTree) → HasOnce buffers_key t → common (without buffers_key t) ≡ common t
unfolding common
buffers_common t one = ap (λ u. common_names (at_member views_key shared_views u)) (removed_twice buffers_key t one)

-- ---- the views

items_common : {A : Type 0} (change : A → PlainTree → PlainTree) (values : List A) (ts : PlainTrees) → ItemsHaveDistinctKeys ts
    → ((a : A) (v : PlainTree) → HasDistinctKeys v → common_view (change a v) ≡ common_view v) → map common_view (change_each change values (item_list ts)) ≡ map common_view (item_list ts)
items_common change [] ts h keeps = refl
items_common change (a ∷ values) no_items h keeps = refl
items_common change (a ∷ values) (item t ts) h keeps = ap₂ (λ u us. u ∷ us) (keeps a t h.0) (items_common change values ts h.1 keeps)

list_common : {A : Type 0} (change : A → PlainTree → PlainTree) (values : List A) (t : PlainTree) → HasDistinctKeys t
    → ((a : A) (v : PlainTree) → HasDistinctKeys v → common_view (change a v) ≡ common_view v) → shared_views (with_items (change_each change values) t) ≡ shared_views t
list_common change values null h keeps = refl
list_common change values (truth b) h keeps = refl
list_common change values (number s) h keeps = refl
list_common change values (text s) h keeps = refl
list_common change values (members ms) h keeps = refl
list_common change values (list ts) h keeps = ap (λ us. list (trees_of (map common_view us))) (items_of (change_each change values (item_list ts))) ∙ ap (λ us. list (trees_of us)) (items_common change values ts h keeps)

others_viewed : (f : PlainTree → PlainTree) (t : PlainTree) → HasOnce views_key t
    → ((v : PlainTree) → find_member views_key t ≡ Some v → shared_views (f v) ≡ shared_views v)
    → others (at_member views_key f t) ≡ others t
others_viewed f t one same =
    let apart = names_apart buffers_key views_key refl in
    sym (removed_changed buffers_key views_key shared_views apart (at_member views_key f t))
    ∙ ap (without buffers_key) (changed_twice views_key shared_views f t one ∙ changes_agree views_key (λ v. shared_views (f v)) shared_views t same)
    ∙ removed_changed buffers_key views_key shared_views apart t

pub views_common : {A : Type 0} (change : A → PlainTree → PlainTree) (values : List A) (t : PlainTree) → HasDistinctKeys t
    → ((a : A) (v : PlainTree) → HasDistinctKeys v → common_view (change a v) ≡ common_view v) → common (at_member views_key (with_items (change_each change values)) t) ≡ common t
unfolding common
views_common change values t h keeps =
    ap common_names (others_viewed (with_items (change_each change values)) t (once views_key t h) (λ v e. list_common change values v (value_distinct views_key v t h e) keeps))

-- ---- all of them

plain_views_common : (starts : List ℕ) (t : PlainTree) → HasDistinctKeys t → common (with_plain_views starts t) ≡ common t
plain_views_common starts t h = views_common plain_view starts t h (λ start v d. placed_common 0 start (without_compression v) ∙ uncompressed_common v d)

once_viewed : (key : List ℕ) (starts : List ℕ) (t : PlainTree) → IsApart key views_key → HasDistinctKeys t
    → HasOnce key (with_plain_views starts t)
once_viewed key starts t apart h = once_changed key views_key (with_items (change_each plain_view starts)) t apart (once key t h)

pub with_buffer_common : (length : ℕ) (starts : List ℕ) (t : PlainTree) → HasDistinctKeys t
    → common (without_extension_named (with_one_buffer length (with_plain_views starts t))) ≡ common t
with_buffer_common length starts t h =
    let u = with_plain_views starts t in
    named_common (with_one_buffer length u)
    (once_one_buffer used_key length u (names_apart used_key buffers_key refl) (once_viewed used_key starts t (names_apart used_key views_key refl) h))
    (once_one_buffer required_key length u (names_apart required_key buffers_key refl) (once_viewed required_key starts t (names_apart required_key views_key refl) h))
    ∙ buffer_common length u
    ∙ plain_views_common starts t h

pub without_buffers_common : (starts : List ℕ) (t : PlainTree) → HasDistinctKeys t
    → common (without_extension_named (without buffers_key (with_plain_views starts t))) ≡ common t
without_buffers_common starts t h =
    let u = with_plain_views starts t in
    named_common (without buffers_key u)
    (once_removed used_key buffers_key u (names_apart used_key buffers_key refl) (once_viewed used_key starts t (names_apart used_key views_key refl) h))
    (once_removed required_key buffers_key u (names_apart required_key buffers_key refl) (once_viewed required_key starts t (names_apart required_key views_key refl) h))
    ∙ buffers_common u (once_viewed buffers_key starts t (names_apart buffers_key views_key refl) h)
    ∙ plain_views_common starts t h
