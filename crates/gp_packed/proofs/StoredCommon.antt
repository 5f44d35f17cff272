-- The tree of an asset whose views are stored has the same in common with the input's, where no member that is written stands twice.
use Rattle.std.specs.List.{list_any}
use Rattle.std.proofs.Common.{◌≡◌, ℕ, Bool, true, false, List, [], ◌∷◌, ◌++◌, length, map, Option, Some, None, refl, sym, ap, ap₂, ◌∙◌}
use Rattle.gp_tree.specs.Plain.{PlainTree}
use Rattle.gp_tree.specs.Find.{array_items, find_member}
use Rattle.gp_tree.specs.TreeEdits.{with_member, without, at_member, with_items}
use Rattle.gp_tree.specs.Sound.{HasDistinctKeys}
use Rattle.gp_layout.specs.Layout.{end}
use Rattle.gp_layout.specs.Row.{buffer_length}
use Rattle.gp_edits.specs.Changes.{whole_number, change_each}
use Rattle.gp_edits.specs.Edits.{placed, with_buffers_of}
use Rattle.gp_edits.specs.Common.{common_view, common_names, common}
use Rattle.gp_edits.proofs.Members.{IsApart, HasOnce, names_apart, once, once_set, once_changed, removed_changed, changed_twice, changes_agree, once_removed}
use Rattle.gp_edits.proofs.KeyNames.{extensions_key, used_key, required_key, buffers_key, views_key, buffer_key, offset_key, buffer_is_own, offset_is_own}
use Rattle.gp_edits.proofs.CommonViews.{placed_common}
use Rattle.gp_edits.proofs.CommonRoots.{shared_views, others, buffer_common, buffers_common, once_one_buffer}
use Rattle.gp_edits.proofs.PackCommon.{once_compressed_common, two_buffers_common, once_two_buffers, added_names_common}
use Rattle.gp_edits.proofs.Emptied.{value_distinct}
use Rattle.gp_storage.specs.declared.coding.Stream.{Stream}
use Rattle.gp_packed.specs.Plan.{Stored, Place, is_stream, parts, fallback_end}
use Rattle.gp_packed.specs.ViewEdits.{compression_of, stored_view, view_edit, view_edits, with_buffers, with_names, with_views, with_stored, fallback_if, named_if}
use Rattle.gp_packed.proofs.CommonItems.{items_joined, items_agree, AreDistinctItems, array_distinct}

-- ---- views with at most one `extensions`

abbrev pub HaveOnce : List ℕ → List PlainTree → Type 0
HaveOnce key [] = Unit {0}
HaveOnce key (t ∷ ts) = HasOnce key t × HaveOnce key ts

pub distinct_have_once : (key : List ℕ) (ts : List PlainTree) → AreDistinctItems ts → HaveOnce key ts
distinct_have_once key [] h = tt
distinct_have_once key (t ∷ ts) h = (once key t h.0, distinct_have_once key ts h.1)

pub both_have_once : (key : List ℕ) (ts us : List PlainTree) → HaveOnce key ts → HaveOnce key us → HaveOnce key (ts ++ us)
both_have_once key [] us h k = k
both_have_once key (t ∷ ts) us h k = (h.0, both_have_once key ts us h.1 k)

-- ---- a view

once_placed : (buffer offset : ℕ) (v : PlainTree) → HasOnce extensions_key v → HasOnce extensions_key (placed buffer offset v)
unfolding placed
once_placed buffer offset v one =
    once_set extensions_key offset_key (whole_number offset) (with_member buffer_key (whole_number buffer) v) (names_apart extensions_key offset_key refl) offset_is_own
    (once_set extensions_key buffer_key (whole_number buffer) v (names_apart extensions_key buffer_key refl) buffer_is_own one)

view_common : (n : ℕ) (stream : Option Stream) (place : Place) (v : PlainTree) → HasOnce extensions_key v → common_view (stored_view n stream place v) ≡ common_view v
unfolding stored_view
view_common n None place v one = placed_common 0 place.start v
view_common n (Some stream) place v one =
    once_compressed_common (compression_of place.start n stream) (placed 1 place.fallback v) (once_placed 1 place.fallback v one) ∙ placed_common 1 place.fallback v

items_common : (edits : List (Stored × Place)) (ts : List PlainTree) → HaveOnce extensions_key ts → map common_view (change_each view_edit edits ts) ≡ map common_view ts
items_common [] ts h = refl
items_common (e ∷ edits) [] h = refl
items_common (e ∷ edits) (t ∷ ts) h = ap₂ (λ u us. u ∷ us) (view_common (length e.0.contents) e.0.stream e.1 t h.0) (items_common edits ts h.1)

list_common : (edits : List (Stored × Place)) (t : PlainTree) → HaveOnce extensions_key (array_items t) → shared_views (with_items (change_each view_edit edits) t) ≡ shared_views t
list_common edits t h =
    items_joined (map common_view) (change_each view_edit edits) t
    ∙ items_agree (λ ts. map common_view (change_each view_edit edits ts)) (map common_view) t (items_common edits (array_items t) h)

-- ---- the root

pub record HasViewsOnce (t : PlainTree) : Type 0 where
  pub used : HasOnce used_key t
  pub required : HasOnce required_key t
  pub buffers : HasOnce buffers_key t
  pub views : HasOnce views_key t
  pub items : (v : PlainTree) → find_member views_key t ≡ Some v → HaveOnce extensions_key (array_items v)

others_viewed : (f : PlainTree → PlainTree) (t : PlainTree) → HasOnce views_key t
    → ((v : PlainTree) → find_member views_key t ≡ Some v → shared_views (f v) ≡ shared_views v)
    → others (at_member views_key f t) ≡ others t
others_viewed f t one same =
    let apart = names_apart buffers_key views_key refl in
    sym (removed_changed buffers_key views_key shared_views apart (at_member views_key f t))
    ∙ ap (without buffers_key) (changed_twice views_key shared_views f t one ∙ changes_agree views_key (λ v. shared_views (f v)) shared_views t same)
    ∙ removed_changed buffers_key views_key shared_views apart t

views_stay_common : (views : List Stored) (t : PlainTree) → HasViewsOnce t → common (with_views views t) ≡ common t
unfolding with_views common
views_stay_common views t h =
    ap common_names (others_viewed (with_items (change_each view_edit (view_edits views))) t h.views (λ v e. list_common (view_edits views) v (h.items v e)))

once_views : (key : List ℕ) (views : List Stored) (t : PlainTree) → IsApart key views_key → HasOnce key t → HasOnce key (with_views views t)
unfolding with_views
once_views key views t apart one = once_changed key views_key (with_items (change_each view_edit (view_edits views))) t apart one

buffers_for_common : (b : Bool) (n m : ℕ) (t : PlainTree) → common (with_buffers_of (Some n) (fallback_if b m) t) ≡ common t
buffers_for_common false n m t = buffer_common n t
buffers_for_common true n m t = two_buffers_common n m t

buffers_stay_common : (views : List Stored) (t : PlainTree) → HasOnce buffers_key t → common (with_buffers views t) ≡ common t
unfolding with_buffers buffer_length
buffers_stay_common [] t one = buffers_common t one
buffers_stay_common (s ∷ views) t one = buffers_for_common (list_any is_stream (s ∷ views)) (end (map length (parts (s ∷ views)))) (fallback_end (s ∷ views)) t

once_buffers_for : (key : List ℕ) (b : Bool) (n m : ℕ) (t : PlainTree) → IsApart key buffers_key → HasOnce key t → HasOnce key (with_buffers_of (Some n) (fallback_if b m) t)
once_buffers_for key false n m t apart one = once_one_buffer key n t apart one
once_buffers_for key true n m t apart one = once_two_buffers key n m t apart one

once_buffers : (key : List ℕ) (views : List Stored) (t : PlainTree) → IsApart key buffers_key → HasOnce key t → HasOnce key (with_buffers views t)
unfolding with_buffers buffer_length
once_buffers key [] t apart one = once_removed key buffers_key t apart one
once_buffers key (s ∷ views) t apart one = once_buffers_for key (list_any is_stream (s ∷ views)) (end (map length (parts (s ∷ views)))) (fallback_end (s ∷ views)) t apart one

named_common : (b : Bool) (t : PlainTree) → HasOnce used_key t → HasOnce required_key t → common (named_if b t) ≡ common t
named_common false t used required = refl
named_common true t used required = added_names_common t used required

pub stored_once_common : (views : List Stored) (t : PlainTree) → HasViewsOnce t → common (with_stored views t) ≡ common t
unfolding with_stored with_names
stored_once_common views t h =
    let u = with_views views t in
    let has_once = λ (key : List ℕ) (a : IsApart key buffers_key) (b : IsApart key views_key) (one : HasOnce key t). once_buffers key views u a (once_views key views t b one) in
    named_common (list_any is_stream views) (with_buffers views u)
    (has_once used_key (names_apart used_key buffers_key refl) (names_apart used_key views_key refl) h.used)
    (has_once required_key (names_apart required_key buffers_key refl) (names_apart required_key views_key refl) h.required)
    ∙ buffers_stay_common views u (once_views buffers_key views t (names_apart buffers_key views_key refl) h.buffers)
    ∙ views_stay_common views t h

-- ---- distinct keys are enough

array_has_once : (t : PlainTree) → HasDistinctKeys t → HaveOnce extensions_key (array_items t)
array_has_once t h = distinct_have_once extensions_key (array_items t) (array_distinct t h)

pub stored_common : (views : List Stored) (t : PlainTree) → HasDistinctKeys t → common (with_stored views t) ≡ common t
stored_common views t h =
    stored_once_common views t (record {
      used = once used_key t h;
      required = once required_key t h;
      buffers = once buffers_key t h;
      views = once views_key t h;
      items = λ v e. array_has_once v (value_distinct views_key v t h e);
    })
