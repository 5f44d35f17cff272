-- What is found and read of the root after the edits of stored views.
use Rattle.std.specs.Prelude.{codes, option_map, IsOk}
use Rattle.std.proofs.Common.{◌≡◌, ℕ, ◌<◌, ◌^◌, Bool, true, false, ◌||◌, List, [], ◌∷◌, length, map, Some, None, Ok, refl, ap, ◌∙◌, arith}
use Rattle.std.specs.List.{list_any}
use Rattle.gp_tree.specs.Lexical.{Each}
use Rattle.gp_tree.specs.Plain.{PlainTree, list, no_items, item}
use Rattle.gp_tree.specs.Values.{IsName}
use Rattle.gp_tree.specs.Find.{IsObject, find_member}
use Rattle.gp_tree.specs.TreeEdits.{set_first, remove_first, change_first, without}
use Rattle.gp_tree.proofs.Kept.{find_set, find_set_other, find_remove_other, find_change, find_change_other}
use Rattle.gp_fields.specs.declared.fault.Place.TheVariants.{ExtensionsUsed, ExtensionsRequired, Buffers}
use Rattle.gp_fields.specs.Shapes.{object_of, a_text}
use Rattle.gp_fields.specs.Fields.{buffer_fields}
use Rattle.gp_fields.specs.Record.{items_of_member}
use Rattle.gp_layout.specs.Layout.{end}
use Rattle.gp_edits.specs.Edits.{sized_buffer, fallback_buffer, with_one_buffer, with_two_buffers}
use Rattle.gp_edits.specs.ReadingBack.{buffer_of_length}
use Rattle.gp_edits.proofs.FieldsBack.{a_name}
use Rattle.gp_edits.proofs.KeysBack.{object_after}
use Rattle.gp_edits.proofs.ViewsBack.{buffer_again}
use Rattle.gp_edits.proofs.ItemsBack.{read_items, items_are}
use Rattle.gp_edits.proofs.PackedBack.{fallback_again}
use Rattle.gp_edits.proofs.PackedBackNames.{used_with, required_with, other_with, object_with}
use Rattle.gp_edits.specs.Edits.{with_buffers_of}
use Rattle.gp_layout.specs.Row.{buffer_length}
use Rattle.gp_packed.specs.Plan.{Stored, is_stream, parts, fallback_end}
use Rattle.gp_packed.specs.ViewEdits.{fallback_if, named_if, with_names, with_buffers, view_edits, with_views}
use Rattle.gp_packed.specs.StoredParts.{fallback_of_length, buffers_for, stored_buffers}
use Rattle.gp_unpack.proofs.EachItem.{each_is}
use Rattle.gp_packed.proofs.StoredFields.{HasBuffers, with_stored_items}

-- ---- the names

named_kept : (b : Bool) (name : List ℕ) (t : PlainTree) → (name ≡ codes "extensionsUsed" → ⊥) → (name ≡ codes "extensionsRequired" → ⊥) → find_member name (named_if b t) ≡ find_member name t
named_kept false name t d e = refl
named_kept true name t d e = other_with name t d e

pub names_kept : (views : List Stored) (name : List ℕ) (t : PlainTree) → (name ≡ codes "extensionsUsed" → ⊥) → (name ≡ codes "extensionsRequired" → ⊥) → find_member name (with_names views t) ≡ find_member name t
unfolding with_names
names_kept views name t d e = named_kept (list_any is_stream views) name t d e

named_object : (b : Bool) (t : PlainTree) → IsObject t → IsObject (named_if b t)
named_object false t o = o
named_object true t o = object_with t o

pub names_object : (views : List Stored) (t : PlainTree) → IsObject t → IsObject (with_names views t)
unfolding with_names
names_object views t o = named_object (list_any is_stream views) t o

named_used : (b : Bool) (t : PlainTree) → IsObject t → IsOk (items_of_member ExtensionsUsed (codes "extensionsUsed") a_text t) → IsOk (items_of_member ExtensionsUsed (codes "extensionsUsed") a_text (named_if b t))
named_used false t o h = h
named_used true t o h = used_with t o h

pub names_used : (views : List Stored) (t : PlainTree) → IsObject t → IsOk (items_of_member ExtensionsUsed (codes "extensionsUsed") a_text t) → IsOk (items_of_member ExtensionsUsed (codes "extensionsUsed") a_text (with_names views t))
unfolding with_names
names_used views t o h = named_used (list_any is_stream views) t o h

named_required : (b : Bool) (t : PlainTree) → IsObject t → IsOk (items_of_member ExtensionsRequired (codes "extensionsRequired") a_text t)
    → IsOk (items_of_member ExtensionsRequired (codes "extensionsRequired") a_text (named_if b t))
named_required false t o h = h
named_required true t o h = required_with t o h

pub names_required : (views : List Stored) (t : PlainTree) → IsObject t → IsOk (items_of_member ExtensionsRequired (codes "extensionsRequired") a_text t)
    → IsOk (items_of_member ExtensionsRequired (codes "extensionsRequired") a_text (with_names views t))
unfolding with_names
names_required views t o h = named_required (list_any is_stream views) t o h

-- ---- the buffers

buffers_name : IsName (codes "buffers")
buffers_name = a_name (codes "buffers") refl

abbrev one_buffer : ℕ → PlainTree
one_buffer size = list (item (sized_buffer size) no_items)

abbrev two_buffers : ℕ → ℕ → PlainTree
two_buffers size fallback = list (item (sized_buffer size) (item (fallback_buffer fallback) no_items))

made_kept : (b : Bool) (size fallback : ℕ) (name : List ℕ) (t : PlainTree) → (name ≡ codes "buffers" → ⊥) → find_member name (with_buffers_of (Some size) (fallback_if b fallback) t) ≡ find_member name t
unfolding with_one_buffer with_two_buffers
made_kept false size fallback name t d = find_set_other name (codes "buffers") (one_buffer size) t d buffers_name
made_kept true size fallback name t d = find_set_other name (codes "buffers") (two_buffers size fallback) t d buffers_name

pub buffers_kept : (views : List Stored) (name : List ℕ) (t : PlainTree) → (name ≡ codes "buffers" → ⊥) → find_member name (with_buffers views t) ≡ find_member name t
unfolding with_buffers buffer_length
buffers_kept [] name t d = find_remove_other name (codes "buffers") t d
buffers_kept (s ∷ views) name t d = made_kept (list_any is_stream (s ∷ views)) (end (map length (parts (s ∷ views)))) (fallback_end (s ∷ views)) name t d

made_object : (b : Bool) (size fallback : ℕ) (t : PlainTree) → IsObject t → IsObject (with_buffers_of (Some size) (fallback_if b fallback) t)
unfolding with_one_buffer with_two_buffers
made_object false size fallback t o = object_after (set_first (codes "buffers") (one_buffer size)) t o
made_object true size fallback t o = object_after (set_first (codes "buffers") (two_buffers size fallback)) t o

pub buffers_object : (views : List Stored) (t : PlainTree) → IsObject t → IsObject (with_buffers views t)
unfolding with_buffers buffer_length
buffers_object [] t o = object_after (remove_first (codes "buffers")) t o
buffers_object (s ∷ views) t o = made_object (list_any is_stream (s ∷ views)) (end (map length (parts (s ∷ views)))) (fallback_end (s ∷ views)) t o

made_read : (b : Bool) (size fallback : ℕ) (t : PlainTree) → IsObject t → size < 2 ^ 32 → fallback < 2 ^ 32
    → items_of_member Buffers (codes "buffers") (object_of buffer_fields) (with_buffers_of (Some size) (fallback_if b fallback) t) ≡ Ok (buffers_for b size fallback)
unfolding with_one_buffer with_two_buffers
made_read false size fallback t o small low =
    items_are Buffers (codes "buffers") (object_of buffer_fields) (with_one_buffer size t) (Some (one_buffer size)) (find_set (codes "buffers") (one_buffer size) t o buffers_name)
    ∙ read_items Buffers (object_of buffer_fields) (sized_buffer size ∷ []) (buffer_of_length size ∷ []) (buffer_again size small, tt)
made_read true size fallback t o small low =
    items_are Buffers (codes "buffers") (object_of buffer_fields) (with_two_buffers size fallback t) (Some (two_buffers size fallback)) (find_set (codes "buffers") (two_buffers size fallback) t o buffers_name)
    ∙ read_items Buffers (object_of buffer_fields) (sized_buffer size ∷ fallback_buffer fallback ∷ []) (buffer_of_length size ∷ fallback_of_length fallback ∷ []) (buffer_again size small, (fallback_again fallback low, tt))

pub buffers_read : (views : List Stored) (t : PlainTree) → IsObject t → find_member (codes "buffers") (without (codes "buffers") t) ≡ None
    → end (map length (parts views)) < 2 ^ 32 → fallback_end views < 2 ^ 32
    → items_of_member Buffers (codes "buffers") (object_of buffer_fields) (with_buffers views t) ≡ Ok (stored_buffers views)
unfolding with_buffers buffer_length stored_buffers
buffers_read [] t o gone small low = items_are Buffers (codes "buffers") (object_of buffer_fields) (without (codes "buffers") t) None gone
buffers_read (s ∷ views) t o gone small low = made_read (list_any is_stream (s ∷ views)) (end (map length (parts (s ∷ views)))) (fallback_end (s ∷ views)) t o small low

-- there are two where a view is a stream
or_right : (a b : Bool) → b ≡ true → (a || b) ≡ true
or_right true b h = refl
or_right false b h = h

each_known : (views : List Stored) → Each (λ s. is_stream s ≡ true → list_any is_stream views ≡ true) views
each_known [] = tt
each_known (s ∷ views) = (
  λ e. ap (λ b. b || list_any is_stream views) e,
  each_is (λ s. is_stream s ≡ true → list_any is_stream views ≡ true) (λ u. is_stream u ≡ true → list_any is_stream (s ∷ views) ≡ true) (λ u h e. or_right (is_stream s) (list_any is_stream views) (h e)) views (each_known views),
)

made_two : (b : Bool) (size fallback : ℕ) (s : Stored) → (is_stream s ≡ true → b ≡ true) → HasBuffers (length (buffers_for b size fallback)) s
made_two true size fallback s h = record { some = omega arith; two = λ e. omega arith }
made_two false size fallback s h = record { some = omega arith; two = λ e. let x : false ≡ true = h e in absurd (cc) }

pub each_has_buffers : (views : List Stored) → Each (HasBuffers (length (stored_buffers views))) views
unfolding stored_buffers
each_has_buffers [] = tt
each_has_buffers (s ∷ views) =
    each_is (λ u. is_stream u ≡ true → list_any is_stream (s ∷ views) ≡ true) (HasBuffers (length (stored_buffers (s ∷ views))))
    (made_two (list_any is_stream (s ∷ views)) (end (map length (parts (s ∷ views)))) (fallback_end (s ∷ views))) (s ∷ views) (each_known (s ∷ views))

-- ---- the views

pub views_are : (views : List Stored) (t : PlainTree) → find_member (codes "bufferViews") (with_views views t) ≡ option_map (with_stored_items (view_edits views)) (find_member (codes "bufferViews") t)
unfolding with_views
views_are views t = find_change (codes "bufferViews") (with_stored_items (view_edits views)) t

pub views_kept : (views : List Stored) (name : List ℕ) (t : PlainTree) → (name ≡ codes "bufferViews" → ⊥) → find_member name (with_views views t) ≡ find_member name t
unfolding with_views
views_kept views name t d = find_change_other name (codes "bufferViews") (with_stored_items (view_edits views)) t d

pub views_object : (views : List Stored) (t : PlainTree) → IsObject t → IsObject (with_views views t)
unfolding with_views
views_object views t o = object_after (change_first (codes "bufferViews") (with_stored_items (view_edits views))) t o
