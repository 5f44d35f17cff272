-- The fields of an asset read back where its views are stored in one buffer, plain or as streams.
use Rattle.std.specs.Prelude.{codes, option_map}
use Rattle.std.specs.List.{All}
use Rattle.std.proofs.Common.{◌≡◌, ℕ, ◌<◌, ◌^◌, List, length, map, Ok, refl, sym, ◌∙◌}
use Rattle.gp_tree.specs.Plain.{PlainTree}
use Rattle.gp_tree.specs.Find.{find_member}
use Rattle.gp_fields.specs.declared.fault.Place.TheVariants.{BufferViews}
use Rattle.gp_fields.specs.Shapes.{object_of}
use Rattle.gp_fields.specs.Fields.{ViewFields, view_fields}
use Rattle.gp_fields.specs.Record.{items_of_member}
use Rattle.gp_layout.specs.Layout.{end}
use Rattle.gp_edits.proofs.FieldsBack.{apart}
use Rattle.gp_edits.proofs.ItemsBack.{items_are}
use Rattle.gp_packed.specs.Plan.{Stored, parts, fallback_end}
use Rattle.gp_packed.specs.ViewEdits.{view_edits, with_views, with_buffers, with_stored}
use Rattle.gp_packed.specs.StoredLaws.{Fits}
use Rattle.gp_packed.specs.StoredParts.{stored_buffers, stored_views_fields}
use Rattle.gp_unpack.proofs.EachItem.{each_of_all}
use Rattle.gp_packed.proofs.StoredPlaces.{count_edits}
use Rattle.gp_packed.proofs.StoredFields.{IsUnpacked, with_stored_items, found_again, each_reads}
use Rattle.gp_packed.proofs.StoredRoots.{names_kept, buffers_kept, each_has_buffers, views_are, views_kept}

-- ---- what is found after the edits

-- a member that no edit names
pub stored_kept : (views : List Stored) (name : List ℕ) (t : PlainTree)
    → (name ≡ codes "extensionsUsed" → ⊥) → (name ≡ codes "extensionsRequired" → ⊥) → (name ≡ codes "buffers" → ⊥) → (name ≡ codes "bufferViews" → ⊥)
    → find_member name (with_stored views t) ≡ find_member name t
unfolding with_stored
stored_kept views name t used required buffers viewed =
    names_kept views name (with_buffers views (with_views views t)) used required
    ∙ buffers_kept views name (with_views views t) buffers
    ∙ views_kept views name t viewed

pub stored_views_are : (views : List Stored) (t : PlainTree)
    → find_member (codes "bufferViews") (with_stored views t) ≡ option_map (with_stored_items (view_edits views)) (find_member (codes "bufferViews") t)
unfolding with_stored
stored_views_are views t =
    names_kept views (codes "bufferViews") (with_buffers views (with_views views t)) (apart _ _ refl) (apart _ _ refl)
    ∙ buffers_kept views (codes "bufferViews") (with_views views t) (apart _ _ refl)
    ∙ views_are views t

-- ---- what is read

-- by any number of buffers, where there are as many as the views need
pub stored_views_read : (n : ℕ) (views : List Stored) (t : PlainTree) (fs : List ViewFields)
    → items_of_member BufferViews (codes "bufferViews") (object_of (view_fields n)) t ≡ Ok fs → All IsUnpacked fs → length views ≡ length fs
    → end (map length (parts views)) < 2 ^ 32 → fallback_end views < 2 ^ 32 → All Fits views
    → items_of_member BufferViews (codes "bufferViews") (object_of (view_fields (length (stored_buffers views)))) (with_stored views t) ≡ Ok (stored_views_fields (view_edits views) fs)
stored_views_read n views t fs h none count small low fits =
    let name = codes "bufferViews" in
    let m = length (stored_buffers views) in
    let found = find_member name t in
    items_are BufferViews name (object_of (view_fields m)) (with_stored views t) (option_map (with_stored_items (view_edits views)) found) (stored_views_are views t)
    ∙ found_again n m (view_edits views) fs found (sym (items_are BufferViews name (object_of (view_fields n)) t found refl) ∙ h)
    (each_of_all IsUnpacked fs none) (count_edits views ∙ count) (each_reads m views small low (each_of_all Fits views fits) (each_has_buffers views))
