-- What the fields of an asset are after the edits of `Edits`, as they are read from its tree again.
use Rattle.std.specs.Prelude.{◌≡◌, ℕ, ◌<◌, ◌^◌, List, [], ◌∷◌, length, Some, None, Ok, IsOk, codes}
use Rattle.std.specs.List.{All}
use Rattle.gp_tree.specs.Plain.{PlainTree}
use Rattle.gp_tree.specs.Values.{whole}
use Rattle.gp_tree.specs.Sound.{HasDistinctKeys}
use Rattle.gp_tree.specs.Find.{find_member}
use Rattle.gp_tree.specs.TreeEdits.{without, with_items}
use Rattle.gp_fields.specs.declared.fault.Place.TheVariants.{ExtensionsUsed, ExtensionsRequired, BufferViews}
use Rattle.gp_fields.specs.Shapes.{object_of, a_text}
use Rattle.gp_fields.specs.Fields.{BufferFields, ViewFields, buffer_fields, view_fields}
use Rattle.gp_fields.specs.Record.{AssetFields, items_of_shape, items_of_member, asset_fields}
use Rattle.gp_edits.specs.Changes.{whole_number, change_each}
use Rattle.gp_edits.specs.Edits.{placed, plain_view, with_plain_views, sized_buffer, with_one_buffer, without_extension_named}

-- ---- a number

abbrev pub NumbersReadBack : Type 0
NumbersReadBack = (n : ℕ) → n < 2 ^ 32 → whole (whole_number n) ≡ Some n

-- ---- a view

-- the fields of a view in the first buffer, from this byte on, without an extension object
abbrev pub plain_view_fields : ℕ → ViewFields → ViewFields
plain_view_fields offset f = record { buffer = 0; offset = offset; length = f.length; stride = f.stride; packed = None }

-- those of a view in this buffer, from this byte on
abbrev pub view_at : ℕ → ℕ → ViewFields → ViewFields
view_at buffer offset f = record { buffer = buffer; offset = offset; length = f.length; stride = f.stride; packed = f.packed }

-- a plain view reads back, by any number of buffers but none
abbrev pub PlainViewsReadBack : Type 0
PlainViewsReadBack = (buffers others offset : ℕ) (v : PlainTree) (f : ViewFields)
    → HasDistinctKeys v → object_of (view_fields buffers) v ≡ Some f → 0 < others → offset < 2 ^ 32
    → object_of (view_fields others) (plain_view offset v) ≡ Some (plain_view_fields offset f)

-- a view that was placed reads back, with its extension object
abbrev pub PlacedViewsReadBack : Type 0
PlacedViewsReadBack = (buffers buffer offset : ℕ) (v : PlainTree) (f : ViewFields)
    → object_of (view_fields buffers) v ≡ Some f → buffer < buffers → buffer < 2 ^ 32 → offset < 2 ^ 32
    → object_of (view_fields buffers) (placed buffer offset v) ≡ Some (view_at buffer offset f)

-- ---- a buffer

abbrev pub buffer_of_length : ℕ → BufferFields
buffer_of_length n = record { length = n; uri = None; extensions = [] }

abbrev pub BuffersReadBack : Type 0
BuffersReadBack = (n : ℕ) → n < 2 ^ 32 → object_of buffer_fields (sized_buffer n) ≡ Some (buffer_of_length n)

-- ---- the views of an asset

-- each view at its place in the first buffer, without its extension object
abbrev pub with_views_at : List ℕ → PlainTree → PlainTree
with_views_at offsets views = with_items (change_each plain_view offsets) views

abbrev pub plain_views_fields : List ℕ → List ViewFields → List ViewFields
plain_views_fields [] fs = []
plain_views_fields (offset ∷ offsets) [] = []
plain_views_fields (offset ∷ offsets) (f ∷ fs) = plain_view_fields offset f ∷ plain_views_fields offsets fs

-- each place is a number that reads back
abbrev pub FitsEach : List ℕ → Type 0
FitsEach offsets = All (λ offset. offset < 2 ^ 32) offsets

-- they read back, by any number of buffers, but by none only where there are no views
abbrev pub ListsOfViewsReadBack : Type 0
ListsOfViewsReadBack = (buffers others : ℕ) (offsets : List ℕ) (views : PlainTree) (fs : List ViewFields)
    → HasDistinctKeys views → items_of_shape BufferViews (object_of (view_fields buffers)) views ≡ Ok fs
    → length offsets ≡ length fs → (0 < length fs → 0 < others) → FitsEach offsets
    → items_of_shape BufferViews (object_of (view_fields others)) (with_views_at offsets views) ≡ Ok (plain_views_fields offsets fs)

-- ---- the root

-- where the lists of extensions are lists of texts, they are so after an edit
abbrev pub StaysListsOfNames : PlainTree → PlainTree → Type 0
StaysListsOfNames before after =
    IsOk (items_of_member ExtensionsUsed (codes "extensionsUsed") a_text before) → IsOk (items_of_member ExtensionsRequired (codes "extensionsRequired") a_text before)
    → IsOk (items_of_member ExtensionsUsed (codes "extensionsUsed") a_text after) × IsOk (items_of_member ExtensionsRequired (codes "extensionsRequired") a_text after)

-- every other member is found as before
abbrev pub KeepsOthers : (PlainTree → PlainTree) → Type 0
KeepsOthers edit = (name : List ℕ) (t : PlainTree) → (name ≡ codes "extensionsUsed" → ⊥) → (name ≡ codes "extensionsRequired" → ⊥)
    → find_member name (edit t) ≡ find_member name t

abbrev pub ListsOfNamesReadBack : Type 0
ListsOfNamesReadBack = (t : PlainTree) → HasDistinctKeys t → StaysListsOfNames t (without_extension_named t)

abbrev pub NamesKeepOthers : Type 0
NamesKeepOthers = KeepsOthers without_extension_named

-- ---- an asset

-- the fields of an asset with other buffers and views
abbrev pub fields_with : List BufferFields → List ViewFields → AssetFields → AssetFields
fields_with buffers views f = record { buffers = buffers; views = views; accessors = f.accessors; meshes = f.meshes; skins = f.skins; animations = f.animations; images = f.images }

-- all views in one buffer, and without their extension objects
abbrev pub plain_in_one : ℕ → List ℕ → PlainTree → PlainTree
plain_in_one n offsets t = without_extension_named (with_one_buffer n (with_plain_views offsets t))

abbrev pub AssetsReadBack : Type 0
AssetsReadBack = (n : ℕ) (offsets : List ℕ) (t : PlainTree) (f : AssetFields)
    → HasDistinctKeys t → asset_fields t ≡ Ok f → n < 2 ^ 32 → length offsets ≡ length f.views → FitsEach offsets
    → asset_fields (plain_in_one n offsets t) ≡ Ok (fields_with (buffer_of_length n ∷ []) (plain_views_fields offsets f.views) f)

-- no views, and no buffer
abbrev pub plain_in_none : List ℕ → PlainTree → PlainTree
plain_in_none offsets t = without_extension_named (without (codes "buffers") (with_plain_views offsets t))

abbrev pub AssetsOfNoViewsReadBack : Type 0
AssetsOfNoViewsReadBack = (offsets : List ℕ) (t : PlainTree) (f : AssetFields)
    → HasDistinctKeys t → asset_fields t ≡ Ok f → f.views ≡ [] → length offsets ≡ length f.views
    → asset_fields (plain_in_none offsets t) ≡ Ok (fields_with [] [] f)
