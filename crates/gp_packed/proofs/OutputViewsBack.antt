-- All views of a packed asset read back where they are stored.
use Rattle.std.specs.Prelude.{codes}
use Rattle.std.specs.List.{All}
use Rattle.std.proofs.Common.{◌≡◌, ◌+◌, List, [], ◌∷◌, ◌++◌, length, map, zip, refl, sym, ◌∙◌, arith}
use Rattle.std.proofs.lemmas.List.{length-map, length-append}
use Rattle.std.proofs.lemmas.Slice.Zip.{length-zip}
use Rattle.gp_tree.specs.Lexical.{Each}
use Rattle.gp_fields.specs.declared.fault.Place.TheVariants.{BufferViews}
use Rattle.gp_fields.specs.Shapes.{object_of}
use Rattle.gp_fields.specs.Fields.{ViewFields, view_fields}
use Rattle.gp_edits.proofs.FieldsBack.{apart}
use Rattle.gp_edits.proofs.ItemsBack.{items_same}
use Rattle.gp_rules.specs.declared.storage.View.{View}
use Rattle.gp_asset.specs.Contents.{plain_bytes}
use Rattle.gp_asset.specs.Asset.{AssetParts}
use Rattle.gp_storage.specs.Streams.{stored_views}
use Rattle.gp_unpack.proofs.EachItem.{each_of_all, all_of_each}
use Rattle.gp_sameness.specs.Moved.{Moved, moved_flags}
use Rattle.gp_sameness.specs.Survivors.{survives, where_numbered}
use Rattle.gp_packed.specs.MadeViews.{Made, made_views}
use Rattle.gp_packed.specs.Plan.{stored_as, stored_made, all_stored, output_views}
use Rattle.gp_packed.specs.ViewEdits.{view_edits}
use Rattle.gp_packed.specs.StoredLaws.{Fits}
use Rattle.gp_packed.specs.Packed.{with_made_views, packed_tree}
use Rattle.gp_packed.specs.AccessorsBack.{with_groups_moved}
use Rattle.gp_packed.specs.MeshesBack.{made_fields, IsUncompressed, output_fields, ViewsReadBack, OutputFieldsAreCounted, OutputViewsAreCounted}
use Rattle.gp_packed.proofs.StoredPlaces.{count_edits}
use Rattle.gp_packed.proofs.StoredFields.{views_counted}
use Rattle.gp_packed.proofs.StoredFieldsBack.{stored_views_read}
use Rattle.gp_packed.proofs.Storable.{streams_counted}
use Rattle.gp_packed.proofs.NumberedItems.{where_count, where_each}
use Rattle.gp_packed.proofs.MadeViewsBack.{IsShort, each_append, made_views_again}
use Rattle.gp_packed.proofs.PackedRoots.{groups_kept}

-- ---- how many there are

stored_count : (moved : List Moved) (a : AssetParts) → length (all_stored moved a) ≡ length a.views
unfolding all_stored
stored_count moved a =
    let flags = moved_flags moved (length a.accessors) in
    let contents = map (λ (v : View). plain_bytes a.buffers v) a.views in
    let streams = stored_views a flags in
    let held : length contents ≡ length a.views = length-map a.views (λ (v : View). plain_bytes a.buffers v) in
    let counted : length streams ≡ length a.views = streams_counted a flags in
    length-map (zip contents streams) stored_as ∙ omega (arith, length-zip contents streams, held, counted)

pub views_count : (moved : List Moved) (a : AssetParts) (fs : List ViewFields) → length fs ≡ length a.views → length (output_views moved a) ≡ length (output_fields moved a fs)
unfolding output_views
views_count moved a fs e =
    let test = survives moved a in
    let vs = made_views a moved in
    let stay : length (where_numbered test (all_stored moved a)) ≡ length (where_numbered test fs) = where_count test (all_stored moved a) fs (stored_count moved a ∙ sym e) in
    let made : length (map stored_made vs) ≡ length (map made_fields vs) = length-map vs stored_made ∙ sym (length-map vs made_fields) in
    length-append (where_numbered test (all_stored moved a)) (map stored_made vs)
    ∙ omega (arith, stay, made, length-append (where_numbered test fs) (map made_fields vs))

pub views_counted_apart : OutputViewsAreCounted
unfolding output_views
views_counted_apart moved a =
    let test = survives moved a in
    let vs = made_views a moved in
    let stay : length (where_numbered test (all_stored moved a)) ≡ length (where_numbered test a.views) = where_count test (all_stored moved a) a.views (stored_count moved a) in
    length-append (where_numbered test (all_stored moved a)) (map stored_made vs) ∙ omega (arith, stay, length-map vs stored_made)

pub output_counted : OutputFieldsAreCounted
output_counted moved a fs e =
    let views = output_views moved a in
    let count = views_count moved a fs e in
    views_counted (view_edits views) (output_fields moved a fs) (count_edits views ∙ count) ∙ sym count

-- ---- what holds of each

each_behind : {A : Type 0} (P : A → Type 0) (xs ys : List A) → Each P (xs ++ ys) → Each P ys
each_behind P [] ys h = h
each_behind P (x ∷ xs) ys h = each_behind P xs ys h.1

each_short : (vs : List Made) → Each Fits (map stored_made vs) → Each IsShort vs
each_short [] h = tt
each_short (v ∷ vs) h = (h.0.view, each_short vs h.1)

made_short : (moved : List Moved) (a : AssetParts) → All Fits (output_views moved a) → All IsShort (made_views a moved)
unfolding output_views
made_short moved a fit =
    let vs = made_views a moved in
    let stay = where_numbered (survives moved a) (all_stored moved a) in
    all_of_each IsShort vs (each_short vs (each_behind Fits stay (map stored_made vs) (each_of_all Fits (stay ++ map stored_made vs) fit)))

none_packed : (vs : List Made) → Each IsUncompressed (map made_fields vs)
none_packed [] = tt
none_packed (v ∷ vs) = (refl, none_packed vs)

output_uncompressed : (moved : List Moved) (a : AssetParts) (fs : List ViewFields) → All IsUncompressed fs → All IsUncompressed (output_fields moved a fs)
output_uncompressed moved a fs none =
    let stay = where_numbered (survives moved a) fs in
    let made = map made_fields (made_views a moved) in
    all_of_each IsUncompressed (stay ++ made)
    (each_append IsUncompressed stay made (where_each IsUncompressed (survives moved a) fs (each_of_all IsUncompressed fs none)) (none_packed (made_views a moved)))

-- ---- they read back

pub views_again : ViewsReadBack
unfolding packed_tree
views_again moved a n root fs e none count made stand =
    let key = codes "bufferViews" in
    let views = output_views moved a in
    let before = with_groups_moved moved a root in
    let shape = object_of (view_fields n) in
    let read = items_same BufferViews key shape root before (groups_kept moved a key root (record { accessors = apart _ _ refl; meshes = apart _ _ refl; images = apart _ _ refl })) ∙ e in
    stored_views_read (n + 1) views (with_made_views moved a before) (output_fields moved a fs)
    (made_views_again moved a n (n + 1) before fs read none made (omega arith) (omega arith) (made_short moved a stand.each))
    (output_uncompressed moved a fs none) (views_count moved a fs count) stand.first stand.second stand.each
