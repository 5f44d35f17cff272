-- No view of an asset that may be packed is compressed.
use Rattle.std.specs.Prelude.{codes}
use Rattle.std.specs.List.{All, list_any}
use Rattle.std.proofs.Common.{◌≡◌, ℕ, ◌+◌, Bool, true, false, ◌||◌, List, [], ◌∷◌, ◌++◌, length, Option, Some, None, Result, Ok, refl, sym, ◌∙◌, subst}
use Rattle.std.proofs.lemmas.List.Folds.{list_any-append}
use Rattle.gp_tree.specs.Lexical.{Each}
use Rattle.gp_tree.specs.Plain.{PlainTree, null, truth, number, text, list, members}
use Rattle.gp_tree.specs.Find.{is_named, item_list, find_member}
use Rattle.gp_tree.specs.Anywhere.{keys_under}
use Rattle.gp_fields.specs.declared.fault.Place.TheVariants.{BufferViews}
use Rattle.gp_fields.specs.declared.fault.FieldFault.{FieldFault}
use Rattle.gp_fields.specs.Shapes.{object_of}
use Rattle.gp_fields.specs.Fields.{BufferFields, ViewFields, PackedFields, view_fields}
use Rattle.gp_fields.specs.Record.{◌>>=◌, AssetFields, items_of_shape, asset_fields}
use Rattle.gp_asset.specs.declared.purpose.Form.TheVariants.{Plain}
use Rattle.gp_rules.specs.declared.fault.AssetFault.TheVariants.{AlreadyPacked, Foreign}
use Rattle.gp_rules.specs.declared.storage.View.{View}
use Rattle.gp_rules.specs.declared.storage.Packed.{Packed}
use Rattle.gp_rules.specs.Checks.{unless, each}
use Rattle.gp_asset.specs.Extensions.{listed, extensions_in_use, is_among, supported}
use Rattle.gp_rules.specs.Views.{view_of, packed_of}
use Rattle.gp_asset.specs.Asset.{AssetParts}
use Rattle.gp_document.specs.Document.{Document}
use Rattle.gp_document.specs.Accepted.{asset_of}
use Rattle.gp_edits.specs.Edits.{extension_name}
use Rattle.gp_edits.proofs.ViewsBack.{object_read, view_parts, packed_in, packed_is, object_in, none_in_empty, none_in}
use Rattle.gp_edits.proofs.ItemsBack.{AreRead, items_are_read, items_by, items_are}
use Rattle.gp_edits.proofs.AssetsBack.{asset_parts}
use Rattle.gp_document.proofs.Few.{step, passes, same}
use Rattle.gp_unpack.proofs.Drawn.{view_holds, rules_hold, asset_holds}
use Rattle.gp_unpack.proofs.EachItem.{all_of_each}
use Rattle.gp_packed.proofs.InUse.{IsFree, list_free, found_free, extension_absent}
use Rattle.gp_packed.proofs.StoredFields.{IsUnpacked}

abbrev pub IsFreeOfIt : PlainTree → Type 0
IsFreeOfIt t = IsFree (is_named extension_name) t

-- ---- an asset that may be packed doesn't use the extension

not_among : (used us : List (List ℕ)) → supported Plain us ≡ Ok used → is_among extension_name us ≡ false
unfolding supported
not_among used us h = passes (is_among extension_name us) AlreadyPacked (unless (is_among (codes "KHR_meshopt_compression") us) Foreign (Ok us)) used h (λ free more. free)

later : (a b : Bool) → (a || b) ≡ false → b ≡ false
later true b h = absurd (cc)
later false b h = h

pub free_of_it : (t : PlainTree) (used : List (List ℕ)) → supported Plain (extensions_in_use t) ≡ Ok used → IsFreeOfIt t
unfolding extensions_in_use
free_of_it t used h =
    let lists = listed (codes "extensionsUsed") t ++ listed (codes "extensionsRequired") t in
    let under = keys_under (codes "extensions") t in
    later (list_any (is_named extension_name) lists) (list_any (is_named extension_name) under)
    (sym (list_any-append (is_named extension_name) lists under) ∙ not_among used (lists ++ under) h)

-- ---- the fields of views

some_same : (o p : Option PackedFields) → ◌≡◌ {A = Option (Option PackedFields)} (Some o) (Some p) → o ≡ p
some_same o p e = cc

none_found : (n : ℕ) (v : PlainTree) (pack : Option PackedFields) (found : Option PlainTree) → IsFreeOfIt v → find_member (codes "extensions") v ≡ found → packed_in n found ≡ Some pack → pack ≡ None
none_found n v pack None free e h = sym (some_same None pack (sym (none_in_empty n) ∙ h))
none_found n v pack (Some value) free e h =
    sym (some_same None pack (sym (none_in n value (object_in n value pack h) (extension_absent extension_name v value free e)) ∙ h))

view_unpacked : (n : ℕ) (v : PlainTree) (f : ViewFields) → IsFreeOfIt v → object_of (view_fields n) v ≡ Some f → IsUnpacked f
view_unpacked n v f free e =
    let p = view_parts n v f (object_read (view_fields n) v f e).1 in
    none_found n v f.packed (find_member (codes "extensions") v) free refl (sym (packed_is n v) ∙ p.packed)

items_unpacked : (n : ℕ) (ts : List PlainTree) (fs : List ViewFields) → Each IsFreeOfIt ts → AreRead (object_of (view_fields n)) ts fs → Each IsUnpacked fs
items_unpacked n [] [] free h = tt
items_unpacked n [] (f ∷ fs) free h = absurd h
items_unpacked n (t ∷ ts) [] free h = tt
items_unpacked n (t ∷ ts) (f ∷ fs) free h = (view_unpacked n t f free.0 h.0, items_unpacked n ts fs free.1 h.1)

list_unpacked : (n : ℕ) (t : PlainTree) (fs : List ViewFields) → IsFreeOfIt t → items_of_shape BufferViews (object_of (view_fields n)) t ≡ Ok fs → Each IsUnpacked fs
list_unpacked n null fs free h = absurd (cc)
list_unpacked n (truth b) fs free h = absurd (cc)
list_unpacked n (number s) fs free h = absurd (cc)
list_unpacked n (text s) fs free h = absurd (cc)
list_unpacked n (members ms) fs free h = absurd (cc)
list_unpacked n (list ts) fs free h = items_unpacked n (item_list ts) fs (list_free (is_named extension_name) ts free) (items_are_read BufferViews (object_of (view_fields n)) ts fs h)

found_unpacked : (n : ℕ) (t : PlainTree) (fs : List ViewFields) (found : Option PlainTree) → IsFreeOfIt t → find_member (codes "bufferViews") t ≡ found → items_by BufferViews (object_of (view_fields n)) found ≡ Ok fs → Each IsUnpacked fs
found_unpacked n t fs None free e h =
    let h' : ◌≡◌ {A = Result (List ViewFields) FieldFault} (Ok []) (Ok fs) = h in
    let empty : [] ≡ fs = cc in
    subst (Each IsUnpacked) empty tt
found_unpacked n t fs (Some v) free e h = list_unpacked n v fs (found_free (is_named extension_name) (codes "bufferViews") t v free e) h

each_unpacked : (t : PlainTree) (f : AssetFields) (used : List (List ℕ)) → asset_fields t ≡ Ok f → supported Plain (extensions_in_use t) ≡ Ok used → Each IsUnpacked f.views
each_unpacked t f used e h =
    let a = asset_parts t f e in
    let n = length f.buffers in
    let found = find_member (codes "bufferViews") t in
    found_unpacked n t f.views found (free_of_it t used h) refl (sym (items_are BufferViews (codes "bufferViews") (object_of (view_fields n)) t found refl) ∙ a.views)

-- no view has an extension object
pub fields_unpacked : (t : PlainTree) (f : AssetFields) (used : List (List ℕ)) → asset_fields t ≡ Ok f → supported Plain (extensions_in_use t) ≡ Ok used
    → All (λ (v : ViewFields). v.packed ≡ None) f.views
fields_unpacked t f used e h = all_of_each IsUnpacked f.views (each_unpacked t f used e h)

-- ---- the views

abbrev IsPlain : View → Type 0
IsPlain v = v.packed ≡ None

found_plain : (buffers : List BufferFields) (at : ℕ) (f : ViewFields) (fields : Option PackedFields) (pack : Option Packed) → fields ≡ None → packed_of buffers at f fields ≡ Ok pack → pack ≡ None
found_plain buffers at f None pack none e = sym (same None pack e)
found_plain buffers at f (Some p) pack none e = absurd (cc)

each_plain : (buffers : List BufferFields) (at : ℕ) (fs : List ViewFields) (vs : List View) → each (view_of buffers) at fs ≡ Ok vs → Each IsUnpacked fs → Each IsPlain vs
each_plain buffers at [] vs e none = subst (Each IsPlain) (same [] vs e) tt
each_plain buffers at (f ∷ fs) vs e none =
    step (view_of buffers at f) (λ y. each (view_of buffers) (at + 1) fs >>= λ ys. Ok (y ∷ ys)) vs e (λ y one more.
    step (each (view_of buffers) (at + 1) fs) (λ ys. Ok (y ∷ ys)) vs more (λ ys others whole.
    subst (Each IsPlain) (same (y ∷ ys) vs whole)
    (found_plain buffers at f f.packed y.packed none.0 (view_holds buffers at f y one).packed, each_plain buffers (at + 1) fs ys others none.1)))

pub none_compressed : (d : Document) (a : AssetParts) → asset_of Plain d ≡ Ok a → All (λ (v : View). v.packed ≡ None) a.views
unfolding asset_of
none_compressed d a e =
    asset_holds Plain d.tree d.bin a e (λ fields used ruled h whole.
    let views = (rules_hold fields.buffers fields.views fields.accessors d.bin ruled h.by_rule).all_views in
    subst (λ (b : AssetParts). All IsPlain b.views) whole
    (all_of_each IsPlain ruled.views (each_plain fields.buffers 0 fields.views ruled.views views (each_unpacked d.tree fields used h.has_fields h.supports))))
