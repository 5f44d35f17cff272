-- The fields of an asset read back after the edits of unpacking.
use Rattle.std.specs.Prelude.{codes, option_map, IsOk}
use Rattle.std.proofs.Common.{◌≡◌, ℕ, ◌<◌, ◌^◌, List, [], ◌∷◌, length, Option, Some, None, Result, Ok, refl, sym, ap, ◌∙◌, subst, arith}
use Rattle.gp_tree.specs.Plain.{PlainTree, list, no_items, item}
use Rattle.gp_tree.specs.Sound.{HasDistinctKeys}
use Rattle.gp_tree.specs.Values.{IsName}
use Rattle.gp_tree.specs.Find.{IsObject, find_member}
use Rattle.gp_tree.specs.TreeEdits.{set_first, remove_first, change_first, without, at_member}
use Rattle.gp_tree.proofs.Kept.{find_set, find_set_other, find_remove_other, find_removed, find_change, find_change_other}
use Rattle.gp_fields.specs.declared.fault.Place.TheVariants.{ExtensionsUsed, ExtensionsRequired, Buffers, BufferViews}
use Rattle.gp_fields.specs.declared.fault.FieldFault.{FieldFault}
use Rattle.gp_fields.specs.Shapes.{object_of, a_text}
use Rattle.gp_fields.specs.Fields.{BufferFields, ViewFields, buffer_fields, view_fields}
use Rattle.gp_fields.specs.Record.{AssetFields, items_of_member, asset_fields}
use Rattle.gp_edits.specs.Edits.{sized_buffer, with_one_buffer, without_extension_named}
use Rattle.gp_edits.specs.ReadingBack.{buffer_of_length, with_views_at, plain_views_fields, FitsEach, fields_with, plain_in_one, plain_in_none}
use Rattle.gp_edits.proofs.FieldsBack.{a_name, apart}
use Rattle.gp_edits.proofs.Emptied.{value_distinct}
use Rattle.gp_edits.proofs.KeysBack.{IsLone, object_after, lone_set, lone_remove, lone_change}
use Rattle.gp_edits.proofs.ViewsBack.{buffer_again}
use Rattle.gp_edits.proofs.ItemsBack.{read_items, views_again, views_counted, no_views_at, items_by, items_are, items_same}
use Rattle.gp_edits.proofs.NamesBack.{used_again, required_again, named_other, named_object}
use Rattle.gp_edits.proofs.AssetsBack.{asset_parts, asset_with}

-- ---- the views of a root

views_by : (n m : ℕ) (offsets : List ℕ) (fs : List ViewFields) (found : Option PlainTree) → ((v : PlainTree) → found ≡ Some v → HasDistinctKeys v) → items_by BufferViews (object_of (view_fields n)) found ≡ Ok fs
    → length offsets ≡ length fs → (0 < length fs → 0 < m) → FitsEach offsets → items_by BufferViews (object_of (view_fields m)) (option_map (with_views_at offsets) found) ≡ Ok (plain_views_fields offsets fs)
views_by n m offsets fs None keys h e some low =
    let h' : ◌≡◌ {A = Result (List ViewFields) FieldFault} (Ok []) (Ok fs) = h in
    let none : [] ≡ fs = cc in
    ap Ok (sym (no_views_at offsets fs (sym none)))
views_by n m offsets fs (Some v) keys h e some low = views_again n m offsets v fs (keys v refl) h e some low

-- as they were placed
placed_views : (n m : ℕ) (offsets : List ℕ) (t u : PlainTree) (fs : List ViewFields) → HasDistinctKeys t → find_member (codes "bufferViews") u ≡ option_map (with_views_at offsets) (find_member (codes "bufferViews") t)
    → items_of_member BufferViews (codes "bufferViews") (object_of (view_fields n)) t ≡ Ok fs → length offsets ≡ length fs → (0 < length fs → 0 < m) → FitsEach offsets
    → items_of_member BufferViews (codes "bufferViews") (object_of (view_fields m)) u ≡ Ok (plain_views_fields offsets fs)
placed_views n m offsets t u fs keys e h count some low =
    let name = codes "bufferViews" in
    let found = find_member name t in
    items_are BufferViews name (object_of (view_fields m)) u (option_map (with_views_at offsets) found) e
    ∙ views_by n m offsets fs found (λ v is. value_distinct name v t keys is) (sym (items_are BufferViews name (object_of (view_fields n)) t found refl) ∙ h) count some low

-- ---- a root with its views placed, and other buffers

record ArePlaced (offsets : List ℕ) (t u : PlainTree) : Type 0 where
  object : IsObject u
  views : find_member (codes "bufferViews") u ≡ option_map (with_views_at offsets) (find_member (codes "bufferViews") t)
  lone : (key : List ℕ) → (key ≡ codes "buffers" → ⊥) → (key ≡ codes "bufferViews" → ⊥) → IsLone key u
  others : (name : List ℕ) → (name ≡ codes "buffers" → ⊥) → (name ≡ codes "bufferViews" → ⊥) → find_member name u ≡ find_member name t

-- those of its members that aren't lists of extensions, without the name of the extension
other_again : (name : List ℕ) (offsets : List ℕ) (t u : PlainTree) → ArePlaced offsets t u
    → (name ≡ codes "extensionsUsed" → ⊥) → (name ≡ codes "extensionsRequired" → ⊥) → (name ≡ codes "buffers" → ⊥) → (name ≡ codes "bufferViews" → ⊥)
    → find_member name (without_extension_named u) ≡ find_member name t
other_again name offsets t u h used required buffers views = named_other name u used required ∙ h.others name buffers views

placed_again : (offsets : List ℕ) (t u : PlainTree) (f : AssetFields) (buffers : List BufferFields) → HasDistinctKeys t → asset_fields t ≡ Ok f → ArePlaced offsets t u
    → items_of_member Buffers (codes "buffers") (object_of buffer_fields) u ≡ Ok buffers → length offsets ≡ length f.views → (0 < length f.views → 0 < length buffers) → FitsEach offsets
    → asset_fields (without_extension_named u) ≡ Ok (fields_with buffers (plain_views_fields offsets f.views) f)
placed_again offsets t u f buffers keys e h bs count some low =
    let a = asset_parts t f e in
    let w = without_extension_named u in
    asset_with t w f buffers (plain_views_fields offsets f.views) a (named_object u h.object)
    (used_again u (h.lone (codes "extensionsUsed") (apart _ _ refl) (apart _ _ refl))
    (subst IsOk (sym (items_same ExtensionsUsed (codes "extensionsUsed") a_text t u (h.others (codes "extensionsUsed") (apart _ _ refl) (apart _ _ refl)))) a.used))
    (required_again u (h.lone (codes "extensionsRequired") (apart _ _ refl) (apart _ _ refl))
    (subst IsOk (sym (items_same ExtensionsRequired (codes "extensionsRequired") a_text t u (h.others (codes "extensionsRequired") (apart _ _ refl) (apart _ _ refl)))) a.required))
    (items_same Buffers (codes "buffers") (object_of buffer_fields) u w (named_other (codes "buffers") u (apart _ _ refl) (apart _ _ refl)) ∙ bs)
    (placed_views (length f.buffers) (length buffers) offsets t w f.views keys (named_other (codes "bufferViews") u (apart _ _ refl) (apart _ _ refl) ∙ h.views) a.views count some low)
    (views_counted offsets f.views count)
    (record {
      accessors = other_again (codes "accessors") offsets t u h (apart _ _ refl) (apart _ _ refl) (apart _ _ refl) (apart _ _ refl);
      meshes = other_again (codes "meshes") offsets t u h (apart _ _ refl) (apart _ _ refl) (apart _ _ refl) (apart _ _ refl);
      skins = other_again (codes "skins") offsets t u h (apart _ _ refl) (apart _ _ refl) (apart _ _ refl) (apart _ _ refl);
      animations = other_again (codes "animations") offsets t u h (apart _ _ refl) (apart _ _ refl) (apart _ _ refl) (apart _ _ refl);
      images = other_again (codes "images") offsets t u h (apart _ _ refl) (apart _ _ refl) (apart _ _ refl) (apart _ _ refl);
    })

lone : (key : List ℕ) (t : PlainTree) → HasDistinctKeys t → IsLone key t
lone key t keys = record { gone = find_removed key t keys }

-- the views alone
abbrev with_views : List ℕ → PlainTree → PlainTree
with_views offsets t = at_member (codes "bufferViews") (with_views_at offsets) t

views_object : (offsets : List ℕ) (t : PlainTree) → IsObject t → IsObject (with_views offsets t)
views_object offsets t o = object_after (change_first (codes "bufferViews") (with_views_at offsets)) t o

views_lone : (key offsets : List ℕ) (t : PlainTree) → HasDistinctKeys t → (key ≡ codes "bufferViews" → ⊥) → IsLone key (with_views offsets t)
views_lone key offsets t keys d = lone_change key (codes "bufferViews") (with_views_at offsets) t d (lone key t keys)

-- ---- one buffer

buffers_name : IsName (codes "buffers")
buffers_name = a_name (codes "buffers") refl

abbrev one_buffer : ℕ → PlainTree
one_buffer n = list (item (sized_buffer n) no_items)

one_is_read : (n : ℕ) (u : PlainTree) → n < 2 ^ 32 → find_member (codes "buffers") u ≡ Some (one_buffer n)
    → items_of_member Buffers (codes "buffers") (object_of buffer_fields) u ≡ Ok (buffer_of_length n ∷ [])
one_is_read n u small e =
    items_are Buffers (codes "buffers") (object_of buffer_fields) u (Some (one_buffer n)) e
    ∙ read_items Buffers (object_of buffer_fields) (sized_buffer n ∷ []) (buffer_of_length n ∷ []) (buffer_again n small, tt)

one_placed : (n : ℕ) (offsets : List ℕ) (t : PlainTree) → IsObject t → HasDistinctKeys t → ArePlaced offsets t (with_one_buffer n (with_views offsets t))
unfolding with_one_buffer
one_placed n offsets t o keys =
    let v = with_views offsets t in
    record {
      object = object_after (set_first (codes "buffers") (one_buffer n)) v (views_object offsets t o);
      views = find_set_other (codes "bufferViews") (codes "buffers") (one_buffer n) v (apart _ _ refl) buffers_name ∙ find_change (codes "bufferViews") (with_views_at offsets) t;
      lone = λ key d e. lone_set key (codes "buffers") (one_buffer n) v d buffers_name (views_lone key offsets t keys e);
      others = λ name d e. find_set_other name (codes "buffers") (one_buffer n) v d buffers_name ∙ find_change_other name (codes "bufferViews") (with_views_at offsets) t e;
    }

pub one_again : (n : ℕ) (offsets : List ℕ) (t : PlainTree) (f : AssetFields)
    → HasDistinctKeys t → asset_fields t ≡ Ok f → n < 2 ^ 32 → length offsets ≡ length f.views → FitsEach offsets
    → asset_fields (plain_in_one n offsets t) ≡ Ok (fields_with (buffer_of_length n ∷ []) (plain_views_fields offsets f.views) f)
unfolding with_one_buffer
one_again n offsets t f keys e small count low =
    let o = (asset_parts t f e).object in
    let v = with_views offsets t in
    let u = with_one_buffer n v in
    placed_again offsets t u f (buffer_of_length n ∷ []) keys e (one_placed n offsets t o keys)
    (one_is_read n u small (find_set (codes "buffers") (one_buffer n) v (views_object offsets t o) buffers_name))
    count (λ _. omega arith) low

-- ---- no buffer and no views

none_placed : (offsets : List ℕ) (t : PlainTree) → IsObject t → HasDistinctKeys t → ArePlaced offsets t (without (codes "buffers") (with_views offsets t))
none_placed offsets t o keys =
    let v = with_views offsets t in
    record {
      object = object_after (remove_first (codes "buffers")) v (views_object offsets t o);
      views = find_remove_other (codes "bufferViews") (codes "buffers") v (apart _ _ refl) ∙ find_change (codes "bufferViews") (with_views_at offsets) t;
      lone = λ key d e. lone_remove key (codes "buffers") v d (views_lone key offsets t keys e);
      others = λ name d e. find_remove_other name (codes "buffers") v d ∙ find_change_other name (codes "bufferViews") (with_views_at offsets) t e;
    }

no_offsets : (offsets : List ℕ) → length offsets ≡ 0 → FitsEach offsets
no_offsets [] e k d h = absurd (omega (arith, h))
no_offsets (o ∷ offsets) e k d h = absurd (omega (arith, e))

pub none_again : (offsets : List ℕ) (t : PlainTree) (f : AssetFields)
    → HasDistinctKeys t → asset_fields t ≡ Ok f → f.views ≡ [] → length offsets ≡ length f.views
    → asset_fields (plain_in_none offsets t) ≡ Ok (fields_with [] [] f)
none_again offsets t f keys e none count =
    let o = (asset_parts t f e).object in
    let u = without (codes "buffers") (with_views offsets t) in
    let empty : length f.views ≡ 0 = ap length none in
    placed_again offsets t u f [] keys e (none_placed offsets t o keys)
    (items_are Buffers (codes "buffers") (object_of buffer_fields) u None (views_lone (codes "buffers") offsets t keys (apart _ _ refl)).gone)
    count (λ some. absurd (omega (arith, some, empty))) (no_offsets offsets (count ∙ empty))
    ∙ ap (λ views. Ok (fields_with [] views f)) (no_views_at offsets f.views none)
