-- The tree that is made before its views are stored has no member twice that storing writes.
use Rattle.std.specs.Prelude.{option_map, codes}
use Rattle.std.specs.Str.{chars}
use Rattle.std.proofs.Common.{◌≡◌, ℕ, Bool, true, false, List, [], ◌∷◌, ◌++◌, length, map, Option, Some, None, refl, sym, ◌∙◌, subst}
use Rattle.gp_tree.specs.Plain.{PlainTree, null, truth, number, text, list, members}
use Rattle.gp_tree.specs.Sound.{HasDistinctKeys}
use Rattle.gp_tree.specs.Find.{PlainMember, is_named, item_list, member_list, array_items, find_member, value_of}
use Rattle.gp_tree.specs.TreeEdits.{change_first, at_member, and_items, with_items}
use Rattle.gp_tree.proofs.Firsts.{list_of}
use Rattle.gp_tree.proofs.Kept.{find_change}
use Rattle.gp_tree.proofs.Edited.{items_of}
use Rattle.gp_rules.specs.declared.storage.StreamMode.{StreamMode}
use Rattle.gp_rules.specs.declared.storage.StreamMode.TheVariants.{Attributes, Triangles, Indices}
use Rattle.gp_asset.specs.Asset.{AssetParts}
use Rattle.gp_edits.specs.Changes.{whole_number}
use Rattle.gp_edits.proofs.Members.{IsOnce, HasOnce, names_apart, once, once_changed}
use Rattle.gp_edits.proofs.Emptied.{value_distinct}
use Rattle.gp_edits.proofs.KeyNames.{extensions_key, used_key, required_key, buffers_key, views_key}
use Rattle.gp_sameness.specs.Moved.{Moved}
use Rattle.gp_sameness.specs.Survivors.{survives, where_numbered}
use Rattle.gp_packed.specs.MadeViews.{made_views, Made}
use Rattle.gp_packed.specs.ViewEdits.{unplaced, purpose}
use Rattle.gp_packed.proofs.CommonItems.{items_joined, array_distinct, numbered_distinct}
use Rattle.gp_packed.proofs.CommonFour.{Change, accessors_key, meshes_key, images_key, at_four, found_beside, four_once}
use Rattle.gp_packed.proofs.StoredCommon.{HaveOnce, distinct_have_once, both_have_once, HasViewsOnce}

-- ---- the views of the output

abbrev pub drops : List Moved → AssetParts → Change
drops moved a t = with_items (where_numbered (survives moved a)) t

abbrev pub adds_views : List Moved → AssetParts → Change
adds_views moved a t = and_items (map unplaced (made_views a moved)) t

-- ---- those that are made have no `extensions`

none_step : (b : Bool) (key : List ℕ) (m : PlainMember) (ms : List PlainMember) → is_named key m.0 ≡ b
    → (value_of key ms ≡ None → IsOnce key ms) → value_of key (m ∷ ms) ≡ None → IsOnce key (m ∷ ms)
none_step true key m ms n more e = let x : ◌≡◌ {A = Option PlainTree} (Some m.1) None = rw n at e in absurd (cc)
none_step false key m ms n more e =
    let x : value_of key ms ≡ None = rw n at e in
    (λ t. x, more x)

none_once : (key : List ℕ) (ms : List PlainMember) → value_of key ms ≡ None → IsOnce key ms
none_once key [] e = tt
none_once key (m ∷ ms) e = none_step (is_named key m.0) key m ms refl (none_once key ms) e

purpose_once : (size : PlainTree) (mode : StreamMode) (stride : ℕ)
    → IsOnce extensions_key ((codes "buffer", whole_number 0) ∷ (codes "byteOffset", whole_number 0) ∷ (codes "byteLength", size) ∷ purpose mode stride)
unfolding chars
purpose_once size Attributes stride = none_once extensions_key ((codes "buffer", whole_number 0) ∷ (codes "byteOffset", whole_number 0) ∷ (codes "byteLength", size) ∷ purpose Attributes stride) refl
purpose_once size Triangles stride = none_once extensions_key ((codes "buffer", whole_number 0) ∷ (codes "byteOffset", whole_number 0) ∷ (codes "byteLength", size) ∷ purpose Triangles stride) refl
purpose_once size Indices stride = none_once extensions_key ((codes "buffer", whole_number 0) ∷ (codes "byteOffset", whole_number 0) ∷ (codes "byteLength", size) ∷ purpose Indices stride) refl

unplaced_once : (v : Made) → HasOnce extensions_key (unplaced v)
unplaced_once v =
    subst (IsOnce extensions_key) (sym (list_of ((codes "buffer", whole_number 0) ∷ (codes "byteOffset", whole_number 0) ∷ (codes "byteLength", whole_number (length v.contents)) ∷ purpose v.coding.mode v.coding.stride)))
    (purpose_once (whole_number (length v.contents)) v.coding.mode v.coding.stride)

pub made_have_once : (made : List Made) → HaveOnce extensions_key (map unplaced made)
made_have_once [] = tt
made_have_once (v ∷ made) = (unplaced_once v, made_have_once made)

-- ---- the list of views is there once

own_once_step : (b : Bool) (key : List ℕ) (f : Change) (m : PlainMember) (ms : List PlainMember) → is_named key m.0 ≡ b → IsOnce key (m ∷ ms) → IsOnce key (change_first key f ms)
    → IsOnce key (change_first key f (m ∷ ms))
own_once_step true key f m ms n one ih = rw n one
own_once_step false key f m ms n one ih = rw n (λ t. let x : true ≡ false = sym t ∙ n in absurd (cc), ih)

own_once_first : (key : List ℕ) (f : Change) (ms : List PlainMember) → IsOnce key ms → IsOnce key (change_first key f ms)
own_once_first key f [] one = tt
own_once_first key f (m ∷ ms) one = own_once_step (is_named key m.0) key f m ms refl one (own_once_first key f ms one.1)

own_once : (key : List ℕ) (f : Change) (t : PlainTree) → HasOnce key t → HasOnce key (at_member key f t)
own_once key f null one = tt
own_once key f (truth b) one = tt
own_once key f (number s) one = tt
own_once key f (text s) one = tt
own_once key f (list ts) one = tt
own_once key f (members ms) one = subst (IsOnce key) (sym (list_of (change_first key f (member_list ms)))) (own_once_first key f (member_list ms) one)

-- ---- each view has `extensions` once

changed_have_once : (key : List ℕ) (f : List PlainTree → List PlainTree) (t : PlainTree) → HaveOnce key (f (array_items t)) → HaveOnce key (array_items (with_items f t))
changed_have_once key f null h = tt
changed_have_once key f (truth b) h = tt
changed_have_once key f (number s) h = tt
changed_have_once key f (text s) h = tt
changed_have_once key f (members ms) h = tt
changed_have_once key f (list ts) h = subst (HaveOnce key) (sym (items_of (f (item_list ts)))) h

views_have_once : (moved : List Moved) (a : AssetParts) (t : PlainTree) → HasDistinctKeys t → HaveOnce extensions_key (array_items (adds_views moved a (drops moved a t)))
views_have_once moved a t h =
    let more = map unplaced (made_views a moved) in
    let s = where_numbered {A = PlainTree} (survives moved a) in
    subst (λ u. HaveOnce extensions_key (array_items u)) (sym (items_joined (λ ts. ts ++ more) s t))
    (changed_have_once extensions_key (λ ts. s ts ++ more) t
    (both_have_once extensions_key (s (array_items t)) more
    (distinct_have_once extensions_key (s (array_items t)) (numbered_distinct (survives moved a) (array_items t) (array_distinct t h)))
    (made_have_once (made_views a moved))))

-- what is found of a changed value
of_changed : (f : Change) (found : Option PlainTree) (v : PlainTree) (P : PlainTree → Type 0) → ((x : PlainTree) → found ≡ Some x → P (f x)) → option_map f found ≡ Some v → P v
of_changed f None v P h e = absurd (let x : ◌≡◌ {A = Option PlainTree} None (Some v) = e in cc)
of_changed f (Some x) v P h e = let s : f x ≡ v = (let y : ◌≡◌ {A = Option PlainTree} (Some (f x)) (Some v) = e in cc) in subst P s (h x refl)

-- ---- the root

pub four_views_once : (moved : List Moved) (a : AssetParts) (accessors meshes images : Change) (root : PlainTree) → HasDistinctKeys root
    → HasViewsOnce (at_four accessors meshes images (λ t. adds_views moved a (drops moved a t)) root)
four_views_once moved a accessors meshes images root h =
    let views : Change = λ t. adds_views moved a (drops moved a t) in
    let of_views = at_member views_key views root in
    let of_images = at_member images_key images of_views in
    let of_meshes = at_member meshes_key meshes of_images in
    let found : find_member views_key (at_four accessors meshes images views root) ≡ option_map views (find_member views_key root) =
    (found_beside views_key accessors_key accessors of_meshes (names_apart views_key accessors_key refl)
    ∙ found_beside views_key meshes_key meshes of_images (names_apart views_key meshes_key refl)
    ∙ found_beside views_key images_key images of_views (names_apart views_key images_key refl)
    ∙ find_change views_key views root) in
    record {
      used = four_once used_key accessors meshes images views root (names_apart used_key accessors_key refl) (names_apart used_key meshes_key refl) (names_apart used_key images_key refl) (names_apart used_key views_key refl) (once used_key root h);
      required = four_once required_key accessors meshes images views root (names_apart required_key accessors_key refl) (names_apart required_key meshes_key refl) (names_apart required_key images_key refl) (names_apart required_key views_key refl) (once required_key root h);
      buffers = four_once buffers_key accessors meshes images views root (names_apart buffers_key accessors_key refl) (names_apart buffers_key meshes_key refl) (names_apart buffers_key images_key refl) (names_apart buffers_key views_key refl) (once buffers_key root h);
      views = once_changed views_key accessors_key accessors of_meshes (names_apart views_key accessors_key refl)
          (once_changed views_key meshes_key meshes of_images (names_apart views_key meshes_key refl)
          (once_changed views_key images_key images of_views (names_apart views_key images_key refl)
          (own_once views_key views root (once views_key root h))));
      items = λ v e. of_changed views (find_member views_key root) v (λ u. HaveOnce extensions_key (array_items u))
          (λ x there. views_have_once moved a x (value_distinct views_key x root h there)) (sym found ∙ e);
    }
