-- Primitives that got `indices` are as before without them.
use Rattle.std.specs.Prelude.{codes, if◌then◌else◌, option_and_then}
use Rattle.std.specs.Str.{chars}
use Rattle.std.proofs.Common.{◌≡◌, ℕ, Bool, true, false, not, ◌&&◌, List, [], ◌∷◌, slice_get, Option, Some, None, is_some, refl, sym, ap, ◌∙◌, subst}
use Rattle.gp_tree.specs.Plain.{PlainTree, null, truth, number, text, list, members, members_of}
use Rattle.gp_tree.specs.Sound.{HasDistinctKeys}
use Rattle.gp_tree.specs.Find.{PlainMember, is_named, member_list, array_items, value_of, find_member}
use Rattle.gp_tree.specs.TreeEdits.{set_first, remove_first, with_member, without, at_member}
use Rattle.gp_tree.proofs.Firsts.{list_of}
use Rattle.gp_tree.proofs.Inner.{members_back}
use Rattle.gp_asset.specs.Asset.{AssetParts}
use Rattle.gp_edits.specs.Changes.{whole_number}
use Rattle.gp_edits.proofs.Members.{IsOwn, once, changed_twice, removed_absent}
use Rattle.gp_edits.proofs.ViewsIn.{member_stays}
use Rattle.gp_sameness.specs.Moved.{Moved, group_with}
use Rattle.gp_sameness.specs.References.{each_item}
use Rattle.gp_sameness.specs.Common.{primitive_place, had_indices, without_got_indices}
use Rattle.gp_packed.specs.GroupEdits.{indexed_by, indexed_primitive}
use Rattle.gp_packed.specs.CommonMoved.{items_in, items_at}
use Rattle.gp_packed.proofs.CommonItems.{items_joined, items_stay, from, undone, array_distinct, item_distinct}

-- ---- a member put last is removed again

put_step : (b : Bool) (k : List ℕ) (v : PlainTree) (m : PlainMember) (ms : List PlainMember) → is_named k m.0 ≡ b
    → (value_of k ms ≡ None → remove_first k (set_first k v ms) ≡ ms) → value_of k (m ∷ ms) ≡ None → remove_first k (set_first k v (m ∷ ms)) ≡ m ∷ ms
put_step true k v m ms n more e = let x : ◌≡◌ {A = Option PlainTree} (Some m.1) None = rw n at e in absurd (cc)
put_step false k v m ms n more e = let x : value_of k ms ≡ None = rw n at e in rw n (rw n (ap (λ l. m ∷ l) (more x)))

put_last : (k : List ℕ) (v : PlainTree) (ms : List PlainMember) → IsOwn k → value_of k ms ≡ None → remove_first k (set_first k v ms) ≡ ms
put_last k v [] own e = rw own refl
put_last k v (m ∷ ms) own e = put_step (is_named k m.0) k v m ms refl (put_last k v ms own) e

put_then_removed : (k : List ℕ) (v t : PlainTree) → IsOwn k → find_member k t ≡ None → without k (with_member k v t) ≡ t
put_then_removed k v null own e = refl
put_then_removed k v (truth b) own e = refl
put_then_removed k v (number s) own e = refl
put_then_removed k v (text s) own e = refl
put_then_removed k v (list ts) own e = refl
put_then_removed k v (members ms) own e =
    ap (λ l. members (members_of (remove_first k l))) (list_of (set_first k v (member_list ms)))
    ∙ ap (λ l. members (members_of l)) (put_last k v (member_list ms) own e)
    ∙ ap members (members_back ms)

indices_is_own : IsOwn (codes "indices")
unfolding chars
indices_is_own = refl

-- ---- a primitive

-- by what the asset knows of it
abbrev without_got : Option Moved → Bool → PlainTree → PlainTree
without_got m had t = if is_some m && not had then without (codes "indices") t else t

got_undone : (m : Moved) (list : Option ℕ) (found : Option PlainTree) (t : PlainTree) → m.list_accessor ≡ list → find_member (codes "indices") t ≡ found
    → without_got (Some m) (is_some found) (indexed_by (Some m) t) ≡ t
got_undone m None None t l e = rw l (removed_absent (codes "indices") t e)
got_undone m None (Some v) t l e = rw l refl
got_undone m (Some at) None t l e = rw l (rw e (put_then_removed (codes "indices") (whole_number at) t indices_is_own e))
got_undone m (Some at) (Some v) t l e = rw l (rw e refl)

either_undone : (m : Option Moved) (t : PlainTree) → without_got m (is_some (find_member (codes "indices") t)) (indexed_by m t) ≡ t
either_undone None t = refl
either_undone (Some m) t = got_undone m m.list_accessor (find_member (codes "indices") t) t refl refl

primitive_undone : (moved : List Moved) (a : AssetParts) (place : ℕ) (t : PlainTree) → is_some (find_member (codes "indices") t) ≡ had_indices a place
    → without_got_indices moved a place (indexed_primitive moved place t) ≡ t
primitive_undone moved a place t same =
    let m = group_with (λ (m : Moved). m.primitives) moved place in
    ap (λ had. without_got m had (indexed_by m t)) (sym same) ∙ either_undone m t

-- ---- those of a mesh

abbrev Knows : AssetParts → (ℕ → ℕ) → List PlainTree → Type 0
Knows a place ts = (at : ℕ) (t : PlainTree) → slice_get ts at ≡ Some t → is_some (find_member (codes "indices") t) ≡ had_indices a (place at)

items_undone : (moved : List Moved) (a : AssetParts) (place : ℕ → ℕ) (t : PlainTree) → Knows a place (array_items t)
    → each_item (λ at. without_got_indices moved a (place at)) (each_item (λ at. indexed_primitive moved (place at)) t) ≡ t
items_undone moved a place t knows =
    let f : ℕ → PlainTree → PlainTree = λ at. without_got_indices moved a (place at) in
    let g : ℕ → PlainTree → PlainTree = λ at. indexed_primitive moved (place at) in
    items_joined (from 0 f) (from 0 g) t
    ∙ items_stay (λ ts. from 0 f (from 0 g ts)) t (undone f g (array_items t) (λ at u e. primitive_undone moved a (place at) u (knows at u e)))

mesh_undone : (moved : List Moved) (a : AssetParts) (place : ℕ → ℕ) (t : PlainTree) → HasDistinctKeys t → Knows a place (items_at (codes "primitives") t)
    → at_member (codes "primitives") (each_item (λ at. without_got_indices moved a (place at))) (at_member (codes "primitives") (each_item (λ at. indexed_primitive moved (place at))) t) ≡ t
mesh_undone moved a place t h knows =
    let f : PlainTree → PlainTree = each_item (λ at. without_got_indices moved a (place at)) in
    let g : PlainTree → PlainTree = each_item (λ at. indexed_primitive moved (place at)) in
    changed_twice (codes "primitives") f g t (once (codes "primitives") t h)
    ∙ member_stays (codes "primitives") (λ v. f (g v)) t (λ v found. items_undone moved a place v (subst (λ o. Knows a place (items_in o)) found knows))

-- ---- of all meshes

abbrev pub KnowsAll : AssetParts → List PlainTree → Type 0
KnowsAll a meshes = (mesh at : ℕ) (t : PlainTree) → option_and_then (λ u. slice_get (items_at (codes "primitives") u) at) (slice_get meshes mesh) ≡ Some t
    → is_some (find_member (codes "indices") t) ≡ had_indices a (primitive_place a mesh at)

abbrev pub each_in_mesh : AssetParts → (ℕ → PlainTree → PlainTree) → ℕ → PlainTree → PlainTree
each_in_mesh a change mesh = at_member (codes "primitives") (each_item (λ at. change (primitive_place a mesh at)))

pub meshes_undone : (moved : List Moved) (a : AssetParts) (t : PlainTree) → HasDistinctKeys t → KnowsAll a (array_items t)
    → each_item (each_in_mesh a (without_got_indices moved a)) (each_item (each_in_mesh a (indexed_primitive moved)) t) ≡ t
meshes_undone moved a t h knows =
    let f : ℕ → PlainTree → PlainTree = each_in_mesh a (without_got_indices moved a) in
    let g : ℕ → PlainTree → PlainTree = each_in_mesh a (indexed_primitive moved) in
    items_joined (from 0 f) (from 0 g) t
    ∙ items_stay (λ ts. from 0 f (from 0 g ts)) t (undone f g (array_items t) (λ mesh u e.
    mesh_undone moved a (primitive_place a mesh) u (item_distinct (array_items t) mesh u (array_distinct t h) e)
    (λ at v found. knows mesh at v (ap (λ o. option_and_then (λ u. slice_get (items_at (codes "primitives") u) at) o) e ∙ found))))
