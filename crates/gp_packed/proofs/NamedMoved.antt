-- The edits of groups that move add no extension to those in use.
use Rattle.std.specs.Prelude.{if◌then◌else◌, codes, option_and_then, is_none}
use Rattle.std.specs.Str.{chars}
use Rattle.std.specs.List.{enumerate_from, filter_map, cons_option}
use Rattle.std.proofs.Common.{◌≡◌, ℕ, ◌+◌, Bool, true, false, List, [], ◌∷◌, ◌++◌, length, map, Option, Some, None, refl, sym, subst}
use Rattle.gp_tree.specs.Plain.{PlainTree, PlainTrees, null, truth, number, text, list, members, no_items, item, trees_of}
use Rattle.gp_tree.specs.Values.{whole}
use Rattle.gp_tree.specs.Find.{item_list, object_members, find_member, is_named}
use Rattle.gp_tree.specs.TreeEdits.{with_member, without, at_member, with_items, and_items}
use Rattle.gp_tree.proofs.Inner.{trees_back}
use Rattle.gp_rules.specs.declared.storage.StreamMode.{StreamMode}
use Rattle.gp_rules.specs.declared.storage.StreamMode.TheVariants.{Attributes, Triangles, Indices}
use Rattle.gp_asset.specs.Asset.{AssetParts}
use Rattle.gp_asset.specs.Extensions.{extensions_in_use}
use Rattle.gp_edits.specs.Changes.{whole_number}
use Rattle.gp_edits.specs.Edits.{extension_name}
use Rattle.gp_edits.proofs.Members.{IsOwn, IsApart, names_apart, made, gone, removed_is, changed_is}
use Rattle.gp_edits.proofs.KeyNames.{extensions_key, used_key, required_key}
use Rattle.gp_edits.proofs.Named.{AreAmong, same_among, none_among, both_among, later_among, under, keys_of, items_under, HasNoMore, set_no_more, altered_no_more, altered_in_use}
use Rattle.gp_edits.proofs.OneMore.{one_after_one, one_more}
use Rattle.gp_edits.proofs.Named.{rest_among}
use Rattle.gp_sameness.specs.Moved.{Moved, group_with}
use Rattle.gp_sameness.specs.Survivors.{survives, renumbered, where_numbered}
use Rattle.gp_packed.specs.MadeViews.{Made, list_component, made_views}
use Rattle.gp_sameness.specs.References.{each_item, numbered_by, new_reference, new_view_reference, new_sparse_references, new_accessor_references, is_kept, with_new_references}
use Rattle.gp_sameness.specs.Common.{primitive_place}
use Rattle.gp_packed.specs.GroupEdits.{made_number, moved_column, moved_list, moved_by, moved_accessor, list_accessor, with_moved_accessors, with_list_accessors, indexed_by, indexed_primitive, with_all_indices}
use Rattle.gp_packed.specs.Plan.{output_views}
use Rattle.gp_packed.specs.ViewEdits.{unplaced}
use Rattle.gp_packed.specs.Packed.{with_made_views, packed_tree}
use Rattle.gp_packed.specs.SoundMoved.{unstored_tree, UnstoredTreesUseNoMore, PackedTreesUseOneMore, PackedTreesAreSupported}
use Rattle.gp_packed.proofs.AccessorsRead.{made_list}
use Rattle.gp_packed.proofs.SoundPacked.{made_view, chosen}
use Rattle.gp_packed.proofs.StoredTrees.{stored_one}

-- ---- changes that add no key under `extensions`

abbrev AddsNone : (PlainTree → PlainTree) → Type 0
AddsNone change = (t : PlainTree) → AreAmong (under (change t)) (under t)

-- and no key of the value itself
abbrev AddsNoKey : (PlainTree → PlainTree) → Type 0
AddsNoKey change = (t : PlainTree) → HasNoMore (change t) t

then_none : (us vs ws : List (List ℕ)) → AreAmong us vs → AreAmong vs ws → AreAmong us ws
then_none us vs ws f g q h = g q (f q h)

member_adds : (key : List ℕ) (change : PlainTree → PlainTree) → AddsNoKey change → AddsNoKey (at_member key change)
member_adds key change h t = subst (λ u. HasNoMore u t) (sym (changed_is key change t)) (altered_no_more key (made change) t h)

-- a number that is set, in a member apart from `extensions`
number_adds : (key : List ℕ) (k : ℕ) → IsApart extensions_key key → IsOwn key → AddsNone (with_member key (whole_number k))
number_adds key k apart own t = set_no_more key (whole_number k) t apart own refl

removed_adds : (key : List ℕ) → AddsNone (without key)
removed_adds key t = (subst (λ u. HasNoMore u t) (sym (removed_is key t)) (altered_no_more key gone t (λ v. tt))).0

-- ---- lists

list_adds : (change : List PlainTree → List PlainTree) → ((ts : PlainTrees) → AreAmong (items_under (trees_of (change (item_list ts)))) (items_under ts)) → AddsNoKey (with_items change)
list_adds change h null = (same_among [], same_among [])
list_adds change h (truth b) = (same_among [], same_among [])
list_adds change h (number s) = (same_among [], same_among [])
list_adds change h (text s) = (same_among [], same_among [])
list_adds change h (members ms) = (same_among (under (members ms)), same_among (keys_of (object_members (members ms))))
list_adds change h (list ts) = (h ts, same_among [])

numbered_adds : (k : ℕ) (change : ℕ → PlainTree → PlainTree) (ts : PlainTrees) → ((at : ℕ) → AddsNone (change at))
    → AreAmong (items_under (trees_of (map (λ (p : ℕ × PlainTree). change p.0 p.1) (enumerate_from k (item_list ts))))) (items_under ts)
numbered_adds k change no_items h = same_among []
numbered_adds k change (item t ts) h =
    both_among (under (change k t)) (items_under (trees_of (map (λ (p : ℕ × PlainTree). change p.0 p.1) (enumerate_from (k + 1) (item_list ts))))) (under t) (items_under ts)
    (h k t) (numbered_adds (k + 1) change ts h)

each_adds : (change : ℕ → PlainTree → PlainTree) → ((at : ℕ) → AddsNone (change at)) → AddsNoKey (each_item change)
each_adds change h = list_adds (λ ts. map (λ (p : ℕ × PlainTree). change p.0 p.1) (enumerate_from 0 ts)) (λ ts. numbered_adds 0 change ts h)

joined_adds : (ts more : List PlainTree) → AreAmong (items_under (trees_of more)) [] → AreAmong (items_under (trees_of (ts ++ more))) (items_under (trees_of ts))
joined_adds [] more h = h
joined_adds (t ∷ ts) more h = both_among (under t) (items_under (trees_of (ts ++ more))) (under t) (items_under (trees_of ts)) (same_among (under t)) (joined_adds ts more h)

added_adds : (more : List PlainTree) → AreAmong (items_under (trees_of more)) [] → AddsNoKey (and_items more)
added_adds more h =
    list_adds (λ ts. ts ++ more) (λ ts. subst (λ us. AreAmong (items_under (trees_of (item_list ts ++ more))) (items_under us)) (trees_back ts) (joined_adds (item_list ts) more h))

-- ---- the root

root_adds : (key : List ℕ) (change : PlainTree → PlainTree) (t : PlainTree) → IsApart used_key key → IsApart required_key key → AddsNoKey change
    → AreAmong (extensions_in_use (at_member key change t)) (extensions_in_use t)
root_adds key change t a b h =
    subst (λ u. AreAmong (extensions_in_use u) (extensions_in_use t)) (sym (changed_is key change t)) (altered_in_use key (made change) t a b h)

-- ---- names of members

abbrev accessors_key : List ℕ
accessors_key = codes "accessors"

abbrev count_key : List ℕ
count_key = codes "count"

abbrev component_key : List ℕ
component_key = codes "componentType"

abbrev view_key : List ℕ
view_key = codes "bufferView"

abbrev indices_key : List ℕ
indices_key = codes "indices"

count_is_own : IsOwn count_key
unfolding chars
count_is_own = refl

component_is_own : IsOwn component_key
unfolding chars
component_is_own = refl

view_is_own : IsOwn view_key
unfolding chars
view_is_own = refl

indices_is_own : IsOwn indices_key
unfolding chars
indices_is_own = refl

set_view : (k : ℕ) → AddsNone (with_member view_key (whole_number k))
set_view k = number_adds view_key k (names_apart extensions_key view_key refl) view_is_own

-- ---- accessors

column_adds : (view : ℕ) (m : Moved) → AddsNone (moved_column view m)
column_adds view m t q h =
    let n = length m.records in
    let u = with_member view_key (whole_number view) t in
    let v = with_member count_key (whole_number n) u in
    let w = without (codes "byteOffset") v in
    set_view view t q
    (number_adds count_key n (names_apart extensions_key count_key refl) count_is_own u q (removed_adds (codes "byteOffset") v q (removed_adds (codes "sparse") w q h)))

indices_add : (view : ℕ) (m : Moved) → AddsNone (moved_list view m)
indices_add view m t q h =
    let n = list_component m in
    let u = with_member view_key (whole_number view) t in
    let v = with_member component_key (whole_number n) u in
    let w = without (codes "byteOffset") v in
    let x = without (codes "min") w in
    let y = without (codes "max") x in
    set_view view t q
    (number_adds component_key n (names_apart extensions_key component_key refl) component_is_own u q
    (removed_adds (codes "byteOffset") v q (removed_adds (codes "min") w q (removed_adds (codes "max") x q (removed_adds (codes "sparse") y q h)))))

moved_adds : (view : ℕ) (column vertex_list : Option Moved) → AddsNone (moved_by view column vertex_list)
moved_adds view (Some m) vertex_list = column_adds view m
moved_adds view None (Some m) = indices_add view m
moved_adds view None None = λ t. same_among (under t)

moved_accessors_add : (moved : List Moved) (a : AssetParts) (t : PlainTree) → AreAmong (extensions_in_use (with_moved_accessors moved a t)) (extensions_in_use t)
unfolding with_moved_accessors
moved_accessors_add moved a t =
    root_adds accessors_key (each_item (moved_accessor moved a)) t (names_apart used_key accessors_key refl) (names_apart required_key accessors_key refl)
    (each_adds (moved_accessor moved a) (λ at. moved_adds (made_number moved a at) (group_with (λ (m : Moved). m.columns) moved at) (group_with (λ (m : Moved). m.lists) moved at)))

-- ---- the lists of primitives without indices

made_list_none : (view : ℕ) (m : Moved) → under (made_list view m) ≡ []
unfolding chars
made_list_none view m = refl

nothing_before : (us vs : List (List ℕ)) → us ≡ [] → AreAmong vs [] → AreAmong (us ++ vs) []
nothing_before us vs e h = subst (λ ws. AreAmong (ws ++ vs) []) (sym e) h

given_adds : (moved : List Moved) (a : AssetParts) (m : Moved) (place : Option ℕ) (ts : List PlainTree) → AreAmong (items_under (trees_of ts)) []
    → AreAmong (items_under (trees_of (cons_option (elim place as (λ x. Option PlainTree) [ None ↦ None | Some at ↦ Some (made_list (made_number moved a at) m) ]) ts))) []
given_adds moved a m None ts h = h
given_adds moved a m (Some at) ts h =
    nothing_before (under (made_list (made_number moved a at) m)) (items_under (trees_of ts)) (made_list_none (made_number moved a at) m) h

lists_add : (moved : List Moved) (a : AssetParts) (ms : List Moved) → AreAmong (items_under (trees_of (filter_map (list_accessor moved a) ms))) []
lists_add moved a [] = same_among []
lists_add moved a (m ∷ ms) = given_adds moved a m m.list_accessor (filter_map (list_accessor moved a) ms) (lists_add moved a ms)

list_accessors_add : (moved : List Moved) (a : AssetParts) (t : PlainTree) → AreAmong (extensions_in_use (with_list_accessors moved a t)) (extensions_in_use t)
unfolding with_list_accessors
list_accessors_add moved a t =
    let more = filter_map (list_accessor moved a) moved in
    root_adds accessors_key (and_items more) t (names_apart used_key accessors_key refl) (names_apart required_key accessors_key refl) (added_adds more (lists_add moved a moved))

-- ---- primitives

indexed_by_number : (place : Option ℕ) (lone : Bool) (t : PlainTree)
    → AreAmong (under (elim place as (λ x. PlainTree) [ None ↦ t | Some at ↦ if lone then with_member indices_key (whole_number at) t else t ])) (under t)
indexed_by_number None lone t = same_among (under t)
indexed_by_number (Some at) true t = number_adds indices_key at (names_apart extensions_key indices_key refl) indices_is_own t
indexed_by_number (Some at) false t = same_among (under t)

indexed_adds : (group : Option Moved) → AddsNone (indexed_by group)
indexed_adds None t = same_among (under t)
indexed_adds (Some m) t = indexed_by_number m.list_accessor (is_none (find_member indices_key t)) t

abbrev meshes_key : List ℕ
meshes_key = codes "meshes"

all_indices_add : (moved : List Moved) (a : AssetParts) (t : PlainTree) → AreAmong (extensions_in_use (with_all_indices moved a t)) (extensions_in_use t)
unfolding with_all_indices
all_indices_add moved a t =
    let indexed : ℕ → ℕ → PlainTree → PlainTree = λ mesh at. indexed_primitive moved (primitive_place a mesh at) in
    let in_mesh : ℕ → PlainTree → PlainTree = λ mesh. at_member (codes "primitives") (each_item (indexed mesh)) in
    root_adds meshes_key (each_item in_mesh) t (names_apart used_key meshes_key refl) (names_apart required_key meshes_key refl)
    (each_adds in_mesh (λ mesh v. (member_adds (codes "primitives") (each_item (indexed mesh))
    (each_adds (indexed mesh) (λ at. indexed_adds (group_with (λ (m : Moved). m.primitives) moved (primitive_place a mesh at)))) v).0))

-- ---- references

numbered_by_adds : (t : PlainTree) (place : Option ℕ) → HasNoMore (numbered_by t place) t
numbered_by_adds t None = (same_among (under t), same_among (keys_of (object_members t)))
numbered_by_adds t (Some k) = (none_among (under t), none_among (keys_of (object_members t)))

reference_adds : (moved : List Moved) (a : AssetParts) → AddsNoKey (new_reference moved a)
reference_adds moved a t = numbered_by_adds t (option_and_then (renumbered moved a) (whole t))

view_reference_adds : (moved : List Moved) (a : AssetParts) → AddsNoKey (new_view_reference moved a)
view_reference_adds moved a = member_adds view_key (new_reference moved a) (reference_adds moved a)

two_add : (first second : PlainTree → PlainTree) → AddsNoKey first → AddsNoKey second → AddsNoKey (λ t. second (first t))
two_add first second f g t =
    let x = f t in
    let y = g (first t) in (
      then_none (under (second (first t))) (under (first t)) (under t) y.0 x.0,
      then_none (keys_of (object_members (second (first t)))) (keys_of (object_members (first t))) (keys_of (object_members t)) y.1 x.1,
    )

sparse_references_add : (moved : List Moved) (a : AssetParts) → AddsNoKey (new_sparse_references moved a)
sparse_references_add moved a =
    two_add (at_member indices_key (new_view_reference moved a)) (at_member (codes "values") (new_view_reference moved a))
    (member_adds indices_key (new_view_reference moved a) (view_reference_adds moved a)) (member_adds (codes "values") (new_view_reference moved a) (view_reference_adds moved a))

either_adds : (kept : Bool) (changed t : PlainTree) → AreAmong (under changed) (under t) → AreAmong (under (if kept then changed else t)) (under t)
either_adds true changed t h = h
either_adds false changed t h = same_among (under t)

accessor_references_add : (moved : List Moved) (a : AssetParts) (at : ℕ) → AddsNone (new_accessor_references moved a at)
accessor_references_add moved a at t =
    either_adds (is_kept moved a at) (at_member (codes "sparse") (new_sparse_references moved a) (new_view_reference moved a t)) t
    (two_add (new_view_reference moved a) (at_member (codes "sparse") (new_sparse_references moved a)) (view_reference_adds moved a)
    (member_adds (codes "sparse") (new_sparse_references moved a) (sparse_references_add moved a)) t).0

abbrev images_key : List ℕ
images_key = codes "images"

new_references_add : (moved : List Moved) (a : AssetParts) (t : PlainTree) → AreAmong (extensions_in_use (with_new_references moved a t)) (extensions_in_use t)
unfolding with_new_references
new_references_add moved a t =
    let u = at_member accessors_key (each_item (new_accessor_references moved a)) t in
    let of_images : PlainTree → PlainTree = each_item (λ at. new_view_reference moved a) in
    then_none (extensions_in_use (at_member images_key of_images u)) (extensions_in_use u) (extensions_in_use t)
    (root_adds images_key of_images u (names_apart used_key images_key refl) (names_apart required_key images_key refl)
    (each_adds (λ at. new_view_reference moved a) (λ at v. (view_reference_adds moved a v).0)))
    (root_adds accessors_key (each_item (new_accessor_references moved a)) t (names_apart used_key accessors_key refl) (names_apart required_key accessors_key refl)
    (each_adds (new_accessor_references moved a) (accessor_references_add moved a)))

-- ---- views

made_view_none : (mode : StreamMode) (size stride : ℕ) → under (made_view mode size stride) ≡ []
unfolding chars
made_view_none Attributes size stride = refl
made_view_none Triangles size stride = refl
made_view_none Indices size stride = refl

made_adds : (made : List Made) → AreAmong (items_under (trees_of (map unplaced made))) []
made_adds [] = same_among []
made_adds (v ∷ made) =
    nothing_before (under (unplaced v)) (items_under (trees_of (map unplaced made))) (made_view_none v.coding.mode (length v.contents) v.coding.stride) (made_adds made)

chosen_step : (b : Bool) (k : ℕ) (test : ℕ → Bool) (t : PlainTree) (ts : PlainTrees) → test k ≡ b → AreAmong (items_under (trees_of (chosen test (k + 1) (item_list ts)))) (items_under ts)
    → AreAmong (items_under (trees_of (chosen test k (item_list (item t ts))))) (items_under (item t ts))
chosen_step true k test t ts e rest =
    rw e (both_among (under t) (items_under (trees_of (chosen test (k + 1) (item_list ts)))) (under t) (items_under ts) (same_among (under t)) rest)
chosen_step false k test t ts e rest =
    rw e (then_none (items_under (trees_of (chosen test (k + 1) (item_list ts)))) (items_under ts) (under t ++ items_under ts) rest (later_among (under t) (items_under ts)))

chosen_adds : (k : ℕ) (test : ℕ → Bool) (ts : PlainTrees) → AreAmong (items_under (trees_of (chosen test k (item_list ts)))) (items_under ts)
chosen_adds k test no_items = same_among []
chosen_adds k test (item t ts) = chosen_step (test k) k test t ts refl (chosen_adds (k + 1) test ts)

abbrev buffer_views_key : List ℕ
buffer_views_key = codes "bufferViews"

made_views_add : (moved : List Moved) (a : AssetParts) (t : PlainTree) → AreAmong (extensions_in_use (with_made_views moved a t)) (extensions_in_use t)
unfolding with_made_views
made_views_add moved a t =
    let more = map unplaced (made_views a moved) in
    let stay = where_numbered (survives moved a) in
    root_adds buffer_views_key (λ views. and_items more (with_items stay views)) t (names_apart used_key buffer_views_key refl) (names_apart required_key buffer_views_key refl)
    (two_add (with_items stay) (and_items more) (list_adds stay (chosen_adds 0 (survives moved a))) (added_adds more (made_adds (made_views a moved))))

-- ---- all of them

unstored_adds : (moved : List Moved) (a : AssetParts) (root : PlainTree) → AreAmong (extensions_in_use (unstored_tree moved a root)) (extensions_in_use root)
unstored_adds moved a root q h =
    let changed = with_moved_accessors moved a root in
    let listed = with_list_accessors moved a changed in
    let indexed = with_all_indices moved a listed in
    moved_accessors_add moved a root q
    (list_accessors_add moved a changed q
    (all_indices_add moved a listed q
    (new_references_add moved a indexed q
    (made_views_add moved a (with_new_references moved a indexed) q h))))

pub unstored_no_more : UnstoredTreesUseNoMore
unstored_no_more moved a root name h = unstored_adds moved a root (is_named name) h

pub packed_one : PackedTreesUseOneMore
unfolding packed_tree
packed_one moved a root =
    let u = unstored_tree moved a root in
    let t = packed_tree moved a root in
    one_more t root
    (one_after_one (extensions_in_use t) (extensions_in_use u) (extensions_in_use root) (stored_one (output_views moved a) u)
    (rest_among extension_name (extensions_in_use u) (extensions_in_use root) (unstored_adds moved a root)))

pub packed_supported : PackedTreesAreSupported
packed_supported moved a root used h = (packed_one moved a root).supported used h
