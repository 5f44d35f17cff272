-- No two keys of an object become equal where groups move, whatever numbers are written.
use Rattle.std.specs.Prelude.{if◌then◌else◌, codes, option_and_then, is_none}
use Rattle.std.specs.List.{enumerate_from, filter_map, cons_option}
use Rattle.std.proofs.Common.{◌≡◌, ◌≢◌, ℕ, ◌+◌, Bool, true, false, List, [], ◌∷◌, ◌++◌, length, map, Option, Some, None, refl, sym, ap, ◌∙◌, subst}
use Rattle.std.proofs.lemmas.Slice.Eq.{bytes_eq-Decides}
use Rattle.gp_tree.specs.Lexical.{Each}
use Rattle.gp_tree.specs.Key.{units}
use Rattle.gp_tree.specs.Values.{IsName, whole}
use Rattle.gp_tree.specs.Plain.{PlainTree, PlainTrees, null, truth, number, text, list, members, no_items, item, no_members, trees_of, members_of}
use Rattle.gp_tree.specs.Sound.{keys, AreDistinct, HasDistinctKeys, ItemsHaveDistinctKeys, MembersHaveDistinctKeys}
use Rattle.gp_tree.specs.Find.{PlainMember, is_named, item_list, member_list, find_member}
use Rattle.gp_tree.specs.TreeEdits.{set_first, remove_first, change_first, with_member, without, at_member, with_items, and_items}
use Rattle.gp_tree.proofs.Inner.{members_back, trees_back}
use Rattle.gp_tree.proofs.Names.{units_of_name}
use Rattle.gp_tree.proofs.Kept.{apart_pairs, pairs_apart}
use Rattle.gp_rules.specs.declared.storage.StreamMode.{StreamMode}
use Rattle.gp_rules.specs.declared.storage.StreamMode.TheVariants.{Attributes, Triangles, Indices}
use Rattle.gp_asset.specs.Asset.{AssetParts}
use Rattle.gp_edits.specs.Changes.{whole_number}
use Rattle.gp_edits.proofs.Sounds.{a_name}
use Rattle.gp_sameness.specs.Moved.{Moved, group_with}
use Rattle.gp_sameness.specs.Survivors.{survives, renumbered, where_numbered}
use Rattle.gp_packed.specs.MadeViews.{Made, list_component, made_views}
use Rattle.gp_sameness.specs.References.{each_item, numbered_by, new_reference, new_view_reference, new_sparse_references, new_accessor_references, is_kept, with_new_references}
use Rattle.gp_sameness.specs.Common.{primitive_place}
use Rattle.gp_packed.specs.GroupEdits.{made_number, moved_by, moved_accessor, list_accessor, with_moved_accessors, with_list_accessors, indexed_by, indexed_primitive, with_all_indices}
use Rattle.gp_packed.specs.ViewEdits.{unplaced}
use Rattle.gp_packed.specs.Packed.{with_made_views}
use Rattle.gp_packed.specs.SoundMoved.{UnstoredTreesHaveDistinctKeys}
use Rattle.gp_packed.proofs.AccessorsRead.{made_list}
use Rattle.gp_packed.proofs.SoundMoved.{list_spelled}
use Rattle.gp_packed.proofs.SoundPacked.{spelled_base, spelled_view, view_spelled, chosen}

-- ---- the keys of an object, by their units

abbrev unit_keys : List PlainMember → List (List ℕ)
unit_keys ms = map units (keys (members_of ms))

abbrev Differ : List ℕ → List ℕ → Type 0
Differ k l = k ≢ l

abbrev Apart : List (List ℕ) → Type 0
Apart [] = Unit {0}
Apart (x ∷ xs) = Each (Differ x) xs × Apart xs

named_true : (name k : List ℕ) → units k ≡ name → is_named name k ≡ true
named_true name k e = (bytes_eq-Decides (units k) name).1 e

other_units : (key k : List ℕ) → IsName key → is_named key k ≡ false → units k ≡ units key → ⊥
other_units key k h n e = let t : is_named key k ≡ true = named_true key k (e ∙ units_of_name key h) in let x : false ≡ true = sym n ∙ t in cc

each_step : (b : Bool) (P : List ℕ → Type 0) (key : List ℕ) (v : PlainTree) (m : PlainMember) (ms : List PlainMember) → is_named key m.0 ≡ b → Each P (unit_keys (m ∷ ms)) → Each P (unit_keys (set_first key v ms))
    → Each P (unit_keys (set_first key v (m ∷ ms)))
each_step true P key v m ms n h rest = rw n h
each_step false P key v m ms n h rest = rw n (h.0, rest)

each_set : (P : List ℕ → Type 0) (key : List ℕ) (v : PlainTree) (ms : List PlainMember) → P (units key) → Each P (unit_keys ms) → Each P (unit_keys (set_first key v ms))
each_set P key v [] k h = (k, tt)
each_set P key v (m ∷ ms) k h = each_step (is_named key m.0) P key v m ms refl h (each_set P key v ms k h.1)

set_step : (b : Bool) (key : List ℕ) (v : PlainTree) (m : PlainMember) (ms : List PlainMember) → IsName key → is_named key m.0 ≡ b → Apart (unit_keys (m ∷ ms)) → Apart (unit_keys (set_first key v ms))
    → Apart (unit_keys (set_first key v (m ∷ ms)))
set_step true key v m ms name n h rest = rw n h
set_step false key v m ms name n h rest = rw n (each_set (Differ (units m.0)) key v ms (other_units key m.0 name n) h.0, rest)

apart_set : (key : List ℕ) (v : PlainTree) (ms : List PlainMember) → IsName key → Apart (unit_keys ms) → Apart (unit_keys (set_first key v ms))
apart_set key v [] name h = (tt, tt)
apart_set key v (m ∷ ms) name h = set_step (is_named key m.0) key v m ms name refl h (apart_set key v ms name h.1)

each_left_step : (b : Bool) (P : List ℕ → Type 0) (key : List ℕ) (m : PlainMember) (ms : List PlainMember) → is_named key m.0 ≡ b → Each P (unit_keys (m ∷ ms)) → Each P (unit_keys (remove_first key ms))
    → Each P (unit_keys (remove_first key (m ∷ ms)))
each_left_step true P key m ms n h rest = rw n h.1
each_left_step false P key m ms n h rest = rw n (h.0, rest)

each_left : (P : List ℕ → Type 0) (key : List ℕ) (ms : List PlainMember) → Each P (unit_keys ms) → Each P (unit_keys (remove_first key ms))
each_left P key [] h = tt
each_left P key (m ∷ ms) h = each_left_step (is_named key m.0) P key m ms refl h (each_left P key ms h.1)

left_step : (b : Bool) (key : List ℕ) (m : PlainMember) (ms : List PlainMember) → is_named key m.0 ≡ b → Apart (unit_keys (m ∷ ms)) → Apart (unit_keys (remove_first key ms)) → Apart (unit_keys (remove_first key (m ∷ ms)))
left_step true key m ms n h rest = rw n h.1
left_step false key m ms n h rest = rw n (each_left (Differ (units m.0)) key ms h.0, rest)

apart_left : (key : List ℕ) (ms : List PlainMember) → Apart (unit_keys ms) → Apart (unit_keys (remove_first key ms))
apart_left key [] h = tt
apart_left key (m ∷ ms) h = left_step (is_named key m.0) key m ms refl h (apart_left key ms h.1)

keys_step : (b : Bool) (key : List ℕ) (f : PlainTree → PlainTree) (m : PlainMember) (ms : List PlainMember) → is_named key m.0 ≡ b → keys (members_of (change_first key f ms)) ≡ keys (members_of ms)
    → keys (members_of (change_first key f (m ∷ ms))) ≡ keys (members_of (m ∷ ms))
keys_step true key f m ms n rest = rw n refl
keys_step false key f m ms n rest = rw n (ap (λ l. m.0 ∷ l) rest)

keys_stay : (key : List ℕ) (f : PlainTree → PlainTree) (ms : List PlainMember) → keys (members_of (change_first key f ms)) ≡ keys (members_of ms)
keys_stay key f [] = refl
keys_stay key f (m ∷ ms) = keys_step (is_named key m.0) key f m ms refl (keys_stay key f ms)

-- ---- changes that keep keys distinct

abbrev KeepsDistinct : (PlainTree → PlainTree) → Type 0
KeepsDistinct change = (t : PlainTree) → HasDistinctKeys t → HasDistinctKeys (change t)

abbrev AreDeep : List PlainMember → Type 0
AreDeep ms = MembersHaveDistinctKeys (members_of ms)

deep_set_step : (b : Bool) (key : List ℕ) (v : PlainTree) (m : PlainMember) (ms : List PlainMember) → is_named key m.0 ≡ b → HasDistinctKeys v → AreDeep (m ∷ ms) → AreDeep (set_first key v ms) → AreDeep (set_first key v (m ∷ ms))
deep_set_step true key v m ms n k h rest = rw n (k, h.1)
deep_set_step false key v m ms n k h rest = rw n (h.0, rest)

deep_set : (key : List ℕ) (v : PlainTree) (ms : List PlainMember) → HasDistinctKeys v → AreDeep ms → AreDeep (set_first key v ms)
deep_set key v [] k h = (k, tt)
deep_set key v (m ∷ ms) k h = deep_set_step (is_named key m.0) key v m ms refl k h (deep_set key v ms k h.1)

deep_left_step : (b : Bool) (key : List ℕ) (m : PlainMember) (ms : List PlainMember) → is_named key m.0 ≡ b → AreDeep (m ∷ ms) → AreDeep (remove_first key ms) → AreDeep (remove_first key (m ∷ ms))
deep_left_step true key m ms n h rest = rw n h.1
deep_left_step false key m ms n h rest = rw n (h.0, rest)

deep_left : (key : List ℕ) (ms : List PlainMember) → AreDeep ms → AreDeep (remove_first key ms)
deep_left key [] h = tt
deep_left key (m ∷ ms) h = deep_left_step (is_named key m.0) key m ms refl h (deep_left key ms h.1)

deep_change_step : (b : Bool) (key : List ℕ) (f : PlainTree → PlainTree) (m : PlainMember) (ms : List PlainMember) → is_named key m.0 ≡ b → KeepsDistinct f → AreDeep (m ∷ ms) → AreDeep (change_first key f ms)
    → AreDeep (change_first key f (m ∷ ms))
deep_change_step true key f m ms n k h rest = rw n (k m.1 h.0, h.1)
deep_change_step false key f m ms n k h rest = rw n (h.0, rest)

deep_change : (key : List ℕ) (f : PlainTree → PlainTree) (ms : List PlainMember) → KeepsDistinct f → AreDeep ms → AreDeep (change_first key f ms)
deep_change key f [] k h = tt
deep_change key f (m ∷ ms) k h = deep_change_step (is_named key m.0) key f m ms refl k h (deep_change key f ms k h.1)

set_distinct : (key : List ℕ) (v : PlainTree) → IsName key → HasDistinctKeys v → KeepsDistinct (with_member key v)
set_distinct key v name k null h = h
set_distinct key v name k (truth b) h = h
set_distinct key v name k (number s) h = h
set_distinct key v name k (text s) h = h
set_distinct key v name k (list ts) h = h
set_distinct key v name k (members ms) h =
    let l = member_list ms in
    let back : members_of l ≡ ms = members_back ms in (
      apart_pairs (unit_keys (set_first key v l)) (apart_set key v l name (pairs_apart (unit_keys l) (subst (λ y. AreDistinct (map units (keys y))) (sym back) h.0))),
      deep_set key v l k (subst MembersHaveDistinctKeys (sym back) h.1),
    )

removed_distinct : (key : List ℕ) → KeepsDistinct (without key)
removed_distinct key null h = h
removed_distinct key (truth b) h = h
removed_distinct key (number s) h = h
removed_distinct key (text s) h = h
removed_distinct key (list ts) h = h
removed_distinct key (members ms) h =
    let l = member_list ms in
    let back : members_of l ≡ ms = members_back ms in (
      apart_pairs (unit_keys (remove_first key l)) (apart_left key l (pairs_apart (unit_keys l) (subst (λ y. AreDistinct (map units (keys y))) (sym back) h.0))),
      deep_left key l (subst MembersHaveDistinctKeys (sym back) h.1),
    )

member_distinct : (key : List ℕ) (change : PlainTree → PlainTree) → KeepsDistinct change → KeepsDistinct (at_member key change)
member_distinct key change keeps null h = h
member_distinct key change keeps (truth b) h = h
member_distinct key change keeps (number s) h = h
member_distinct key change keeps (text s) h = h
member_distinct key change keeps (list ts) h = h
member_distinct key change keeps (members ms) h =
    let l = member_list ms in
    let back : members_of l ≡ ms = members_back ms in (
      subst (λ ks. AreDistinct (map units ks)) (sym (keys_stay key change l ∙ ap keys back)) h.0,
      deep_change key change l keeps (subst MembersHaveDistinctKeys (sym back) h.1),
    )

-- ---- lists

list_distinct : (change : List PlainTree → List PlainTree) → ((ts : PlainTrees) → ItemsHaveDistinctKeys ts → ItemsHaveDistinctKeys (trees_of (change (item_list ts)))) → KeepsDistinct (with_items change)
list_distinct change keeps null h = h
list_distinct change keeps (truth b) h = h
list_distinct change keeps (number s) h = h
list_distinct change keeps (text s) h = h
list_distinct change keeps (members ms) h = h
list_distinct change keeps (list ts) h = keeps ts h

numbered_distinct : (k : ℕ) (change : ℕ → PlainTree → PlainTree) (ts : PlainTrees) → ((at : ℕ) → KeepsDistinct (change at)) → ItemsHaveDistinctKeys ts
    → ItemsHaveDistinctKeys (trees_of (map (λ (p : ℕ × PlainTree). change p.0 p.1) (enumerate_from k (item_list ts))))
numbered_distinct k change no_items keeps h = tt
numbered_distinct k change (item t ts) keeps h = (keeps k t h.0, numbered_distinct (k + 1) change ts keeps h.1)

each_distinct : (change : ℕ → PlainTree → PlainTree) → ((at : ℕ) → KeepsDistinct (change at)) → KeepsDistinct (each_item change)
each_distinct change keeps = list_distinct (λ ts. map (λ (p : ℕ × PlainTree). change p.0 p.1) (enumerate_from 0 ts)) (λ ts h. numbered_distinct 0 change ts keeps h)

joined_distinct : (ts more : List PlainTree) → ItemsHaveDistinctKeys (trees_of ts) → ItemsHaveDistinctKeys (trees_of more) → ItemsHaveDistinctKeys (trees_of (ts ++ more))
joined_distinct [] more h k = k
joined_distinct (t ∷ ts) more h k = (h.0, joined_distinct ts more h.1 k)

added_distinct : (more : List PlainTree) → ItemsHaveDistinctKeys (trees_of more) → KeepsDistinct (and_items more)
added_distinct more k = list_distinct (λ ts. ts ++ more) (λ ts h. joined_distinct (item_list ts) more (subst ItemsHaveDistinctKeys (sym (trees_back ts)) h) k)

chosen_step : (b : Bool) (k : ℕ) (test : ℕ → Bool) (t : PlainTree) (ts : PlainTrees) → test k ≡ b → HasDistinctKeys t → ItemsHaveDistinctKeys (trees_of (chosen test (k + 1) (item_list ts)))
    → ItemsHaveDistinctKeys (trees_of (chosen test k (item_list (item t ts))))
chosen_step true k test t ts e h rest = rw e (h, rest)
chosen_step false k test t ts e h rest = rw e rest

chosen_distinct : (k : ℕ) (test : ℕ → Bool) (ts : PlainTrees) → ItemsHaveDistinctKeys ts → ItemsHaveDistinctKeys (trees_of (chosen test k (item_list ts)))
chosen_distinct k test no_items h = tt
chosen_distinct k test (item t ts) h = chosen_step (test k) k test t ts refl h.0 (chosen_distinct (k + 1) test ts h.1)

-- ---- accessors

set_number : (key : List ℕ) (k : ℕ) → IsName key → KeepsDistinct (with_member key (whole_number k))
set_number key k name = set_distinct key (whole_number k) name tt

set_view : (k : ℕ) → KeepsDistinct (with_member (codes "bufferView") (whole_number k))
set_view k = set_number (codes "bufferView") k (a_name (codes "bufferView") refl)

set_component : (k : ℕ) → KeepsDistinct (with_member (codes "componentType") (whole_number k))
set_component k = set_number (codes "componentType") k (a_name (codes "componentType") refl)

set_count : (k : ℕ) → KeepsDistinct (with_member (codes "count") (whole_number k))
set_count k = set_number (codes "count") k (a_name (codes "count") refl)

moved_distinct : (view : ℕ) (column vertex_list : Option Moved) → KeepsDistinct (moved_by view column vertex_list)
moved_distinct view (Some m) vertex_list = λ t h.
    let u = with_member (codes "bufferView") (whole_number view) t in
    let v = with_member (codes "count") (whole_number (length m.records)) u in
    removed_distinct (codes "sparse") (without (codes "byteOffset") v) (removed_distinct (codes "byteOffset") v (set_count (length m.records) u (set_view view t h)))
moved_distinct view None (Some m) = λ t h.
    let u = with_member (codes "bufferView") (whole_number view) t in
    let v = with_member (codes "componentType") (whole_number (list_component m)) u in
    let w = without (codes "byteOffset") v in
    let x = without (codes "min") w in
    removed_distinct (codes "sparse") (without (codes "max") x)
    (removed_distinct (codes "max") x
    (removed_distinct (codes "min") w
    (removed_distinct (codes "byteOffset") v (set_component (list_component m) u (set_view view t h)))))
moved_distinct view None None = λ t h. h

moved_accessors_distinct : (moved : List Moved) (a : AssetParts) → KeepsDistinct (with_moved_accessors moved a)
unfolding with_moved_accessors
moved_accessors_distinct moved a =
    member_distinct (codes "accessors") (each_item (moved_accessor moved a))
    (each_distinct (moved_accessor moved a) (λ at. moved_distinct (made_number moved a at) (group_with (λ (m : Moved). m.columns) moved at) (group_with (λ (m : Moved). m.lists) moved at)))

-- ---- the lists of primitives without indices

empty_distinct : HasDistinctKeys (members no_members)
empty_distinct = (apart_pairs [] tt, tt)

made_distinct : (view : ℕ) (m : Moved) → HasDistinctKeys (made_list view m)
made_distinct view m =
    let t = with_member (codes "bufferView") (whole_number view) (members no_members) in
    let u = with_member (codes "componentType") (whole_number (list_component m)) t in
    let v = with_member (codes "count") (whole_number m.count) u in
    subst HasDistinctKeys (list_spelled view m)
    (set_distinct (codes "type") (text (codes "SCALAR")) (a_name (codes "type") refl) tt v
    (set_count m.count u (set_component (list_component m) t (set_view view (members no_members) empty_distinct))))

given_distinct : (moved : List Moved) (a : AssetParts) (m : Moved) (place : Option ℕ) (ts : List PlainTree) → ItemsHaveDistinctKeys (trees_of ts)
    → ItemsHaveDistinctKeys (trees_of (cons_option (elim place as (λ x. Option PlainTree) [ None ↦ None | Some at ↦ Some (made_list (made_number moved a at) m) ]) ts))
given_distinct moved a m None ts h = h
given_distinct moved a m (Some at) ts h = (made_distinct (made_number moved a at) m, h)

lists_distinct : (moved : List Moved) (a : AssetParts) (ms : List Moved) → ItemsHaveDistinctKeys (trees_of (filter_map (list_accessor moved a) ms))
lists_distinct moved a [] = tt
lists_distinct moved a (m ∷ ms) = given_distinct moved a m m.list_accessor (filter_map (list_accessor moved a) ms) (lists_distinct moved a ms)

list_accessors_distinct : (moved : List Moved) (a : AssetParts) → KeepsDistinct (with_list_accessors moved a)
unfolding with_list_accessors
list_accessors_distinct moved a =
    let more = filter_map (list_accessor moved a) moved in
    member_distinct (codes "accessors") (and_items more) (added_distinct more (lists_distinct moved a moved))

-- ---- primitives

indexed_by_number : (place : Option ℕ) (lone : Bool) (t : PlainTree) → HasDistinctKeys t
    → HasDistinctKeys (elim place as (λ x. PlainTree) [ None ↦ t | Some at ↦ if lone then with_member (codes "indices") (whole_number at) t else t ])
indexed_by_number None lone t h = h
indexed_by_number (Some at) true t h = set_number (codes "indices") at (a_name (codes "indices") refl) t h
indexed_by_number (Some at) false t h = h

indexed_distinct : (group : Option Moved) → KeepsDistinct (indexed_by group)
indexed_distinct None t h = h
indexed_distinct (Some m) t h = indexed_by_number m.list_accessor (is_none (find_member (codes "indices") t)) t h

all_indices_distinct : (moved : List Moved) (a : AssetParts) → KeepsDistinct (with_all_indices moved a)
unfolding with_all_indices
all_indices_distinct moved a =
    let indexed : ℕ → ℕ → PlainTree → PlainTree = λ mesh at. indexed_primitive moved (primitive_place a mesh at) in
    let in_mesh : ℕ → PlainTree → PlainTree = λ mesh. at_member (codes "primitives") (each_item (indexed mesh)) in
    member_distinct (codes "meshes") (each_item in_mesh)
    (each_distinct in_mesh (λ mesh. member_distinct (codes "primitives") (each_item (indexed mesh))
    (each_distinct (indexed mesh) (λ at. indexed_distinct (group_with (λ (m : Moved). m.primitives) moved (primitive_place a mesh at))))))

-- ---- references

numbered_by_distinct : (t : PlainTree) (place : Option ℕ) → HasDistinctKeys t → HasDistinctKeys (numbered_by t place)
numbered_by_distinct t None h = h
numbered_by_distinct t (Some k) h = tt

view_reference_distinct : (moved : List Moved) (a : AssetParts) → KeepsDistinct (new_view_reference moved a)
view_reference_distinct moved a = member_distinct (codes "bufferView") (new_reference moved a) (λ t h. numbered_by_distinct t (option_and_then (renumbered moved a) (whole t)) h)

sparse_references_distinct : (moved : List Moved) (a : AssetParts) → KeepsDistinct (new_sparse_references moved a)
sparse_references_distinct moved a t h =
    let change = new_view_reference moved a in
    member_distinct (codes "values") change (view_reference_distinct moved a) (at_member (codes "indices") change t)
    (member_distinct (codes "indices") change (view_reference_distinct moved a) t h)

either_distinct : (kept : Bool) (changed t : PlainTree) → HasDistinctKeys changed → HasDistinctKeys t → HasDistinctKeys (if kept then changed else t)
either_distinct true changed t h k = h
either_distinct false changed t h k = k

accessor_references_distinct : (moved : List Moved) (a : AssetParts) (at : ℕ) → KeepsDistinct (new_accessor_references moved a at)
accessor_references_distinct moved a at t h =
    let u = new_view_reference moved a t in
    either_distinct (is_kept moved a at) (at_member (codes "sparse") (new_sparse_references moved a) u) t
    (member_distinct (codes "sparse") (new_sparse_references moved a) (sparse_references_distinct moved a) u (view_reference_distinct moved a t h)) h

new_references_distinct : (moved : List Moved) (a : AssetParts) → KeepsDistinct (with_new_references moved a)
unfolding with_new_references
new_references_distinct moved a t h =
    let u = at_member (codes "accessors") (each_item (new_accessor_references moved a)) t in
    member_distinct (codes "images") (each_item (λ at. new_view_reference moved a)) (each_distinct (λ at. new_view_reference moved a) (λ at. view_reference_distinct moved a)) u
    (member_distinct (codes "accessors") (each_item (new_accessor_references moved a)) (each_distinct (new_accessor_references moved a) (accessor_references_distinct moved a)) t h)

-- ---- views

base_distinct : (size : ℕ) → HasDistinctKeys (spelled_base size)
base_distinct size =
    let t = with_member (codes "buffer") (whole_number 0) (members no_members) in
    set_number (codes "byteLength") size (a_name (codes "byteLength") refl) (with_member (codes "byteOffset") (whole_number 0) t)
    (set_number (codes "byteOffset") 0 (a_name (codes "byteOffset") refl) t (set_number (codes "buffer") 0 (a_name (codes "buffer") refl) (members no_members) empty_distinct))

view_distinct : (mode : StreamMode) (size stride : ℕ) → HasDistinctKeys (spelled_view mode size stride)
view_distinct Attributes size stride =
    set_number (codes "target") 34962 (a_name (codes "target") refl) (with_member (codes "byteStride") (whole_number stride) (spelled_base size))
    (set_number (codes "byteStride") stride (a_name (codes "byteStride") refl) (spelled_base size) (base_distinct size))
view_distinct Triangles size stride = set_number (codes "target") 34963 (a_name (codes "target") refl) (spelled_base size) (base_distinct size)
view_distinct Indices size stride = set_number (codes "target") 34963 (a_name (codes "target") refl) (spelled_base size) (base_distinct size)

all_made_distinct : (made : List Made) → ItemsHaveDistinctKeys (trees_of (map unplaced made))
all_made_distinct [] = tt
all_made_distinct (v ∷ made) = (
  subst HasDistinctKeys (view_spelled v.coding.mode (length v.contents) v.coding.stride) (view_distinct v.coding.mode (length v.contents) v.coding.stride),
  all_made_distinct made,
)

made_views_distinct : (moved : List Moved) (a : AssetParts) → KeepsDistinct (with_made_views moved a)
unfolding with_made_views
made_views_distinct moved a =
    let more = map unplaced (made_views a moved) in
    let stay = where_numbered (survives moved a) in
    member_distinct (codes "bufferViews") (λ views. and_items more (with_items stay views))
    (λ views h. added_distinct more (all_made_distinct (made_views a moved)) (with_items stay views) (list_distinct stay (λ ts k. chosen_distinct 0 (survives moved a) ts k) views h))

-- ---- all of them

pub unstored_distinct : UnstoredTreesHaveDistinctKeys
unstored_distinct moved a root h =
    let changed = with_moved_accessors moved a root in
    let listed = with_list_accessors moved a changed in
    let indexed = with_all_indices moved a listed in
    made_views_distinct moved a (with_new_references moved a indexed)
    (new_references_distinct moved a indexed
    (all_indices_distinct moved a listed (list_accessors_distinct moved a changed (moved_accessors_distinct moved a root h))))
