-- The tree stays sound where groups move.
use Rattle.std.specs.Prelude.{if◌then◌else◌, codes, IfSome, cond, option_and_then, is_none}
use Rattle.std.specs.Str.{chars}
use Rattle.std.specs.Str.Parse.{digits_value}
use Rattle.std.specs.Str.{all_ascii_digits}
use Rattle.std.specs.List.{range_with_len, count_by, enumerate_from, filter_map, cons_option, position_or_len}
use Rattle.std.proofs.Common.{◌≡◌, ℕ, suc, ◌+◌, ◌<◌, ◌≤◌, ◌^◌, Bool, true, false, not, ◌&&◌, nat_lt, nat_le, ◌==◌, List, [], ◌∷◌, ◌++◌, length, map, filter, Option, Some, None, refl, sym, subst, arith}
use Rattle.std.proofs.lemmas.Bool.{ltb-true}
use Rattle.std.proofs.lemmas.List.FromFn.{length-range_with_len}
use Rattle.std.proofs.lemmas.List.Sums.{length-filter}
use Rattle.gp_tree.specs.Lexical.{Each}
use Rattle.gp_tree.specs.Values.{IsName, whole}
use Rattle.gp_tree.specs.Plain.{PlainTree, PlainTrees, null, truth, number, text, list, members, no_items, item, no_members, trees_of}
use Rattle.gp_tree.specs.Sound.{IsSound}
use Rattle.gp_tree.specs.Find.{item_list, find_member}
use Rattle.gp_tree.specs.TreeEdits.{with_member, without, at_member, with_items, and_items}
use Rattle.gp_tree.proofs.Inner.{trees_back}
use Rattle.gp_tree.proofs.Names.{name_string}
use Rattle.gp_tree.proofs.Kept.{sound_set, sound_remove}
use Rattle.gp_tree.proofs.Parts.{sound_change, change_depth, set_depth, removed_depth}
use Rattle.gp_asset.specs.Asset.{AssetParts}
use Rattle.gp_edits.specs.Changes.{whole_number}
use Rattle.gp_edits.proofs.Sounds.{IsWithin, AreWithin, a_name, number_fits, found_within, list_within, empty_object}
use Rattle.gp_unpack.proofs.EachItem.{each_of_all}
use Rattle.gp_sameness.specs.Moved.{Moved, is_number_in, group_with}
use Rattle.gp_sameness.specs.Survivors.{survives, renumbered}
use Rattle.gp_packed.specs.MadeViews.{Made, list_component, made_views}
use Rattle.gp_sameness.specs.References.{each_item, numbered_by, new_reference, new_view_reference, new_sparse_references, new_accessor_references, is_kept, with_new_references}
use Rattle.gp_sameness.specs.Common.{primitive_place}
use Rattle.gp_packed.specs.GroupEdits.{made_number, moved_column, moved_list, moved_by, moved_accessor, list_accessor, with_moved_accessors, with_list_accessors, indexed_by, indexed_primitive, with_all_indices}
use Rattle.gp_packed.specs.NewNumbers.{count_views}
use Rattle.gp_packed.specs.SoundMoved.{GroupFits, MovedAccessorsStaySound, ListAccessorsStaySound, AllIndicesStaySound, NewReferencesStaySound}
use Rattle.gp_packed.proofs.AccessorsRead.{made_list}
use Rattle.gp_packed.proofs.AccessorsBack.{found_has}

-- ---- changes that keep each value sound and within a depth

abbrev pub KeepsIn : ℕ → (PlainTree → PlainTree) → Type 0
KeepsIn n change = (t : PlainTree) → IsWithin n t → IsWithin n (change t)

value_in : (n : ℕ) (key : List ℕ) (change : PlainTree → PlainTree) (t v : PlainTree) → KeepsIn n change → IsWithin (suc n) t → find_member key t ≡ Some v → IsWithin n (change v)
value_in n key change t v keeps h e =
    let x = found_within (suc n) key t v h e in
    keeps v (x.0, omega (arith, x.1))

pub member_in : (n : ℕ) (key : List ℕ) (change : PlainTree → PlainTree) → n < 128 → KeepsIn n change → KeepsIn (suc n) (at_member key change)
member_in n key change low keeps t h = (
  sound_change key change t h.0 (λ v e. let x = value_in n key change t v keeps h e in (x.0, omega (arith, x.1, low))),
  change_depth (suc n) key change t h.1 (λ v e. let x = value_in n key change t v keeps h e in omega (arith, x.1)),
)

pub set_in : (n : ℕ) (key : List ℕ) (value : PlainTree) → IsName key → 0 < n → IsWithin 0 value → KeepsIn n (with_member key value)
set_in n key value name some small t h =
    (sound_set key value t name h.0 (small.0, omega (arith, small.1)), set_depth n key value t h.1 (omega (arith, small.1, some)))

number_in : (k : ℕ) → k < 2 ^ 64 → IsWithin 0 (whole_number k)
number_in k small = ((number_fits k small).0, omega arith)

pub set_number_in : (n : ℕ) (key : List ℕ) (k : ℕ) → IsName key → 0 < n → k < 2 ^ 64 → KeepsIn n (with_member key (whole_number k))
set_number_in n key k name some small = set_in n key (whole_number k) name some (number_in k small)

removed_in : (n : ℕ) (key : List ℕ) → KeepsIn n (without key)
removed_in n key t h = (sound_remove key t h.0, omega (arith, removed_depth key t, h.1))

-- ---- lists

pub list_in : (n : ℕ) (change : List PlainTree → List PlainTree) → n < 127 → ((ts : PlainTrees) → AreWithin n ts → AreWithin n (trees_of (change (item_list ts)))) → KeepsIn (suc n) (with_items change)
list_in n change low keeps null h = h
list_in n change low keeps (truth b) h = h
list_in n change low keeps (number s) h = h
list_in n change low keeps (text s) h = h
list_in n change low keeps (members ms) h = h
list_in n change low keeps (list ts) h =
    let x = list_within n ts (trees_of (change (item_list ts))) (omega (arith, low)) h.0 (omega (arith, h.1)) (keeps ts) in
    (x.0, omega (arith, x.1))

pub item_in : (n : ℕ) (t : PlainTree) (ts : PlainTrees) → n ≤ 128 → AreWithin n (item t ts) → IsWithin n t
item_in n t ts low h = (record { spelled = h.0.0; shallow = omega (arith, h.1, low); distinct = h.2.0 }, omega (arith, h.1))

pub rest_in : (n : ℕ) (t : PlainTree) (ts : PlainTrees) → AreWithin n (item t ts) → AreWithin n ts
rest_in n t ts h = (h.0.1, omega (arith, h.1), h.2.1)

pub more_in : (n : ℕ) (t : PlainTree) (ts : PlainTrees) → IsWithin n t → AreWithin n ts → AreWithin n (item t ts)
more_in n t ts h r = ((h.0.spelled, r.0), omega (arith, h.1, r.1), (h.0.distinct, r.2))

pub none_in : (n : ℕ) → AreWithin n no_items
none_in n = (tt, omega arith, tt)

numbered_in : (n k : ℕ) (change : ℕ → PlainTree → PlainTree) (ts : PlainTrees) → n ≤ 128 → ((at : ℕ) → KeepsIn n (change at)) → AreWithin n ts
    → AreWithin n (trees_of (map (λ (p : ℕ × PlainTree). change p.0 p.1) (enumerate_from k (item_list ts))))
numbered_in n k change no_items low keeps h = h
numbered_in n k change (item t ts) low keeps h =
    more_in n (change k t) (trees_of (map (λ (p : ℕ × PlainTree). change p.0 p.1) (enumerate_from (k + 1) (item_list ts)))) (keeps k t (item_in n t ts low h))
    (numbered_in n (k + 1) change ts low keeps (rest_in n t ts h))

pub each_in : (n : ℕ) (change : ℕ → PlainTree → PlainTree) → n < 127 → ((at : ℕ) → KeepsIn n (change at)) → KeepsIn (suc n) (each_item change)
each_in n change low keeps =
    list_in n (λ ts. map (λ (p : ℕ × PlainTree). change p.0 p.1) (enumerate_from 0 ts)) low (λ ts h. numbered_in n 0 change ts (omega (arith, low)) keeps h)

joined_in : (n : ℕ) (ts more : List PlainTree) → n ≤ 128 → AreWithin n (trees_of ts) → AreWithin n (trees_of more) → AreWithin n (trees_of (ts ++ more))
joined_in n [] more low h k = k
joined_in n (t ∷ ts) more low h k = more_in n t (trees_of (ts ++ more)) (item_in n t (trees_of ts) low h) (joined_in n ts more low (rest_in n t (trees_of ts) h) k)

pub added_in : (n : ℕ) (more : List PlainTree) → n < 127 → AreWithin n (trees_of more) → KeepsIn (suc n) (and_items more)
added_in n more low k = list_in n (λ ts. ts ++ more) low (λ ts h. joined_in n (item_list ts) more (omega (arith, low)) (subst (AreWithin n) (sym (trees_back ts)) h) k)

-- ---- what is made member by member

abbrev pub spelled_list : ℕ → Moved → PlainTree
spelled_list view m =
    with_member (codes "type") (text (codes "SCALAR"))
    (with_member (codes "count") (whole_number m.count)
    (with_member (codes "componentType") (whole_number (list_component m)) (with_member (codes "bufferView") (whole_number view) (members no_members))))

pub list_spelled : (view : ℕ) (m : Moved) → spelled_list view m ≡ made_list view m
unfolding chars
list_spelled view m = refl

component_by : (b : Bool) → (if b then 5123 else 5125) < 2 ^ 64
component_by true = omega arith
component_by false = omega arith

component_small : (m : Moved) → list_component m < 2 ^ 64
component_small m = component_by (nat_le (length m.records) 65535)

text_in : (s : List ℕ) → IsName s → IsWithin 0 (text s)
text_in s h = (record { spelled = name_string s h; shallow = omega arith; distinct = tt }, omega arith)

pub object_in : IsWithin 1 (members no_members)
object_in = (empty_object, omega arith)

made_in : (view : ℕ) (m : Moved) → view < 2 ^ 64 → m.count < 2 ^ 64 → IsWithin 1 (made_list view m)
made_in view m small fits =
    subst (IsWithin 1) (list_spelled view m)
    (set_in 1 (codes "type") (text (codes "SCALAR")) (a_name (codes "type") refl) (omega arith) (text_in (codes "SCALAR") (a_name (codes "SCALAR") refl)) _
    (set_number_in 1 (codes "count") m.count (a_name (codes "count") refl) (omega arith) fits _
    (set_number_in 1 (codes "componentType") (list_component m) (a_name (codes "componentType") refl) (omega arith) (component_small m) _
    (set_number_in 1 (codes "bufferView") view (a_name (codes "bufferView") refl) (omega arith) small (members no_members) object_in))))

-- ---- numbers of views

place_most : {A : Type 0} (p : A → Bool) (xs : List A) → position_or_len p xs ≤ length xs
place_most p [] = omega arith
place_most p (x ∷ xs) = place_step (p x) (place_most p xs)
  where
    place_step : (b : Bool) → position_or_len p xs ≤ length xs → cond (not b) (1 + position_or_len p xs) 0 ≤ suc (length xs)
    place_step true rest = omega arith
    place_step false rest = omega (arith, rest)

-- where as many views come out, it is below them, or there are none
pub view_below : (moved : List Moved) (a : AssetParts) (at : ℕ) → count_views moved a < 2 ^ 32 → made_number moved a at < 2 ^ 32
view_below moved a at few = omega (arith, few, place_most (λ (v : Made). v.accessor == at) (made_views a moved))

view_small : (moved : List Moved) (a : AssetParts) (at : ℕ) → count_views moved a ≤ 2 ^ 32 → made_number moved a at < 2 ^ 64
view_small moved a at few = omega (arith, few, place_most (λ (v : Made). v.accessor == at) (made_views a moved))

-- ---- accessors

abbrev number_key : List ℕ
number_key = codes "bufferView"

column_in : (n view : ℕ) (m : Moved) → 0 < n → view < 2 ^ 64 → length m.records < 2 ^ 64 → KeepsIn n (moved_column view m)
column_in n view m some small fits t h =
    removed_in n (codes "sparse") _
    (removed_in n (codes "byteOffset") _
    (set_number_in n (codes "count") (length m.records) (a_name (codes "count") refl) some fits _
    (set_number_in n number_key view (a_name number_key refl) some small t h)))

indices_in : (n view : ℕ) (m : Moved) → 0 < n → view < 2 ^ 64 → KeepsIn n (moved_list view m)
indices_in n view m some small t h =
    removed_in n (codes "sparse") _
    (removed_in n (codes "max") _
    (removed_in n (codes "min") _
    (removed_in n (codes "byteOffset") _
    (set_number_in n (codes "componentType") (list_component m) (a_name (codes "componentType") refl) some (component_small m) _
    (set_number_in n number_key view (a_name number_key refl) some small t h)))))

moved_in : (n view : ℕ) (column vertex_list : Option Moved) → 0 < n → view < 2 ^ 64 → IfSome column GroupFits → KeepsIn n (moved_by view column vertex_list)
moved_in n view (Some m) vertex_list some small fits = column_in n view m some small (let low = fits.records in omega (arith, low))
moved_in n view None (Some m) some small fits = indices_in n view m some small
moved_in n view None None some small fits = λ t h. h

if_found : (moved : List Moved) (found : Option Moved) → ((m : Moved) → found ≡ Some m → GroupFits m) → IfSome found GroupFits
if_found moved None h = tt
if_found moved (Some m) h = h m refl

pub group_fits : (part : Moved → List ℕ) (moved : List Moved) (at : ℕ) → Each GroupFits moved → IfSome (group_with part moved at) GroupFits
group_fits part moved at h = if_found moved (group_with part moved at) (λ m e. found_has GroupFits (λ (x : Moved). is_number_in (part x) at) moved m h e)

accessor_in : (moved : List Moved) (a : AssetParts) (n at : ℕ) → Each GroupFits moved → count_views moved a ≤ 2 ^ 32 → 0 < n → KeepsIn n (moved_accessor moved a at)
accessor_in moved a n at fits few some =
    moved_in n (made_number moved a at) (group_with (λ (m : Moved). m.columns) moved at) (group_with (λ (m : Moved). m.lists) moved at) some (view_small moved a at few)
    (group_fits (λ (m : Moved). m.columns) moved at fits)

pub root_in : (t : PlainTree) → IsSound t → IsWithin 128 t
root_in t h = (h, h.shallow)

pub moved_accessors_sound : MovedAccessorsStaySound
unfolding with_moved_accessors
moved_accessors_sound moved a root fits few h =
    let groups = each_of_all GroupFits moved fits in
    (member_in 127 (codes "accessors") (each_item (moved_accessor moved a)) (omega arith)
    (each_in 126 (moved_accessor moved a) (omega arith) (λ at. accessor_in moved a 126 at groups few (omega arith))) root (root_in root h)).0

-- ---- the lists of primitives without indices

given_in : (n : ℕ) (moved : List Moved) (a : AssetParts) (m : Moved) (number : Option ℕ) (ts : List PlainTree) → 0 < n → count_views moved a ≤ 2 ^ 32 → GroupFits m → AreWithin n (trees_of ts)
    → AreWithin n (trees_of (cons_option (elim number as (λ x. Option PlainTree) [ None ↦ None | Some at ↦ Some (made_list (made_number moved a at) m) ]) ts))
given_in n moved a m None ts some few fits h = h
given_in n moved a m (Some at) ts some few fits h =
    let low = fits.count in
    let x = made_in (made_number moved a at) m (view_small moved a at few) (omega (arith, low)) in
    more_in n (made_list (made_number moved a at) m) (trees_of ts) (x.0, omega (arith, x.1, some)) h

lists_in : (n : ℕ) (moved : List Moved) (a : AssetParts) (ms : List Moved) → 0 < n → count_views moved a ≤ 2 ^ 32 → Each GroupFits ms → AreWithin n (trees_of (filter_map (list_accessor moved a) ms))
lists_in n moved a [] some few fits = none_in n
lists_in n moved a (m ∷ ms) some few fits = given_in n moved a m m.list_accessor (filter_map (list_accessor moved a) ms) some few fits.0 (lists_in n moved a ms some few fits.1)

pub list_accessors_sound : ListAccessorsStaySound
unfolding with_list_accessors
list_accessors_sound moved a root fits few h =
    let more = filter_map (list_accessor moved a) moved in
    (member_in 127 (codes "accessors") (and_items more) (omega arith)
    (added_in 126 more (omega arith) (lists_in 126 moved a moved (omega arith) few (each_of_all GroupFits moved fits))) root (root_in root h)).0

-- ---- primitives

indexed_by_number : (n : ℕ) (number : Option ℕ) (lone : Bool) (t : PlainTree) → 0 < n → IfSome number (λ at. at < 2 ^ 32) → IsWithin n t
    → IsWithin n (elim number as (λ x. PlainTree) [ None ↦ t | Some at ↦ if lone then with_member (codes "indices") (whole_number at) t else t ])
indexed_by_number n None lone t some small h = h
indexed_by_number n (Some at) true t some small h = set_number_in n (codes "indices") at (a_name (codes "indices") refl) some (omega (arith, small)) t h
indexed_by_number n (Some at) false t some small h = h

indexed_in : (n : ℕ) (group : Option Moved) → 0 < n → IfSome group GroupFits → KeepsIn n (indexed_by group)
indexed_in n None some fits t h = h
indexed_in n (Some m) some fits t h = indexed_by_number n m.list_accessor (is_none (find_member (codes "indices") t)) t some fits.number h

primitive_in : (moved : List Moved) (n at : ℕ) → Each GroupFits moved → 0 < n → KeepsIn n (indexed_primitive moved at)
primitive_in moved n at fits some = indexed_in n (group_with (λ (m : Moved). m.primitives) moved at) some (group_fits (λ (m : Moved). m.primitives) moved at fits)

pub all_indices_sound : AllIndicesStaySound
unfolding with_all_indices
all_indices_sound moved a root fits h =
    let groups = each_of_all GroupFits moved fits in
    let indexed : ℕ → ℕ → PlainTree → PlainTree = λ mesh at. indexed_primitive moved (primitive_place a mesh at) in
    let in_mesh : ℕ → PlainTree → PlainTree = λ mesh. at_member (codes "primitives") (each_item (indexed mesh)) in
    (member_in 127 (codes "meshes") (each_item in_mesh) (omega arith)
    (each_in 126 in_mesh (omega arith) (λ mesh. member_in 125 (codes "primitives") (each_item (indexed mesh)) (omega arith)
    (each_in 124 (indexed mesh) (omega arith) (λ at. primitive_in moved 124 (primitive_place a mesh at) groups (omega arith))))) root (root_in root h)).0

-- ---- references

filter_most : {A : Type 0} (p : A → Bool) (xs : List A) → length (filter p xs) ≤ length xs
filter_most p [] = omega arith
filter_most p (x ∷ xs) = filter_step (p x) (filter_most p xs)
  where
    filter_step : (b : Bool) → length (filter p xs) ≤ length xs → length (cond b (x ∷ filter p xs) (filter p xs)) ≤ suc (length xs)
    filter_step true rest = omega (arith, rest)
    filter_step false rest = omega (arith, rest)

-- a view's new number is at most its old one
abbrev IsBelow : ℕ → Option ℕ → Type 0
IsBelow most value = IfSome value (λ k. k ≤ most)

counted_below : (b : Bool) (n most : ℕ) → n ≤ most → IsBelow most (if b then Some n else None)
counted_below true n most h = h
counted_below false n most h = tt

pub new_number_below : (moved : List Moved) (a : AssetParts) (view : ℕ) → IsBelow view (renumbered moved a view)
unfolding renumbered
new_number_below moved a view =
    let numbers = range_with_len 0 view in
    counted_below (survives moved a view) (count_by (survives moved a) numbers) view
    (omega (arith, filter_most (survives moved a) numbers, length-filter (survives moved a) numbers, length-range_with_len 0 view))

both_hold : (a b : Bool) → (a && b) ≡ true → b ≡ true
both_hold true b h = h
both_hold false b h = absurd (cc)

whole_if : (b : Bool) (n : ℕ) → (b ≡ true → n < 2 ^ 32) → IfSome (if b then Some n else None) (λ v. v < 2 ^ 32)
whole_if true n h = h refl
whole_if false n h = tt

pub whole_small : (t : PlainTree) → IfSome (whole t) (λ v. v < 2 ^ 32)
whole_small null = tt
whole_small (truth b) = tt
whole_small (text s) = tt
whole_small (list ts) = tt
whole_small (members ms) = tt
whole_small (number s) =
    let digits = all_ascii_digits s in
    let value = digits_value 10 s in
    whole_if (digits && nat_lt value (2 ^ 32)) value (λ e. ltb-true value (2 ^ 32) (both_hold digits (nat_lt value (2 ^ 32)) e))

numbered_by_in : (n most : ℕ) (t : PlainTree) (number : Option ℕ) → most < 2 ^ 32 → IsBelow most number → IsWithin n t → IsWithin n (numbered_by t number)
numbered_by_in n most t None low below h = h
numbered_by_in n most t (Some k) low below h =
    let x = number_in k (omega (arith, low, below)) in
    (x.0, omega (arith, x.1))

reference_by : (moved : List Moved) (a : AssetParts) (n : ℕ) (t : PlainTree) (view : Option ℕ) → IfSome view (λ v. v < 2 ^ 32) → IsWithin n t
    → IsWithin n (numbered_by t (option_and_then (renumbered moved a) view))
reference_by moved a n t None low h = h
reference_by moved a n t (Some view) low h = numbered_by_in n view t (renumbered moved a view) low (new_number_below moved a view) h

reference_in : (moved : List Moved) (a : AssetParts) (n : ℕ) → KeepsIn n (new_reference moved a)
reference_in moved a n t h = reference_by moved a n t (whole t) (whole_small t) h

view_reference_in : (moved : List Moved) (a : AssetParts) (n : ℕ) → n < 128 → KeepsIn (suc n) (new_view_reference moved a)
view_reference_in moved a n low = member_in n number_key (new_reference moved a) low (reference_in moved a n)

sparse_references_in : (moved : List Moved) (a : AssetParts) (n : ℕ) → n < 127 → KeepsIn (suc (suc n)) (new_sparse_references moved a)
sparse_references_in moved a n low t h =
    let each : KeepsIn (suc n) (new_view_reference moved a) = view_reference_in moved a n (omega (arith, low)) in
    member_in (suc n) (codes "values") (new_view_reference moved a) (omega (arith, low)) each _
    (member_in (suc n) (codes "indices") (new_view_reference moved a) (omega (arith, low)) each t h)

either_in : (n : ℕ) (kept : Bool) (changed t : PlainTree) → IsWithin n changed → IsWithin n t → IsWithin n (if kept then changed else t)
either_in n true changed t h k = h
either_in n false changed t h k = k

accessor_references_in : (moved : List Moved) (a : AssetParts) (at : ℕ) → KeepsIn 126 (new_accessor_references moved a at)
accessor_references_in moved a at t h =
    either_in 126 (is_kept moved a at) _ t
    (member_in 125 (codes "sparse") (new_sparse_references moved a) (omega arith) (sparse_references_in moved a 123 (omega arith)) _
    (view_reference_in moved a 125 (omega arith) t h)) h

pub new_references_sound : NewReferencesStaySound
unfolding with_new_references
new_references_sound moved a root h =
    (member_in 127 (codes "images") (each_item (λ at. new_view_reference moved a)) (omega arith)
    (each_in 126 (λ at. new_view_reference moved a) (omega arith) (λ at. view_reference_in moved a 125 (omega arith))) _
    (member_in 127 (codes "accessors") (each_item (new_accessor_references moved a)) (omega arith)
    (each_in 126 (new_accessor_references moved a) (omega arith) (accessor_references_in moved a)) root (root_in root h))).0
