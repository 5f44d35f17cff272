-- The tree stays sound with the views that are made, and when they are stored.
use Rattle.std.specs.Prelude.{codes, flat_map, option_map, option_to_list, cond, zip}
use Rattle.std.specs.Str.{chars}
use Rattle.std.specs.List.{All, enumerate_from, filter_map, cons_option}
use Rattle.std.proofs.Common.{◌≡◌, ℕ, ◌+◌, ◌<◌, ◌≤◌, ◌^◌, Bool, true, false, nat_le, List, [], ◌∷◌, ◌++◌, length, map, filter, slice_get, Option, Some, None, refl, subst, arith}
use Rattle.gp_tree.specs.Lexical.{Each}
use Rattle.gp_tree.specs.Plain.{PlainTree, PlainTrees, members, no_items, item, no_members, trees_of, members_of}
use Rattle.gp_tree.specs.Sound.{IsSound}
use Rattle.gp_tree.specs.Find.{item_list}
use Rattle.gp_tree.specs.TreeEdits.{with_member, with_items, and_items}
use Rattle.gp_rules.specs.declared.accessing.Accessor.{Accessor}
use Rattle.gp_rules.specs.declared.accessing.Component.{Component}
use Rattle.gp_rules.specs.declared.accessing.Component.TheVariants.{I8, U8, I16, U16, U32, F32}
use Rattle.gp_rules.specs.declared.accessing.Shape.{Shape}
use Rattle.gp_rules.specs.declared.accessing.Shape.TheVariants.{Scalar, Vec2, Vec3, Vec4, Mat2, Mat3, Mat4}
use Rattle.gp_rules.specs.declared.storage.StreamMode.{StreamMode}
use Rattle.gp_rules.specs.declared.storage.StreamMode.TheVariants.{Attributes, Triangles, Indices}
use Rattle.gp_rules.specs.Sizes.{component_size, element_size}
use Rattle.gp_asset.specs.Asset.{AssetParts}
use Rattle.gp_edits.specs.Changes.{whole_number}
use Rattle.gp_edits.proofs.Sounds.{IsWithin, AreWithin, a_name}
use Rattle.gp_unpack.proofs.EachItem.{each_of_all, all_of_each, each_is, each_both}
use Rattle.gp_sameness.specs.Moved.{Moved}
use Rattle.gp_sameness.specs.Survivors.{survives, where_numbered}
use Rattle.gp_packed.specs.MadeViews.{Made, made_column, made_columns, made_list, made_lists, made_views}
use Rattle.gp_packed.specs.Plan.{all_stored, stored_made, output_views}
use Rattle.gp_packed.specs.ViewEdits.{purpose, unplaced}
use Rattle.gp_packed.specs.Packed.{with_made_views, packed_tree}
use Rattle.gp_packed.specs.StoredLaws.{Fits}
use Rattle.gp_packed.specs.AccessorsBack.{with_groups_moved}
use Rattle.gp_packed.specs.NewNumbers.{count_views}
use Rattle.gp_packed.specs.GroupEdits.{with_moved_accessors, with_list_accessors, with_all_indices}
use Rattle.gp_packed.specs.SoundMoved.{GroupFits, MadeFits, MadeViewsStaySound, UnstoredTreesAreSound, MadeViewsFit, PackedTreesAreSound, unstored_tree}
use Rattle.gp_packed.proofs.StoredTrees.{stored_sound}
use Rattle.gp_packed.proofs.SoundMoved.{set_number_in, member_in, list_in, added_in, item_in, rest_in, more_in, none_in, root_in, object_in, moved_accessors_sound, list_accessors_sound, all_indices_sound, new_references_sound}

-- ---- what is known of each item

pub each_joined : {A : Type 0} (P : A → Type 0) (xs ys : List A) → Each P xs → Each P ys → Each P (xs ++ ys)
each_joined P [] ys h k = k
each_joined P (x ∷ xs) ys h k = (h.0, each_joined P xs ys h.1 k)

each_behind : {A : Type 0} (P : A → Type 0) (xs ys : List A) → Each P (xs ++ ys) → Each P ys
each_behind P [] ys h = h
each_behind P (x ∷ xs) ys h = each_behind P xs ys h.1

each_flat : {A B : Type 0} (P : B → Type 0) (f : A → List B) (xs : List A) → ((x : A) → Each P (f x)) → Each P (flat_map f xs)
each_flat P f [] h = tt
each_flat P f (x ∷ xs) h = each_joined P (f x) (flat_map f xs) (h x) (each_flat P f xs h)

each_mapped : {A B : Type 0} (P : B → Type 0) (f : A → B) (xs : List A) → ((x : A) → P (f x)) → Each P (map f xs)
each_mapped P f [] h = tt
each_mapped P f (x ∷ xs) h = (h x, each_mapped P f xs h)

each_of_mapped : {A B : Type 0} (P : B → Type 0) (f : A → B) (xs : List A) → Each P (map f xs) → Each (λ x. P (f x)) xs
each_of_mapped P f [] h = tt
each_of_mapped P f (x ∷ xs) h = (h.0, each_of_mapped P f xs h.1)

pub each_to_mapped : {A B : Type 0} (P : B → Type 0) (f : A → B) (xs : List A) → Each (λ x. P (f x)) xs → Each P (map f xs)
each_to_mapped P f [] h = tt
each_to_mapped P f (x ∷ xs) h = (h.0, each_to_mapped P f xs h.1)

-- ---- from one element of a made view to the next

abbrev pub HasSmallStride : Made → Type 0
HasSmallStride v = v.coding.stride < 2 ^ 32

component_most : (c : Component) → component_size c ≤ 4
component_most I8 = omega arith
component_most U8 = omega arith
component_most I16 = omega arith
component_most U16 = omega arith
component_most U32 = omega arith
component_most F32 = omega arith

element_most : (c : Component) (s : Shape) → element_size c s ≤ 64
element_most c Scalar = let k = component_most c in omega (arith, k)
element_most c Vec2 = let k = component_most c in omega (arith, k)
element_most c Vec3 = let k = component_most c in omega (arith, k)
element_most c Vec4 = let k = component_most c in omega (arith, k)
element_most c Mat2 = let k = component_most c in omega (arith, k)
element_most c Mat3 = let k = component_most c in omega (arith, k)
element_most c Mat4 = let k = component_most c in omega (arith, k)

column_stride : (a : AssetParts) (m : Moved) (k at : ℕ) (x : Accessor) → HasSmallStride (made_column a m k at x)
column_stride a m k at x = let most = element_most x.component x.shape in omega (arith, most)

column_step : (a : AssetParts) (m : Moved) (k at : ℕ) (found : Option Accessor) (made : List Made) → Each HasSmallStride made
    → Each HasSmallStride (cons_option (option_map (made_column a m k at) found) made)
column_step a m k at None made h = h
column_step a m k at (Some x) made h = (column_stride a m k at x, h)

columns_small : (a : AssetParts) (m : Moved) (ps : List (ℕ × ℕ)) → Each HasSmallStride (filter_map (λ (p : ℕ × ℕ). option_map (made_column a m p.0 p.1) (slice_get a.accessors p.1)) ps)
columns_small a m [] = tt
columns_small a m (p ∷ ps) =
    column_step a m p.0 p.1 (slice_get a.accessors p.1) (filter_map (λ (q : ℕ × ℕ). option_map (made_column a m q.0 q.1) (slice_get a.accessors q.1)) ps) (columns_small a m ps)

width_by : (b : Bool) → (cond b 2 4) < 2 ^ 32
width_by true = omega arith
width_by false = omega arith

lists_small : (m : Moved) → Each HasSmallStride (made_lists m)
lists_small m = each_mapped HasSmallStride (made_list m) (zip (m.lists ++ option_to_list m.list_accessor) m.ordered) (λ p. width_by (nat_le (length m.records) 65535))

pub strides_small : (a : AssetParts) (moved : List Moved) → Each HasSmallStride (made_views a moved)
strides_small a moved =
    each_flat HasSmallStride (λ m. made_columns a m ++ made_lists m) moved
    (λ m. each_joined HasSmallStride (made_columns a m) (made_lists m) (columns_small a m (enumerate_from 0 m.columns)) (lists_small m))

-- ---- a made view

abbrev pub spelled_base : ℕ → PlainTree
spelled_base size =
    with_member (codes "byteLength") (whole_number size)
    (with_member (codes "byteOffset") (whole_number 0) (with_member (codes "buffer") (whole_number 0) (members no_members)))

abbrev pub spelled_view : StreamMode → ℕ → ℕ → PlainTree
spelled_view Attributes size stride = with_member (codes "target") (whole_number 34962) (with_member (codes "byteStride") (whole_number stride) (spelled_base size))
spelled_view Triangles size stride = with_member (codes "target") (whole_number 34963) (spelled_base size)
spelled_view Indices size stride = with_member (codes "target") (whole_number 34963) (spelled_base size)

abbrev pub made_view : StreamMode → ℕ → ℕ → PlainTree
made_view mode size stride = members (members_of (
    (codes "buffer", whole_number 0)
    ∷ (codes "byteOffset", whole_number 0)
    ∷ (codes "byteLength", whole_number size)
    ∷ purpose mode stride))

pub view_spelled : (mode : StreamMode) (size stride : ℕ) → spelled_view mode size stride ≡ made_view mode size stride
unfolding chars
view_spelled Attributes size stride = refl
view_spelled Triangles size stride = refl
view_spelled Indices size stride = refl

base_in : (size : ℕ) → size < 2 ^ 64 → IsWithin 1 (spelled_base size)
base_in size small =
    set_number_in 1 (codes "byteLength") size (a_name (codes "byteLength") refl) (omega arith) small _
    (set_number_in 1 (codes "byteOffset") 0 (a_name (codes "byteOffset") refl) (omega arith) (omega arith) _
    (set_number_in 1 (codes "buffer") 0 (a_name (codes "buffer") refl) (omega arith) (omega arith) (members no_members) object_in))

view_in : (mode : StreamMode) (size stride : ℕ) → size < 2 ^ 64 → stride < 2 ^ 64 → IsWithin 1 (spelled_view mode size stride)
view_in Attributes size stride small low =
    set_number_in 1 (codes "target") 34962 (a_name (codes "target") refl) (omega arith) (omega arith) _
    (set_number_in 1 (codes "byteStride") stride (a_name (codes "byteStride") refl) (omega arith) low _ (base_in size small))
view_in Triangles size stride small low = set_number_in 1 (codes "target") 34963 (a_name (codes "target") refl) (omega arith) (omega arith) _ (base_in size small)
view_in Indices size stride small low = set_number_in 1 (codes "target") 34963 (a_name (codes "target") refl) (omega arith) (omega arith) _ (base_in size small)

unplaced_in : (v : Made) → MadeFits v → HasSmallStride v → IsWithin 1 (unplaced v)
unplaced_in v fits low =
    subst (IsWithin 1) (view_spelled v.coding.mode (length v.contents) v.coding.stride)
    (view_in v.coding.mode (length v.contents) v.coding.stride (omega (arith, fits)) (omega (arith, low)))

made_in : (n : ℕ) (made : List Made) → 0 < n → Each (λ v. MadeFits v × HasSmallStride v) made → AreWithin n (trees_of (map unplaced made))
made_in n [] some h = none_in n
made_in n (v ∷ made) some h =
    let x = unplaced_in v h.0.0 h.0.1 in
    more_in n (unplaced v) (trees_of (map unplaced made)) (x.0, omega (arith, x.1, some)) (made_in n made some h.1)

-- ---- the views that stay

abbrev pub chosen : (ℕ → Bool) → ℕ → List PlainTree → List PlainTree
chosen test k ts = map (λ (p : ℕ × PlainTree). p.1) (filter (λ (p : ℕ × PlainTree). test p.0) (enumerate_from k ts))

chosen_step : (b : Bool) (n k : ℕ) (test : ℕ → Bool) (t : PlainTree) (ts : PlainTrees) → test k ≡ b → n ≤ 128 → AreWithin n (item t ts) → AreWithin n (trees_of (chosen test (k + 1) (item_list ts)))
    → AreWithin n (trees_of (chosen test k (item_list (item t ts))))
chosen_step true n k test t ts e low h rest = rw e (more_in n t (trees_of (chosen test (k + 1) (item_list ts))) (item_in n t ts low h) rest)
chosen_step false n k test t ts e low h rest = rw e rest

chosen_in : (n k : ℕ) (test : ℕ → Bool) (ts : PlainTrees) → n ≤ 128 → AreWithin n ts → AreWithin n (trees_of (chosen test k (item_list ts)))
chosen_in n k test no_items low h = h
chosen_in n k test (item t ts) low h = chosen_step (test k) n k test t ts refl low h (chosen_in n (k + 1) test ts low (rest_in n t ts h))

-- ---- the trees

pub made_views_sound : MadeViewsStaySound
unfolding with_made_views
made_views_sound moved a root fits h =
    let made = made_views a moved in
    let more = map unplaced made in
    let stay = where_numbered (survives moved a) in
    let each = each_both MadeFits HasSmallStride made (each_of_all MadeFits made fits) (strides_small a moved) in
    (member_in 127 (codes "bufferViews") (λ views. and_items more (with_items stay views)) (omega arith) (λ views k.
    added_in 126 more (omega arith) (made_in 126 made (omega arith) each) (with_items stay views)
    (list_in 126 stay (omega arith) (λ ts low. chosen_in 126 0 (survives moved a) ts (omega arith) low) views k)) root (root_in root h)).0

groups_sound : (moved : List Moved) (a : AssetParts) (root : PlainTree) → All GroupFits moved → count_views moved a ≤ 2 ^ 32 → IsSound root → IsSound (with_groups_moved moved a root)
groups_sound moved a root fits few h =
    let changed = with_moved_accessors moved a root in
    let listed = with_list_accessors moved a changed in
    new_references_sound moved a (with_all_indices moved a listed)
    (all_indices_sound moved a listed fits (list_accessors_sound moved a changed fits few (moved_accessors_sound moved a root fits few h)))

pub unstored_sound : UnstoredTreesAreSound
unstored_sound moved a root fits few made h = made_views_sound moved a (with_groups_moved moved a root) made (groups_sound moved a root fits few h)

made_fit : (moved : List Moved) (a : AssetParts) → All Fits (output_views moved a) → Each MadeFits (made_views a moved)
unfolding output_views
made_fit moved a fits =
    let made = made_views a moved in
    let stay = where_numbered (survives moved a) (all_stored moved a) in
    let each = each_of_mapped Fits stored_made made (each_behind Fits stay (map stored_made made) (each_of_all Fits (stay ++ map stored_made made) fits)) in
    each_is (λ v. Fits (stored_made v)) MadeFits (λ v h. h.view) made each

pub made_views_fit : MadeViewsFit
made_views_fit moved a fits = all_of_each MadeFits (made_views a moved) (made_fit moved a fits)

pub packed_sound : PackedTreesAreSound
unfolding packed_tree
packed_sound moved a root groups few low under fits h =
    stored_sound (output_views moved a) (unstored_tree moved a root) low under fits (unstored_sound moved a root groups few (made_views_fit moved a fits) h)
