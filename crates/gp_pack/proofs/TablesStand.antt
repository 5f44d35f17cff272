-- Edits by tables are those by the groups that the tables stand for.
use Rattle.std.specs.Prelude.{if◌then◌else◌, nat_lt, is_some, option_map, option_and_then, cond}
use Rattle.std.specs.List.{filter_map, cons_option}
use Rattle.std.proofs.Common.{◌≡◌, ℕ, Bool, true, false, not, ◌&&◌, ◌||◌, codes, List, [], ◌∷◌, map, length, Option, Some, None, refl, ap, ◌∙◌}
use Rattle.gp_tree.specs.Plain.{PlainTree}
use Rattle.gp_tree.specs.Values.{whole}
use Rattle.gp_tree.specs.TreeEdits.{at_member, and_items, with_items}
use Rattle.gp_rules.specs.declared.storage.StreamMode.{StreamMode}
use Rattle.gp_rules.specs.declared.storage.StreamMode.TheVariants.{Attributes, Triangles, Indices}
use Rattle.gp_asset.specs.Asset.{AssetParts}
use Rattle.gp_moves.specs.declared.accessors.AccessorMove.{AccessorMove}
use Rattle.gp_moves.specs.declared.made.MadeList.{MadeList}
use Rattle.gp_moves.specs.declared.made.MadeView.{MadeView}
use Rattle.gp_moves.specs.Accessors.{column_moved, corners_moved, accessor_moved, move_at}
use Rattle.gp_moves.specs.References.{new_number, renumbered_to, reference, is_stays, keeps_place, view_reference as view_renumbered, sparse_references, accessor_references}
use Rattle.gp_moves.specs.MadeTrees.{list_tree, view_tree, with_list, list_at as table_at}
use Rattle.gp_moves.specs.Edits.{accessors_moved, lists_appended, mesh_lists, primitives_listed, references_renumbered, stays, views_made, groups_moved}
use Rattle.gp_pack.specs.declared.moving.MoveTables.{MoveTables}
use Rattle.gp_sameness.specs.Moved.{Moved, is_number_in, is_moved, group_with}
use Rattle.gp_sameness.specs.Survivors.{survives, renumbered, where_numbered}
use Rattle.gp_packed.specs.MadeViews.{Made, made_views, list_component}
use Rattle.gp_sameness.specs.References.{each_item, is_kept, numbered_by, new_reference, new_view_reference, new_sparse_references, new_accessor_references, with_new_references}
use Rattle.gp_sameness.specs.Common.{primitive_place}
use Rattle.gp_packed.specs.GroupEdits.{made_number, moved_by, moved_accessor, with_moved_accessors, list_accessor, with_list_accessors, indexed_by, indexed_primitive, with_all_indices}
use Rattle.gp_packed.specs.ViewEdits.{unplaced}
use Rattle.gp_packed.specs.MeshesBack.{list_of_group, list_at, made_stride}
use Rattle.gp_packed.specs.Packed.{with_made_views}
use Rattle.gp_pack.specs.MoveTables.{move_by, accessor_move, made_list_of, made_view_of, AreTables}

-- ---- functions that agree everywhere

same_one : {A B : Type 0} (f g : A → B) → ((x : A) → f x ≡ g x) → f ≡ g
same_one f g same i x = same x i

same_two : {A B C : Type 0} (f g : A → B → C) → ((x : A) (y : B) → f x y ≡ g x y) → f ≡ g
same_two f g same i x y = same x y i

-- ---- accessors

moved_as : (view : ℕ) (column list : Option Moved) (t : PlainTree) → accessor_moved (move_by view column list) t ≡ moved_by view column list t
unfolding column_moved corners_moved
moved_as view (Some m) list t = refl
moved_as view None (Some m) t = refl
moved_as view None None t = refl

pub accessors_are : (moved : List Moved) (a : AssetParts) (moves : List AccessorMove) (root : PlainTree) → ((at : ℕ) → move_at moves at ≡ accessor_move moved a at)
    → accessors_moved moves root ≡ with_moved_accessors moved a root
unfolding accessors_moved with_moved_accessors
accessors_are moved a moves root same =
    ap (λ change. at_member (codes "accessors") (each_item change) root)
    (same_two (λ at. accessor_moved (move_at moves at)) (moved_accessor moved a) (λ at t.
    ap (λ move. accessor_moved move t) (same at)
    ∙ moved_as (made_number moved a at) (group_with (λ (m : Moved). m.columns) moved at) (group_with (λ (m : Moved). m.lists) moved at) t))

-- ---- the accessors that are made

one_list_by : (moved : List Moved) (a : AssetParts) (m : Moved) (o : Option ℕ) → option_map list_tree (option_map (λ at. record { view = made_number moved a at; component = list_component m; count = m.count }) o)
    ≡ list_accessor moved a (record { primitives = m.primitives; columns = m.columns; lists = m.lists; list_accessor = o; count = m.count; records = m.records; ordered = m.ordered })
unfolding list_tree
one_list_by moved a m None = refl
one_list_by moved a m (Some at) = refl

one_list : (moved : List Moved) (a : AssetParts) (m : Moved) → option_map list_tree (made_list_of moved a m) ≡ list_accessor moved a m
one_list moved a m = one_list_by moved a m m.list_accessor

map_given : {B C : Type 0} (f : B → C) (o : Option B) (ys : List B) → map f (cons_option o ys) ≡ cons_option (option_map f o) (map f ys)
map_given f None ys = refl
map_given f (Some y) ys = refl

all_lists : (moved : List Moved) (a : AssetParts) (ms : List Moved) → map list_tree (filter_map (made_list_of moved a) ms) ≡ filter_map (list_accessor moved a) ms
all_lists moved a [] = refl
all_lists moved a (m ∷ ms) =
    map_given list_tree (made_list_of moved a m) (filter_map (made_list_of moved a) ms)
    ∙ ap (λ o. cons_option o (map list_tree (filter_map (made_list_of moved a) ms))) (one_list moved a m)
    ∙ ap (cons_option (list_accessor moved a m)) (all_lists moved a ms)

pub lists_are : (moved : List Moved) (a : AssetParts) (lists : List MadeList) (root : PlainTree) → lists ≡ filter_map (made_list_of moved a) moved
    → lists_appended lists root ≡ with_list_accessors moved a root
unfolding lists_appended with_list_accessors
lists_are moved a lists root same =
    ap (λ trees. at_member (codes "accessors") (and_items trees) root) (ap (map list_tree) same ∙ all_lists moved a moved)

-- ---- primitives

indexed_by_option : (group : Moved) (o : Option ℕ) (t : PlainTree) → with_list o t
    ≡ indexed_by (Some (record { primitives = group.primitives; columns = group.columns; lists = group.lists; list_accessor = o; count = group.count; records = group.records; ordered = group.ordered })) t
indexed_by_option group None t = refl
indexed_by_option group (Some at) t = refl

indexed_as : (group : Option Moved) (t : PlainTree) → with_list (list_of_group group) t ≡ indexed_by group t
indexed_as None t = refl
indexed_as (Some m) t = indexed_by_option m m.list_accessor t

pub indices_are : (moved : List Moved) (a : AssetParts) (meshes : List (List (Option ℕ))) (root : PlainTree)
    → ((mesh at : ℕ) → table_at meshes mesh at ≡ list_at moved (primitive_place a mesh at))
    → primitives_listed meshes root ≡ with_all_indices moved a root
unfolding primitives_listed with_all_indices
indices_are moved a meshes root same =
    ap (λ change. at_member (codes "meshes") (each_item change) root)
    (same_one (mesh_lists meshes) (λ mesh. at_member (codes "primitives") (each_item (λ at. indexed_primitive moved (primitive_place a mesh at)))) (λ mesh.
    ap (λ (change : ℕ → PlainTree → PlainTree). at_member (codes "primitives") (each_item change))
    (same_two (λ at. with_list (table_at meshes mesh at)) (λ at. indexed_primitive moved (primitive_place a mesh at)) (λ at t.
    ap (λ o. with_list o t) (same mesh at) ∙ indexed_as (group_with (λ (m : Moved). m.primitives) moved (primitive_place a mesh at)) t))))

-- ---- references

stays_step : (column list : Bool) (m : Moved) (columns lists : Option Moved) (rest : Bool) (view : ℕ) → is_stays (move_by view columns lists) ≡ not rest
    → is_stays (move_by view (cond column (Some m) columns) (cond list (Some m) lists)) ≡ not ((column || list) || rest)
stays_step true list m columns lists rest view h = refl
stays_step false true m (Some n) lists rest view h = refl
stays_step false true m None lists rest view h = refl
stays_step false false m columns lists rest view h = h

stays_where : (ms : List Moved) (at view : ℕ)
    → is_stays (move_by view (group_with (λ (m : Moved). m.columns) ms at) (group_with (λ (m : Moved). m.lists) ms at)) ≡ not (is_moved ms at)
stays_where [] at view = refl
stays_where (m ∷ ms) at view =
    stays_step (is_number_in m.columns at) (is_number_in m.lists at) m (group_with (λ (m : Moved). m.columns) ms at) (group_with (λ (m : Moved). m.lists) ms at) (is_moved ms at) view (stays_where ms at view)

kept_where : (moved : List Moved) (a : AssetParts) (moves : List AccessorMove) (at : ℕ) → length moves ≡ length a.accessors → ((at : ℕ) → move_at moves at ≡ accessor_move moved a at)
    → keeps_place moves at ≡ is_kept moved a at
kept_where moved a moves at counted same =
    ap (λ n. nat_lt at n && is_stays (move_at moves at)) counted
    ∙ ap (λ b. nat_lt at (length a.accessors) && b) (ap is_stays (same at) ∙ stays_where moved at (made_number moved a at))

renumbered_as : (t : PlainTree) (o : Option ℕ) → renumbered_to t o ≡ numbered_by t o
renumbered_as t None = refl
renumbered_as t (Some n) = refl

references_as : (moved : List Moved) (a : AssetParts) → reference (renumbered moved a) ≡ new_reference moved a
references_as moved a = same_one (reference (renumbered moved a)) (new_reference moved a) (λ t. renumbered_as t (option_and_then (renumbered moved a) (whole t)))

views_as : (moved : List Moved) (a : AssetParts) → view_renumbered (renumbered moved a) ≡ new_view_reference moved a
views_as moved a =
    let at : (PlainTree → PlainTree) → PlainTree → PlainTree = λ change t. at_member (codes "bufferView") change t in
    ap at (references_as moved a)

sparse_as : (moved : List Moved) (a : AssetParts) → sparse_references (renumbered moved a) ≡ new_sparse_references moved a
sparse_as moved a =
    let at : (PlainTree → PlainTree) → PlainTree → PlainTree = λ change t. at_member (codes "values") change (at_member (codes "indices") change t) in
    ap at (views_as moved a)

one_accessor : (moved : List Moved) (a : AssetParts) (moves : List AccessorMove) (at : ℕ) (t : PlainTree)
    → length moves ≡ length a.accessors → ((at : ℕ) → move_at moves at ≡ accessor_move moved a at)
    → accessor_references moves (renumbered moved a) at t ≡ new_accessor_references moved a at t
one_accessor moved a moves at t counted same =
    ap (λ b. if b then at_member (codes "sparse") (sparse_references (renumbered moved a)) (view_renumbered (renumbered moved a) t) else t) (kept_where moved a moves at counted same)
    ∙ ap (λ (change : PlainTree → PlainTree). if is_kept moved a at then at_member (codes "sparse") change (view_renumbered (renumbered moved a) t) else t) (sparse_as moved a)
    ∙ ap (λ (change : PlainTree → PlainTree). if is_kept moved a at then at_member (codes "sparse") (new_sparse_references moved a) (change t) else t) (views_as moved a)

pub references_are : (moved : List Moved) (a : AssetParts) (moves : List AccessorMove) (numbers : List (Option ℕ)) (dropped : ℕ) (root : PlainTree)
    → length moves ≡ length a.accessors → ((at : ℕ) → move_at moves at ≡ accessor_move moved a at) → ((view : ℕ) → new_number numbers dropped view ≡ renumbered moved a view)
    → references_renumbered moves numbers dropped root ≡ with_new_references moved a root
unfolding references_renumbered with_new_references
references_are moved a moves numbers dropped root counted same renumbers =
    ap (λ (renumber : ℕ → Option ℕ). at_member (codes "images") (each_item (λ at. view_renumbered renumber)) (at_member (codes "accessors") (each_item (accessor_references moves renumber)) root))
    (same_one (new_number numbers dropped) (renumbered moved a) renumbers)
    ∙ ap (λ (change : PlainTree → PlainTree). at_member (codes "images") (each_item (λ at. change)) (at_member (codes "accessors") (each_item (accessor_references moves (renumbered moved a))) root))
    (views_as moved a)
    ∙ ap (λ (change : ℕ → PlainTree → PlainTree). at_member (codes "images") (each_item (λ at. new_view_reference moved a)) (at_member (codes "accessors") (each_item change) root))
    (same_two (accessor_references moves (renumbered moved a)) (new_accessor_references moved a) (λ at t. one_accessor moved a moves at t counted same))

-- ---- views

survivor_by : (b : Bool) (n : ℕ) → is_some (if b then Some n else None) ≡ b
survivor_by true n = refl
survivor_by false n = refl

survivor : (moved : List Moved) (a : AssetParts) (view : ℕ) → is_some (renumbered moved a view) ≡ survives moved a view
unfolding renumbered
survivor moved a view = survivor_by (survives moved a view) _

view_by : (accessor : ℕ) (contents : List ℕ) (mode : StreamMode) (stride : ℕ) → view_tree (record { length = length contents; stride = made_stride mode stride })
    ≡ unplaced (record { accessor = accessor; contents = contents; coding = record { mode = mode; stride = stride } })
unfolding view_tree
view_by accessor contents Attributes stride = refl
view_by accessor contents Triangles stride = refl
view_by accessor contents Indices stride = refl

all_views : (vs : List Made) → map view_tree (map made_view_of vs) ≡ map unplaced vs
all_views [] = refl
all_views (v ∷ vs) =
    ap (λ t. t ∷ map view_tree (map made_view_of vs)) (view_by v.accessor v.contents v.coding.mode v.coding.stride)
    ∙ ap (λ ts. unplaced v ∷ ts) (all_views vs)

pub views_are : (moved : List Moved) (a : AssetParts) (numbers : List (Option ℕ)) (dropped : ℕ) (made : List MadeView) (root : PlainTree)
    → ((view : ℕ) → new_number numbers dropped view ≡ renumbered moved a view) → made ≡ map made_view_of (made_views a moved)
    → views_made numbers dropped made root ≡ with_made_views moved a root
unfolding views_made with_made_views
views_are moved a numbers dropped made root renumbers same =
    ap (λ (test : ℕ → Bool). at_member (codes "bufferViews") (λ views. and_items (map view_tree made) (with_items (where_numbered test) views)) root)
    (same_one (stays numbers dropped) (survives moved a) (λ view. ap is_some (renumbers view) ∙ survivor moved a view))
    ∙ ap (λ trees. at_member (codes "bufferViews") (λ views. and_items trees (with_items (where_numbered (survives moved a)) views)) root)
    (ap (map view_tree) same ∙ all_views (made_views a moved))

-- ---- all of them

pub groups_are : (moved : List Moved) (a : AssetParts) (t : MoveTables) (root : PlainTree) → AreTables moved a t
    → groups_moved t.accessors.items t.lists.items t.meshes.items t.numbers.items t.dropped t.made.items root
    ≡ with_made_views moved a (with_new_references moved a (with_all_indices moved a (with_list_accessors moved a (with_moved_accessors moved a root))))
unfolding groups_moved
groups_are moved a t root h =
    let first = with_moved_accessors moved a root in
    let second = with_list_accessors moved a first in
    let third = with_all_indices moved a second in
    ap (λ r. views_made t.numbers.items t.dropped t.made.items (references_renumbered t.accessors.items t.numbers.items t.dropped (primitives_listed t.meshes.items (lists_appended t.lists.items r)))) (accessors_are moved a t.accessors.items root h.accessors)
    ∙ ap (λ r. views_made t.numbers.items t.dropped t.made.items (references_renumbered t.accessors.items t.numbers.items t.dropped (primitives_listed t.meshes.items r))) (lists_are moved a t.lists.items first h.lists)
    ∙ ap (λ r. views_made t.numbers.items t.dropped t.made.items (references_renumbered t.accessors.items t.numbers.items t.dropped r)) (indices_are moved a t.meshes.items second h.meshes)
    ∙ ap (views_made t.numbers.items t.dropped t.made.items) (references_are moved a t.accessors.items t.numbers.items t.dropped third h.counted h.accessors h.views)
    ∙ views_are moved a t.numbers.items t.dropped t.made.items (with_new_references moved a third) h.views h.made

-- by slices of the tables
pub tables_edited : (moved : List Moved) (a : AssetParts) (t : MoveTables) (root new : PlainTree)
    (moves : List AccessorMove) (lists : List MadeList) (meshes : List (List (Option ℕ))) (numbers : List (Option ℕ)) (made : List MadeView) → AreTables moved a t
    → moves ≡ t.accessors.items → lists ≡ t.lists.items → meshes ≡ t.meshes.items → numbers ≡ t.numbers.items → made ≡ t.made.items
    → new ≡ groups_moved moves lists meshes numbers t.dropped made root
    → new ≡ with_made_views moved a (with_new_references moved a (with_all_indices moved a (with_list_accessors moved a (with_moved_accessors moved a root))))
tables_edited moved a t root new moves lists meshes numbers made h is_moves is_lists is_meshes is_numbers is_made edited =
    edited
    ∙ ap (λ x. groups_moved x lists meshes numbers t.dropped made root) is_moves
    ∙ ap (λ x. groups_moved t.accessors.items x meshes numbers t.dropped made root) is_lists
    ∙ ap (λ x. groups_moved t.accessors.items t.lists.items x numbers t.dropped made root) is_meshes
    ∙ ap (λ x. groups_moved t.accessors.items t.lists.items t.meshes.items x t.dropped made root) is_numbers
    ∙ ap (λ x. groups_moved t.accessors.items t.lists.items t.meshes.items t.numbers.items t.dropped x root) is_made
    ∙ groups_are moved a t root h
