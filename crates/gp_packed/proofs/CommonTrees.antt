-- The packed tree has the same in common with the input's, whatever groups move.
use Rattle.std.proofs.Common.{◌≡◌, List, ◌++◌, length, map, filter_map, take, refl, sym, ap, ◌∙◌, subst}
use Rattle.gp_tree.specs.Plain.{PlainTree}
use Rattle.gp_tree.specs.Sound.{HasDistinctKeys}
use Rattle.gp_tree.specs.Find.{array_items}
use Rattle.gp_tree.specs.TreeEdits.{at_member, and_items, with_items}
use Rattle.gp_asset.specs.Asset.{AssetParts}
use Rattle.gp_edits.specs.Common.{common_view, common}
use Rattle.gp_edits.proofs.Members.{names_apart, once}
use Rattle.gp_edits.proofs.Emptied.{value_distinct}
use Rattle.gp_edits.proofs.KeyNames.{used_key, required_key, buffers_key, views_key}
use Rattle.gp_edits.proofs.CommonRoots.{shared_views}
use Rattle.gp_sameness.specs.Moved.{Moved}
use Rattle.gp_sameness.specs.Survivors.{survives, where_numbered}
use Rattle.gp_packed.specs.MadeViews.{made_views}
use Rattle.gp_sameness.specs.References.{each_item, new_view_reference, new_accessor_references, with_new_references}
use Rattle.gp_packed.specs.GroupEdits.{moved_accessor, with_moved_accessors, list_accessor, with_list_accessors, indexed_primitive, with_all_indices}
use Rattle.gp_packed.specs.Plan.{output_views}
use Rattle.gp_packed.specs.ViewEdits.{unplaced, with_stored}
use Rattle.gp_packed.specs.Packed.{with_made_views, packed_tree}
use Rattle.gp_sameness.specs.Common.{common_accessor, common_accessors, common_before, first_items, without_made_views, without_made_accessors, without_got_indices, without_made_indices, common_after}
use Rattle.gp_packed.specs.CommonMoved.{items_in, IsAssetOf, MovedStaysCommon}
use Rattle.gp_packed.proofs.CommonItems.{items_joined, items_agree, array_distinct, from, hidden, first_are, numbered_long}
use Rattle.gp_packed.proofs.CommonAccessors.{accessor_hidden}
use Rattle.gp_packed.proofs.CommonPrimitives.{each_in_mesh, KnowsAll, meshes_undone}
use Rattle.gp_packed.proofs.CommonViews.{drops, adds_views, four_views_once}
use Rattle.gp_packed.proofs.StoredCommon.{stored_once_common}
use Rattle.gp_packed.proofs.CommonFour.{Change, accessors_key, meshes_key, images_key, at_four, HasFourOnce, four_start, and_accessors, and_meshes, and_images, and_views, FourAgree, four_agree, others_common, common_is, others_beside}

-- ---- the changes of each member

abbrev moves : List Moved → AssetParts → Change
moves moved a t = each_item (moved_accessor moved a) t

abbrev adds_lists : List Moved → AssetParts → Change
adds_lists moved a t = and_items (filter_map (list_accessor moved a) moved) t

abbrev refers : List Moved → AssetParts → Change
refers moved a t = each_item (new_accessor_references moved a) t

abbrev indexes : List Moved → AssetParts → Change
indexes moved a t = each_item (each_in_mesh a (indexed_primitive moved)) t

abbrev images_refer : List Moved → AssetParts → Change
images_refer moved a t = each_item (λ at. new_view_reference moved a) t

-- what is left out of accessors, meshes and views
abbrev pub leaves : List Moved → Change
leaves moved t = each_item (common_accessor moved) t

abbrev pub forgets : List Moved → AssetParts → Change
forgets moved a t = each_item (each_in_mesh a (without_got_indices moved a)) t

-- ---- they agree

accessors_agree : (moved : List Moved) (a : AssetParts) (t : PlainTree) → HasDistinctKeys t → length (array_items t) ≡ length a.accessors
    → leaves moved (first_items (length a.accessors) (refers moved a (adds_lists moved a (moves moved a t)))) ≡ leaves moved (refers moved a t)
accessors_agree moved a t h long =
    let more = filter_map (list_accessor moved a) moved in
    let f = from 0 (common_accessor moved) in
    let g = from 0 (new_accessor_references moved a) in
    let e = from 0 (moved_accessor moved a) in
    let n = length a.accessors in
    ap (λ u. with_items f (with_items (take n) (with_items g u))) (items_joined (λ ts. ts ++ more) e t)
    ∙ ap (λ u. with_items f (with_items (take n) u)) (items_joined g (λ ts. e ts ++ more) t)
    ∙ ap (with_items f) (items_joined (take n) (λ ts. g (e ts ++ more)) t)
    ∙ items_joined f (λ ts. take n (g (e ts ++ more))) t
    ∙ items_agree (λ ts. f (take n (g (e ts ++ more)))) (λ ts. f (g ts)) t
    (hidden n (common_accessor moved) (new_accessor_references moved a) (moved_accessor moved a) (array_items t) more long (array_distinct t h) (accessor_hidden moved a))
    ∙ sym (items_joined f g t)

views_agree : (moved : List Moved) (a : AssetParts) (t : PlainTree) → length (array_items t) ≡ length a.views
    → first_items (length (where_numbered (survives moved a) a.views)) (shared_views (adds_views moved a (drops moved a t))) ≡ shared_views (drops moved a t)
views_agree moved a t long =
    let more = map unplaced (made_views a moved) in
    let s = where_numbered {A = PlainTree} (survives moved a) in
    let n = length (where_numbered (survives moved a) a.views) in
    let c = map common_view in
    ap (λ u. with_items (take n) (with_items c u)) (items_joined (λ ts. ts ++ more) s t)
    ∙ ap (with_items (take n)) (items_joined c (λ ts. s ts ++ more) t)
    ∙ items_joined (take n) (λ ts. c (s ts ++ more)) t
    ∙ items_agree (λ ts. take n (c (s ts ++ more))) (λ ts. c (s ts)) t
    (first_are n common_view (s (array_items t)) more (numbered_long (survives moved a) (array_items t) a.views long))
    ∙ sym (items_joined c s t)

all_agree : (moved : List Moved) (a : AssetParts) (root : PlainTree) → HasDistinctKeys root → IsAssetOf root a
    → FourAgree root
    (λ t. leaves moved (first_items (length a.accessors) (refers moved a (adds_lists moved a (moves moved a t)))))
    (λ t. forgets moved a (indexes moved a t))
    (λ t. first_items (length (where_numbered (survives moved a) a.views)) (shared_views (adds_views moved a (drops moved a t))))
    (λ t. leaves moved (refers moved a t)) (λ t. t) (λ t. shared_views (drops moved a t))
all_agree moved a root h is = record {
  accessors = λ t e. accessors_agree moved a t (value_distinct accessors_key t root h e) (subst (λ found. length (items_in found) ≡ length a.accessors) e is.accessors);
  meshes = λ t e. meshes_undone moved a t (value_distinct meshes_key t root h e) (subst (λ found. KnowsAll a (items_in found)) e is.primitives);
  views = λ t e. views_agree moved a t (subst (λ found. length (items_in found) ≡ length a.views) e is.views);
}

-- ---- both trees as one change of each member

abbrev made_tree : List Moved → AssetParts → PlainTree → PlainTree
made_tree moved a root = with_made_views moved a (with_new_references moved a (with_all_indices moved a (with_list_accessors moved a (with_moved_accessors moved a root))))

made_is : (moved : List Moved) (a : AssetParts) (root : PlainTree) → HasFourOnce root
    → made_tree moved a root
    ≡ at_four (λ t. refers moved a (adds_lists moved a (moves moved a t))) (λ t. indexes moved a t) (λ t. images_refer moved a t) (λ t. adds_views moved a (drops moved a t)) root
unfolding with_made_views with_new_references with_all_indices with_list_accessors with_moved_accessors
made_is moved a root one =
    let ma = moves moved a in
    let la = adds_lists moved a in
    let re = refers moved a in
    let wm = indexes moved a in
    let im = images_refer moved a in
    let mv : Change = λ t. adds_views moved a (drops moved a t) in
    let id : Change = λ t. t in
    let A = at_member accessors_key in
    let M = at_member meshes_key in
    let I = at_member images_key in
    let V = at_member views_key in
    ap (λ t. V mv (I im (A re (M wm (A la (A ma t)))))) (four_start root)
    ∙ ap (λ t. V mv (I im (A re (M wm (A la t))))) (and_accessors ma id id id id root one)
    ∙ ap (λ t. V mv (I im (A re (M wm t)))) (and_accessors la ma id id id root one)
    ∙ ap (λ t. V mv (I im (A re t))) (and_meshes wm (λ t. la (ma t)) id id id root one)
    ∙ ap (λ t. V mv (I im t)) (and_accessors re (λ t. la (ma t)) wm id id root one)
    ∙ ap (V mv) (and_images im (λ t. re (la (ma t))) wm id id root one)
    ∙ and_views mv (λ t. re (la (ma t))) wm im id root one

pub before_is : (moved : List Moved) (a : AssetParts) (root : PlainTree) → HasFourOnce root
    → common_before moved a root
    ≡ others_common (at_four (λ t. leaves moved (refers moved a t)) (λ t. t) (λ t. images_refer moved a t) (λ t. shared_views (drops moved a t)) root)
unfolding common_before with_new_references
before_is moved a root one =
    let ca = leaves moved in
    let re = refers moved a in
    let im = images_refer moved a in
    let dv = drops moved a in
    let sv = shared_views in
    let id : Change = λ t. t in
    let A = at_member accessors_key in
    let I = at_member images_key in
    let V = at_member views_key in
    ap (A ca) (common_is (I im (A re (V dv root))))
    ∙ others_beside accessors_key ca (V sv (I im (A re (V dv root)))) (names_apart accessors_key used_key refl) (names_apart accessors_key required_key refl) (names_apart buffers_key accessors_key refl)
    ∙ ap others_common (
    ap (λ t. A ca (V sv (I im (A re (V dv t))))) (four_start root)
    ∙ ap (λ t. A ca (V sv (I im (A re t)))) (and_views dv id id id id root one)
    ∙ ap (λ t. A ca (V sv (I im t))) (and_accessors re id id id dv root one)
    ∙ ap (λ t. A ca (V sv t)) (and_images im re id id dv root one)
    ∙ ap (A ca) (and_views sv re id im dv root one)
    ∙ and_accessors ca re id im (λ t. sv (dv t)) root one)

pub after_is : (moved : List Moved) (a : AssetParts) (root : PlainTree) (accessors meshes images views : Change) → HasFourOnce root
    → common_accessors moved (without_made_indices moved a (without_made_accessors a (without_made_views moved a (common (at_four accessors meshes images views root)))))
    ≡ others_common (at_four (λ t. leaves moved (first_items (length a.accessors) (accessors t))) (λ t. forgets moved a (meshes t)) images
    (λ t. first_items (length (where_numbered (survives moved a) a.views)) (shared_views (views t))) root)
after_is moved a root accessors meshes images views one =
    let ca = leaves moved in
    let wi = forgets moved a in
    let fa = first_items (length a.accessors) in
    let fv = first_items (length (where_numbered (survives moved a) a.views)) in
    let sv = shared_views in
    let A = at_member accessors_key in
    let M = at_member meshes_key in
    let V = at_member views_key in
    let t0 = at_four accessors meshes images views root in
    let beside_views : (f : Change) (t : PlainTree) → V f (others_common t) ≡ others_common (V f t) =
    (λ f t. others_beside views_key f t (names_apart views_key used_key refl) (names_apart views_key required_key refl) (names_apart buffers_key views_key refl)) in
    let beside_accessors : (f : Change) (t : PlainTree) → A f (others_common t) ≡ others_common (A f t) =
    (λ f t. others_beside accessors_key f t (names_apart accessors_key used_key refl) (names_apart accessors_key required_key refl) (names_apart buffers_key accessors_key refl)) in
    let beside_meshes : (f : Change) (t : PlainTree) → M f (others_common t) ≡ others_common (M f t) =
    (λ f t. others_beside meshes_key f t (names_apart meshes_key used_key refl) (names_apart meshes_key required_key refl) (names_apart buffers_key meshes_key refl)) in
    ap (λ t. A ca (M wi (A fa (V fv t)))) (common_is t0)
    ∙ ap (λ t. A ca (M wi (A fa t))) (beside_views fv (V sv t0))
    ∙ ap (λ t. A ca (M wi t)) (beside_accessors fa (V fv (V sv t0)))
    ∙ ap (A ca) (beside_meshes wi (A fa (V fv (V sv t0))))
    ∙ beside_accessors ca (M wi (A fa (V fv (V sv t0))))
    ∙ ap others_common (
    ap (λ t. A ca (M wi (A fa (V fv t)))) (and_views sv accessors meshes images views root one)
    ∙ ap (λ t. A ca (M wi (A fa t))) (and_views fv accessors meshes images (λ t. sv (views t)) root one)
    ∙ ap (λ t. A ca (M wi t)) (and_accessors fa accessors meshes images (λ t. fv (sv (views t))) root one)
    ∙ ap (A ca) (and_meshes wi (λ t. fa (accessors t)) meshes images (λ t. fv (sv (views t))) root one)
    ∙ and_accessors ca (λ t. fa (accessors t)) (λ t. wi (meshes t)) images (λ t. fv (sv (views t))) root one)

-- ---- the law

pub moved_common : MovedStaysCommon
unfolding common_after packed_tree
moved_common moved a root h is =
    let one : HasFourOnce root = record { accessors = once accessors_key root h; meshes = once meshes_key root h; images = once images_key root h; views = once views_key root h } in
    let accessors : Change = λ t. refers moved a (adds_lists moved a (moves moved a t)) in
    let meshes : Change = λ t. indexes moved a t in
    let images : Change = λ t. images_refer moved a t in
    let views : Change = λ t. adds_views moved a (drops moved a t) in
    let rest : PlainTree → PlainTree = λ t. common_accessors moved (without_made_indices moved a (without_made_accessors a (without_made_views moved a t))) in
    let stored = with_stored (output_views moved a) in
    ap (λ t. rest (common (stored t))) (made_is moved a root one)
    ∙ ap rest (stored_once_common (output_views moved a) (at_four accessors meshes images views root) (four_views_once moved a accessors meshes images root h))
    ∙ after_is moved a root accessors meshes images views one
    ∙ ap others_common (four_agree root images
    (λ t. leaves moved (first_items (length a.accessors) (accessors t))) (λ t. forgets moved a (meshes t))
    (λ t. first_items (length (where_numbered (survives moved a) a.views)) (shared_views (views t)))
    (λ t. leaves moved (refers moved a t)) (λ t. t) (λ t. shared_views (drops moved a t)) (all_agree moved a root h is))
    ∙ sym (before_is moved a root one)
