-- The packed asset has no other views and accessors than those that stay and those that moved groups add.
use Rattle.std.specs.Prelude.{flat_map, if◌then◌else◌, option_to_list, Ok}
use Rattle.std.specs.List.{cons_option, filter_map, sum_by}
use Rattle.std.proofs.Common.{◌≡◌, ℕ, ◌+◌, Bool, true, false, List, [], ◌∷◌, ◌++◌, length, Option, Result, refl, sym, ap, ◌∙◌, subst, arith, length-append}
use Rattle.std.proofs.lemmas.List.Sums.{sum_by-cons}
use Rattle.gp_tree.specs.Plain.{PlainTree}
use Rattle.gp_tree.specs.Sound.{HasDistinctKeys}
use Rattle.gp_fields.specs.declared.fault.FieldFault.{FieldFault}
use Rattle.gp_fields.specs.Record.{AssetFields, asset_fields}
use Rattle.gp_asset.specs.declared.purpose.Form.TheVariants.{Plain, Any}
use Rattle.gp_asset.specs.Asset.{AssetParts, asset}
use Rattle.gp_alias.specs.declared.group.Group.{Group}
use Rattle.gp_unpack.proofs.Drawn.{asset_holds}
use Rattle.gp_sameness.specs.Moved.{Moved, movable_groups}
use Rattle.gp_sameness.specs.Survivors.{survives, where_numbered}
use Rattle.gp_packed.specs.Packed.{packed_tree}
use Rattle.gp_packed.specs.PackedFields.{packed_asset, CanBeMoved}
use Rattle.gp_packed.specs.MadeLaws.{numbers_of}
use Rattle.gp_packed.specs.MovedGroups.{moved_of, number_if, next_if, moved_from, moved_groups}
use Rattle.gp_sameness.specs.AnySize.{asset_of_any_size}
use Rattle.gp_sameness.specs.Same.{added_accessors, added_views, standing_groups, HasNoMore}
use Rattle.gp_kept.specs.TrianglesMoved.{IsRead}
use Rattle.gp_packed.proofs.OutputViews.{output_counted}
use Rattle.gp_packed.proofs.OutputViewsBack.{output_counted as fields_counted}
use Rattle.gp_packed.proofs.AccessorsBack.{accessors_counted}
use Rattle.gp_packed.proofs.FieldsKnown.{parts_stand}
use Rattle.gp_packed.proofs.PackedJoined.{packed_fields_again}
use Rattle.gp_kept.proofs.GroupsCanMove.{count_made, views_of_groups}
use Rattle.gp_sameness.proofs.AnySize.{CountsOf, counts_of}
use Rattle.gp_kept.proofs.OrderUnseen.{order_is_unseen}

-- ---- what groups add

own_views : (g : Group) (b : Bool) (next : ℕ) → length (g.columns ++ (g.lists ++ option_to_list (number_if b next))) ≡ length g.columns + length g.lists + (if b then 1 else 0)
own_views g true next = omega (arith, length-append g.columns (g.lists ++ next ∷ []), length-append g.lists (next ∷ []))
own_views g false next = (let none : List ℕ = [] in omega (arith, length-append g.columns (g.lists ++ none), length-append g.lists none))

views_added : (a : AssetParts) (contents : List (List ℕ)) (next : ℕ) (gs : List Group) → length (flat_map numbers_of (moved_from a contents next gs)) ≡ sum_by added_views gs
views_added a contents next [] = refl
views_added a contents next (g ∷ gs) =
    let own = numbers_of (moved_of a contents (number_if g.bare next) g) in
    omega (
      arith,
      length-append own (flat_map numbers_of (moved_from a contents (next_if g.bare next) gs)),
      own_views g g.bare next,
      views_added a contents (next_if g.bare next) gs,
      sum_by-cons added_views g gs,
    )

one_added : (b : Bool) (next : ℕ) (others : List ℕ) → length (cons_option (number_if b next) others) ≡ (if b then 1 else 0) + length others
one_added true next others = omega arith
one_added false next others = omega arith

accessors_added : (a : AssetParts) (contents : List (List ℕ)) (next : ℕ) (gs : List Group)
    → length (filter_map (λ (m : Moved). m.list_accessor) (moved_from a contents next gs)) ≡ sum_by added_accessors gs
accessors_added a contents next [] = refl
accessors_added a contents next (g ∷ gs) =
    omega (
      arith,
      one_added g.bare next (filter_map (λ (m : Moved). m.list_accessor) (moved_from a contents (next_if g.bare next) gs)),
      accessors_added a contents (next_if g.bare next) gs,
      sum_by-cons added_accessors g gs,
    )

-- ---- fields

same_fields : (f g : AssetFields) → ◌≡◌ {A = Result AssetFields FieldFault} (Ok f) (Ok g) → f ≡ g
same_fields f g e = cc

-- what was read of the packed tree has as many views and accessors as its fields
packed_counts : (t : PlainTree) (bin out : Option (List ℕ)) (a b : AssetParts) (f : AssetFields) (moved : List Moved) → HasDistinctKeys t → asset Plain t bin ≡ Ok a → asset_fields t ≡ Ok f → CanBeMoved moved a
    → asset_of_any_size Any (packed_tree moved a t) out ≡ Ok b → CountsOf (packed_asset moved a f) b
packed_counts t bin out a b f moved keys e read can made =
    let c = counts_of Any (packed_tree moved a t) out b made in
    let same = same_fields c.0 (packed_asset moved a f) (sym c.1 ∙ packed_fields_again t bin a f moved keys e read can) in
    subst (λ g. CountsOf g b) same c.2

counts_with : (t : PlainTree) (bin out : Option (List ℕ)) (a b : AssetParts) (f : AssetFields) (contents : List (List ℕ)) → HasDistinctKeys t → asset Plain t bin ≡ Ok a → asset_fields t ≡ Ok f
    → CanBeMoved (moved_groups a contents) a → IsRead a contents → asset_of_any_size Any (packed_tree (moved_groups a contents) a t) out ≡ Ok b
    → HasNoMore (standing_groups a contents) a contents b
unfolding moved_groups
counts_with t bin out a b f contents keys e read can known made =
    let moved = moved_groups a contents in
    let gs = movable_groups a contents in
    let c = packed_counts t bin out a b f moved keys e read can made in
    let known_fields = parts_stand t bin a f e read in
    let stay : length (where_numbered (survives (standing_groups a contents) a) a.views) ≡ length (where_numbered (survives moved a) a.views) = ap length (order_is_unseen a contents).views in
    let views = c.views in
    let accessors = c.accessors in
    let all_accessors = known_fields.accessors in
    record {
      views = omega (
        arith,
        stay,
        views,
        fields_counted moved a f.views known_fields.views,
        output_counted moved a,
        count_made a moved (views_of_groups a contents known),
        views_added a contents (length a.accessors) gs,
      );
      accessors = omega (arith, accessors, accessors_counted moved a f.accessors, accessors_added a contents (length a.accessors) gs, all_accessors);
    }

pub no_more : (t : PlainTree) (bin out : Option (List ℕ)) (a b : AssetParts) (contents : List (List ℕ)) → HasDistinctKeys t → asset Plain t bin ≡ Ok a → CanBeMoved (moved_groups a contents) a
    → IsRead a contents → asset_of_any_size Any (packed_tree (moved_groups a contents) a t) out ≡ Ok b → HasNoMore (standing_groups a contents) a contents b
no_more t bin out a b contents keys e can known made =
    asset_holds Plain t bin a e (λ f used r h all. counts_with t bin out a b f contents keys e h.has_fields can known made)
