-- What the trees of an asset and of what packing makes of it have in common, whatever groups move.
use Rattle.std.specs.Prelude.{◌≡◌, ℕ, List, [], length, slice_get, is_some, Option, Some, None, option_and_then, Ok, codes}
use Rattle.gp_tree.specs.Plain.{PlainTree}
use Rattle.gp_tree.specs.Sound.{HasDistinctKeys}
use Rattle.gp_tree.specs.Find.{array_items, find_member}
use Rattle.gp_asset.specs.declared.purpose.Form.{Form}
use Rattle.gp_asset.specs.Asset.{AssetParts, asset}
use Rattle.gp_sameness.specs.Moved.{Moved}
use Rattle.gp_packed.specs.Packed.{packed_tree}
use Rattle.gp_sameness.specs.Common.{had_indices, primitive_place, common_before, common_after}

-- the items of the list in a member; none where there is no such member or it holds no list
abbrev pub items_in : Option PlainTree → List PlainTree
items_in None = []
items_in (Some t) = array_items t

abbrev pub items_at : List ℕ → PlainTree → List PlainTree
items_at key t = items_in (find_member key t)

abbrev pub primitive_at : PlainTree → ℕ → ℕ → Option PlainTree
primitive_at root mesh at = option_and_then (λ t. slice_get (items_at (codes "primitives") t) at) (slice_get (items_at (codes "meshes") root) mesh)

-- the asset has as many views and accessors as the tree, and knows which of its primitives have `indices`
pub record IsAssetOf (root : PlainTree) (a : AssetParts) : Type 0 where
  pub views : length (items_at (codes "bufferViews") root) ≡ length a.views
  pub accessors : length (items_at (codes "accessors") root) ≡ length a.accessors
  pub primitives : (mesh at : ℕ) (t : PlainTree) → primitive_at root mesh at ≡ Some t
      → is_some (find_member (codes "indices") t) ≡ had_indices a (primitive_place a mesh at)

-- the packed tree has the same in common with the input's, whatever groups move
abbrev pub MovedStaysCommon : Type 0
MovedStaysCommon = (moved : List Moved) (a : AssetParts) (root : PlainTree)
    → HasDistinctKeys root → IsAssetOf root a
    → common_after moved a (packed_tree moved a root) ≡ common_before moved a root

-- an asset is one of the tree that it is read from
abbrev pub ReadIsAssetOf : Type 0
ReadIsAssetOf = (form : Form) (root : PlainTree) (bin : Option (List ℕ)) (a : AssetParts) → asset form root bin ≡ Ok a → IsAssetOf root a
