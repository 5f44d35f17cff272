-- What the trees of an asset and of what packing makes of it have in common where groups move: all that packing may not write.
use Rattle.std.specs.Prelude.{ℕ, Bool, not, ◌&&◌, if◌then◌else◌, List, [], ◌∷◌, length, take, slice_get, is_some, Option, Some, None, option_and_then, codes, ◌==◌}
use Rattle.std.specs.List.{position_or_len}
use Rattle.gp_tree.specs.Plain.{PlainTree}
use Rattle.gp_tree.specs.TreeEdits.{without, at_member, with_items}
use Rattle.gp_asset.specs.declared.geometry.Primitive.{Primitive}
use Rattle.gp_asset.specs.Asset.{AssetParts}
use Rattle.gp_edits.specs.Common.{common}
use Rattle.gp_sameness.specs.Survivors.{survives, where_numbered}
use Rattle.gp_sameness.specs.References.{each_item, with_new_references}
use Rattle.gp_sameness.specs.Moved.{Moved, group_with}

-- ---- accessors

-- the members that packing may write on an accessor of vertices, and on one of indices
abbrev pub written_on_column : List (List ℕ)
written_on_column = codes "bufferView" ∷ codes "byteOffset" ∷ codes "count" ∷ codes "sparse" ∷ []

abbrev pub written_on_list : List (List ℕ)
written_on_list = codes "bufferView" ∷ codes "byteOffset" ∷ codes "componentType" ∷ codes "min" ∷ codes "max" ∷ codes "sparse" ∷ []

abbrev pub without_each : List (List ℕ) → PlainTree → PlainTree
without_each [] t = t
without_each (key ∷ keys) t = without_each keys (without key t)

-- by the group that it is a column of, or else a list of
abbrev pub common_of : Option Moved → Option Moved → PlainTree → PlainTree
common_of (Some m) list t = without_each written_on_column t
common_of None (Some m) t = without_each written_on_list t
common_of None None t = t

abbrev pub common_accessor : List Moved → ℕ → PlainTree → PlainTree
common_accessor moved at t = common_of (group_with (λ (m : Moved). m.columns) moved at) (group_with (λ (m : Moved). m.lists) moved at) t

abbrev pub common_accessors : List Moved → PlainTree → PlainTree
common_accessors moved root = at_member (codes "accessors") (each_item (common_accessor moved)) root

-- ---- the input's tree

-- without the views that are dropped
abbrev pub with_survivors : List Moved → AssetParts → PlainTree → PlainTree
with_survivors moved a root = at_member (codes "bufferViews") (with_items (where_numbered (survives moved a))) root

-- each reference to a view is read as its new number
unfoldable pub common_before : List Moved → AssetParts → PlainTree → PlainTree
common_before moved a root = common_accessors moved (common (with_new_references moved a (with_survivors moved a root)))

-- ---- the output's tree

abbrev pub first_items : ℕ → PlainTree → PlainTree
first_items count t = with_items (take count) t

-- without the views past those that stay
abbrev pub without_made_views : List Moved → AssetParts → PlainTree → PlainTree
without_made_views moved a root = at_member (codes "bufferViews") (first_items (length (where_numbered (survives moved a) a.views))) root

-- without the accessors past the input's
abbrev pub without_made_accessors : AssetParts → PlainTree → PlainTree
without_made_accessors a root = at_member (codes "accessors") (first_items (length a.accessors)) root

-- the place among all of a primitive of a mesh
abbrev pub primitive_place : AssetParts → ℕ → ℕ → ℕ
primitive_place a mesh at = position_or_len (λ (p : Primitive). p.mesh == mesh && p.at == at) a.primitives

-- the primitive at this place among all has `indices` in the input
abbrev pub had_indices : AssetParts → ℕ → Bool
had_indices a at = is_some (option_and_then (λ (p : Primitive). p.indices) (slice_get a.primitives at))

abbrev pub got_indices : List Moved → AssetParts → ℕ → Bool
got_indices moved a at = is_some (group_with (λ (m : Moved). m.primitives) moved at) && not (had_indices a at)

abbrev pub without_got_indices : List Moved → AssetParts → ℕ → PlainTree → PlainTree
without_got_indices moved a at t = if got_indices moved a at then without (codes "indices") t else t

-- each primitive changed by its place among all
abbrev pub each_primitive : AssetParts → (ℕ → PlainTree → PlainTree) → PlainTree → PlainTree
each_primitive a change root =
    at_member (codes "meshes") (each_item (λ mesh. at_member (codes "primitives") (each_item (λ at. change (primitive_place a mesh at))))) root

-- without the `indices` of primitives that move and had none
abbrev pub without_made_indices : List Moved → AssetParts → PlainTree → PlainTree
without_made_indices moved a root = each_primitive a (without_got_indices moved a) root

unfoldable pub common_after : List Moved → AssetParts → PlainTree → PlainTree
common_after moved a root =
    common_accessors moved (without_made_indices moved a (without_made_accessors a (without_made_views moved a (common root))))
