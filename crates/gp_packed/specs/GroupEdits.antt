-- The tree's accessors and primitives of groups that move (glTF 2.0, sections 5.1 and 5.24).
use Rattle.std.specs.Prelude.{ℕ, ◌+◌, if◌then◌else◌, List, [], ◌∷◌, filter_map, length, is_none, Option, Some, None, codes}
use Rattle.gp_tree.specs.Plain.{PlainTree, text, members, members_of}
use Rattle.gp_tree.specs.Find.{find_member}
use Rattle.gp_tree.specs.TreeEdits.{with_member, without, at_member, and_items}
use Rattle.gp_asset.specs.Asset.{AssetParts}
use Rattle.gp_edits.specs.Changes.{whole_number}
use Rattle.gp_sameness.specs.Moved.{Moved, group_with}
use Rattle.gp_sameness.specs.Common.{primitive_place}
use Rattle.gp_sameness.specs.Survivors.{survives, where_numbered}
use Rattle.gp_packed.specs.MadeViews.{list_component, made_views, made_place}
use Rattle.gp_sameness.specs.References.{each_item}

-- the number of the view that an accessor reads: those that stay come first
abbrev pub made_number : List Moved → AssetParts → ℕ → ℕ
made_number moved a at = length (where_numbered (survives moved a) a.views) + made_place (made_views a moved) at

-- ---- accessors, which are no longer sparse

abbrev pub moved_column : ℕ → Moved → PlainTree → PlainTree
moved_column view m t =
    without (codes "sparse") (without (codes "byteOffset")
    (with_member (codes "count") (whole_number (length m.records)) (with_member (codes "bufferView") (whole_number view) t)))

abbrev pub moved_list : ℕ → Moved → PlainTree → PlainTree
moved_list view m t =
    without (codes "sparse") (without (codes "max") (without (codes "min") (without (codes "byteOffset")
    (with_member (codes "componentType") (whole_number (list_component m)) (with_member (codes "bufferView") (whole_number view) t)))))

abbrev pub moved_by : ℕ → Option Moved → Option Moved → PlainTree → PlainTree
moved_by view (Some m) list t = moved_column view m t
moved_by view None (Some m) t = moved_list view m t
moved_by view None None t = t

abbrev pub moved_accessor : List Moved → AssetParts → ℕ → PlainTree → PlainTree
moved_accessor moved a at t =
    moved_by (made_number moved a at) (group_with (λ (m : Moved). m.columns) moved at) (group_with (λ (m : Moved). m.lists) moved at) t

unfoldable pub with_moved_accessors : List Moved → AssetParts → PlainTree → PlainTree
with_moved_accessors moved a root = at_member (codes "accessors") (each_item (moved_accessor moved a)) root

-- ---- the list of primitives without indices

abbrev pub list_accessor : List Moved → AssetParts → Moved → Option PlainTree
list_accessor moved a m = elim m.list_accessor [
  | None ↦ None
  | Some at ↦ Some (members (members_of (
      (codes "bufferView", whole_number (made_number moved a at))
      ∷ (codes "componentType", whole_number (list_component m))
      ∷ (codes "count", whole_number m.count)
      ∷ (codes "type", text (codes "SCALAR"))
      ∷ [])))
]

unfoldable pub with_list_accessors : List Moved → AssetParts → PlainTree → PlainTree
with_list_accessors moved a root = at_member (codes "accessors") (and_items (filter_map (list_accessor moved a) moved)) root

-- ---- primitives

abbrev pub indexed_by : Option Moved → PlainTree → PlainTree
indexed_by None t = t
indexed_by (Some m) t = elim m.list_accessor [
  | None ↦ t
  | Some at ↦ if is_none (find_member (codes "indices") t) then with_member (codes "indices") (whole_number at) t else t
]

abbrev pub indexed_primitive : List Moved → ℕ → PlainTree → PlainTree
indexed_primitive moved at t = indexed_by (group_with (λ (m : Moved). m.primitives) moved at) t

unfoldable pub with_all_indices : List Moved → AssetParts → PlainTree → PlainTree
with_all_indices moved a root =
    at_member (codes "meshes")
    (each_item (λ mesh. at_member (codes "primitives") (each_item (λ at. indexed_primitive moved (primitive_place a mesh at)))))
    root
