-- The views, accessors and primitives of a packed asset: what its fields stand for.
use Rattle.std.specs.Prelude.{ℕ, List, ◌++◌, map, filter_map, length, if◌then◌else◌, Option, Some, None, option_map}
use Rattle.std.specs.List.{enumerate_from}
use Rattle.gp_rules.specs.declared.storage.View.{View}
use Rattle.gp_rules.specs.declared.accessing.Accessor.{Accessor}
use Rattle.gp_rules.specs.declared.accessing.Sparse.{Sparse}
use Rattle.gp_rules.specs.declared.accessing.Component.{Component}
use Rattle.gp_rules.specs.declared.accessing.Component.TheVariants.{U16, U32}
use Rattle.gp_rules.specs.declared.accessing.Shape.TheVariants.{Scalar}
use Rattle.gp_asset.specs.declared.geometry.Primitive.{Primitive}
use Rattle.gp_asset.specs.Asset.{AssetParts}
use Rattle.gp_sameness.specs.Moved.{Moved, group_with}
use Rattle.gp_sameness.specs.Survivors.{survives, renumbered, where_numbered}
use Rattle.gp_packed.specs.MadeViews.{Made, is_narrow, made_views}
use Rattle.gp_packed.specs.GroupEdits.{made_number}
use Rattle.gp_packed.specs.AccessorsBack.{new_number}
use Rattle.gp_packed.specs.MeshesBack.{list_at, with_indices, made_stride}
use Rattle.gp_packed.specs.Plan.{output_views}
use Rattle.gp_packed.specs.ViewEdits.{view_edits}
use Rattle.gp_packed.specs.StoredParts.{stored_views_parts}

-- ---- one accessor

-- of a vertex, and of a list of vertex numbers, in a view of its own
abbrev pub moved_column_part : ℕ → Moved → Accessor → Accessor
moved_column_part view m x = record { view = Some view; offset = 0; component = x.component; shape = x.shape; count = length m.records; sparse = None }

abbrev pub list_kind : Moved → Component
list_kind m = if is_narrow m then U16 else U32

abbrev pub moved_list_part : ℕ → Moved → Accessor → Accessor
moved_list_part view m x = record { view = Some view; offset = 0; component = list_kind m; shape = x.shape; count = x.count; sparse = None }

-- of primitives without indices
abbrev pub made_list_part : ℕ → Moved → Accessor
made_list_part view m = record { view = Some view; offset = 0; component = list_kind m; shape = Scalar; count = m.count; sparse = None }

abbrev pub kept_sparse_part : (ℕ → Option ℕ) → Sparse → Sparse
kept_sparse_part renumber s = record s { index_view = new_number renumber s.index_view; value_view = new_number renumber s.value_view }

abbrev pub kept_part : (ℕ → Option ℕ) → Accessor → Accessor
kept_part renumber x = record x { view = option_map (new_number renumber) x.view; sparse = option_map (kept_sparse_part renumber) x.sparse }

-- ---- all accessors: those of the input, each by its number, and then those made

-- by the groups that have it among their columns and their lists
abbrev pub part_by : (ℕ → Option ℕ) → ℕ → Option Moved → Option Moved → Accessor → Accessor
part_by renumber view (Some m) list x = moved_column_part view m x
part_by renumber view None (Some m) x = moved_list_part view m x
part_by renumber view None None x = kept_part renumber x

abbrev pub edited_part : List Moved → AssetParts → ℕ → Accessor → Accessor
edited_part moved a at x =
    part_by (renumbered moved a) (made_number moved a at) (group_with (λ (m : Moved). m.columns) moved at) (group_with (λ (m : Moved). m.lists) moved at) x

abbrev pub list_part : List Moved → AssetParts → Moved → Option Accessor
list_part moved a m = option_map (λ at. made_list_part (made_number moved a at) m) m.list_accessor

abbrev pub packed_accessors : List Moved → AssetParts → List Accessor
packed_accessors moved a = map (λ (p : ℕ × Accessor). edited_part moved a p.0 p.1) (enumerate_from 0 a.accessors) ++ filter_map (list_part moved a) moved

-- ---- all views: those that stay, then those that are made

abbrev pub made_view : Made → View
made_view v = record { buffer = 0; offset = 0; length = length v.contents; stride = made_stride v.coding.mode v.coding.stride; packed = None }

-- before they are stored
abbrev pub unstored_views : List Moved → AssetParts → List View
unstored_views moved a = where_numbered (survives moved a) a.views ++ map made_view (made_views a moved)

abbrev pub packed_views : List Moved → AssetParts → List View
packed_views moved a = stored_views_parts (view_edits (output_views moved a)) (unstored_views moved a)

-- ---- all primitives

abbrev pub packed_primitives : List Moved → AssetParts → List Primitive
packed_primitives moved a = map (λ (p : ℕ × Primitive). with_indices (list_at moved p.0) p.1) (enumerate_from 0 a.primitives)
