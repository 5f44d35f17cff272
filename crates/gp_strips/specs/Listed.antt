-- Which strips and fans have lists of triangles written for them, and of which vertices (glTF 2.0, sections 3.7.2.1 and 5.24).
use Rattle.std.specs.Prelude.{ℕ, ◌^◌, Bool, ◌&&◌, ◌||◌, ◌==◌, nat_le, if◌then◌else◌, List, [], ◌∷◌, slice_get, Option, Some, None, option_map, option_and_then}
use Rattle.std.specs.List.{list_all, range_with_len}
use Rattle.gp_fields.specs.declared.geometry.Entry.{Entry}
use Rattle.gp_rules.specs.declared.accessing.Accessor.{Accessor}
use Rattle.gp_rules.specs.Accessors.{is_index}
use Rattle.gp_asset.specs.declared.geometry.Primitive.{Primitive}
use Rattle.gp_asset.specs.Asset.{AssetParts}
use Rattle.gp_alias.specs.Groups.{count_at}
use Rattle.gp_alias.specs.Movable.{numbers_of, has_resolved, holds_at, is_scalar, is_vertex, greatest}
use Rattle.gp_strips.specs.Strips.{listed_corners}

-- ---- vertices

-- the accessor has one element for each of so many vertices, and it is known what they are
abbrev pub is_column : List (List ℕ) → ℕ → Accessor → Bool
is_column contents count accessor = accessor.count == count && has_resolved contents accessor

abbrev pub are_columns : AssetParts → List (List ℕ) → ℕ → List Entry → Bool
are_columns a contents count entries = list_all (λ (e : Entry). holds_at a.accessors (is_column contents count) e.accessor) entries

-- those of all attributes and morph targets
abbrev pub has_columns : AssetParts → List (List ℕ) → ℕ → Primitive → Bool
has_columns a contents count p = are_columns a contents count p.attributes && list_all (are_columns a contents count) p.targets

-- ---- lists of vertices

-- at least one triangle, and not too many
abbrev pub is_listed_length : ℕ → Bool
is_listed_length n = nat_le 3 n && nat_le n (2 ^ 24)

abbrev pub has_index_shape : Accessor → Bool
has_index_shape accessor = is_scalar accessor.shape && is_index accessor.component && is_listed_length accessor.count

-- the numbers in an accessor, where each is of a vertex and none restarts the primitive
unfoldable pub vertices_in : AssetParts → List (List ℕ) → ℕ → Accessor → Option (List ℕ)
vertices_in a contents count accessor =
    if has_index_shape accessor && has_resolved contents accessor && list_all (is_vertex count (greatest accessor)) (numbers_of a contents accessor)
    then Some (numbers_of a contents accessor)
    else None

-- without `indices` all vertices in their order
abbrev pub all_vertices : ℕ → Option (List ℕ)
all_vertices count = if is_listed_length count then Some (range_with_len 0 count) else None

abbrev pub vertices_by : AssetParts → List (List ℕ) → ℕ → Option ℕ → Option (List ℕ)
vertices_by a contents count None = all_vertices count
vertices_by a contents count (Some at) = option_and_then (vertices_in a contents count) (slice_get a.accessors at)

abbrev pub vertices_where : Bool → AssetParts → List (List ℕ) → ℕ → Option ℕ → Option (List ℕ)
vertices_where holds a contents count indices = if holds then vertices_by a contents count indices else None

-- ---- primitives

-- a strip or a fan of triangles
abbrev pub is_strip_or_fan : ℕ → Bool
is_strip_or_fan mode = mode == 5 || mode == 6

-- there are as many vertices as the first attribute has elements
abbrev pub vertices_with : AssetParts → List (List ℕ) → Primitive → List Entry → Option (List ℕ)
vertices_with a contents p [] = None
vertices_with a contents p (first ∷ more) =
    vertices_where (has_columns a contents (count_at a.accessors first.accessor) p) a contents (count_at a.accessors first.accessor) p.indices

-- vertices are no more than what their accessors say where the asset is closed
abbrev pub vertices_of : AssetParts → List (List ℕ) → Primitive → Option (List ℕ)
vertices_of a contents p = if a.closed && is_strip_or_fan p.mode then vertices_with a contents p p.attributes else None

-- the vertices of the strip or fan with this place, in their order; none where no list is written for it
unfoldable pub listed_vertices : AssetParts → List (List ℕ) → ℕ → Option (List ℕ)
listed_vertices a contents at = option_and_then (vertices_of a contents) (slice_get a.primitives at)

-- ---- lists of triangles

abbrev pub triangles_of : AssetParts → List (List ℕ) → Primitive → Option (List ℕ)
triangles_of a contents p = option_map (listed_corners p.mode) (vertices_of a contents p)

-- the list of triangles that is written for the primitive with this place, if one is
unfoldable pub listed_triangles : AssetParts → List (List ℕ) → ℕ → Option (List ℕ)
listed_triangles a contents at = option_and_then (triangles_of a contents) (slice_get a.primitives at)
