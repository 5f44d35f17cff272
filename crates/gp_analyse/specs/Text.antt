-- The text of an analysis: what each primitive of triangles costs to draw, which groups may move, and how the views are stored.
use Rattle.std.specs.Prelude.{ℕ, ◌/◌, ◌==◌, if◌then◌else◌, List, [], ◌∷◌, ◌++◌, flat_map, length, count_by, slice_get, Option, Some, None, codes, decimal}
use Rattle.gp_fields.specs.declared.geometry.Entry.{Entry}
use Rattle.gp_rules.specs.Sizes.{padded}
use Rattle.gp_rules.specs.Accessors.{size_of}
use Rattle.gp_rules.specs.declared.accessing.Accessor.{Accessor}
use Rattle.gp_asset.specs.declared.geometry.Primitive.{Primitive}
use Rattle.gp_asset.specs.Asset.{AssetParts}
use Rattle.gp_unpack.specs.Unpacked.{former_streams}
use Rattle.gp_alias.specs.declared.group.Group.{Group}
use Rattle.gp_alias.specs.Movable.{groups}
use Rattle.gp_alias.specs.Plain.{list_of}
use Rattle.gp_cache.specs.Misses.{misses, lines}

-- ---- one primitive

-- its mesh, and its place there
abbrev pub title : Primitive → List ℕ
title p = codes "mesh " ++ decimal p.mesh ++ codes " primitive " ++ decimal p.at ++ codes " "

-- the accessor of its first attribute
abbrev pub first_of : List Accessor → List Entry → Option Accessor
first_of accessors [] = None
first_of accessors (first ∷ more) = slice_get accessors first.accessor

-- a vertex takes the bytes of that accessor's element, up to the next multiple of 4
abbrev pub vertex_size : Accessor → ℕ
vertex_size first = padded (size_of first)

-- its vertices and triangles, and how often its list misses a cache of vertices and one of lines
abbrev pub measures : List ℕ → Accessor → List ℕ
measures list first =
    codes "vertices " ++ decimal first.count
    ++ codes " triangles " ++ decimal (length list / 3)
    ++ codes " misses " ++ decimal (misses list)
    ++ codes " lines " ++ decimal (lines list (vertex_size first))

-- by its list of triangles and the accessor of its first attribute, which are both there where it is a plain list
abbrev pub findings : Option (List ℕ) → Option Accessor → List ℕ
findings (Some list) (Some first) = measures list first
findings list first = codes "not a plain list"

abbrev pub line : AssetParts → List (List ℕ) → Primitive → List ℕ
line a contents p = title p ++ findings (list_of a contents p) (first_of a.accessors p.attributes) ++ codes "\n"

-- only primitives of triangles, mode 4, have a line
abbrev pub line_if_triangles : AssetParts → List (List ℕ) → Primitive → List ℕ
line_if_triangles a contents p = if p.mode == 4 then line a contents p else []

-- ---- the asset

-- how many groups there are, and how many of them may move; how many views, and how many of them are streams
abbrev pub totals : List Group → AssetParts → List ℕ
totals all a =
    codes "groups " ++ decimal (length all)
    ++ codes " movable " ++ decimal (count_by (λ (g : Group). g.movable) all)
    ++ codes " views " ++ decimal (length a.views)
    ++ codes " packed " ++ decimal (former_streams a)
    ++ codes "\n"

-- a line for each primitive of triangles in order, given the contents of all views, and the totals
unfoldable pub report : AssetParts → List (List ℕ) → List ℕ
report a contents = flat_map (line_if_triangles a contents) a.primitives ++ totals (groups a contents) a
