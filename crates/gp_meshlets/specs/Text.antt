-- The text of the meshlets of an asset: of each primitive of triangles how many it has, and for each its vertices and its corners.
use Rattle.std.specs.Prelude.{ℕ, ◌==◌, if◌then◌else◌, List, [], ◌++◌, flat_map, length, Option, Some, None, codes, decimal}
use Rattle.gp_asset.specs.declared.geometry.Primitive.{Primitive}
use Rattle.gp_asset.specs.Asset.{AssetParts}
use Rattle.gp_alias.specs.Plain.{list_of}
use Rattle.gp_meshlets.specs.declared.meshlet.Meshlet.{Meshlet}
use Rattle.gp_meshlets.specs.Meshlets.{meshlets}

-- each number after a space
abbrev pub spaced_one : ℕ → List ℕ
spaced_one number = codes " " ++ decimal number

abbrev pub spaced : List ℕ → List ℕ
spaced numbers = flat_map spaced_one numbers

-- a line of its vertices, and one of its corners
abbrev pub meshlet_lines : Meshlet → List ℕ
meshlet_lines m = codes "vertices" ++ spaced m.vertices ++ codes "\ncorners" ++ spaced m.corners ++ codes "\n"

-- how many there are, and their lines
abbrev pub counted : List Meshlet → List ℕ
counted all = codes "meshlets " ++ decimal (length all) ++ codes "\n" ++ flat_map meshlet_lines all

-- by its list of triangles, which is there where it is a plain list
abbrev pub findings : Option (List ℕ) → List ℕ
findings (Some list) = counted (meshlets list)
findings None = codes "not a plain list\n"

-- its mesh, and its place there
abbrev pub title : Primitive → List ℕ
title p = codes "mesh " ++ decimal p.mesh ++ codes " primitive " ++ decimal p.at ++ codes " "

abbrev pub lines_of : AssetParts → List (List ℕ) → Primitive → List ℕ
lines_of a contents p = title p ++ findings (list_of a contents p)

-- only primitives of triangles, mode 4, have lines
abbrev pub lines_if_triangles : AssetParts → List (List ℕ) → Primitive → List ℕ
lines_if_triangles a contents p = if p.mode == 4 then lines_of a contents p else []

-- the lines of all primitives of triangles in order, given the contents of all views
unfoldable pub text : AssetParts → List (List ℕ) → List ℕ
text a contents = flat_map (lines_if_triangles a contents) a.primitives
