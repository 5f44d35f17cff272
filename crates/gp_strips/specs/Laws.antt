-- Laws of strips and fans, over the definitions alone.
use Rattle.std.specs.Prelude.{◌≡◌, ℕ, ◌+◌, ◌*◌, List, [], length, map, take, drop, slice_get, All, Contains, count_by, Option, Some, None, true}
use Rattle.gp_tree.specs.Plain.{PlainTree}
use Rattle.gp_cache.specs.Triangles.{Corners, triples, same_corners}
use Rattle.gp_asset.specs.declared.geometry.Primitive.{Primitive}
use Rattle.gp_asset.specs.Asset.{AssetParts}
use Rattle.gp_layout.specs.Layout.{starts, end, laid}
use Rattle.gp_document.specs.Document.{Document}
use Rattle.gp_unpack.specs.Unpacked.{unpacked}
use Rattle.gp_strips.specs.declared.editing.ListView.{ListView}
use Rattle.gp_strips.specs.Strips.{places_by, triangle_count, triangles_at, listed_corners}
use Rattle.gp_strips.specs.Listed.{is_listed_length, vertices_of, listed_triangles}
use Rattle.gp_strips.specs.ListedTree.{as_triangles}
use Rattle.gp_strips.specs.ListedDocument.{all_lists, made_lists, list_bytes, output_contents, list_views, list_accessors, primitive_place, accessor_number, accessor_of, listed}

-- the list has the triangles of the strip or the fan, in their order
abbrev pub ListsAreTheTriangles : Type 0
ListsAreTheTriangles = (mode : ℕ) (list : List ℕ) → triples (listed_corners mode list) ≡ triangles_at 0 (places_by mode) list

-- each triangle stands equally often in both
abbrev pub ListsHaveEachTriangle : Type 0
ListsHaveEachTriangle = (mode : ℕ) (list : List ℕ) (t : Corners)
    → count_by (same_corners t) (triples (listed_corners mode list)) ≡ count_by (same_corners t) (triangles_at 0 (places_by mode) list)

-- three corners a triangle
abbrev pub ListsHaveThreeCorners : Type 0
ListsHaveThreeCorners = (mode : ℕ) (list : List ℕ) → length (listed_corners mode list) ≡ 3 * triangle_count list

-- each corner is a vertex of the list
abbrev pub CornersAreVertices : Type 0
CornersAreVertices = (mode : ℕ) (list : List ℕ) → All (Contains list) (listed_corners mode list)

-- where a vertex is its values in each of a primitive's accessors, the list draws the triangles of the strip or the fan of these values
abbrev pub ListsDrawTheSame : Type 0
ListsDrawTheSame = (mode : ℕ) (list : List ℕ) (values : ℕ → List (List ℕ)) → triples (map values (listed_corners mode list)) ≡ triangles_at [] (places_by mode) (map values list)

-- a strip or a fan that is listed has at least one triangle, and not too many
abbrev pub ListedHaveTriangles : Type 0
ListedHaveTriangles = (a : AssetParts) (contents : List (List ℕ)) (p : Primitive) (vertices : List ℕ) → vertices_of a contents p ≡ Some vertices → is_listed_length (length vertices) ≡ true

-- ---- documents

-- the tree of a primitive that no list is written for stays as it is
abbrev pub UnlistedStay : Type 0
UnlistedStay = (a : AssetParts) (contents : List (List ℕ)) (mesh at : ℕ) (t : PlainTree) → listed_triangles a contents (primitive_place a.primitives mesh at) ≡ None
    → as_triangles (accessor_of a (all_lists a contents) mesh at) t ≡ t

-- where no list is written the document is what unpacking gives
abbrev pub NothingListedIsUnpacked : Type 0
NothingListedIsUnpacked = (a : AssetParts) (contents : List (List ℕ)) (document : Document) → made_lists (all_lists a contents) ≡ [] → listed a contents document ≡ unpacked contents document

-- the contents of each view of the input stand in the one buffer where unpacking puts them
abbrev pub ContentsStay : Type 0
ContentsStay = (contents made : List (List ℕ)) (i : ℕ) (part : List ℕ) (start : ℕ) → slice_get contents i ≡ Some part → slice_get (starts (map length contents)) i ≡ Some start
    → take (length part) (drop start (laid (output_contents contents made))) ≡ part

-- each list stands in the one buffer where its view says
abbrev pub ListsStand : Type 0
ListsStand = (contents made : List (List ℕ)) (i : ℕ) (corners : List ℕ) (view : ListView) → slice_get made i ≡ Some corners → slice_get (list_views (end (map length contents)) made) i ≡ Some view
    → take view.length (drop view.offset (laid (output_contents contents made))) ≡ list_bytes corners

-- the number that a primitive gets names an accessor of its list, behind so many, and that one the view of the list, behind so many
abbrev pub NumbersNameLists : Type 0
NumbersNameLists = (accessors views : ℕ) (lists : List (Option (List ℕ))) (at : ℕ) (corners : List ℕ) → slice_get lists at ≡ Some (Some corners)
    → (j : ℕ) × (accessor_number accessors lists at ≡ Some (accessors + j)) × (slice_get (made_lists lists) j ≡ Some corners)
    × (slice_get (list_accessors views (made_lists lists)) j ≡ Some (record { view = views + j; component = 5125; count = length corners }))
