-- What primitives draw and which vertices groups have, given the elements of accessors.
use Rattle.std.specs.Prelude.{ℕ, List, [], ◌∷◌, map, flat_map, length, slice_get, Option, Some, None, option_map, unwrap_or}
use Rattle.std.specs.List.{range_with_len}
use Rattle.gp_fields.specs.declared.geometry.Entry.{Entry}
use Rattle.gp_asset.specs.declared.geometry.Primitive.{Primitive}
use Rattle.gp_asset.specs.Asset.{AssetParts}
use Rattle.gp_elements.specs.Elements.{number_of}
use Rattle.gp_alias.specs.Groups.{vertex_accessors}
use Rattle.gp_alias.specs.Movable.{items_of}
use Rattle.gp_alias.specs.Records.{item_at}
use Rattle.gp_moving.specs.Triangles.{Vertex, triples}

-- ---- what a primitive reads, given the elements of each accessor by its number (glTF 2.0, section 3.7.2.1)

-- element v of each accessor of its vertices: of its attributes, and then of its morph targets
abbrev pub vertex_of : (ℕ → List (List ℕ)) → Primitive → ℕ → Vertex
vertex_of elements p v = map (λ at. item_at v (elements at)) (vertex_accessors p)

-- without `indices`: all vertices in their order, as many as the first attribute has elements
abbrev pub all_corners : (ℕ → List (List ℕ)) → List Entry → List ℕ
all_corners elements [] = []
all_corners elements (first ∷ more) = range_with_len 0 (length (elements first.accessor))

abbrev pub corners_by : (ℕ → List (List ℕ)) → List Entry → Option ℕ → List ℕ
corners_by elements attributes None = all_corners elements attributes
corners_by elements attributes (Some at) = map number_of (elements at)

-- the numbers of the vertices at its corners
abbrev pub corners_of : (ℕ → List (List ℕ)) → Primitive → List ℕ
corners_of elements p = corners_by elements p.attributes p.indices

-- the triangles that it draws
abbrev pub triangles_of : (ℕ → List (List ℕ)) → Primitive → List (Vertex × Vertex × Vertex)
triangles_of elements p = triples (map (vertex_of elements p) (corners_of elements p))

-- ---- the vertices of a group, given the same

-- element v of each of these accessors, joined
abbrev pub record_of : (ℕ → List (List ℕ)) → List ℕ → ℕ → List ℕ
record_of elements columns v = flat_map (λ at. item_at v (elements at)) columns

-- of all vertices, as many as the first of the accessors has elements
abbrev pub records_of : (ℕ → List (List ℕ)) → List ℕ → List (List ℕ)
records_of elements [] = []
records_of elements (first ∷ more) = map (record_of elements (first ∷ more)) (range_with_len 0 (length (elements first)))

-- ---- of an asset

-- the elements of accessor `at`, with the values of a resolvable `sparse` in place
abbrev pub elements_at : AssetParts → List (List ℕ) → ℕ → List (List ℕ)
elements_at a contents at = unwrap_or (option_map (items_of a contents) (slice_get a.accessors at)) []
