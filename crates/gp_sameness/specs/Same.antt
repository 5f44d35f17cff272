-- Two files are the same asset up to packing, where groups of triangle primitives move. Which groups move is read of the first file alone. In
-- what order their vertices and triangles stand, and how views are stored, isn't said: only what is kept.
use Rattle.std.specs.Prelude.{◌≡◌, ◌≢◌, ◌↔◌, ℕ, ◌+◌, ◌<◌, if◌then◌else◌, true, false, List, map, length, slice_get, Option, Some, None, option_map, Ok}
use Rattle.std.specs.List.{All, AllPairs, Contains, sum_by}
use Rattle.gp_asset.specs.declared.purpose.Form.TheVariants.{Plain, Any}
use Rattle.gp_asset.specs.declared.geometry.Primitive.{Primitive}
use Rattle.gp_asset.specs.Asset.{AssetParts}
use Rattle.gp_elements.specs.Elements.{content_at, elements_of}
use Rattle.gp_alias.specs.declared.group.Group.{Group}
use Rattle.gp_alias.specs.Groups.{is_among, vertex_accessors, count_at, first_count}
use Rattle.gp_alias.specs.Movable.{groups}
use Rattle.gp_alias.specs.Records.{records, lists}
use Rattle.gp_moving.specs.Triangles.{same_vertex, Agree}
use Rattle.gp_unpack.specs.Contents.{all_contents}
use Rattle.gp_document.specs.Accepted.{IsAccepted}
use Rattle.gp_sameness.specs.Moved.{Moved, is_moved, movable_groups}
use Rattle.gp_sameness.specs.Survivors.{survives, renumbered, where_numbered}
use Rattle.gp_sameness.specs.Common.{common_before, common_after}
use Rattle.gp_sameness.specs.AnySize.{HoldsAnySize}
use Rattle.gp_sameness.specs.Drawn.{corners_of, triangles_of, records_of, elements_at}

-- ---- what moves

-- a group that may move, in the order that it has
abbrev pub standing_of : AssetParts → List (List ℕ) → Group → Moved
standing_of a contents g = record {
  primitives = g.primitives;
  columns = g.columns;
  lists = g.lists;
  list_accessor = None;
  count = g.count;
  records = records a contents g;
  ordered = lists a contents g;
}

unfoldable pub standing_groups : AssetParts → List (List ℕ) → List Moved
standing_groups a contents = map (standing_of a contents) (movable_groups a contents)

-- ---- the triangles of a primitive

-- a vertex of each of its attributes and targets
abbrev pub IsVertexOf : AssetParts → Primitive → ℕ → Type 0
IsVertexOf a p v = All (λ at. v < count_at a.accessors at) (vertex_accessors p)

-- the second primitive has indices, all of which are vertices, and both have the same triangles: each up to rotation, and as often
pub record DrawsSame (a : AssetParts) (contents : List (List ℕ)) (p : Primitive) (b : AssetParts) (written : List (List ℕ)) (q : Primitive) : Type 0 where
  pub indices : ℕ
  pub indexed : q.indices ≡ Some indices
  pub exists : indices < length b.accessors
  pub below : All (IsVertexOf b q) (corners_of (elements_at b written) q)
  pub agree : Agree same_vertex (triangles_of (elements_at a contents) p) (triangles_of (elements_at b written) q)

-- ---- the vertices of a group

-- in the second asset the columns have one count, and the vertices differ from each other and are those of the first
pub record KeepsVertices (a : AssetParts) (contents : List (List ℕ)) (b : AssetParts) (written : List (List ℕ)) (columns : List ℕ) : Type 0 where
  pub counts : All (λ at. count_at b.accessors at ≡ first_count b.accessors columns) columns
  pub different : AllPairs (λ r s. r ≢ s) (records_of (elements_at b written) columns)
  pub same : (r : List ℕ) → Contains (records_of (elements_at b written) columns) r ↔ Contains (records_of (elements_at a contents) columns) r

-- ---- two assets, with the contents of their views

-- each view that stays has its contents at its new number
abbrev pub ViewsStay : List Moved → AssetParts → List (List ℕ) → List (List ℕ) → Type 0
ViewsStay moved a contents written = (view number : ℕ) (bytes : List ℕ)
    → slice_get contents view ≡ Some bytes → renumbered moved a view ≡ Some number → slice_get written number ≡ Some bytes

-- each accessor that isn't moved has its elements
abbrev pub ElementsStay : List Moved → AssetParts → List (List ℕ) → AssetParts → List (List ℕ) → Type 0
ElementsStay moved a contents b written = (at : ℕ) → at < length a.accessors → is_moved moved at ≡ false
    → slice_get (elements_of b written) at ≡ slice_get (elements_of a contents) at

-- the bytes of each image that is in a view
abbrev pub images_of : AssetParts → List (List ℕ) → List (Option (List ℕ))
images_of a contents = map (option_map (content_at contents)) a.images

-- a group of the asset that may move
pub record MovesAs (a : AssetParts) (contents : List (List ℕ)) (g : Group) : Type 0 where
  pub number : ℕ
  pub there : slice_get (groups a contents) number ≡ Some g
  pub movable : g.movable ≡ true

-- each primitive of such a group draws the same as the one at its place
abbrev pub TrianglesStay : AssetParts → List (List ℕ) → AssetParts → List (List ℕ) → Type 0
TrianglesStay a contents b written = (g : Group) (place : ℕ) (p : Primitive)
    → MovesAs a contents g → is_among g.primitives place ≡ true → slice_get a.primitives place ≡ Some p
    → (q : Primitive) × (slice_get b.primitives place ≡ Some q) × DrawsSame a contents p b written q

-- each such group keeps its vertices
abbrev pub VerticesStay : AssetParts → List (List ℕ) → AssetParts → List (List ℕ) → Type 0
VerticesStay a contents b written = (g : Group) → MovesAs a contents g → KeepsVertices a contents b written g.columns

-- how many accessors a group adds: one where it has primitives without indices
abbrev pub added_accessors : Group → ℕ
added_accessors g = if g.bare then 1 else 0

-- how many views: one for each of its columns and lists
abbrev pub added_views : Group → ℕ
added_views g = length g.columns + length g.lists + added_accessors g

-- there are no other views than those that stay and those of moved groups, and no other accessors than the first asset's and those that
-- moved groups add
pub record HasNoMore (moved : List Moved) (a : AssetParts) (contents : List (List ℕ)) (b : AssetParts) : Type 0 where
  pub views : length b.views ≡ length (where_numbered (survives moved a) a.views) + sum_by added_views (movable_groups a contents)
  pub accessors : length b.accessors ≡ length a.accessors + sum_by added_accessors (movable_groups a contents)

-- ---- two files

-- - container and faults: the first stands for an asset without a compressed view, and the second for one too: a container without a fault,
--   whose JSON spells a sound tree that has no fault as an asset but maybe the load, and no fault in the streams of its views; the other
--   chunks are the same
-- - trees: they are the same, once what packing may write is left out of both and each reference to a view is read as its new number; there
--   are no more views and accessors than that
-- - contents of views: views that stay have their contents, and images their bytes
-- - elements of accessors: accessors that aren't moved have their elements
-- - triangles: primitives of groups that move draw the same triangles
-- - vertices: these groups have the same vertices, each once
pub record Same (before after : List ℕ) : Type 0 where
  pub input : IsAccepted Plain before
  pub output : HoldsAnySize Any after
  pub contents : List (List ℕ)
  pub read : all_contents input.asset ≡ Ok contents
  pub written : List (List ℕ)
  pub decoded : all_contents output.asset ≡ Ok written
  pub rest : output.document.rest ≡ input.document.rest
  pub trees : common_after (standing_groups input.asset contents) input.asset output.document.tree
      ≡ common_before (standing_groups input.asset contents) input.asset input.document.tree
  pub counts : HasNoMore (standing_groups input.asset contents) input.asset contents output.asset
  pub views : ViewsStay (standing_groups input.asset contents) input.asset contents written
  pub elements : ElementsStay (standing_groups input.asset contents) input.asset contents output.asset written
  pub images : images_of output.asset written ≡ images_of input.asset contents
  pub triangles : TrianglesStay input.asset contents output.asset written
  pub vertices : VerticesStay input.asset contents output.asset written
