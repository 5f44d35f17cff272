-- Primitives of groups that moved draw the same, and the groups keep their vertices, in the words of sameness.
use Rattle.std.specs.Prelude.{is_some}
use Rattle.std.specs.List.{All}
use Rattle.std.proofs.Common.{◌≡◌, ℕ, ◌<◌, true, List, [], ◌∷◌, length, slice_get, Option, Some, sym, ◌∙◌, arith}
use Rattle.std.proofs.lemmas.List.Elements.{All-nil, All-head, All-weaker}
use Rattle.gp_asset.specs.declared.geometry.Primitive.{Primitive}
use Rattle.gp_asset.specs.Asset.{AssetParts}
use Rattle.gp_alias.specs.declared.group.Group.{Group}
use Rattle.gp_alias.specs.Groups.{vertex_accessors, count_at, first_count}
use Rattle.gp_alias.specs.Movable.{is_movable, groups}
use Rattle.gp_alias.specs.Laws.{IsIn}
use Rattle.gp_sameness.specs.Moved.{Moved}
use Rattle.gp_packed.specs.MeshesBack.{with_indices}
use Rattle.gp_packed.specs.MovedGroups.{moved_of}
use Rattle.gp_sameness.specs.Same.{IsVertexOf, DrawsSame, KeepsVertices}
use Rattle.gp_sameness.specs.Drawn.{corners_of, elements_at}
use Rattle.gp_kept.specs.TrianglesMoved.{IsRead, ReadsMoved}
use Rattle.gp_kept.proofs.TrianglesMoved.{moved_corners, moved_triangles}
use Rattle.gp_kept.proofs.CountedElements.{elements_are_counted}
use Rattle.gp_kept.proofs.RecordsMoved.{moved_vertices, moved_columns, moved_records}

-- ---- what a primitive draws

module _ (a : AssetParts) (contents : List (List ℕ)) (b : AssetParts) (written : List (List ℕ)) (k : ℕ) (g : Group) (list_accessor : Option ℕ)
    (read : IsRead a contents) (here : slice_get (groups a contents) k ≡ Some g) (movable : is_movable a contents g ≡ true)
    (after : ReadsMoved a (moved_of a contents list_accessor g) (elements_at b written)) where
  abbrev m : Moved
  m = moved_of a contents list_accessor g

  as_many : (n at : ℕ) → length (elements_at b written at) ≡ n → count_at b.accessors at ≡ n
  as_many n at long = sym (elements_are_counted b written at) ∙ long

  pub draws_same : (place : ℕ) (p : Primitive) → is_some list_accessor ≡ g.bare → IsIn place g.primitives → slice_get a.primitives place ≡ Some p
      → ((n : ℕ) → (with_indices list_accessor p).indices ≡ Some n → n < length b.accessors)
      → DrawsSame a contents p b written (with_indices list_accessor p)
  draws_same place p given inside there exists =
      let q = with_indices list_accessor p in
      let corners = moved_corners a contents k place g list_accessor p (elements_at b written) read here movable given inside there after in
      let counts = moved_vertices a contents k place g list_accessor p (elements_at b written) read here movable inside there after in
      let vertex : (v : ℕ) → v < length m.records → IsVertexOf b q v =
      λ v below. All-weaker (λ at. length (elements_at b written at) ≡ length m.records) (λ at. v < count_at b.accessors at)
      (λ at long. let many = as_many (length m.records) at long in omega (arith, many, below)) (vertex_accessors p) counts in
      record {
        indices = corners.indices;
        indexed = corners.indexed;
        exists = exists corners.indices corners.indexed;
        below = All-weaker (λ v. v < length m.records) (IsVertexOf b q) vertex (corners_of (elements_at b written) q) corners.kept.sound.below;
        agree = moved_triangles a contents k place g list_accessor p (elements_at b written) read here movable given inside there after;
      }

  -- ---- the vertices of a group

  same_counts : (n : ℕ) (columns : List ℕ) → All (λ at. count_at b.accessors at ≡ n) columns → All (λ at. count_at b.accessors at ≡ first_count b.accessors columns) columns
  same_counts n [] all = All-nil (λ at. count_at b.accessors at ≡ 0)
  same_counts n (first ∷ more) all =
      let own = All-head (λ at. count_at b.accessors at ≡ n) first more all in
      All-weaker (λ at. count_at b.accessors at ≡ n) (λ at. count_at b.accessors at ≡ count_at b.accessors first) (λ at is. is ∙ sym own) (first ∷ more) all

  pub keeps_vertices : KeepsVertices a contents b written g.columns
  keeps_vertices =
      let columns = g.columns in
      let kept = moved_records a contents k g list_accessor (elements_at b written) read here movable after in
      let counts = moved_columns a contents k g list_accessor (elements_at b written) read here movable after in
      record {
        counts = same_counts (length m.records) columns
            (All-weaker (λ at. length (elements_at b written at) ≡ length m.records) (λ at. count_at b.accessors at ≡ length m.records) (as_many (length m.records)) columns counts);
        different = kept.different;
        same = kept.same_set;
      }
