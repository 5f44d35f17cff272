-- Laws of meshlets, over the definitions alone.
use Rattle.std.specs.Prelude.{◌≡◌, ◌≢◌, ℕ, ◌+◌, ◌*◌, ◌%◌, ◌<◌, ◌≤◌, true, false, List, [], ◌++◌, Result, map, length, take, flat_map, slice_index, slice_index_or, All, AllPairs, Contains}
use Rattle.std.specs.List.{concat}
use Rattle.gp_asset.specs.declared.refusal.Refusal.{Refusal}
use Rattle.gp_meshlets.specs.declared.meshlet.Meshlet.{Meshlet}
use Rattle.gp_meshlets.specs.Meshlets.{fits, runs, meshlets}
use Rattle.gp_meshlets.specs.Telling.{Tells}

-- the vertices that a meshlet's corners are
abbrev pub looked_up : Meshlet → List ℕ
looked_up m = map (slice_index m.vertices) m.corners

-- the meshlets' corners, looked up and joined, are the list
abbrev pub MeshletsAreTheList : Type 0
MeshletsAreTheList = (list : List ℕ) → length list % 3 ≡ 0 → flat_map looked_up (meshlets list) ≡ list

-- each meshlet has whole triangles, at least one
abbrev pub MeshletsHaveTriangles : Type 0
MeshletsHaveTriangles = (list : List ℕ) → All (λ (m : Meshlet). (length m.corners % 3 ≡ 0) × (0 < length m.corners)) (meshlets list)

-- each meshlet has at most 64 vertices
abbrev pub VerticesAreFew : Type 0
VerticesAreFew = (list : List ℕ) → All (λ (m : Meshlet). length m.vertices ≤ 64) (meshlets list)

-- no vertex stands twice in a meshlet
abbrev pub VerticesAreDistinct : Type 0
VerticesAreDistinct = (list : List ℕ) → All (λ (m : Meshlet). AllPairs (λ v w. v ≢ w) m.vertices) (meshlets list)

-- each vertex of a meshlet is one of its corners
abbrev pub VerticesAreUsed : Type 0
VerticesAreUsed = (list : List ℕ) → All (λ (m : Meshlet). (place : ℕ) → place < length m.vertices → Contains m.corners place) (meshlets list)

-- each corner is the place of a vertex
abbrev pub CornersAreVertices : Type 0
CornersAreVertices = (list : List ℕ) → All (λ (m : Meshlet). All (λ place. place < length m.vertices) m.corners) (meshlets list)

-- each meshlet has at most 126 triangles
abbrev pub TrianglesAreFew : Type 0
TrianglesAreFew = (list : List ℕ) → All (λ (m : Meshlet). length m.corners ≤ 3 * 126) (meshlets list)

-- a list cut into runs, in order and without gaps: each has at least one triangle and fits, and none but the last fits with the next
-- triangle added
pub record IsCut (list : List ℕ) (cut : List (List ℕ)) : Type 0 where
  pub joined : concat cut ≡ list
  pub whole : All (λ (run : List ℕ). length run % 3 ≡ 0) cut
  pub some : All (λ (run : List ℕ). 0 < length run) cut
  pub fitting : All (λ (run : List ℕ). fits run ≡ true) cut
  pub full : (at : ℕ) → at + 1 < length cut → fits (slice_index_or cut at [] ++ take 3 (slice_index_or cut (at + 1) [])) ≡ false

-- the runs are such a cut
abbrev pub RunsAreCut : Type 0
RunsAreCut = (list : List ℕ) → length list % 3 ≡ 0 → IsCut list (runs list)

-- an input has one answer: its text, or one first fault
abbrev pub HaveOneText : Type 0
HaveOneText = (bytes : List ℕ) (one other : Result (List ℕ) Refusal) → Tells bytes one → Tells bytes other → one ≡ other
