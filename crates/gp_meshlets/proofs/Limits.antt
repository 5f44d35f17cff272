-- What holds of each meshlet.
use Rattle.std.proofs.Common.{◌≡◌, ◌≢◌, ℕ, ◌%◌, ◌<◌, ◌≤◌, true, List, map, length, sym, subst, All, AllPairs, Contains}
use Rattle.std.proofs.lemmas.List.{length-map}
use Rattle.std.proofs.lemmas.List.Elements.{All-map, All-weaker}
use Rattle.gp_meshlets.specs.declared.meshlet.Meshlet.{Meshlet}
use Rattle.gp_meshlets.specs.Meshlets.{fits, runs, meshlet_of, meshlets}
use Rattle.gp_meshlets.specs.Laws.{MeshletsHaveTriangles, VerticesAreFew, VerticesAreDistinct, VerticesAreUsed, CornersAreVertices, TrianglesAreFew}
use Rattle.gp_meshlets.proofs.Vertices.{place_in}
use Rattle.gp_meshlets.proofs.Turns.{fitting_few}
use Rattle.gp_meshlets.proofs.Pieces.{are_distinct, are_places, are_used}
use Rattle.gp_meshlets.proofs.Cuts.{all_runs, runs_fit, one_whole, more_whole}

-- what holds of the meshlet of each run that fits
each : (P : Meshlet → Type 0) → ((run : List ℕ) → fits run ≡ true → P (meshlet_of run)) → (list : List ℕ) → All P (meshlets list)
unfolding meshlets
each P of list = All-map P meshlet_of (runs list) (All-weaker (λ run. fits run ≡ true) (λ run. P (meshlet_of run)) of (runs list) (runs_fit list))

many : (run : List ℕ) → length (map (place_in run) run) ≡ length run
many run = length-map run (place_in run)

pub have_triangles : MeshletsHaveTriangles
unfolding meshlets
have_triangles list =
    All-map (λ (m : Meshlet). (length m.corners % 3 ≡ 0) × (0 < length m.corners)) meshlet_of (runs list)
    (All-weaker (λ run. (length run % 3 ≡ 0) × (0 < length run)) (λ run. (length (map (place_in run) run) % 3 ≡ 0) × (0 < length (map (place_in run) run)))
    (λ run h. subst (λ n. (n % 3 ≡ 0) × (0 < n)) (sym (many run)) h) (runs list)
    (all_runs (λ run. (length run % 3 ≡ 0) × (0 < length run)) one_whole more_whole list))

pub few_vertices : VerticesAreFew
few_vertices = each (λ (m : Meshlet). length m.vertices ≤ 64) (λ run h. (fitting_few run h).1)

pub distinct_vertices : VerticesAreDistinct
distinct_vertices = each (λ (m : Meshlet). AllPairs (λ v w. v ≢ w) m.vertices) (λ run h. are_distinct run)

pub used_vertices : VerticesAreUsed
used_vertices = each (λ (m : Meshlet). (place : ℕ) → place < length m.vertices → Contains m.corners place) (λ run h. are_used run)

pub corners_in : CornersAreVertices
corners_in = each (λ (m : Meshlet). All (λ place. place < length m.vertices) m.corners) (λ run h. are_places run)

pub few_triangles : TrianglesAreFew
few_triangles = each (λ (m : Meshlet). length m.corners ≤ 378) (λ run h. subst (λ n. n ≤ 378) (sym (many run)) (fitting_few run h).0)
