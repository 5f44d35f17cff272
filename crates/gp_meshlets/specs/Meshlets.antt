-- Meshlets of a list of triangles: runs of it, each as long as it fits, with a list of vertices of their own.
use Rattle.std.specs.Prelude.{ℕ, ◌*◌, Bool, ◌&&◌, nat_eq, nat_le, if◌then◌else◌, List, [], ◌∷◌, ◌++◌, map, length}
use Rattle.std.specs.List.{position_or_len}
use Rattle.gp_merge.specs.Distinct.{without_repeats}
use Rattle.gp_meshlets.specs.declared.meshlet.Meshlet.{Meshlet}

-- the distinct vertices of a run of corners, by first place
abbrev pub vertices_of : List ℕ → List ℕ
vertices_of run = without_repeats nat_eq run

-- a run fits where it has at most 126 triangles and at most 64 distinct vertices
abbrev pub fits : List ℕ → Bool
fits run = nat_le (length run) (3 * 126) && nat_le (length (vertices_of run)) 64

-- a run that has corners
abbrev pub if_some : List ℕ → List (List ℕ)
if_some [] = []
if_some (corner ∷ more) = (corner ∷ more) ∷ []

-- this run, with as many of the triangles that follow as fit, and the runs behind it; what is left over is no triangle
abbrev pub runs_from : List ℕ → List ℕ → List (List ℕ)
runs_from run (a ∷ b ∷ c ∷ rest) =
    if fits (run ++ a ∷ b ∷ c ∷ [])
    then runs_from (run ++ a ∷ b ∷ c ∷ []) rest
    else run ∷ runs_from (a ∷ b ∷ c ∷ []) rest
runs_from run _ = if_some run

-- the runs of a list of corners
unfoldable pub runs : List ℕ → List (List ℕ)
runs list = runs_from [] list

-- the meshlet of a run: each corner as the place of its vertex
abbrev pub meshlet_of : List ℕ → Meshlet
meshlet_of run = record { vertices = vertices_of run; corners = map (λ v. position_or_len (nat_eq v) (vertices_of run)) run }

unfoldable pub meshlets : List ℕ → List Meshlet
meshlets list = map meshlet_of (runs list)
