-- Meshlets on their way. For contracts within the crate; no public contract cites it.
use Rattle.std.specs.Prelude.{◌≡◌, ℕ, ◌+◌, ◌*◌, Bool, true, false, ◌||◌, ◌==◌, nat_eq, if◌then◌else◌, List, [], ◌∷◌, ◌++◌, length, map, drop}
use Rattle.std.specs.List.{position_or_len}
use Rattle.gp_meshlets.specs.declared.corners.Triangle.{Triangle}
use Rattle.gp_meshlets.specs.declared.growth.Growing.{Growing}
use Rattle.gp_meshlets.specs.declared.meshlet.Meshlet.{Meshlet}
use Rattle.gp_meshlets.specs.Places.{has, Finds}
use Rattle.gp_meshlets.specs.Meshlets.{vertices_of, fits, runs_from, runs}

-- these with one vertex more, where it isn't there
abbrev pub with_vertex : List ℕ → ℕ → List ℕ
with_vertex vertices vertex = if has vertices vertex then vertices else vertices ++ vertex ∷ []

-- one vertex more, where it isn't there
abbrev pub one_if_new : Bool → ℕ
one_if_new there = if there then 0 else 1

-- how many vertices a triangle adds to these
abbrev pub count_new : List ℕ → ℕ → ℕ → ℕ → ℕ
count_new vertices a b c =
    one_if_new (has vertices a)
    + one_if_new (has vertices b || b == a)
    + one_if_new (has vertices c || c == a || c == b)

-- the open meshlet is that of the run
pub record HasRun (run : List ℕ) (growing : Growing) : Type 0 where
  pub vertices : growing.vertices.items ≡ vertices_of run
  pub finds : Finds growing.places growing.vertices.items
  pub corners : growing.corners.items ≡ map (λ v. position_or_len (nat_eq v) (vertices_of run)) run

-- a run with a triangle more
abbrev pub with_triangle : List ℕ → Triangle → List ℕ
with_triangle run t = run ++ t.a ∷ t.b ∷ t.c ∷ []

-- the run with the triangle is open where it fits, else the run alone
abbrev pub IsTaken : List ℕ → Triangle → Growing → Bool → Type 0
IsTaken run t now true = (fits (with_triangle run t) ≡ true) × HasRun (with_triangle run t) now
IsTaken run t now false = (fits (with_triangle run t) ≡ false) × HasRun run now

-- the open meshlet as it stands
abbrev pub shown : Growing → Meshlet
shown growing = record { vertices = growing.vertices.items; corners = growing.corners.items }

-- the triangles from one on and before another are one run, which is growing: whatever follows is cut as if all began with them
pub record IsTaking (list : List ℕ) (from at : ℕ) (now : Growing) : Type 0 where
  pub run : List ℕ
  pub fitting : fits run ≡ true
  pub has_run : HasRun run now
  pub long : length run + 3 * from ≡ 3 * at
  pub cut : runs (drop (3 * from) list) ≡ runs_from run (drop (3 * at) list)
