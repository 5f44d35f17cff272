-- Lists cut into meshlets, by computing.
use Rattle.std.proofs.Common.{◌≡◌, ℕ, ◌+◌, true, false, List, [], ◌∷◌, ◌++◌, length, map, flat_map, replicate, refl}
use Rattle.std.specs.List.{concat, range_with_len}
use Rattle.gp_meshlets.specs.declared.meshlet.Meshlet.{Meshlet}
use Rattle.gp_meshlets.specs.Meshlets.{fits, runs, meshlets}

abbrev of : List ℕ → List ℕ → Meshlet
of vertices corners = record { vertices = vertices; corners = corners }

one_square : meshlets (0 ∷ 1 ∷ 2 ∷ 0 ∷ 2 ∷ 3 ∷ []) ≡ of (0 ∷ 1 ∷ 2 ∷ 3 ∷ []) (0 ∷ 1 ∷ 2 ∷ 0 ∷ 2 ∷ 3 ∷ []) ∷ []
unfolding runs meshlets
one_square = refl

nothing : meshlets [] ≡ []
unfolding runs meshlets
nothing = refl

-- corners that are the same vertex have the same place, and the greatest number is a vertex like others
equal_corners : meshlets (7 ∷ 7 ∷ 7 ∷ 4294967295 ∷ 7 ∷ 4294967295 ∷ []) ≡ of (7 ∷ 4294967295 ∷ []) (0 ∷ 0 ∷ 0 ∷ 1 ∷ 0 ∷ 1 ∷ []) ∷ []
unfolding runs meshlets
equal_corners = refl

-- how many vertices and corners each meshlet has
abbrev sizes : List Meshlet → List (List ℕ)
sizes all = map (λ (m : Meshlet). length m.vertices ∷ length m.corners ∷ []) all

abbrev times : ℕ → List ℕ → List ℕ
times count list = concat (replicate count list)

-- 127 times the same triangle: 126 of them, and one
one_more_triangle : sizes (meshlets (times 127 (0 ∷ 1 ∷ 2 ∷ []))) ≡ (3 ∷ 378 ∷ []) ∷ (3 ∷ 3 ∷ []) ∷ []
unfolding runs meshlets
one_more_triangle = refl

-- 22 triangles over 66 vertices: 63 of them are 21 triangles
apart : sizes (meshlets (range_with_len 0 66)) ≡ (63 ∷ 63 ∷ []) ∷ (3 ∷ 3 ∷ []) ∷ []
unfolding runs meshlets
apart = refl

-- a fan round one vertex: 62 triangles have 64 vertices, one more has 65
abbrev fan : ℕ → List ℕ
fan triangles = flat_map (λ at. 0 ∷ (at + 1) ∷ (at + 2) ∷ []) (range_with_len 0 triangles)

fan_of_64 : sizes (meshlets (fan 62)) ≡ (64 ∷ 186 ∷ []) ∷ []
unfolding runs meshlets
fan_of_64 = refl

fan_of_65 : sizes (meshlets (fan 63)) ≡ (64 ∷ 186 ∷ []) ∷ (3 ∷ 3 ∷ []) ∷ []
unfolding runs meshlets
fan_of_65 = refl

-- the triangle behind 126 of them begins the next run, whether it has a new vertex or not
full_of_triangles : sizes (meshlets (fan 62 ++ times 64 (0 ∷ 1 ∷ 2 ∷ []) ++ 0 ∷ 1 ∷ 2 ∷ [])) ≡ (64 ∷ 378 ∷ []) ∷ (3 ∷ 3 ∷ []) ∷ []
unfolding runs meshlets
full_of_triangles = refl

full_of_both : sizes (meshlets (fan 62 ++ times 64 (0 ∷ 1 ∷ 2 ∷ []) ++ 0 ∷ 1 ∷ 99 ∷ [])) ≡ (64 ∷ 378 ∷ []) ∷ (3 ∷ 3 ∷ []) ∷ []
unfolding runs meshlets
full_of_both = refl

-- with 64 vertices a triangle over them still fits, and one with a new vertex doesn't
full_of_vertices : (fits (fan 62 ++ 0 ∷ 5 ∷ 9 ∷ []) ≡ true) × (fits (fan 62 ++ 0 ∷ 5 ∷ 99 ∷ []) ≡ false)
full_of_vertices = (refl, refl)
