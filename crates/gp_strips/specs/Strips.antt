-- The triangles of strips and fans (glTF 2.0, section 3.7.2.1), each by its number, and the lists of triangles that stand for them.
use Rattle.std.specs.Prelude.{ℕ, ◌+◌, ◌-◌, ◌%◌, ◌==◌, if◌then◌else◌, List, map, flat_map, length, get_or}
use Rattle.std.specs.List.{range_with_len}
use Rattle.gp_cache.specs.Triangles.{Corners, corner_list}

-- ---- where the corners of a triangle stand in the list of vertices

-- the last two corners change places in each second triangle, so that all face the same way
abbrev pub strip_places : ℕ → Corners
strip_places i = (i, i + 1 + i % 2, i + 2 - i % 2)

-- the first vertex is the centre; it comes last
abbrev pub fan_places : ℕ → Corners
fan_places i = (i + 1, i + 2, 0)

-- 5 is a strip, and 6 a fan
abbrev pub places_by : ℕ → ℕ → Corners
places_by mode = if mode == 5 then strip_places else fan_places

-- ---- triangles

-- each vertex after the second makes one
abbrev pub triangle_count : {V : Type 0} → List V → ℕ
triangle_count list = length list - 2

-- what stands at these places of a list of vertices, each given by its number or as its values
abbrev pub corners_at : {V : Type 0} → V → List V → Corners → V × V × V
corners_at past list places = (get_or list places.0 past, get_or list places.1 past, get_or list places.2 past)

-- the triangles whose corners stand at such places
abbrev pub triangles_at : {V : Type 0} → V → (ℕ → Corners) → List V → List (V × V × V)
triangles_at past places list = map (λ i. corners_at past list (places i)) (range_with_len 0 (triangle_count list))

-- their corners in a row
unfoldable pub corners_in_row : (ℕ → Corners) → List ℕ → List ℕ
corners_in_row places list = flat_map corner_list (triangles_at 0 places list)

abbrev pub strip_list : List ℕ → List ℕ
strip_list list = corners_in_row strip_places list

abbrev pub fan_list : List ℕ → List ℕ
fan_list list = corners_in_row fan_places list

-- the list of triangles that stands for a strip or a fan of these vertices
abbrev pub listed_corners : ℕ → List ℕ → List ℕ
listed_corners mode list = corners_in_row (places_by mode) list
