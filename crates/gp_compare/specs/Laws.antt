-- What comparing numbers says of the things that they stand for, over the definitions alone.
use Rattle.std.specs.Prelude.{◌≡◌, ◌↔◌, ℕ, Bool, true, List, ◌++◌, map, length, nat_eq}
use Rattle.gp_moving.specs.Triangles.{Vertex, Agree, triples}
use Rattle.gp_compare.specs.Numbered.{StandFor}
use Rattle.gp_compare.specs.Held.{HoldsEachOnce, TellsApart}

-- where numbers stand for records, the second numbers are the first, each once, exactly where the second records are so
abbrev pub VerticesByNumbers : Type 0
VerticesByNumbers =
    (first second : List ℕ) (records others : List (List ℕ)) → length first ≡ length records → StandFor (first ++ second) (records ++ others)
    → HoldsEachOnce first second ↔ HoldsEachOnce records others

-- a test of what is equal
abbrev pub IsEquality : (Vertex → Vertex → Bool) → Type 0
IsEquality same = (x y : Vertex) → (same x y ≡ true) ↔ (x ≡ y)

-- where numbers stand for vertices, triangles of numbers agree exactly where those of vertices do
abbrev pub TrianglesByNumbers : Type 0
TrianglesByNumbers =
    (same : Vertex → Vertex → Bool) → IsEquality same → (first second : List ℕ) (vertices others : List Vertex)
    → length first ≡ length vertices → StandFor (first ++ second) (vertices ++ others)
    → Agree same (triples vertices) (triples others) ↔ Agree nat_eq (triples first) (triples second)

-- and so where vertices are read by number, and different numbers give different vertices
abbrev pub TrianglesByReading : Type 0
TrianglesByReading =
    (same : Vertex → Vertex → Bool) → IsEquality same → (first second : List ℕ) (reads : ℕ → Vertex) → TellsApart reads (first ++ second)
    → Agree same (triples (map reads first)) (triples (map reads second)) ↔ Agree nat_eq (triples first) (triples second)
