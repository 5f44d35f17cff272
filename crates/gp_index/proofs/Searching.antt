-- Searches of edges and vertices: where they find, and that nothing past place 14 tells.
use Rattle.std.proofs.Common.{◌≡◌, ℕ, ◌-◌, ◌^◌, ◌<◌, Bool, true, false, cond, ◌&&◌, ◌==◌, nat_lt, List, [], ◌∷◌, map, refl, sym, ◌∙◌, ap, arith, Option, Some}
use Rattle.std.specs.List.{range_with_len, flat_map, find, list_all}
use Rattle.std.proofs.lemmas.Bool.{ltb-true}
use Rattle.gp_groups.specs.Triangles.{edge_at, vertex_at}
use Rattle.gp_groups.specs.WrittenTriangles.{leading_edge, rotated, vertex_place}
use Rattle.gp_groups.specs.WrittenTriangles.{leading_edge}
use Rattle.gp_index.proofs.Alike.{SameFront}

-- what is found passes the test, and each other test that all pass
found_by : {X : Type 0} → (p w : X → Bool) (x y : X) (rest : Option X) (others b v : Bool) → p x ≡ b → w x ≡ v → (v && others) ≡ true → cond b (Some x) rest ≡ Some y → (others ≡ true → rest ≡ Some y → (p y ≡ true) × (w y ≡ true)) → (p y ≡ true) × (w y ≡ true)
found_by p w x y rest others b false is wx all e later = absurd (cc)
found_by p w x y rest others true true is wx all e later = let same : x ≡ y = cc in (ap p (sym same) ∙ is, ap w (sym same) ∙ wx)
found_by p w x y rest others false true is wx all e later = later all e

pub found : {X : Type 0} → (p w : X → Bool) (xs : List X) (y : X) → list_all w xs ≡ true → find p xs ≡ Some y → (p y ≡ true) × (w y ≡ true)
found p w [] y all e = absurd (cc)
found p w (x ∷ xs) y all e = found_by p w x y (find p xs) (list_all w xs) (p x) (w x) refl refl all e (found p w xs y)

pub all_true : {X : Type 0} → (xs : List X) → list_all (λ _. true) xs ≡ true
all_true [] = refl
all_true (x ∷ xs) = all_true xs

-- tests that agree wherever a third one passes find the same
same_by : {X : Type 0} → (p q w : X → Bool) (x : X) (rest other : Option X) (others v : Bool) → w x ≡ v → (v && others) ≡ true → (w x ≡ true → p x ≡ q x) → (others ≡ true → rest ≡ other) → cond (p x) (Some x) rest ≡ cond (q x) (Some x) other
same_by p q w x rest other others false wx all same later = absurd (cc)
same_by p q w x rest other others true wx all same later = rw (same wx, later all) refl

pub find_same : {X : Type 0} → (p q w : X → Bool) (xs : List X) → list_all w xs ≡ true → ((x : X) → w x ≡ true → p x ≡ q x) → find p xs ≡ find q xs
find_same p q w [] all same = refl
find_same p q w (x ∷ xs) all same = same_by p q w x (find p xs) (find q xs) (list_all w xs) (w x) refl all (same x) (λ rest. find_same p q w xs rest same)

-- the places of an edge and of a vertex
abbrev pub early : ℕ × ℕ → Bool
early x = nat_lt x.0 15 && nat_lt x.1 3

early_place : (x : ℕ × ℕ) (b : Bool) → nat_lt x.0 15 ≡ b → (b && nat_lt x.1 3) ≡ true → (x.0 < 15) × (x.1 < 3)
early_place x true e h = (ltb-true x.0 15 e, ltb-true x.1 3 h)
early_place x false e h = absurd (cc)

pub early_parts : (x : ℕ × ℕ) → early x ≡ true → (x.0 < 15) × (x.1 < 3)
early_parts x h = early_place x (nat_lt x.0 15) refl h

-- the places with the sides, in the order of the search
abbrev pub sides : List (ℕ × ℕ)
sides = flat_map (λ place. map (λ k. (place, k)) (range_with_len 0 3)) (range_with_len 0 15)

abbrev pub is_side : List (ℕ × ℕ) → ℕ × ℕ × ℕ → ℕ × ℕ → Bool
is_side edges t x = (edge_at edges x.0).0 == (rotated t x.1).0 && (edge_at edges x.0).1 == (rotated t x.1).1

abbrev pub holds : List ℕ → ℕ → ℕ → Bool
holds vertices vertex place = vertex_at vertices place == vertex

pub leading_alike : (e f : List (ℕ × ℕ)) (t : ℕ × ℕ × ℕ) → SameFront (2 ^ 32 - 1, 2 ^ 32 - 1) e f → leading_edge e t ≡ leading_edge f t
leading_alike e f t same =
    find_same (is_side e t) (is_side f t) early sides refl
    (λ x wx. ap (λ (edge : ℕ × ℕ). edge.0 == (rotated t x.1).0 && edge.1 == (rotated t x.1).1) (same x.0 (omega (arith, (early_parts x wx).0))))

pub half_place_alike : (v w : List ℕ) (vertex : ℕ) → SameFront (2 ^ 32 - 1) v w → vertex_place v 0 14 vertex ≡ vertex_place w 0 14 vertex
half_place_alike v w vertex same =
    find_same (holds v vertex) (holds w vertex) (λ place. nat_lt place 14) (range_with_len 0 14) refl
    (λ place within. ap (λ (x : ℕ). x == vertex) (same place (omega (arith, ltb-true place 14 within))))

pub third_place_alike : (v w : List ℕ) (vertex : ℕ) → SameFront (2 ^ 32 - 1) v w → vertex_place v 1 12 vertex ≡ vertex_place w 1 12 vertex
third_place_alike v w vertex same =
    find_same (holds v vertex) (holds w vertex) (λ place. nat_lt place 13) (range_with_len 1 12) refl
    (λ place within. ap (λ (x : ℕ). x == vertex) (same place (omega (arith, ltb-true place 13 within))))
