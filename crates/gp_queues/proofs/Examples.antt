-- Small queues, by computing.
use Rattle.std.specs.Prelude.{◌≡◌, ℕ, [], ◌∷◌, length, replicate, Some, None}
use Rattle.std.proofs.Common.{refl}
use Rattle.gp_queues.specs.Queue.{pushed, from_newest, leading_corner}

-- the newest item stands in front
newest_first : pushed {X = ℕ} 7 (pushed 5 (3 ∷ [])) ≡ 7 ∷ 5 ∷ 3 ∷ []
newest_first = refl

-- a seventeenth item pushes the oldest one out
sixteen_at_most : length {A = ℕ} (pushed 1 (replicate 16 0)) ≡ 16
sixteen_at_most = refl

oldest_leaves : pushed {X = ℕ} 9 (1 ∷ 2 ∷ 3 ∷ 4 ∷ 5 ∷ 6 ∷ 7 ∷ 8 ∷ 9 ∷ 10 ∷ 11 ∷ 12 ∷ 13 ∷ 14 ∷ 15 ∷ 16 ∷ []) ≡ 9 ∷ 1 ∷ 2 ∷ 3 ∷ 4 ∷ 5 ∷ 6 ∷ 7 ∷ 8 ∷ 9 ∷ 10 ∷ 11 ∷ 12 ∷ 13 ∷ 14 ∷ 15 ∷ []
oldest_leaves = refl

-- slots 2, 3 and then 0, 1
ring : from_newest {X = ℕ} 2 (10 ∷ 11 ∷ 12 ∷ 13 ∷ []) ≡ 12 ∷ 13 ∷ 10 ∷ 11 ∷ []
ring = refl

-- the triangle 4 5 6 is led by the edges 4 5, 5 6 and 6 4, from its first, second and third corner, and by no other
led_from_first : leading_corner (4, 5) (4, 5, 6) ≡ Some 0
led_from_first = refl

led_from_third : leading_corner (6, 4) (4, 5, 6) ≡ Some 2
led_from_third = refl

not_led_backwards : leading_corner (5, 4) (4, 5, 6) ≡ None
not_led_backwards = refl
