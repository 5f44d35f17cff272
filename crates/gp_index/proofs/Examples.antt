-- Small lists of triangles that a stream may stand for, and one that it may not.
use Rattle.std.proofs.Common.{◌≡◌, ℕ, zero, suc, ◌*◌, ◌<◌, [], ◌∷◌, refl, ap, arith}
use Rattle.gp_groups.specs.WrittenTriangles.{rotated}
use Rattle.gp_index.specs.SameTriangles.{triangle_at, SameTriangles}

second_triangle : triangle_at (0 ∷ 1 ∷ 2 ∷ 2 ∷ 1 ∷ 3 ∷ []) 1 ≡ (2, 1, 3)
second_triangle = refl

-- the first from its second corner on, the second from its third
turned : (k : ℕ) → 3 * k < 6 → (corner : ℕ) × (corner < 3) × (triangle_at (1 ∷ 2 ∷ 0 ∷ 3 ∷ 2 ∷ 1 ∷ []) k ≡ rotated (triangle_at (0 ∷ 1 ∷ 2 ∷ 2 ∷ 1 ∷ 3 ∷ []) k) corner)
turned zero h = (1, omega arith, refl)
turned (suc zero) h = (2, omega arith, refl)
turned (suc (suc k)) h = absurd (omega (arith, h))

turned_pair : SameTriangles (0 ∷ 1 ∷ 2 ∷ 2 ∷ 1 ∷ 3 ∷ []) (1 ∷ 2 ∷ 0 ∷ 3 ∷ 2 ∷ 1 ∷ [])
turned_pair = record { long = refl; turned = turned }

-- no corner of 0 1 2 gives 0 2 1
mirrored : (corner : ℕ) × (corner < 3) × ((0, 2, 1) ≡ rotated (0, 1, 2) corner) → ⊥
mirrored (zero, h, e) = (let x : ◌≡◌ {A = ℕ} 2 1 = ap (λ (t : ℕ × ℕ × ℕ). t.1) e in omega (arith, x))
mirrored (suc zero, h, e) = (let x : ◌≡◌ {A = ℕ} 0 1 = ap (λ (t : ℕ × ℕ × ℕ). t.0) e in omega (arith, x))
mirrored (suc (suc zero), h, e) = (let x : ◌≡◌ {A = ℕ} 0 2 = ap (λ (t : ℕ × ℕ × ℕ). t.0) e in omega (arith, x))
mirrored (suc (suc (suc k)), h, e) = absurd (omega (arith, h))

no_mirror : SameTriangles (0 ∷ 1 ∷ 2 ∷ []) (0 ∷ 2 ∷ 1 ∷ []) → ⊥
no_mirror same = mirrored (same.turned 0 (omega arith))
