-- Tables of what was found out before.
use Rattle.std.proofs.Common.{◌≡◌, ℕ, zero, suc, ◌+◌, ◌-◌, ◌*◌, ◌/◌, ◌%◌, ◌⊎◌, inl, inr, List, [], ◌∷◌, replicate, Option, Some, None, refl, sym, ap, ◌∙◌, subst, arith}
use Rattle.std.specs.Prelude.{slice_set}
use Rattle.std.proofs.lemmas.Bool.{cases_eq}
use Rattle.gp_asset.specs.Asset.{AssetParts}
use Rattle.gp_analyse.specs.Costs.{entry_at, Remembers, lines_at, lines_for, drawn_at, IsKnown, nothing_known, IsStride}

module _ {A : Type 0} (value : ℕ → A) where
  none_there : (n at : ℕ) → entry_at {A = A} (replicate n None) at ≡ None
  none_there zero at = refl
  none_there (suc n) zero = refl
  none_there (suc n) (suc at) = none_there n at

  -- an empty table has nothing wrong
  remembers_none : (n : ℕ) → Remembers value (replicate n None)
  remembers_none n at known is =
      let none = none_there n at in cc

  entry_same : (entries : List (Option A)) (at : ℕ) (v known : A) → entry_at (slice_set entries at (Some v)) at ≡ Some known → known ≡ v
  entry_same [] at v known is = cc
  entry_same (e ∷ entries) zero v known is = cc
  entry_same (e ∷ entries) (suc at) v known is = entry_same entries at v known is

  entry_other : (entries : List (Option A)) (at other : ℕ) (v : A) → (other ≡ at → ⊥) → entry_at (slice_set entries at (Some v)) other ≡ entry_at entries other
  entry_other [] at other v differs = refl
  entry_other (e ∷ entries) zero zero v differs = absurd (differs refl)
  entry_other (e ∷ entries) zero (suc other) v differs = refl
  entry_other (e ∷ entries) (suc at) zero v differs = refl
  entry_other (e ∷ entries) (suc at) (suc other) v differs = entry_other entries at other v (λ e. differs (ap (λ n. suc n) e))

  -- one more value
  pub remembers_more : (entries now : List (Option A)) (at : ℕ) (v : A) → Remembers value entries → v ≡ value at → now ≡ slice_set entries at (Some v) → Remembers value now
  remembers_more entries now at v remembered is put = subst (Remembers value) (sym put) told
    where
      told_by : (other : ℕ) (known : A) → (other ≡ at) ⊎ (other ≡ at → ⊥) → entry_at (slice_set entries at (Some v)) other ≡ Some known → known ≡ value other
      told_by other known (inl same) there = entry_same entries at v known (subst (λ o. entry_at (slice_set entries at (Some v)) o ≡ Some known) same there) ∙ is ∙ ap value (sym same)
      told_by other known (inr differs) there = remembered other known (sym (entry_other entries at other v differs) ∙ there)

      told : Remembers value (slice_set entries at (Some v))
      told other known there = told_by other known (cases_eq other at) there

-- ---- what is known of an asset's accessors

pub nothing_is_known : (a : AssetParts) (contents : List (List ℕ)) (accessors : ℕ) → IsKnown a contents (nothing_known accessors)
nothing_is_known a contents accessors = record { lists = remembers_none (drawn_at a contents) accessors; lines = remembers_none (lines_for a contents) (accessors * 16) }

-- the place of an accessor's lines at a stride
pub place_of_lines : (a : AssetParts) (contents : List (List ℕ)) (at stride place : ℕ) → IsStride stride → place ≡ at * 16 + (stride / 4 - 1) → lines_for a contents place ≡ lines_at a contents at stride
place_of_lines a contents at stride place has is =
    let accessor : place / 16 ≡ at = omega (arith, is, has.least, has.most) in
    let size : (place % 16 + 1) * 4 ≡ stride = omega (arith, is, has.least, has.most, has.whole) in
    rw (accessor, size) refl
