-- The first entry with a number names the first group that has it.
use Rattle.std.specs.Prelude.{cond, ◌==◌, find, flat_map, option_map, option_and_then}
use Rattle.std.specs.List.{enumerate_from}
use Rattle.std.proofs.Common.{◌≡◌, ℕ, suc, ◌+◌, Bool, true, false, ◌||◌, List, [], ◌∷◌, ◌++◌, map, slice_get, Option, Some, None, refl, ap, ◌∙◌, arith}
use Rattle.gp_moves.specs.declared.firsts.Entry.{Entry}
use Rattle.gp_moves.specs.declared.group_edit.GroupEdit.{GroupEdit}
use Rattle.gp_moves.specs.declared.group_edit.Part.{Part}
use Rattle.gp_moves.specs.declared.group_edit.Part.TheVariants.{Primitives, Columns, Lists}
use Rattle.gp_moves.specs.Firsts.{first_value, part_of, entry_of, entries_of}
use Rattle.gp_sameness.specs.Moved.{Moved, is_number_in}
use Rattle.gp_pack.specs.MoveTables.{group_edit_of, part_in, FirstGroupsAreFound}

-- ---- entries of one group, before others

before_step : (b rest : Bool) (value k at : ℕ) (es : List Entry) (o : Option ℕ) → (k == at) ≡ b → first_value es at ≡ cond rest (Some value) o
    → first_value (entry_of value k ∷ es) at ≡ cond (b || rest) (Some value) o
before_step true rest value k at es o n h = ap (λ c. option_map (λ (e : Entry). e.value) (cond c (Some (entry_of value k)) (find (λ (e : Entry). e.number == at) es))) n
before_step false rest value k at es o n h = ap (λ c. option_map (λ (e : Entry). e.value) (cond c (Some (entry_of value k)) (find (λ (e : Entry). e.number == at) es))) n ∙ h

before : (numbers : List ℕ) (value at : ℕ) (es : List Entry) → first_value (map (entry_of value) numbers ++ es) at ≡ cond (is_number_in numbers at) (Some value) (first_value es at)
before [] value at es = refl
before (k ∷ numbers) value at es =
    before_step (k == at) (is_number_in numbers at) value k at (map (entry_of value) numbers ++ es) (first_value es at) refl (before numbers value at es)

-- ---- the place of the first group

abbrev place_in : (Moved → Bool) → List Moved → Option ℕ
place_in has [] = None
place_in has (m ∷ ms) = cond (has m) (Some 0) (option_map suc (place_in has ms))

abbrev entries_from : Part → ℕ → List Moved → List Entry
entries_from part n ms = flat_map (λ (p : ℕ × GroupEdit). map (entry_of p.0) (part_of part p.1)) (enumerate_from n (map group_edit_of ms))

same_part : (part : Part) (m : Moved) → part_of part (group_edit_of m) ≡ part_in part m
same_part Primitives m = refl
same_part Columns m = refl
same_part Lists m = refl

later : (n : ℕ) (o : Option ℕ) → option_map (λ k. n + 1 + k) o ≡ option_map (λ k. n + k) (option_map suc o)
later n None = refl
later n (Some k) = let e : n + 1 + k ≡ n + suc k = omega arith in ap Some e

place_step : (b : Bool) (n : ℕ) (o rest : Option ℕ) → rest ≡ option_map (λ k. n + 1 + k) o → cond b (Some n) rest ≡ option_map (λ k. n + k) (cond b (Some 0) (option_map suc o))
place_step true n o rest h = let e : n ≡ n + 0 = omega arith in ap Some e
place_step false n o rest h = h ∙ later n o

place_found : (part : Part) (n : ℕ) (ms : List Moved) (at : ℕ) → first_value (entries_from part n ms) at ≡ option_map (λ k. n + k) (place_in (λ m. is_number_in (part_in part m) at) ms)
place_found part n [] at = refl
place_found part n (m ∷ ms) at =
    ap (λ numbers. first_value (map (entry_of n) numbers ++ entries_from part (n + 1) ms) at) (same_part part m)
    ∙ before (part_in part m) n at (entries_from part (n + 1) ms)
    ∙ place_step (is_number_in (part_in part m) at) n (place_in (λ x. is_number_in (part_in part x) at) ms) (first_value (entries_from part (n + 1) ms) at) (place_found part (n + 1) ms at)

-- ---- the group there

from_0 : (o : Option ℕ) → option_map (λ k. 0 + k) o ≡ o
from_0 None = refl
from_0 (Some k) = let e : 0 + k ≡ k = omega arith in ap Some e

one_later : (m : Moved) (ms : List Moved) (o : Option ℕ) → option_and_then (slice_get (m ∷ ms)) (option_map suc o) ≡ option_and_then (slice_get ms) o
one_later m ms None = refl
one_later m ms (Some k) = refl

there_step : (b : Bool) (m : Moved) (ms : List Moved) (o : Option ℕ) (found : Option Moved) → option_and_then (slice_get ms) o ≡ found
    → option_and_then (slice_get (m ∷ ms)) (cond b (Some 0) (option_map suc o)) ≡ cond b (Some m) found
there_step true m ms o found h = refl
there_step false m ms o found h = one_later m ms o ∙ h

there : (has : Moved → Bool) (ms : List Moved) → option_and_then (slice_get ms) (place_in has ms) ≡ find has ms
there has [] = refl
there has (m ∷ ms) = there_step (has m) m ms (place_in has ms) (find has ms) (there has ms)

pub first_found : FirstGroupsAreFound
first_found moved groups part at are =
    ap (λ gs. option_and_then (slice_get moved) (first_value (entries_of part gs) at)) are
    ∙ ap (option_and_then (slice_get moved)) (place_found part 0 moved at ∙ from_0 (place_in (λ m. is_number_in (part_in part m) at) moved))
    ∙ there (λ m. is_number_in (part_in part m) at) moved
