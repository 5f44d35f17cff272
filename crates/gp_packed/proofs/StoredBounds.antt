-- The numbers that are written for stored views.
use Rattle.std.specs.Prelude.{zip, IfSome}
use Rattle.std.specs.List.{All}
use Rattle.std.proofs.Common.{◌≡◌, ℕ, suc, ◌+◌, ◌<◌, ◌≤◌, ◌^◌, List, [], ◌∷◌, map, length, Option, Some, None, refl, ap, arith}
use Rattle.gp_tree.specs.Lexical.{Each}
use Rattle.gp_rules.specs.Sizes.{padded}
use Rattle.gp_layout.specs.Layout.{starts_behind, end_behind, end}
use Rattle.gp_layout.proofs.Bounds.{end_least}
use Rattle.gp_storage.specs.declared.coding.Stream.{Stream}
use Rattle.gp_packed.specs.Plan.{Stored, Place, place_at, places, stream_bytes, parts, fallback_lengths, streamed_lengths, fallback_end}
use Rattle.gp_packed.specs.ViewEdits.{view_edits}
use Rattle.gp_packed.specs.StoredLaws.{Fits}

-- a view ends at most at n in the first buffer; in the second it begins at most 3 bytes behind m
pub record IsSmall (n m : ℕ) (contents : List ℕ) (stream : Option Stream) (place : Place) : Type 0 where
  pub start : place.start ≤ n
  pub fallback : place.fallback ≤ m + 3
  pub part : length (stream_bytes contents stream) ≤ n
  pub view : length contents < 2 ^ 32
  pub stride : IfSome stream (λ (s : Stream). s.coding.stride < 2 ^ 32)

abbrev pub IsSmallEdit : ℕ → ℕ → Stored × Place → Type 0
IsSmallEdit n m v = IsSmall n m v.0.contents v.0.stream v.1

first_fits : (s : Stored) (views : List Stored) → All Fits (s ∷ views) → Fits s
first_fits s views h = h 0 s (omega arith)

rest_fit : (s : Stored) (views : List Stored) → All Fits (s ∷ views) → All Fits views
rest_fit s views h k d l = h (suc k) d (omega (arith, l))

-- the edits from a view on, where the first buffer so far ends at one place, and the second at two that are padded to the same
abbrev edits_behind : ℕ → ℕ → List Stored → List (Stored × Place)
edits_behind at to views = zip views (map place_at (zip (starts_behind at (map length (parts views))) (starts_behind to (fallback_lengths views))))

abbrev EachIsSmall : ℕ → ℕ → List Stored → Type 0
EachIsSmall n m views = (at to by : ℕ) → end_behind at (map length (parts views)) ≤ n → to ≤ by + 3 → padded to ≡ padded by → end_behind by (streamed_lengths views) ≤ m
    → All Fits views → Each (IsSmallEdit n m) (edits_behind at to views)

first_small : (n m : ℕ) (contents : List ℕ) (stream : Option Stream) (views : List Stored) → EachIsSmall n m views → EachIsSmall n m (record { contents = contents; stream = stream } ∷ views)
first_small n m contents None views more at to by within low same low_end fits =
    let s : Stored = record { contents = contents; stream = None } in
    let f = first_fits s views fits in
    let a = end_least (padded at + length contents) (map length (parts views)) in
    let b = end_least by (streamed_lengths views) in (
      record { start = omega (arith, a, within); fallback = omega (arith, b, same, low_end); part = omega (arith, a, within); view = f.view; stride = f.stride },
      more (padded at + length contents) (padded to + 0) by within (omega (arith, same)) (omega (arith, same)) low_end (rest_fit s views fits),
    )
first_small n m contents (Some stream) views more at to by within low same low_end fits =
    let s : Stored = record { contents = contents; stream = Some stream } in
    let f = first_fits s views fits in
    let a = end_least (padded at + length stream.bytes) (map length (parts views)) in
    let b = end_least (padded by + length contents) (streamed_lengths views) in (
      record { start = omega (arith, a, within); fallback = omega (arith, b, same, low_end); part = omega (arith, a, within); view = f.view; stride = f.stride },
      more (padded at + length stream.bytes) (padded to + length contents) (padded by + length contents) within (omega (arith, same)) (ap (λ k. padded (k + length contents)) same) low_end (rest_fit s views fits),
    )

each_small : (n m : ℕ) (views : List Stored) → EachIsSmall n m views
each_small n m [] at to by within low same low_end fits = tt
each_small n m (s ∷ views) at to by within low same low_end fits = first_small n m s.contents s.stream views (each_small n m views) at to by within low same low_end fits

pub edits_small : (views : List Stored) → All Fits views → Each (IsSmallEdit (end (map length (parts views))) (fallback_end views)) (view_edits views)
unfolding places
edits_small views fits = each_small (end (map length (parts views))) (fallback_end views) views 0 0 0 (omega arith) (omega arith) refl (omega arith) fits
