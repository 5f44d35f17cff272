-- Where stored views stand: none goes past the end of the first buffer, and no stream's view past that of the buffer to fall back on.
use Rattle.std.specs.Prelude.{IfSome}
use Rattle.std.proofs.Common.{◌≡◌, ℕ, suc, ◌+◌, ◌≤◌, List, [], ◌∷◌, length, map, zip, Option, Some, None, slice_get, refl, ap, arith}
use Rattle.gp_tree.specs.Lexical.{Each}
use Rattle.gp_rules.specs.Sizes.{padded}
use Rattle.gp_layout.specs.Layout.{starts_behind, end_behind, end}
use Rattle.gp_layout.proofs.Bounds.{end_least}
use Rattle.gp_storage.specs.declared.coding.Stream.{Stream}
use Rattle.gp_packed.specs.Plan.{Stored, Place, part_of, parts, place_at, places, length_unless, fallback_lengths, streamed_lengths, fallback_end}
use Rattle.gp_packed.specs.ViewEdits.{view_edits}
use Rattle.gp_unpack.proofs.EachItem.{each_found}

-- it ends before the last byte of each buffer, of the second one where it is a stream
pub record Stands (last back : ℕ) (v : Stored × Place) : Type 0 where
  pub part : v.1.start + length (part_of v.0) ≤ last
  pub stream : IfSome v.0.stream (λ _. v.1.fallback + length v.0.contents ≤ back)

-- the views and their places, behind so many bytes of either buffer
abbrev placed_behind : ℕ → ℕ → List Stored → List (Stored × Place)
placed_behind at k views = zip views (map place_at (zip (starts_behind at (map length (parts views))) (starts_behind k (fallback_lengths views))))

abbrev stored : List ℕ → Option Stream → Stored
stored contents stream = record { contents = contents; stream = stream }

-- a plain view takes no place in the second buffer, but the next one begins at a multiple of 4 whether it is there or not
first_stands : (at k b : ℕ) (contents : List ℕ) (stream : Option Stream) (views : List Stored) (last back : ℕ) → padded k ≡ padded b
    → end_behind at (map length (parts (stored contents stream ∷ views))) ≤ last
    → end_behind b (streamed_lengths (stored contents stream ∷ views)) ≤ back
    → ((at k b : ℕ) → padded k ≡ padded b → end_behind at (map length (parts views)) ≤ last → end_behind b (streamed_lengths views) ≤ back → Each (Stands last back) (placed_behind at k views))
    → Each (Stands last back) (placed_behind at k (stored contents stream ∷ views))
first_stands at k b contents None views last back same e f more =
    let next = padded at + length contents in
    let grows = end_least next (map length (parts views)) in (
      record { part = omega (arith, grows, e); stream = tt },
      more next (padded k + 0) b (omega (arith, same)) e f,
    )
first_stands at k b contents (Some stream) views last back same e f more =
    let next = padded at + length stream.bytes in
    let behind = padded b + length contents in
    let grows = end_least next (map length (parts views)) in
    let ends = end_least behind (streamed_lengths views) in (
      record { part = omega (arith, grows, e); stream = omega (arith, ends, f, same) },
      more next (padded k + length contents) behind (omega (arith, same)) e f,
    )

stand_behind : (at k b : ℕ) (views : List Stored) (last back : ℕ) → padded k ≡ padded b → end_behind at (map length (parts views)) ≤ last → end_behind b (streamed_lengths views) ≤ back
    → Each (Stands last back) (placed_behind at k views)
stand_behind at k b [] last back same e f = tt
stand_behind at k b (s ∷ views) last back same e f =
    first_stands at k b s.contents s.stream views last back same e f (λ at k b same e f. stand_behind at k b views last back same e f)

pub each_stands : (views : List Stored) → Each (Stands (end (map length (parts views))) (fallback_end views)) (view_edits views)
unfolding places
each_stands views = stand_behind 0 0 0 views (end (map length (parts views))) (fallback_end views) refl (omega arith) (omega arith)

-- the view at this place, and where it stands
pub one_stands : (views : List Stored) (i : ℕ) (v : Stored × Place) → slice_get (view_edits views) i ≡ Some v → Stands (end (map length (parts views))) (fallback_end views) v
one_stands views i v e = each_found (Stands (end (map length (parts views))) (fallback_end views)) (view_edits views) i v (each_stands views) e

-- each view has a place
count_behind : (at k : ℕ) (views : List Stored) → length (placed_behind at k views) ≡ length views
count_behind at k [] = refl
count_behind at k (s ∷ views) = ap suc (count_behind (padded at + length (part_of s)) (padded k + length_unless s.contents s.stream) views)

pub count_edits : (views : List Stored) → length (view_edits views) ≡ length views
unfolding places
count_edits views = count_behind 0 0 views
