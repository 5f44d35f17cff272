-- Where stored views stand, one view after another.
use Rattle.std.proofs.Common.{◌≡◌, ℕ, ◌≤◌, List, ◌++◌, map, length, refl, arith, length-append}
use Rattle.std.specs.Prelude.{zip}
use Rattle.gp_layout.specs.Layout.{starts_behind, end, laid}
use Rattle.gp_layout.proofs.Parts.{length_laid}
use Rattle.gp_packed.specs.Plan.{Stored, Place, parts, fallback_lengths, place_at, places}
use Rattle.gp_packed.specs.ViewEdits.{view_edits}

-- views with their places behind so many bytes in the first buffer and in the second one
abbrev pub edits_behind : ℕ → ℕ → List Stored → List (Stored × Place)
edits_behind at fallback views = zip views (map place_at (zip (starts_behind at (map length (parts views))) (starts_behind fallback (fallback_lengths views))))

pub from_the_start : (views : List Stored) → view_edits views ≡ edits_behind 0 0 views
unfolding places
from_the_start views = refl

pub room_for : (views : List Stored) (more : List ℕ) → end (map length (parts views)) ≤ length (laid (parts views) ++ more)
room_for views more = omega (arith, length_laid (parts views), length-append (laid (parts views)) more)
