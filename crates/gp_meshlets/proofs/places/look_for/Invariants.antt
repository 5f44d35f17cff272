use Rattle.std.proofs.Common.{◌≡◌, ℕ, ◌<◌, eqb, get_or, false}
use Rattle.gp_meshlets.proofs.places.look_for.Given as goal

-- none of the places so far is the vertex's
abbrev pub invariant-places : goal.invariant-places
invariant-places l = (k : ℕ) → k < l.at → eqb l.vertex (get_or l.vertices k 0) ≡ false
