-- How long the views of an asset are together.
use Rattle.std.proofs.Common.{◌≡◌, ℕ, ◌+◌, ◌^◌, ◌≤◌, false, List, ◌∷◌, length, Option, Some, None, refl, arith}
use Rattle.std.specs.List.{sum_by}
use Rattle.std.proofs.lemmas.Bool.{ltb-false}
use Rattle.gp_rules.specs.declared.storage.View.{View}
use Rattle.gp_rules.specs.declared.accessing.Accessor.{Accessor}
use Rattle.gp_rules.specs.Accessors.{load, padded_load, is_too_much}
use Rattle.gp_storage.specs.declared.coding.Stream.{Stream}
use Rattle.gp_packed.specs.Plan.{Stored, streamed_lengths}

abbrev pub sizes : List View → ℕ
sizes vs = sum_by (λ (v : View). v.length) vs

-- the lengths of the views that are streams, one view more
abbrev pub and_streamed : Option Stream → ℕ → List ℕ → List ℕ
and_streamed None length lengths = lengths
and_streamed (Some stream) length lengths = length ∷ lengths

pub first_streamed : (s : Stored) (ss : List Stored) (stream : Option Stream) → s.stream ≡ stream
    → streamed_lengths (s ∷ ss) ≡ and_streamed stream (length s.contents) (streamed_lengths ss)
first_streamed s ss None e = rw e refl
first_streamed s ss (Some stream) e = rw e refl

pub loaded : (vs : List View) (accessors : List Accessor) → is_too_much vs accessors ≡ false → sizes vs ≤ 2 ^ 31
unfolding load
loaded vs accessors little = omega (arith, ltb-false (2 ^ 31) (sizes vs + sum_by padded_load accessors) little)
