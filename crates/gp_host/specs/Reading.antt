-- What reading to the end does to a source.
use Rattle.std.specs.Prelude.{◌≡◌, ◌↔◌, ℕ, ◌+◌, ◌<◌, ◌≤◌, List, length}
use Rattle.std.specs.Io.KnownBytes.{Consumes}
use Rattle.gp_host.specs.Source.{SourceAt}
use Rattle.gp_host.specs.declared.reading.ReadRefusal.{ReadRefusal}
use Rattle.gp_host.specs.declared.reading.ReadRefusal.TheVariants.{TooLarge}

-- a refusal: the bytes that were taken are gone from the front of what was left, and they are too many exactly at `TooLarge`;
-- then each read took a byte, so that none came after the one that made them too many
pub record Refuses (limit : ℕ) (before now : SourceAt) (refusal : ReadRefusal) : Type 0 where
  pub taken : List ℕ
  pub lost : Consumes before.left now.left taken
  pub too_large : (refusal ≡ TooLarge) ↔ (limit < length taken)
  pub no_more : length taken ≤ limit + 1
  pub no_turn : refusal ≡ TooLarge → now.calls ≤ before.calls + length taken
