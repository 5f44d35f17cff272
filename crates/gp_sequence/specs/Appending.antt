-- What stands where there was no memory for all that was to be appended.
use Rattle.std.specs.Prelude.{◌≡◌, ◌≤◌, ℕ, List, ◌++◌, length}

-- the list grew by a front of these bytes: with what is missing of them it would be all, and nothing of it went
pub record GrewByFront (before after bytes : List ℕ) : Type 0 where
  pub missing : List ℕ
  pub whole : after ++ missing ≡ before ++ bytes
  pub kept : length before ≤ length after
