-- Sums that stop at the most bytes of an asset. No public contract cites them.
use Rattle.std.specs.Prelude.{ℕ, ◌^◌, nat_le, if◌then◌else◌, Option, Some, None}

abbrev pub within : ℕ → Option ℕ
within n = if nat_le n (2 ^ 31) then Some n else None
