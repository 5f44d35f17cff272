-- Where a call puts bytes for its caller: a room, and the number of the bytes.
use Rattle.std.specs.Prelude.{ℕ, Bool, nat_le, List, ◌++◌, drop, length, if◌then◌else◌}

pub record Place : Type 0 where
  pub room : List ℕ
  pub size : ℕ

abbrev pub place : List ℕ → ℕ → Place
place room size = record { room = room; size = size }

abbrev pub has_room : List ℕ → Place → Bool
has_room bytes before = nat_le (length bytes) (length before.room)

-- their number is told, and they stand at the front of the room where they fit; all else in it is as it was
abbrev pub with_bytes : List ℕ → Place → Place
with_bytes bytes before = place (if has_room bytes before then bytes ++ drop (length bytes) before.room else before.room) (length bytes)
