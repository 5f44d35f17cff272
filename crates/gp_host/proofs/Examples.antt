-- Worked values: counts of faults, and sources and sinks of a few bytes.
use Rattle.std.proofs.Common.{◌≡◌, ℕ, ◌-◌, ◌^◌, List, [], ◌∷◌, length, true, false, None, Some, Ok, Err, refl, ap, ◌∙◌, arith, length-append, rules}
use Rattle.std.specs.declared.result.Result.{Result}
use Rattle.std.specs.Io.KnownBytes.{IsAtEnd, ReadConsumes, WriteAppends}
use Rattle.gp_host.specs.Causes.{Rose, HasCause}
use Rattle.gp_host.specs.Sink.{Stays, Becomes, StillTells, WriteUnsettles, FlushSettles, AppendsPrefix}
use Rattle.gp_host.specs.Memory.{next_number, next_fault, MemorySourceAt, source_at, given_count, after_read, after_failed_read, MemorySinkAt, sink_at, taken_count, after_write, after_flush, after_failed_call}
use Rattle.gp_host.specs.Std.{std_source_at, std_sink_at}
use Rattle.gp_host.specs.Reading.{Refuses}
use Rattle.gp_host.specs.declared.reading.ReadRefusal.TheVariants.{TooLarge, Memory}

-- counts of faults
one_more : Rose 0 1
one_more = omega arith

two_more : Rose 3 5
two_more = omega arith

none_more : Rose 1 1 → ⊥
none_more rose = omega (arith, rose)

one_less : Rose 3 2 → ⊥
one_less rose = omega (arith, rose)

-- the last value of the count serves for every later fault
last_value : Rose (2 ^ 64 - 1) (2 ^ 64 - 1)
last_value = omega arith

-- the answer of a call
abbrev ok_two : Result ℕ ℕ
ok_two = Ok 2

abbrev ok_none : Result ℕ ℕ
ok_none = Ok 0

abbrev bad : Result ℕ ℕ
bad = Err 7

counted_failure : HasCause 4 5 bad
counted_failure = record { later = omega arith; failed = omega arith; kept = tt }

uncounted_success : HasCause 4 4 ok_two
uncounted_success = record { later = omega arith; failed = tt; kept = refl }

uncounted_failure : HasCause 4 4 bad → ⊥
uncounted_failure cause = let rose = cause.failed in omega (arith, rose)

counted_success : HasCause 4 5 ok_two → ⊥
counted_success cause = let same = cause.kept in omega (arith, same)

-- numbers of calls and of faults
first_number : next_number 0 ≡ 1
first_number = refl

last_number : next_number (2 ^ 32) ≡ 2 ^ 32
last_number = refl

first_fault : next_fault 0 ≡ 1
first_fault = refl

last_fault : next_fault (2 ^ 64 - 1) ≡ 2 ^ 64 - 1
last_fault = refl

-- a source of two bytes
abbrev two_bytes : MemorySourceAt
two_bytes = record { left = 7 ∷ 8 ∷ []; most = 3; failing = 1 ∷ []; number = 0; faults = 0 }

two_told : source_at two_bytes ≡ record { left = Some (7 ∷ 8 ∷ []); faults = 0; calls = 0 }
two_told = refl

given_all : given_count two_bytes 9 ≡ 2
given_all = refl

given_for_room : given_count two_bytes 1 ≡ 1
given_for_room = refl

given_at_most : given_count (record two_bytes { left = 7 ∷ 8 ∷ 9 ∷ 10 ∷ [] }) 9 ≡ 3
given_at_most = refl

-- one that is read to its end
abbrev no_bytes : MemorySourceAt
no_bytes = record { left = []; most = 3; failing = 1 ∷ []; number = 1; faults = 0 }

read_to_end : after_read two_bytes 2 ≡ no_bytes
read_to_end = refl

read_half : after_read two_bytes 1 ≡ record { left = 8 ∷ []; most = 3; failing = 1 ∷ []; number = 1; faults = 0 }
read_half = refl

bytes_at_end : ReadConsumes (source_at two_bytes).left (source_at no_bytes).left ok_two (7 ∷ 8 ∷ 0 ∷ [])
bytes_at_end = (refl, λ none some. refl)

end_told : IsAtEnd (source_at no_bytes).left
end_told = refl

failed_at_one : after_failed_read no_bytes ≡ record { left = []; most = 3; failing = 1 ∷ []; number = 2; faults = 1 }
failed_at_one = refl

failed_at_last : after_failed_read (record two_bytes { number = 2 ^ 32; faults = 2 ^ 64 - 1 }) ≡ record two_bytes { number = 2 ^ 32; faults = 2 ^ 64 - 1 }
failed_at_last = refl

one_told : source_at (after_failed_read no_bytes) ≡ record { left = Some []; faults = 1; calls = 2 }
one_told = refl

-- two bytes are too many for a limit of one, and not for one of two
too_many : Refuses 1 (source_at two_bytes) (source_at no_bytes) TooLarge
too_many = record {
  taken = 7 ∷ 8 ∷ [];
  lost = refl;
  too_large = (λ _. omega arith, λ _. refl);
  no_more = omega arith;
  no_turn = λ _. omega arith;
}

just_enough : Refuses 2 (source_at two_bytes) (source_at no_bytes) TooLarge → ⊥
just_enough refused =
    let long = ap length refused.lost ∙ length-append refused.taken [] in
    let many = refused.too_large.0 refl in
    omega (arith, long, many)

no_room_for_one : Refuses 5 (source_at two_bytes) (source_at (after_read two_bytes 1)) Memory
no_room_for_one = record {
  taken = 7 ∷ [];
  lost = refl;
  too_large = (λ is. search rules, λ many. absurd (omega (arith, many)));
  no_more = omega arith;
  no_turn = λ is. search rules;
}

-- a sink with room for four bytes, which holds one
abbrev one_held : MemorySinkAt
one_held = record { held = 5 ∷ []; settled = true; room = 4; most = 2; failing = []; number = 0; faults = 0 }

abbrev three_held : MemorySinkAt
three_held = record { held = 5 ∷ 6 ∷ 7 ∷ []; settled = false; room = 4; most = 2; failing = []; number = 1; faults = 0 }

held_told : sink_at one_held ≡ record { held = Some (5 ∷ []); settled = Some true; faults = 0 }
held_told = refl

three_told : sink_at three_held ≡ record { held = Some (5 ∷ 6 ∷ 7 ∷ []); settled = Some false; faults = 0 }
three_told = refl

taken_at_most : taken_count one_held 9 ≡ 2
taken_at_most = refl

taken_for_room : taken_count three_held 9 ≡ 1
taken_for_room = refl

taken_all : taken_count one_held 1 ≡ 1
taken_all = refl

two_written : after_write one_held (6 ∷ 7 ∷ []) ≡ three_held
two_written = refl

none_written : after_write one_held [] ≡ record one_held { number = 1 }
none_written = refl

flushed : after_flush three_held ≡ record three_held { settled = true; number = 2 }
flushed = refl

flushed_again : after_flush one_held ≡ record one_held { number = 1 }
flushed_again = refl

failed_write : after_failed_call three_held ≡ record three_held { number = 2; faults = 1 }
failed_write = refl

failed_first : after_failed_call one_held ≡ record one_held { number = 1; faults = 1 }
failed_first = refl

bytes_written : WriteAppends (sink_at one_held).held (sink_at three_held).held ok_two (6 ∷ 7 ∷ 8 ∷ [])
bytes_written = refl

-- whether all is settled
stays_true : Stays (Some true) (Some true)
stays_true = refl

stays_untold : Stays None (Some false)
stays_untold = tt

stays_no_other : Stays (Some true) (Some false) → ⊥
stays_no_other stays = search rules

becomes_false : Becomes (Some true) (Some false) false
becomes_false = refl

becomes_untold : Becomes None None true
becomes_untold = tt

becomes_no_other : Becomes (Some true) (Some false) true → ⊥
becomes_no_other is = search rules

tells_other : StillTells (Some true) (Some false)
tells_other = refl

tells_no_more : StillTells (Some true) None → ⊥
tells_no_more tells = search rules

some_unsettle : WriteUnsettles (sink_at one_held).settled (sink_at three_held).settled ok_two
some_unsettle = refl

none_keep : WriteUnsettles (Some true) (Some true) ok_none
none_keep = refl

some_kept_settled : WriteUnsettles (Some true) (Some true) ok_two → ⊥
some_kept_settled is = search rules

failure_keeps : WriteUnsettles (Some true) (Some true) bad
failure_keeps = refl

flush_settles : FlushSettles {E = ℕ} (Some false) (Some true) (Ok tt)
flush_settles = refl

failed_flush_keeps : FlushSettles {E = ℕ} (Some false) (Some false) (Err 7)
failed_flush_keeps = refl

failed_flush_settles : FlushSettles {E = ℕ} (Some false) (Some true) (Err 7) → ⊥
failed_flush_settles is = search rules

-- fronts of what is written
half_written : AppendsPrefix (Some (5 ∷ [])) (Some (5 ∷ 6 ∷ [])) (6 ∷ 7 ∷ [])
half_written = record { front = 6 ∷ []; rest = 7 ∷ []; split = refl; grown = refl }

none_of_it : AppendsPrefix (Some (5 ∷ [])) (Some (5 ∷ [])) (6 ∷ 7 ∷ [])
none_of_it = record { front = []; rest = 6 ∷ 7 ∷ []; split = refl; grown = refl }

-- the adapters over std, here over lists
reader_told : std_source_at {R = List ℕ} (λ bytes. Some bytes) (record { reader = 7 ∷ 8 ∷ []; faults = 2 }) ≡ record { left = Some (7 ∷ 8 ∷ []); faults = 2; calls = 0 }
reader_told = refl

reader_untold : std_source_at {R = List ℕ} (λ bytes. None) (record { reader = 7 ∷ []; faults = 0 }) ≡ record { left = None; faults = 0; calls = 0 }
reader_untold = refl

writer_told : std_sink_at {W = List ℕ} (λ bytes. Some bytes) (record { writer = 5 ∷ []; faults = 1 }) ≡ record { held = Some (5 ∷ []); settled = None; faults = 1 }
writer_told = refl

writer_untold : std_sink_at {W = List ℕ} (λ bytes. None) (record { writer = 5 ∷ []; faults = 0 }) ≡ record { held = None; settled = None; faults = 0 }
writer_untold = refl
