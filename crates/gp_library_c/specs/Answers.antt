-- What the calls for streams answer, and what they leave in the caller's memory.
use Rattle.std.specs.Prelude.{ℕ, ℤ, pos, negsuc, ◌≡◌, ◌*◌, ◌%◌, ◌==◌, ◌&&◌, ◌||◌, ◌⊎◌, Bool, true, false, nat_le, List, if◌then◌else◌, Ok, Err}
use Rattle.std.specs.declared.result.Result.{Result}
use Rattle.gp_groups.specs.declared.fault.StreamFault.{StreamFault}
use Rattle.gp_groups.specs.declared.fault.StreamFault.TheVariants.{Header, Short, Varint, Table, Width, Tail}
use Rattle.gp_library_c.specs.Places.{Place, has_room, with_bytes}

-- whether an attribute stream may have this stride
abbrev pub is_stride : ℕ → Bool
is_stride stride = stride % 4 == 0 && nat_le 4 stride && nat_le stride 256

-- whether so many bytes are `count` elements of a stride that an attribute stream may have, or `count` indices of two or four bytes
abbrev pub are_elements : ℕ → ℕ → ℕ → Bool
are_elements len count stride = is_stride stride && len == count * stride

abbrev pub are_indices : ℕ → ℕ → ℕ → Bool
are_indices len count stride = (stride == 2 || stride == 4) && len == count * stride

-- libmeshoptimizer's answer for a fault: -1 for another first byte, -3 for another length of the tail, else -2
abbrev pub fault_answer : StreamFault → ℤ
fault_answer Header = negsuc 0
fault_answer Short = negsuc 1
fault_answer Varint = negsuc 1
fault_answer (Table entry) = negsuc 1
fault_answer (Width at) = negsuc 1
fault_answer (Tail left) = negsuc 2

abbrev pub answer_for : Result (Unit {0}) StreamFault → ℤ
answer_for (Ok _) = pos 0
answer_for (Err fault) = fault_answer fault

-- a decoder's answer, and the caller's bytes before and after: by whether the lengths fit, and by what the stream means;
-- at a fault any of these bytes may have been written
abbrev pub Decoded : Bool → Result (List ℕ) StreamFault → ℤ → List ℕ → List ℕ → Type 0
Decoded true (Ok bytes) answer old new = (answer ≡ pos 0) × (new ≡ bytes)
Decoded true (Err fault) answer old new = answer ≡ fault_answer fault
Decoded false meaning answer old new = (answer ≡ negsuc 0) × (new ≡ old)

-- a stream is handed out, or its size alone where the room is too small
abbrev pub HandedOut : List ℕ → ℕ → Place → Place → Type 0
HandedOut stream answer before after = (answer ≡ (if has_room stream before then 0 else 3)) × (after ≡ with_bytes stream before)

-- an encoder's answer: by whether the input fits, the stream or the want of memory, which leaves all as it was
abbrev pub Encoded : Bool → List ℕ → ℕ → Place → Place → Type 0
Encoded true stream answer before after = HandedOut stream answer before after ⊎ ((answer ≡ 2) × (after ≡ before))
Encoded false stream answer before after = (answer ≡ 1) × (after ≡ before)
