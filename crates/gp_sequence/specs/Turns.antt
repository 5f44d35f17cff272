-- Of this crate alone, and cited by no public contract: a stream of indices, one index after another.
use Rattle.std.specs.Prelude.{ℕ, ◌+◌, ◌/◌, ◌%◌, ◌^◌, ◌==◌, if◌then◌else◌, List, ◌++◌, Result, Ok, Err}
use Rattle.gp_groups.specs.Sequence.{difference, is_too_wide, le_bytes}
use Rattle.gp_groups.specs.Steps.{and_then}
use Rattle.gp_groups.specs.Varint.{varint}
use Rattle.gp_groups.specs.declared.fault.StreamFault.{StreamFault}
use Rattle.gp_groups.specs.declared.fault.StreamFault.TheVariants.{Width}
use Rattle.gp_sequence.specs.declared.baselines.Baselines.{Baselines}

-- the baseline that a varint's value names
abbrev pub named : Baselines → ℕ → ℕ
named b coded = if coded % 2 == 0 then b.first else b.second

-- the index that a varint's value tells, and the baselines then
abbrev pub index_after : Baselines → ℕ → ℕ
index_after b coded = (named b coded + difference (coded / 2)) % 2 ^ 32

abbrev pub baselines_after : Baselines → ℕ → Baselines
baselines_after b coded = if coded % 2 == 0 then record b { first = index_after b coded } else record b { second = index_after b coded }

-- behind the bytes so far the bytes of the index of this number, or why it has none; how many bytes were read, and the baselines then
abbrev pub turn : ℕ → ℕ → Baselines → List ℕ → List ℕ → Result (ℕ × (Baselines × List ℕ)) StreamFault
turn stride number b so_far bytes =
    and_then (varint bytes) (λ read.
    if is_too_wide stride (index_after b read.0) then Err (Width number) else
    Ok (read.1, (baselines_after b read.0, so_far ++ le_bytes stride (index_after b read.0))))
