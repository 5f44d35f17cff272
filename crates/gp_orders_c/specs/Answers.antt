-- What the calls answer, and what they leave in the caller's memory.
use Rattle.std.specs.Prelude.{ℕ, ◌≡◌, ◌⊎◌, ◌*◌, ◌/◌, ◌%◌, ◌^◌, ◌==◌, ◌&&◌, Bool, true, false, nat_le, nat_lt, List, length}
use Rattle.std.specs.List.{list_all}
use Rattle.gp_merge.specs.Records.{records, distinct, numbers}
use Rattle.gp_cache.specs.Tipsify.{tipsify}

-- whether so many bytes are at most 2^24 records of this size, and as many as there is room for
abbrev pub are_records : ℕ → ℕ → ℕ → Bool
are_records len size room = nat_le 1 size && len % size == 0 && nat_le (len / size) (2 ^ 24) && len / size == room

-- whether these are the corners of at most 2^25 triangles over at most 2^24 vertices, and as many as there is room for
abbrev pub are_triangles : List ℕ → ℕ → ℕ → Bool
are_triangles list n room = length list % 3 == 0 && nat_le (length list) (3 * 2 ^ 25) && nat_le n (2 ^ 24) && length list == room && list_all (λ vertex. nat_lt vertex n) list

-- the number of distinct records and the place of each among them, or the want of memory, which leaves all as it was
abbrev pub Merged : Bool → ℕ → List ℕ → ℕ → ℕ → ℕ → List ℕ → List ℕ → Type 0
Merged true size bytes answer old_count count old places =
    ((answer ≡ 0) × (count ≡ length (distinct (records size bytes))) × (places ≡ numbers (records size bytes))) ⊎ ((answer ≡ 2) × (count ≡ old_count) × (places ≡ old))
Merged false size bytes answer old_count count old places = (answer ≡ 1) × (count ≡ old_count) × (places ≡ old)

-- Tipsify's order, or the want of memory, which leaves all as it was
abbrev pub Ordered : Bool → List ℕ → ℕ → ℕ → List ℕ → List ℕ → Type 0
Ordered true list n answer old order = ((answer ≡ 0) × (order ≡ tipsify list n)) ⊎ ((answer ≡ 2) × (order ≡ old))
Ordered false list n answer old order = (answer ≡ 1) × (order ≡ old)
