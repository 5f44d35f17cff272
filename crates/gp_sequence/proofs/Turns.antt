-- Index sequences, one index after another.
use Rattle.std.proofs.Common.{◌≡◌, ℕ, zero, suc, ◌+◌, ◌-◌, ◌*◌, ◌<◌, Bool, true, false, List, [], ◌∷◌, ◌++◌, length, drop, take, refl, sym, ◌∙◌, ap, arith, append_assoc, append-nil, ◌==◌, if◌then◌else◌, Option, Some, None, Result, Ok, Err}
use Rattle.std.specs.List.{flat_map, position_from}
use Rattle.std.proofs.lemmas.Bool.{ne_eqb}
use Rattle.std.proofs.lemmas.List.{take_all}
use Rattle.gp_groups.specs.Sequence.{checked, is_too_wide, le_bytes, values}
use Rattle.gp_groups.specs.Steps.{and_then}
use Rattle.gp_groups.specs.Varint.{varint}
use Rattle.gp_groups.specs.declared.fault.StreamFault.{StreamFault}
use Rattle.gp_groups.specs.declared.fault.StreamFault.TheVariants.{Tail}
use Rattle.gp_sequence.specs.Turns.{baselines_after, index_after, turn}
use Rattle.gp_sequence.specs.declared.baselines.Baselines.{Baselines}

-- bytes in front of those of a result
abbrev pub behind : List ℕ → Result (List ℕ) StreamFault → Result (List ℕ) StreamFault
behind front read = and_then read (λ bytes. Ok (front ++ bytes))

pub behind_behind : (front next : List ℕ) (read : Result (List ℕ) StreamFault) → behind front (behind next read) ≡ behind (front ++ next) read
behind_behind front next (Err fault) = refl
behind_behind front next (Ok bytes) = ap (λ (xs : List ℕ). let r : Result (List ℕ) StreamFault = Ok xs in r) (sym (append_assoc front next bytes))

pub nothing_behind : (read : Result (List ℕ) StreamFault) → behind [] read ≡ read
nothing_behind (Ok bytes) = refl
nothing_behind (Err fault) = refl

-- the indices that values tell after these baselines
abbrev pub told : Baselines → List ℕ → List ℕ
told b [] = []
told b (coded ∷ others) = index_after b coded ∷ told (baselines_after b coded) others

-- behind the bytes so far those of so many more indices, the first of which has this number
abbrev pub rest : ℕ → ℕ → ℕ → Baselines → List ℕ → List ℕ → Result (List ℕ) StreamFault
rest stride number zero b so_far bytes = if length bytes == 4 then Ok so_far else Err (Tail (length bytes))
rest stride number (suc more) b so_far bytes = and_then (turn stride number b so_far bytes) (λ t. rest stride (number + 1) more t.1.0 t.1.1 (drop t.0 bytes))

ends : (four : Bool) (left : ℕ) (front bytes : List ℕ) → ◌≡◌ {A = Result (List ℕ) StreamFault} (behind front (if four then Ok bytes else Err (Tail left))) (if four then Ok (front ++ bytes) else Err (Tail left))
ends true left front bytes = refl
ends false left front bytes = refl

checked_more : (stride index : ℕ) (list : List ℕ) (at : Option ℕ) (read : Result (List ℕ) StreamFault) → checked stride (index ∷ list) at read ≡ behind (le_bytes stride index) (checked stride list at read)
checked_more stride index list (Some at) read = refl
checked_more stride index list None (Err fault) = refl
checked_more stride index list None (Ok tail) = sym (ends (length tail == 4) (length tail) (le_bytes stride index) (flat_map (le_bytes stride) list))

abbrev pub checked_told : ℕ → ℕ → Baselines → List ℕ × Result (List ℕ) StreamFault → Result (List ℕ) StreamFault
checked_told stride number b read = checked stride (told b read.0) (position_from (is_too_wide stride) number (told b read.0)) read.1

-- the whole list, and its indices one by one
abbrev pub OneByOne : ℕ → ℕ → ℕ → Baselines → List ℕ → List ℕ → Type 0
OneByOne stride number more b so_far bytes = behind so_far (checked_told stride number b (values more bytes)) ≡ rest stride number more b so_far bytes

step : (stride number more : ℕ) (b : Baselines) (so_far : List ℕ) (coded size : ℕ) (bytes : List ℕ) (wide : Bool) → is_too_wide stride (index_after b coded) ≡ wide → varint bytes ≡ Ok (coded, size)
    → OneByOne stride (number + 1) more (baselines_after b coded) (so_far ++ le_bytes stride (index_after b coded)) (drop size bytes)
    → OneByOne stride number (suc more) b so_far bytes
step stride number more b so_far coded size bytes true w is others = rw (values, is, w) refl
step stride number more b so_far coded size bytes false w is others =
    let read = values more (drop size bytes) in
    let list = told (baselines_after b coded) read.0 in
    rw (values, is, w)
    (ap (behind so_far) (checked_more stride (index_after b coded) list (position_from (is_too_wide stride) (number + 1) list) read.1)
    ∙ behind_behind so_far (le_bytes stride (index_after b coded)) (checked_told stride (number + 1) (baselines_after b coded) read) ∙ others)

by_front : (stride number more : ℕ) (b : Baselines) (so_far bytes : List ℕ) (front : Result (ℕ × ℕ) StreamFault) → varint bytes ≡ front
    → ((number : ℕ) (b : Baselines) (so_far bytes : List ℕ) → OneByOne stride number more b so_far bytes)
    → OneByOne stride number (suc more) b so_far bytes
by_front stride number more b so_far bytes (Err fault) is others = rw (values, is) refl
by_front stride number more b so_far bytes (Ok read) is others =
    step stride number more b so_far read.0 read.1 bytes (is_too_wide stride (index_after b read.0)) refl is
    (others (number + 1) (baselines_after b read.0) (so_far ++ le_bytes stride (index_after b read.0)) (drop read.1 bytes))

one_by_one : (stride number more : ℕ) (b : Baselines) (so_far bytes : List ℕ) → OneByOne stride number more b so_far bytes
one_by_one stride number zero b so_far bytes = ends (length bytes == 4) (length bytes) so_far [] ∙ rw (append-nil so_far) refl
one_by_one stride number (suc more) b so_far bytes = by_front stride number more b so_far bytes (varint bytes) refl (λ n c front bs. one_by_one stride n more c front bs)

pub from_front : (stride number more : ℕ) (b : Baselines) (bytes : List ℕ) → checked_told stride number b (values more bytes) ≡ rest stride number more b [] bytes
from_front stride number more b bytes = sym (nothing_behind (checked_told stride number b (values more bytes))) ∙ one_by_one stride number more b [] bytes

-- the reading so far, as the turns of a loop leave it
abbrev pub Turn : ℕ → ℕ → Result (List ℕ) StreamFault → List ℕ → ℕ → Baselines → List ℕ → Type 0
Turn stride count whole dest k b unread = whole ≡ rest stride k (count - k) b (take (k * stride) dest) unread

pub first_turn : (stride count : ℕ) (dest : List ℕ) (b : Baselines) (bytes : List ℕ) → Turn stride count (rest stride 0 count b [] bytes) dest 0 b bytes
first_turn stride count dest b bytes =
    let none : 0 * stride ≡ 0 = omega arith in
    let all : count - 0 ≡ count = omega arith in
    rw (none, all) refl

more_left : (count k : ℕ) → k < count → count - k ≡ suc (count - (k + 1))
more_left count k h = omega arith

pub next_turn : (stride count : ℕ) (whole : Result (List ℕ) StreamFault) (dest written : List ℕ) (k : ℕ) (b b' : Baselines) (unread : List ℕ) (size : ℕ) → k < count
    → turn stride k b (take (k * stride) dest) unread ≡ Ok (size, (b', take ((k + 1) * stride) written))
    → Turn stride count whole dest k b unread → Turn stride count whole written (k + 1) b' (drop size unread)
next_turn stride count whole dest written k b b' unread size h read so_far =
    let on : rest stride k (suc (count - (k + 1))) b (take (k * stride) dest) unread ≡ rest stride (k + 1) (count - (k + 1)) b' (take ((k + 1) * stride) written) (drop size unread) = rw read refl in
    (rw (more_left count k h) at so_far) ∙ on

pub fault_turn : (stride count : ℕ) (whole : Result (List ℕ) StreamFault) (dest : List ℕ) (k : ℕ) (b : Baselines) (unread : List ℕ) (fault : StreamFault) → k < count
    → turn stride k b (take (k * stride) dest) unread ≡ Err fault
    → Turn stride count whole dest k b unread → whole ≡ Err fault
fault_turn stride count whole dest k b unread fault h read so_far =
    let on : rest stride k (suc (count - (k + 1))) b (take (k * stride) dest) unread ≡ Err fault = rw read refl in
    (rw (more_left count k h) at so_far) ∙ on

none_left : (count k : ℕ) → k ≡ count → count - k ≡ 0
none_left count k e = omega arith

pub last_turn : (stride count : ℕ) (whole : Result (List ℕ) StreamFault) (dest : List ℕ) (k : ℕ) (b : Baselines) (unread : List ℕ) → k ≡ count → length dest ≡ count * stride → length unread ≡ 4 → Turn stride count whole dest k b unread → whole ≡ Ok dest
last_turn stride count whole dest k b unread e long four so_far =
    let full : take (k * stride) dest ≡ dest = rw e (take_all (count * stride) dest (omega arith)) in
    let end : rest stride k 0 b (take (k * stride) dest) unread ≡ Ok dest = rw (four, full) refl in
    (rw (none_left count k e) at so_far) ∙ end

pub left_turn : (stride count : ℕ) (whole : Result (List ℕ) StreamFault) (dest : List ℕ) (k : ℕ) (b : Baselines) (unread : List ℕ) → k ≡ count → (length unread ≡ 4 → ⊥) → Turn stride count whole dest k b unread → whole ≡ Err (Tail (length unread))
left_turn stride count whole dest k b unread e other so_far =
    let end : rest stride k 0 b (take (k * stride) dest) unread ≡ Err (Tail (length unread)) = rw (ne_eqb (length unread) 4 other) refl in
    (rw (none_left count k e) at so_far) ∙ end
