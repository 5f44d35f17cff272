-- The bytes of the views of the output, by number, and as a row.
use Rattle.std.proofs.Common.{◌≡◌, ℕ, zero, suc, ◌<◌, inl, inr, Bool, true, false, nat_lt, List, [], ◌∷◌, map, length, Option, Some, None, IsSome, refl, sym, ap, ◌∙◌, subst, arith}
use Rattle.std.specs.List.{slice_get}
use Rattle.std.specs.Option.{is_some, option_map, option_and_then}
use Rattle.std.proofs.lemmas.Bool.{cases_Bool, ltb-true, ltb-false}
use Rattle.std.proofs.lemmas.List.{length-map}
use Rattle.std.proofs.lemmas.Option.{slice_get-map}
use Rattle.gp_asset.specs.Contents.{bytes_at}
use Rattle.gp_layout.specs.Row.{RowParts, row_of, HasEach, held as held_in}
use Rattle.gp_layout.proofs.Parts.{length_starts}
use Rattle.gp_unpack.specs.Contents.{held}
use Rattle.gp_unpack.proofs.Finishing.{has_each, held_again}
use Rattle.gp_pack.specs.declared.parts.Part.{Part}
use Rattle.gp_packed.specs.Plan.{Stored, parts, part_starts}
use Rattle.gp_pack.specs.Placement.{Shown, shown, shown_of, StandFor, parts_in}

-- ---- by number

abbrev bytes_of : Part → List ℕ
bytes_of p = p.bytes.now

none_below : (at : ℕ) → nat_lt at 0 ≡ false
none_below at = elim (cases_Bool (nat_lt at 0)) [ inl is ↦ (let low = ltb-true at 0 is in absurd (omega (arith, low))) | inr past ↦ past ]

some_below : (n : ℕ) → nat_lt 0 (suc n) ≡ true
some_below n = elim (cases_Bool (nat_lt 0 (suc n))) [ inl is ↦ is | inr past ↦ (let high = ltb-false 0 (suc n) past in absurd (omega (arith, high))) ]

less_again : (at n : ℕ) → nat_lt (suc at) (suc n) ≡ nat_lt at n
less_again at n = by_cases (nat_lt (suc at) (suc n)) (nat_lt at n) refl refl
  where
    by_cases : (b d : Bool) → nat_lt (suc at) (suc n) ≡ b → nat_lt at n ≡ d → b ≡ d
    by_cases true true e f = refl
    by_cases false false e f = refl
    by_cases true false e f = absurd (omega (arith, ltb-true (suc at) (suc n) e, ltb-false at n f))
    by_cases false true e f = absurd (omega (arith, ltb-false (suc at) (suc n) e, ltb-true at n f))

pub has_part : (ps : List Part) (at : ℕ) → nat_lt at (length ps) ≡ is_some (bytes_at (parts_in ps) at)
unfolding parts_in
has_part [] zero = none_below 0
has_part [] (suc at) = none_below (suc at)
has_part (p ∷ ps) zero = some_below (length ps)
has_part (p ∷ ps) (suc at) = less_again at (length ps) ∙ has_part ps at

pub within_parts : (ps : List Part) (at : ℕ) → IsSome (bytes_at (parts_in ps) at) → at < length ps
unfolding parts_in
within_parts [] at h = absurd (cc)
within_parts (p ∷ ps) zero h = omega arith
within_parts (p ∷ ps) (suc at) h = (let low = within_parts ps at h in omega (arith, low))

pub part_found : (ps : List Part) (at : ℕ) (p : Part) → slice_get ps at ≡ Some p → bytes_at (parts_in ps) at ≡ Some p.bytes.now
unfolding parts_in
part_found ps at p here =
    ap (option_and_then (λ bytes. bytes)) (slice_get-map (λ (q : Part). Some q.bytes.now) ps at ∙ ap (option_map (λ (q : Part). Some q.bytes.now)) here)

-- ---- as a row

all_held : (ps : List Part) → map (λ (p : Part). Some p.bytes.now) ps ≡ held (map bytes_of ps)
all_held [] = refl
all_held (p ∷ ps) = ap (λ l. Some p.bytes.now ∷ l) (all_held ps)

parts_held : (ps : List Part) → parts_in ps ≡ held (map bytes_of ps)
unfolding parts_in
parts_held ps = all_held ps

pub has_parts : (ps : List Part) (n : ℕ) → n ≡ length ps → HasEach (parts_in ps) n
has_parts ps n count = subst (λ l. HasEach l n) (sym (parts_held ps)) (has_each (map bytes_of ps) n (count ∙ sym (length-map ps bytes_of)))

own_row : (ps : List Part) (row : RowParts) → row ≡ row_of (held_in (parts_in ps)) → row ≡ row_of (map bytes_of ps)
own_row ps row is = is ∙ ap (λ l. row_of (held_in l)) (parts_held ps) ∙ ap row_of (held_again (map bytes_of ps))

pub starts_counted : (ps : List Part) (row : RowParts) (starts : List ℕ) → row ≡ row_of (held_in (parts_in ps)) → starts ≡ row.starts → length starts ≡ length ps
unfolding row_of
starts_counted ps row starts is are =
    ap (λ (l : List ℕ). length l) (are ∙ ap (λ (r : RowParts). r.starts) (own_row ps row is))
    ∙ length_starts (map length (map bytes_of ps)) ∙ length-map (map bytes_of ps) length ∙ length-map ps bytes_of

shown_bytes : (ps : List Part) → map (λ (s : Shown). s.bytes) (map shown ps) ≡ map bytes_of ps
shown_bytes [] = refl
shown_bytes (p ∷ ps) = ap (λ l. p.bytes.now ∷ l) (shown_bytes ps)

stored_bytes : (views : List Stored) → map (λ (s : Shown). s.bytes) (map shown_of views) ≡ parts views
stored_bytes [] = refl
stored_bytes (v ∷ views) = ap (λ l. (shown_of v).bytes ∷ l) (stored_bytes views)

bytes_are : (ps : List Part) (views : List Stored) → StandFor ps views → map bytes_of ps ≡ parts views
bytes_are ps views stand = sym (shown_bytes ps) ∙ ap (map (λ (s : Shown). s.bytes)) stand ∙ stored_bytes views

pub row_is : (ps : List Part) (views : List Stored) (row : RowParts) → StandFor ps views → row ≡ row_of (held_in (parts_in ps)) → row ≡ row_of (parts views)
row_is ps views row stand is = own_row ps row is ∙ ap row_of (bytes_are ps views stand)

pub starts_are : (views : List Stored) (row : RowParts) (starts : List ℕ) → row ≡ row_of (parts views) → starts ≡ row.starts → starts ≡ part_starts views
unfolding row_of
starts_are views row starts is are = are ∙ ap (λ (r : RowParts). r.starts) is

pub counted : (ps : List Part) (views : List Stored) → StandFor ps views → length ps ≡ length views
counted ps views stand = sym (length-map ps shown) ∙ ap (λ (l : List Shown). length l) stand ∙ length-map views shown_of
