-- The fallback buffer ends below twice the load where groups move, too.
use Rattle.std.specs.Prelude.{◌*◌, ◌^◌, IfSome, Option, Some, None}
use Rattle.std.specs.List.{sum_by}
use Rattle.std.proofs.Common.{◌≡◌, ℕ, zero, suc, ◌+◌, ◌<◌, ◌≤◌, Bool, true, false, List, [], ◌∷◌, ◌++◌, length, map, refl, sym, subst, arith}
use Rattle.std.proofs.lemmas.List.Sums.{sum_by-cons, sum_by-append}
use Rattle.gp_tree.specs.Lexical.{Each}
use Rattle.gp_rules.specs.declared.storage.View.{View}
use Rattle.gp_rules.specs.Sizes.{padded}
use Rattle.gp_rules.specs.Accessors.{padded_load}
use Rattle.gp_layout.specs.Layout.{end_behind, end}
use Rattle.gp_asset.specs.Asset.{AssetParts}
use Rattle.gp_storage.specs.declared.coding.Stream.{Stream}
use Rattle.gp_sameness.specs.Moved.{Moved}
use Rattle.gp_sameness.specs.Survivors.{survives, where_numbered}
use Rattle.gp_packed.specs.MadeViews.{Made, made_views}
use Rattle.gp_packed.specs.Plan.{Stored, streamed_lengths, fallback_end, all_stored, stored_made, output_views}
use Rattle.gp_packed.specs.StoredParts.{IsStreamOf, SuitEach}
use Rattle.gp_packed.proofs.StoredSizes.{sizes, and_streamed, first_streamed}
use Rattle.gp_packed.proofs.OutputViews.{passed}
use Rattle.gp_kept.proofs.GroupsRead.{IsLoaded}
use Rattle.gp_kept.proofs.MovedSizes.{room}

-- what a view takes in the second buffer, with the gap up to the next one
abbrev room_by : Option Stream → ℕ → ℕ
room_by None size = 0
room_by (Some stream) size = padded size

abbrev taken : Stored → ℕ
taken s = room_by s.stream (length s.contents)

-- ---- the end is within what all views take

end_step : (at size : ℕ) (stream : Option Stream) (lengths : List ℕ) (others : ℕ) → ((from : ℕ) → padded (end_behind from lengths) ≤ padded from + others)
    → padded (end_behind at (and_streamed stream size lengths)) ≤ padded at + (room_by stream size + others)
end_step at size None lengths others rest = omega (arith, rest at)
end_step at size (Some stream) lengths others rest = omega (arith, rest (padded at + size))

ends_within : (views : List Stored) (at : ℕ) → padded (end_behind at (streamed_lengths views)) ≤ padded at + sum_by taken views
ends_within [] at = omega arith
ends_within (s ∷ views) at =
    let step = end_step at (length s.contents) s.stream (streamed_lengths views) (sum_by taken views) (ends_within views) in
    subst (λ lengths. padded (end_behind at lengths) ≤ padded at + sum_by taken (s ∷ views)) (sym (first_streamed s views s.stream refl)) (omega (arith, step, sum_by-cons taken s views))

pub end_within : (views : List Stored) → fallback_end views ≤ sum_by taken views
end_within views = omega (arith, ends_within views 0)

-- ---- views that stay

-- a stream is shorter than its view and has at least six bytes, so that the view is longer than the gap
less_than_twice : (stride : Option ℕ) (contents : List ℕ) (stream : Option Stream) → IfSome stream (IsStreamOf stride contents) → 1 ≤ length contents
    → room_by stream (length contents) + 1 ≤ 2 * length contents
less_than_twice stride contents None is some = omega (arith, some)
less_than_twice stride contents (Some stream) is some = omega (arith, is.shorter, is.longer)

abbrev IsLess : Stored → View → Type 0
IsLess s v = taken s + 1 ≤ 2 * v.length

passed_less : (b : Bool) (test : ℕ → Bool) (n : ℕ) (s : Stored) (v : View) (ss : List Stored) (vs : List View) → test n ≡ b → IsLess s v → sum_by taken (passed test (n + 1) ss) + length vs ≤ 2 * sizes vs
    → sum_by taken (passed test n (s ∷ ss)) + length (v ∷ vs) ≤ 2 * sizes (v ∷ vs)
passed_less true test n s v ss vs e less rest = rw e (omega (arith, less, rest, sum_by-cons taken s (passed test (n + 1) ss), sum_by-cons (λ (w : View). w.length) v vs))
passed_less false test n s v ss vs e less rest = rw e (omega (arith, less, rest, sum_by-cons (λ (w : View). w.length) v vs))

survivors_less : (test : ℕ → Bool) (n : ℕ) (vs : List View) (ss : List Stored) → SuitEach vs ss → Each (λ (v : View). 1 ≤ v.length) vs → sum_by taken (passed test n ss) + length vs ≤ 2 * sizes vs
survivors_less test n [] [] suits some = omega arith
survivors_less test n [] (s ∷ ss) suits some = absurd suits
survivors_less test n (v ∷ vs) [] suits some = absurd suits
survivors_less test n (v ∷ vs) (s ∷ ss) suits some =
    let whole = suits.0.whole in
    let first = some.0 in
    let less = less_than_twice v.stride s.contents s.stream suits.0.stream (omega (arith, whole, first)) in
    passed_less (test n) test n s v ss vs refl (omega (arith, less, whole)) (survivors_less test (n + 1) vs ss suits.1 some.1)

-- ---- views that are made

made_taken : (stream : Option Stream) (size : ℕ) → room_by stream size ≤ padded size
made_taken None size = omega arith
made_taken (Some stream) size = omega arith

made_less : (vs : List Made) → sum_by taken (map stored_made vs) ≤ sum_by room vs
made_less [] = omega arith
made_less (v ∷ vs) =
    omega (
      arith,
      sum_by-cons taken (stored_made v) (map stored_made vs),
      sum_by-cons room v vs,
      made_taken (stored_made v).stream (length v.contents),
      made_less vs,
    )

-- ---- all

-- a view is made only where there are some
final : (count made f t r s load : ℕ) → f ≤ t + r → t + count ≤ 2 * s → r ≤ 2 * load → s + load ≤ 2 ^ 31 → (count ≡ 0 → s ≡ 0) → (made ≡ 0 → r ≡ 0) → (0 < made → 0 < count) → f < 2 ^ 32
final (suc count) made f t r s load end less few all none_s none_r there = omega (arith, end, less, few, all)
final zero zero f t r s load end less few all none_s none_r there = omega (arith, end, less, none_s refl, none_r refl)
final zero (suc made) f t r s load end less few all none_s none_r there = absurd (let some = there (omega arith) in omega (arith, some))

no_sizes : (vs : List View) → length vs ≡ 0 → sizes vs ≡ 0
no_sizes [] e = refl
no_sizes (v ∷ vs) e = absurd (omega (arith, e))

no_rooms : (vs : List Made) → length vs ≡ 0 → sum_by room vs ≡ 0
no_rooms [] e = refl
no_rooms (v ∷ vs) e = absurd (omega (arith, e))

pub fallback_below : (moved : List Moved) (a : AssetParts) → IsLoaded a → Each (λ (v : View). 1 ≤ v.length) a.views → SuitEach a.views (all_stored moved a)
    → sum_by room (made_views a moved) ≤ 2 * sum_by padded_load a.accessors → (0 < length (made_views a moved) → 0 < length a.views) → fallback_end (output_views moved a) < 2 ^ 32
unfolding output_views
fallback_below moved a loaded some suits few there =
    let made = made_views a moved in
    let stay = where_numbered (survives moved a) (all_stored moved a) in
    let less : sum_by taken stay + length a.views ≤ 2 * sizes a.views = survivors_less (survives moved a) 0 a.views (all_stored moved a) suits some in
    let whole : fallback_end (stay ++ map stored_made made) ≤ sum_by taken stay + sum_by room made =
    omega (arith, end_within (stay ++ map stored_made made), sum_by-append taken stay (map stored_made made), made_less made) in
    final (length a.views) (length made) (fallback_end (stay ++ map stored_made made)) (sum_by taken stay) (sum_by room made) (sizes a.views) (sum_by padded_load a.accessors) whole less few loaded.load
    (no_sizes a.views) (no_rooms made) there
