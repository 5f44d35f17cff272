-- What the crates below have under two names.
use Rattle.std.specs.Prelude.{◌≡◌, ℕ, ◌<◌, not, List, [], ◌∷◌, ◌++◌, filter, map, length, nat_eq}
use Rattle.std.specs.List.{concat, position_or_len, range_with_len}
use Rattle.std.specs.Str.{bytes_eq}
use Rattle.std.proofs.Common.{Bool, refl, ap, ◌∙◌}
use Rattle.gp_cache.specs.Triangles.{triples as triples_of_orders}
use Rattle.gp_merge.specs.Distinct.{without_repeats as merged}
use Rattle.gp_merge.specs.Records.{distinct as distinct_of_merge, numbers as numbers_of_merge}
use Rattle.gp_merge.specs.Order.{first_seen, places_in}
use Rattle.gp_moving.specs.Records.{without_repeats, distinct, numbers}
use Rattle.gp_moving.specs.Ordered.{seen, places}
use Rattle.gp_moving.specs.Triangles.{triples}

pub same_repeats : {X : Type 0} (same : X → X → Bool) (xs : List X) → merged same xs ≡ without_repeats same xs
same_repeats same [] = refl
same_repeats same (x ∷ xs) = ap (λ ys. x ∷ filter (λ other. not (same x other)) ys) (same_repeats same xs)

pub same_distinct : (all : List (List ℕ)) → distinct_of_merge all ≡ distinct all
same_distinct all = same_repeats bytes_eq all

pub same_numbers : (all : List (List ℕ)) → numbers_of_merge all ≡ numbers all
same_numbers all = ap (λ (ds : List (List ℕ)). map (λ r. position_or_len (bytes_eq r) ds) all) (same_distinct all)

pub same_seen : (lists : List (List ℕ)) (m : ℕ) → first_seen (concat lists) m ≡ seen lists m
same_seen lists m = same_repeats nat_eq (concat lists ++ range_with_len 0 m)

pub same_places : (records chosen : List (List ℕ)) (m : ℕ) → m ≡ length (distinct records) → places_in (first_seen (concat chosen) m) m ≡ places records chosen
same_places records chosen m is =
    ap (λ (order : List ℕ). map (λ n. position_or_len (nat_eq n) order) (range_with_len 0 m)) (same_seen chosen m)
    ∙ ap (λ k. map (λ n. position_or_len (nat_eq n) (seen chosen k)) (range_with_len 0 k)) is

pub same_triples : {V : Type 0} (list : List V) → triples_of_orders list ≡ triples list
same_triples [] = refl
same_triples (a ∷ []) = refl
same_triples (a ∷ b ∷ []) = refl
same_triples (a ∷ b ∷ c ∷ rest) = ap (λ ts. (a, b, c) ∷ ts) (same_triples rest)
