use Rattle.std.proofs.Common.{◌≡◌, ℕ, List, [], ◌∷◌, ◌++◌, length, ap, ◌∙◌, arith}
use Rattle.std.proofs.lemmas.List.Filters.{dedup_is}
use Rattle.std.proofs.lemmas.List.Kept.{Contains-dedup_nat, Contains-from_dedup}
use Rattle.std.proofs.lemmas.List.Sorted.{Contains-permutation, IsPermutation-sym}
use Rattle.std.proofs.lemmas.Map.Keys.{IsStrictlyIncreasing-dedup}
use Rattle.gp_cache.proofs.compacting.own_vertices.Goals as goal

pub returns : goal.returns
returns c =
    let is = dedup_is _ _ _ c.dedup.ensures.filtered in
    let all : c.extend_from_slice.new.self.items ≡ 0 ∷ c.args.list.now =
    c.in_ok-extend_from_slice.ensures.items ∙ ap (λ (xs : List ℕ). xs ++ c.args.list.now) (c.in_ok-push.ensures.items ∙ ap (λ (xs : List ℕ). xs ++ 0 ∷ []) c.in_ok-own.ensures.items) in
    let moved = rw all at c.sort_unstable.ensures.permutation in
    record {
      rises = rw is (IsStrictlyIncreasing-dedup _ c.sort_unstable.ensures.sorted);
      keeps = λ v h. rw is (Contains-dedup_nat _ v (Contains-permutation _ _ v moved h));
      adds_none = λ v h. Contains-permutation _ _ v (IsPermutation-sym _ _ moved) (Contains-from_dedup _ _ v (rw is at h));
      few = omega (arith, c.dedup.ensures.bound, c.sort_unstable.ensures.len, ap (λ (xs : List ℕ). length xs) all);
    }
