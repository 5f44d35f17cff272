-- What accessors are used for, use by use.
use Rattle.std.proofs.Common.{◌≡◌, ℕ, ◌+◌, ◌<◌, ◌≤◌, ◌==◌, Bool, true, false, ◌&&◌, not, List, [], ◌∷◌, ◌++◌, length, get_or, take, refl, sym, ap, ◌∙◌, arith, append-nil}
use Rattle.std.specs.List.{list_all}
use Rattle.std.proofs.Math.Bool.{and-true}
use Rattle.std.proofs.Math.ListN.{set, replicate}
use Rattle.std.proofs.lemmas.Bool.{ne_eqb, eq-eqb}
use Rattle.std.proofs.lemmas.List.{take_more}
use Rattle.std.proofs.lemmas.List.Elements.{filter-append}
use Rattle.std.proofs.lemmas.List.Folds.{list_all-append}
use Rattle.gp_asset.specs.declared.usage.AccessorUse.{AccessorUse}
use Rattle.gp_asset.specs.declared.usage.Role.{Role}
use Rattle.gp_storage.specs.declared.usage.Usage.{Usage}
use Rattle.gp_storage.specs.declared.usage.Usage.TheVariants.{Unused}
use Rattle.gp_storage.specs.Readers.{is_indices, is_empty, uses_of, is_index_list}
use Rattle.gp_storage.specs.Shared.{usage_by, usage_in, first_use, with_use, is_list}
use Rattle.gp_storage.proofs.Tables.{table, set_table, same_table, constant_table, item_at}

abbrev as_indices : AccessorUse → Bool
as_indices u = is_indices u.role

joined : (b : Bool) (r : Role) → first_use (b && (is_indices r && true)) ≡ with_use (first_use b) r
joined true r = rw (and-true (is_indices r)) refl
joined false r = refl

-- with one use behind the others
usage_by_more : (uses : List AccessorUse) (u : AccessorUse) → usage_by (uses ++ u ∷ []) ≡ with_use (usage_by uses) u.role
usage_by_more [] u = ap first_use (and-true (is_indices u.role))
usage_by_more (v ∷ uses) u = ap first_use (list_all-append as_indices (v ∷ uses) (u ∷ [])) ∙ joined (list_all as_indices (v ∷ uses)) u.role

uses_more : (uses : List AccessorUse) (at k : ℕ) (u d : AccessorUse) → at < length uses → u ≡ get_or uses at d → uses_of (take (at + 1) uses) k ≡ uses_of (take at uses) k ++ uses_of (u ∷ []) k
uses_more uses at k u d within is =
    rw (take_more uses at d within, filter-append (λ (v : AccessorUse). v.accessor == k) (take at uses) (get_or uses at d ∷ []), ← is) refl

-- of the accessor that is used
used : (uses : List AccessorUse) (at k : ℕ) (u d : AccessorUse) → at < length uses → u ≡ get_or uses at d → u.accessor ≡ k → usage_in (take (at + 1) uses) k ≡ with_use (usage_in (take at uses) k) u.role
unfolding usage_in
used uses at k u d within is same =
    ap usage_by (uses_more uses at k u d within is)
    ∙ (rw (eq-eqb u.accessor k same) (usage_by_more (uses_of (take at uses) k) u))

-- of another one
not_used : (uses : List AccessorUse) (at k : ℕ) (u d : AccessorUse) → at < length uses → u ≡ get_or uses at d → (u.accessor ≡ k → ⊥) → usage_in (take (at + 1) uses) k ≡ usage_in (take at uses) k
unfolding usage_in
not_used uses at k u d within is differ =
    ap usage_by (uses_more uses at k u d within is)
    ∙ (rw (ne_eqb u.accessor k differ, append-nil (uses_of (take at uses) k)) refl)

abbrev pub so_far : List AccessorUse → ℕ → ℕ → List Usage
so_far uses at n = table (usage_in (take at uses)) n

-- before the first use
pub unused : (uses : List AccessorUse) (n : ℕ) (usages : List Usage) → usages ≡ replicate n Unused → usages ≡ so_far uses 0 n
unfolding usage_in
unused uses n usages e = e ∙ constant_table (usage_in []) Unused n (λ k. refl)

-- past a use of an accessor that is there
pub one_more : (uses : List AccessorUse) (at n : ℕ) (u d : AccessorUse) (usages : List Usage) (before other next : Usage) → at < length uses → u ≡ get_or uses at d → u.accessor < n → before ≡ get_or usages u.accessor other
    → next ≡ with_use before u.role → usages ≡ so_far uses at n → set usages u.accessor next ≡ so_far uses (at + 1) n
one_more uses at n u d usages before other next within is there was step e =
    let f = usage_in (take at uses) in
    let here : before ≡ f u.accessor = item_at f n u.accessor usages before other e there was in
    let now : next ≡ usage_in (take (at + 1) uses) u.accessor = step ∙ ap (λ b. with_use b u.role) here ∙ sym (used uses at u.accessor u d within is refl) in
    ap (λ xs. set xs u.accessor next) e
    ∙ set_table f (usage_in (take (at + 1) uses)) next n u.accessor there (λ k differ. sym (not_used uses at k u d within is (λ same. differ (sym same)))) now

-- past a use of another one
pub none_more : (uses : List AccessorUse) (at n : ℕ) (u d : AccessorUse) (usages : List Usage) → at < length uses → u ≡ get_or uses at d → n ≤ u.accessor
    → usages ≡ so_far uses at n → usages ≡ so_far uses (at + 1) n
none_more uses at n u d usages within is beyond e =
    e ∙ same_table (usage_in (take at uses)) (usage_in (take (at + 1) uses)) n (λ k below. sym (not_used uses at k u d within is (λ same. omega (arith, below, beyond, same))))

pub is_list_is : (uses : List AccessorUse) (k : ℕ) → is_list (usage_in uses k) ≡ is_index_list uses k
unfolding usage_in
is_list_is uses k = cases (uses_of uses k)
  where
    of_bool : (b : Bool) → is_list (first_use b) ≡ (not false && b)
    of_bool true = refl
    of_bool false = refl

    cases : (us : List AccessorUse) → is_list (usage_by us) ≡ (not (is_empty us) && list_all as_indices us)
    cases [] = refl
    cases (u ∷ us) = of_bool (list_all as_indices (u ∷ us))
