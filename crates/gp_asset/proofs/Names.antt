-- A test of spelled names, one after another.
use Rattle.std.specs.Prelude.{◌||◌, ◌&&◌}
use Rattle.std.specs.List.{list_any, list_all, filter_map, cons_option}
use Rattle.std.proofs.Common.{◌≡◌, ℕ, ◌+◌, ◌<◌, ◌≤◌, Bool, true, false, Option, Some, None, List, [], ◌∷◌, length, map, get_or, drop, ap, ◌∙◌}
use Rattle.std.proofs.lemmas.List.{drop_more, drop_all}

module _ {X A : Type 0} (f : X → A) (p : A → Bool) where
  pub any_found : (xs : List X) (k : ℕ) (d : X) → k < length xs → p (f (get_or xs k d)) ≡ true → list_any p (map f (drop k xs)) ≡ true
  any_found xs k d within e = ap (λ zs. list_any p (map f zs)) (drop_more xs k d within) ∙ ap (λ b. b || list_any p (map f (drop (k + 1) xs))) e

  pub any_more : (xs : List X) (k : ℕ) (d : X) → k < length xs → p (f (get_or xs k d)) ≡ false → list_any p (map f (drop k xs)) ≡ list_any p (map f (drop (k + 1) xs))
  any_more xs k d within e = ap (λ zs. list_any p (map f zs)) (drop_more xs k d within) ∙ ap (λ b. b || list_any p (map f (drop (k + 1) xs))) e

  pub any_last : (xs : List X) (k : ℕ) → length xs ≤ k → list_any p (map f (drop k xs)) ≡ false
  any_last xs k past = ap (λ zs. list_any p (map f zs)) (drop_all k xs past)

  pub all_broken : (xs : List X) (k : ℕ) (d : X) → k < length xs → p (f (get_or xs k d)) ≡ false → list_all p (map f (drop k xs)) ≡ false
  all_broken xs k d within e = ap (λ zs. list_all p (map f zs)) (drop_more xs k d within) ∙ ap (λ b. b && list_all p (map f (drop (k + 1) xs))) e

  pub all_more : (xs : List X) (k : ℕ) (d : X) → k < length xs → p (f (get_or xs k d)) ≡ true → list_all p (map f (drop k xs)) ≡ list_all p (map f (drop (k + 1) xs))
  all_more xs k d within e = ap (λ zs. list_all p (map f zs)) (drop_more xs k d within) ∙ ap (λ b. b && list_all p (map f (drop (k + 1) xs))) e

  pub all_last : (xs : List X) (k : ℕ) → length xs ≤ k → list_all p (map f (drop k xs)) ≡ true
  all_last xs k past = ap (λ zs. list_all p (map f zs)) (drop_all k xs past)

module _ {X A B : Type 0} (f : X → A) (g : A → Option B) where
  pub kept_none : (xs : List X) (k : ℕ) (d : X) → k < length xs → g (f (get_or xs k d)) ≡ None → filter_map g (map f (drop k xs)) ≡ filter_map g (map f (drop (k + 1) xs))
  kept_none xs k d within e = ap (λ zs. filter_map g (map f zs)) (drop_more xs k d within) ∙ ap (λ o. cons_option o (filter_map g (map f (drop (k + 1) xs)))) e

  pub kept_some : (xs : List X) (k : ℕ) (d : X) (b : B) → k < length xs → g (f (get_or xs k d)) ≡ Some b → filter_map g (map f (drop k xs)) ≡ b ∷ filter_map g (map f (drop (k + 1) xs))
  kept_some xs k d b within e = ap (λ zs. filter_map g (map f zs)) (drop_more xs k d within) ∙ ap (λ o. cons_option o (filter_map g (map f (drop (k + 1) xs)))) e

  pub kept_last : (xs : List X) (k : ℕ) → length xs ≤ k → filter_map g (map f (drop k xs)) ≡ []
  kept_last xs k past = ap (λ zs. filter_map g (map f zs)) (drop_all k xs past)
