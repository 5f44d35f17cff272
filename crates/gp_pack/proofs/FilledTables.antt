-- Tables that are filled from the first entry on.
use Rattle.std.specs.Prelude.{option_to_list}
use Rattle.std.specs.List.{range_with_len, filter_map, cons_option}
use Rattle.std.proofs.Common.{◌≡◌, ℕ, suc, ◌+◌, ◌-◌, ◌<◌, ◌≤◌, List, [], ◌∷◌, ◌++◌, map, length, get_or, drop, Option, Some, None, refl, sym, ap, ◌∙◌, arith}
use Rattle.gp_moves.proofs.FirstEntries.{drop_at, drop_all, nothing_behind, regrouped}

-- ---- one entry for each number

abbrev pub AreFilled : {A : Type 0} → (ℕ → A) → ℕ → List A → ℕ → Type 0
AreFilled f count items at = items ++ map f (range_with_len at (count - at)) ≡ map f (range_with_len 0 count)

pub one_filled : {A : Type 0} (f : ℕ → A) (count at : ℕ) (before after : List A) (x : A)
    → AreFilled f count before at → at < count → after ≡ before ++ x ∷ [] → x ≡ f at → AreFilled f count after (at + 1)
one_filled f count at before after x so h made is =
    let more : count - at ≡ suc (count - (at + 1)) = omega (arith, h) in
    ap (λ l. l ++ map f (range_with_len (at + 1) (count - (at + 1)))) (made ∙ ap (λ y. before ++ y ∷ []) is)
    ∙ regrouped before (f at ∷ []) (map f (range_with_len (at + 1) (count - (at + 1))))
    ∙ ap (λ n. before ++ map f (range_with_len at n)) (sym more) ∙ so

pub all_filled : {A : Type 0} (f : ℕ → A) (count at : ℕ) (items : List A) → AreFilled f count items at → count ≤ at → items ≡ map f (range_with_len 0 count)
all_filled f count at items so h =
    let none : count - at ≡ 0 = omega (arith, h) in
    sym (nothing_behind items) ∙ ap (λ n. items ++ map f (range_with_len at n)) (sym none) ∙ so

pub none_filled : {A : Type 0} (f : ℕ → A) (count : ℕ) (items : List A) → items ≡ [] → AreFilled f count items 0
none_filled f count items none =
    let all : count - 0 ≡ count = omega arith in
    ap (λ l. l ++ map f (range_with_len 0 (count - 0))) none ∙ ap (λ n. map f (range_with_len 0 n)) all

-- ---- an entry or none for each item

abbrev pub ArePicked : {A B : Type 0} → (A → Option B) → List A → List B → ℕ → Type 0
ArePicked f xs items at = items ++ filter_map f (drop at xs) ≡ filter_map f xs

picked_first : {B : Type 0} (o : Option B) (rest : List B) → cons_option o rest ≡ option_to_list o ++ rest
picked_first None rest = refl
picked_first (Some y) rest = refl

pub one_picked : {A B : Type 0} (f : A → Option B) (xs : List A) (at : ℕ) (x : A) (before after : List B)
    → ArePicked f xs before at → at < length xs → x ≡ get_or xs at x → after ≡ before ++ option_to_list (f x) → ArePicked f xs after (at + 1)
one_picked f xs at x before after so h read made =
    ap (λ l. l ++ filter_map f (drop (at + 1) xs)) made ∙ regrouped before (option_to_list (f x)) (filter_map f (drop (at + 1) xs))
    ∙ ap (λ l. before ++ l) (sym (picked_first (f x) (filter_map f (drop (at + 1) xs))))
    ∙ ap (λ l. before ++ filter_map f l) (sym (drop_at xs at x h read)) ∙ so

pub all_picked : {A B : Type 0} (f : A → Option B) (xs : List A) (at : ℕ) (items : List B) → ArePicked f xs items at → length xs ≤ at → items ≡ filter_map f xs
all_picked f xs at items so h = sym (nothing_behind items) ∙ ap (λ l. items ++ filter_map f l) (sym (drop_all xs at h)) ∙ so

pub none_picked : {A B : Type 0} (f : A → Option B) (xs : List A) (items : List B) → items ≡ [] → ArePicked f xs items 0
none_picked f xs items none = ap (λ l. l ++ filter_map f xs) none
