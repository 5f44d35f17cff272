-- Items of a list changed by their numbers, dropped and appended, one change after the other.
use Rattle.std.proofs.Common.{◌≡◌, ℕ, zero, suc, ◌+◌, Bool, true, false, List, [], ◌∷◌, ◌++◌, length, take, slice_get, map, filter, Option, Some, None, refl, sym, ap, ap₂, ◌∙◌, subst, arith}
use Rattle.std.specs.List.{enumerate_from}
use Rattle.gp_tree.specs.Plain.{PlainTree, PlainTrees, null, truth, number, text, list, members, no_items, item, trees_of}
use Rattle.gp_tree.specs.Sound.{HasDistinctKeys, ItemsHaveDistinctKeys}
use Rattle.gp_tree.specs.Find.{item_list, array_items}
use Rattle.gp_tree.specs.TreeEdits.{with_items}
use Rattle.gp_tree.proofs.Inner.{trees_back}
use Rattle.gp_tree.proofs.Edited.{items_of}
use Rattle.gp_sameness.specs.Survivors.{where_numbered}

-- ---- changes of a list

pub items_joined : (f g : List PlainTree → List PlainTree) (t : PlainTree) → with_items f (with_items g t) ≡ with_items (λ ts. f (g ts)) t
items_joined f g null = refl
items_joined f g (truth b) = refl
items_joined f g (number s) = refl
items_joined f g (text s) = refl
items_joined f g (members ms) = refl
items_joined f g (list ts) = ap (λ us. list (trees_of (f us))) (items_of (g (item_list ts)))

pub items_agree : (f g : List PlainTree → List PlainTree) (t : PlainTree) → f (array_items t) ≡ g (array_items t) → with_items f t ≡ with_items g t
items_agree f g null e = refl
items_agree f g (truth b) e = refl
items_agree f g (number s) e = refl
items_agree f g (text s) e = refl
items_agree f g (members ms) e = refl
items_agree f g (list ts) e = ap (λ us. list (trees_of us)) e

pub items_stay : (f : List PlainTree → List PlainTree) (t : PlainTree) → f (array_items t) ≡ array_items t → with_items f t ≡ t
items_stay f null e = refl
items_stay f (truth b) e = refl
items_stay f (number s) e = refl
items_stay f (text s) e = refl
items_stay f (members ms) e = refl
items_stay f (list ts) e = ap (λ us. list (trees_of us)) e ∙ ap list (trees_back ts)

-- each item has distinct keys
abbrev pub AreDistinctItems : List PlainTree → Type 0
AreDistinctItems [] = Unit {0}
AreDistinctItems (t ∷ ts) = HasDistinctKeys t × AreDistinctItems ts

items_distinct : (ts : PlainTrees) → ItemsHaveDistinctKeys ts → AreDistinctItems (item_list ts)
items_distinct no_items h = tt
items_distinct (item t ts) h = (h.0, items_distinct ts h.1)

pub array_distinct : (t : PlainTree) → HasDistinctKeys t → AreDistinctItems (array_items t)
array_distinct null h = tt
array_distinct (truth b) h = tt
array_distinct (number s) h = tt
array_distinct (text s) h = tt
array_distinct (members ms) h = tt
array_distinct (list ts) h = items_distinct ts h

pub item_distinct : (ts : List PlainTree) (i : ℕ) (t : PlainTree) → AreDistinctItems ts → slice_get ts i ≡ Some t → HasDistinctKeys t
item_distinct [] i t h e = absurd (let x : ◌≡◌ {A = Option PlainTree} None (Some t) = e in cc)
item_distinct (u ∷ ts) zero t h e = let s : u ≡ t = (let x : ◌≡◌ {A = Option PlainTree} (Some u) (Some t) = e in cc) in subst HasDistinctKeys s h.0
item_distinct (u ∷ ts) (suc i) t h e = item_distinct ts i t h.1 e

-- ---- each by its number

abbrev pub from : ℕ → (ℕ → PlainTree → PlainTree) → List PlainTree → List PlainTree
from n change ts = map (λ (p : ℕ × PlainTree). change p.0 p.1) (enumerate_from n ts)

-- items that a change appends past the count are dropped again, and a change that another one hides leaves nothing
hidden_from : (n : ℕ) (f g h : ℕ → PlainTree → PlainTree) (ts more : List PlainTree) → AreDistinctItems ts
    → ((at : ℕ) (t : PlainTree) → HasDistinctKeys t → f at (g at (h at t)) ≡ f at (g at t))
    → from n f (take (length ts) (from n g (from n h ts ++ more))) ≡ from n f (from n g ts)
hidden_from n f g h [] more d same = refl
hidden_from n f g h (t ∷ ts) more d same = ap₂ (λ u us. u ∷ us) (same n t d.0) (hidden_from (n + 1) f g h ts more d.1 same)

pub hidden : (count : ℕ) (f g h : ℕ → PlainTree → PlainTree) (ts more : List PlainTree) → length ts ≡ count → AreDistinctItems ts
    → ((at : ℕ) (t : PlainTree) → HasDistinctKeys t → f at (g at (h at t)) ≡ f at (g at t))
    → from 0 f (take count (from 0 g (from 0 h ts ++ more))) ≡ from 0 f (from 0 g ts)
hidden count f g h ts more long d same = ap (λ n. from 0 f (take n (from 0 g (from 0 h ts ++ more)))) (sym long) ∙ hidden_from 0 f g h ts more d same

-- a change that another one undoes
undone_from : (n : ℕ) (f g : ℕ → PlainTree → PlainTree) (ts : List PlainTree)
    → ((i : ℕ) (t : PlainTree) → slice_get ts i ≡ Some t → f (n + i) (g (n + i) t) ≡ t)
    → from n f (from n g ts) ≡ ts
undone_from n f g [] same = refl
undone_from n f g (t ∷ ts) same =
    let here : n + 0 ≡ n = omega arith in
    let first : f n (g n t) ≡ t = subst (λ k. f k (g k t) ≡ t) here (same 0 t refl) in
    ap₂ (λ u us. u ∷ us) first (undone_from (n + 1) f g ts (λ i u e. let next : n + suc i ≡ (n + 1) + i = omega arith in subst (λ k. f k (g k u) ≡ u) next (same (suc i) u e)))

pub undone : (f g : ℕ → PlainTree → PlainTree) (ts : List PlainTree) → ((i : ℕ) (t : PlainTree) → slice_get ts i ≡ Some t → f i (g i t) ≡ t)
    → from 0 f (from 0 g ts) ≡ ts
undone f g ts same = undone_from 0 f g ts (λ i t e. let here : 0 + i ≡ i = omega arith in subst (λ k. f k (g k t) ≡ t) (sym here) (same i t e))

-- ---- the first of them

first_kept : (f : PlainTree → PlainTree) (ts more : List PlainTree) → take (length ts) (map f (ts ++ more)) ≡ map f ts
first_kept f [] more = refl
first_kept f (t ∷ ts) more = ap (λ us. f t ∷ us) (first_kept f ts more)

pub first_are : (count : ℕ) (f : PlainTree → PlainTree) (ts more : List PlainTree) → length ts ≡ count → take count (map f (ts ++ more)) ≡ map f ts
first_are count f ts more long = ap (λ n. take n (map f (ts ++ more))) (sym long) ∙ first_kept f ts more

-- ---- those whose numbers pass

abbrev passing : {A : Type 0} → (ℕ → Bool) → ℕ → List A → List A
passing {A} test n items = map (λ (p : ℕ × A). p.1) (filter (λ (p : ℕ × A). test p.0) (enumerate_from n items))

passing_step : {A B : Type 0} (b : Bool) (test : ℕ → Bool) (n : ℕ) (x : A) (xs : List A) (y : B) (ys : List B) → test n ≡ b
    → length (passing test (n + 1) xs) ≡ length (passing test (n + 1) ys) → length (passing test n (x ∷ xs)) ≡ length (passing test n (y ∷ ys))
passing_step true test n x xs y ys e ih = rw e (ap suc ih)
passing_step false test n x xs y ys e ih = rw e ih

passing_long : {A B : Type 0} (test : ℕ → Bool) (n : ℕ) (xs : List A) (ys : List B) → length xs ≡ length ys → length (passing test n xs) ≡ length (passing test n ys)
passing_long test n [] [] e = refl
passing_long test n [] (y ∷ ys) e = absurd (omega (arith, e))
passing_long test n (x ∷ xs) [] e = absurd (omega (arith, e))
passing_long test n (x ∷ xs) (y ∷ ys) e = passing_step (test n) test n x xs y ys refl (passing_long test (n + 1) xs ys (omega (arith, e)))

-- as many of two lists that are equally long
pub numbered_long : {A B : Type 0} (test : ℕ → Bool) (xs : List A) (ys : List B) → length xs ≡ length ys → length (where_numbered test xs) ≡ length (where_numbered test ys)
numbered_long test xs ys e = passing_long test 0 xs ys e

-- what passes has distinct keys too
passing_distinct_step : (b : Bool) (test : ℕ → Bool) (n : ℕ) (t : PlainTree) (ts : List PlainTree) → test n ≡ b → HasDistinctKeys t
    → AreDistinctItems (passing test (n + 1) ts) → AreDistinctItems (passing test n (t ∷ ts))
passing_distinct_step true test n t ts e h ih = rw e (h, ih)
passing_distinct_step false test n t ts e h ih = rw e ih

passing_distinct : (test : ℕ → Bool) (n : ℕ) (ts : List PlainTree) → AreDistinctItems ts → AreDistinctItems (passing test n ts)
passing_distinct test n [] h = tt
passing_distinct test n (t ∷ ts) h = passing_distinct_step (test n) test n t ts refl h.0 (passing_distinct test (n + 1) ts h.1)

pub numbered_distinct : (test : ℕ → Bool) (ts : List PlainTree) → AreDistinctItems ts → AreDistinctItems (where_numbered test ts)
numbered_distinct test ts h = passing_distinct test 0 ts h
