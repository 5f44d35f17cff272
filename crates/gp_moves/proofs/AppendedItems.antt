-- Items put behind those of a list, one after the other.
use Rattle.std.proofs.Common.{◌≡◌, ℕ, zero, suc, ◌+◌, ◌≤◌, List, [], ◌∷◌, ◌++◌, length, take, slice_get, Option, Some, None, refl, sym, ap, ◌∙◌, arith}
use Rattle.gp_tree.specs.Plain.{PlainTree, null, truth, number, text, list, members, trees_of}
use Rattle.gp_tree.specs.Find.{item_list}
use Rattle.gp_tree.specs.TreeEdits.{and_items}
use Rattle.gp_tree.proofs.Edited.{items_of}
use Rattle.gp_tree.proofs.Inner.{trees_back}

-- the first n stand behind those of the list
abbrev pub AreAppended : List PlainTree → PlainTree → PlainTree → ℕ → Type 0
AreAppended more before after n = after ≡ and_items (take n more) before

append_none : (ts : List PlainTree) → ts ++ [] ≡ ts
append_none [] = refl
append_none (t ∷ ts) = ap (λ us. t ∷ us) (append_none ts)

append_twice : (ts us vs : List PlainTree) → (ts ++ us) ++ vs ≡ ts ++ (us ++ vs)
append_twice [] us vs = refl
append_twice (t ∷ ts) us vs = ap (λ ws. t ∷ ws) (append_twice ts us vs)

none_more : (t : PlainTree) → t ≡ and_items [] t
none_more null = refl
none_more (truth b) = refl
none_more (number s) = refl
none_more (text s) = refl
none_more (list ts) = ap list (sym (trees_back ts) ∙ ap trees_of (sym (append_none (item_list ts))))
none_more (members ms) = refl

pub none_appended : (more : List PlainTree) (t : PlainTree) → AreAppended more t t 0
none_appended more t = none_more t

both : (xs ys : List PlainTree) (t : PlainTree) → and_items ys (and_items xs t) ≡ and_items (xs ++ ys) t
both xs ys null = refl
both xs ys (truth b) = refl
both xs ys (number s) = refl
both xs ys (text s) = refl
both xs ys (list ts) = ap (λ l. list (trees_of (l ++ ys))) (items_of (item_list ts ++ xs)) ∙ ap (λ l. list (trees_of l)) (append_twice (item_list ts) xs ys)
both xs ys (members ms) = refl

take_more : (xs : List PlainTree) (i : ℕ) (x : PlainTree) → slice_get xs i ≡ Some x → take i xs ++ x ∷ [] ≡ take (suc i) xs
take_more [] i x e = absurd (let n : ◌≡◌ {A = Option PlainTree} None (Some x) = e in cc)
take_more (y ∷ xs) zero x e = let n : ◌≡◌ {A = Option PlainTree} (Some y) (Some x) = e in let s : y ≡ x = cc in ap (λ z. z ∷ []) (sym s)
take_more (y ∷ xs) (suc i) x e = ap (λ l. y ∷ l) (take_more xs i x e)

pub one_appended : (more : List PlainTree) (before t next x : PlainTree) (i : ℕ)
    → AreAppended more before t i → slice_get more i ≡ Some x → next ≡ and_items (x ∷ []) t → AreAppended more before next (i + 1)
one_appended more before t next x i so there is =
    let later : i + 1 ≡ suc i = omega arith in
    is ∙ ap (and_items (x ∷ [])) so ∙ both (take i more) (x ∷ []) before ∙ ap (λ l. and_items l before) (take_more more i x there)
    ∙ ap (λ n. and_items (take n more) before) (sym later)

take_all : (xs : List PlainTree) (n : ℕ) → length xs ≤ n → take n xs ≡ xs
take_all [] zero h = refl
take_all [] (suc n) h = refl
take_all (x ∷ xs) zero h = absurd (omega (arith, h))
take_all (x ∷ xs) (suc n) h = ap (λ l. x ∷ l) (take_all xs n (omega (arith, h)))

pub all_appended : (more : List PlainTree) (before after : PlainTree) (count i : ℕ)
    → AreAppended more before after i → count ≡ length more → count ≤ i → after ≡ and_items more before
all_appended more before after count i so counted h = so ∙ ap (λ l. and_items l before) (take_all more i (omega (arith, counted, h)))
