-- Items of a list changed one after the other, each by its number.
use Rattle.std.proofs.Common.{◌≡◌, ℕ, zero, suc, ◌+◌, ◌<◌, ◌≤◌, List, [], ◌∷◌, length, map, Option, Some, refl, sym, ap, ◌∙◌, arith, IsSome}
use Rattle.std.specs.List.{enumerate_from}
use Rattle.std.proofs.lemmas.List.{length-map}
use Rattle.gp_tree.specs.Plain.{PlainTree, PlainTrees, trees_of, plain, plain_items}
use Rattle.gp_tree.specs.Find.{item_list}
use Rattle.gp_tree.specs.Look.{nth_item}
use Rattle.gp_tree.specs.TreeEdits.{change_nth}
use Rattle.gp_tree.specs.declared.tree.Tree.{Tree}
use Rattle.gp_tree.proofs.Edited.{items_of}
use Rattle.gp_tree.proofs.Inner.{trees_back}
use Rattle.gp_moves.specs.Items.{changed_items}

abbrev Changes : Type 0
Changes = ℕ → PlainTree → PlainTree

-- the first n items changed, where the first of all has the number i
abbrev pub first_changed : Changes → ℕ → ℕ → List PlainTree → List PlainTree
first_changed f i zero ts = ts
first_changed f i (suc n) [] = []
first_changed f i (suc n) (t ∷ ts) = f i t ∷ first_changed f (i + 1) n ts

-- the items with numbers below this one are changed
abbrev pub AreChanged : Changes → PlainTrees → PlainTrees → ℕ → Type 0
AreChanged f before after at = after ≡ trees_of (first_changed f 0 at (item_list before))

pub none_changed : (f : Changes) (before : PlainTrees) → AreChanged f before before 0
none_changed f before = sym (trees_back before)

length_changed : (f : Changes) (i n : ℕ) (ts : List PlainTree) → length (first_changed f i n ts) ≡ length ts
length_changed f i zero ts = refl
length_changed f i (suc n) [] = refl
length_changed f i (suc n) (t ∷ ts) = ap suc (length_changed f (i + 1) n ts)

nth_some : (ts : List PlainTree) (i : ℕ) → i < length ts → IsSome (nth_item (trees_of ts) i)
nth_some [] i h = absurd (let e : i < 0 = h in omega (arith, e))
nth_some (t ∷ ts) zero h = refl
nth_some (t ∷ ts) (suc i) h = nth_some ts i (omega (arith, h))

length_items : (slice : List Tree) → length (item_list (plain_items slice)) ≡ length slice
length_items slice = ap length (items_of (map plain slice)) ∙ length-map slice plain

pub item_there : (f : Changes) (before after : PlainTrees) (slice : List Tree) (count i : ℕ)
    → AreChanged f before after i → plain_items slice ≡ before → count ≡ length slice → i < count → IsSome (nth_item after i)
item_there f before after slice count i changed is counted h =
    let long : length (item_list before) ≡ length slice = ap (λ b. length (item_list b)) (sym is) ∙ length_items slice in
    rw changed (nth_some (first_changed f 0 i (item_list before)) i (rw (length_changed f 0 i (item_list before)) (omega (arith, long, counted, h))))

-- ---- one more

next_in : (f : Changes) (i n : ℕ) (ts : List PlainTree) (t w : PlainTree)
    → nth_item (trees_of (first_changed f i n ts)) n ≡ Some t → w ≡ f (i + n) t
    → change_nth n (λ _. w) (first_changed f i n ts) ≡ first_changed f i (suc n) ts
next_in f i zero [] t w found is = refl
next_in f i zero (s ∷ ts) t w found is =
    let read : s ≡ t = (let n : ◌≡◌ {A = Option PlainTree} (Some s) (Some t) = found in cc) in
    let from : i + 0 ≡ i = omega arith in
    ap (λ u. u ∷ ts) (is ∙ ap (λ k. f k t) from ∙ ap (f i) (sym read))
next_in f i (suc n) [] t w found is = refl
next_in f i (suc n) (s ∷ ts) t w found is =
    let from : i + suc n ≡ i + 1 + n = omega arith in
    ap (λ us. f i s ∷ us) (next_in f (i + 1) n ts t w found (is ∙ ap (λ k. f k t) from))

pub one_more : (f : Changes) (before after : PlainTrees) (i : ℕ) (t w : PlainTree) (next : PlainTrees)
    → AreChanged f before after i → nth_item after i ≡ Some t → w ≡ f i t → next ≡ trees_of (change_nth i (λ _. w) (item_list after))
    → AreChanged f before next (i + 1)
one_more f before after i t w next changed found made is =
    let items : item_list after ≡ first_changed f 0 i (item_list before) = ap item_list changed ∙ items_of (first_changed f 0 i (item_list before)) in
    let read : nth_item (trees_of (first_changed f 0 i (item_list before))) i ≡ Some t = ap (λ ts. nth_item ts i) (sym changed) ∙ found in
    let later : i + 1 ≡ suc i = omega arith in
    let from : i ≡ 0 + i = omega arith in
    is ∙ ap (λ ts. trees_of (change_nth i (λ _. w) ts)) items
    ∙ ap trees_of (next_in f 0 i (item_list before) t w read (made ∙ ap (λ k. f k t) from))
    ∙ ap (λ n. trees_of (first_changed f 0 n (item_list before))) (sym later)

-- ---- all

all_in : (f : Changes) (i n : ℕ) (ts : List PlainTree) → length ts ≤ n → first_changed f i n ts ≡ map (λ (p : ℕ × PlainTree). f p.0 p.1) (enumerate_from i ts)
all_in f i zero [] h = refl
all_in f i zero (t ∷ ts) h = absurd (omega (arith, h))
all_in f i (suc n) [] h = refl
all_in f i (suc n) (t ∷ ts) h = ap (λ us. f i t ∷ us) (all_in f (i + 1) n ts (omega (arith, h)))

pub all_changed : (f : Changes) (before after : PlainTrees) (slice : List Tree) (count i : ℕ)
    → AreChanged f before after i → plain_items slice ≡ before → count ≡ length slice → count ≤ i → after ≡ trees_of (changed_items f (item_list before))
all_changed f before after slice count i changed is counted h =
    let long : length (item_list before) ≡ length slice = ap (λ b. length (item_list b)) (sym is) ∙ length_items slice in
    changed ∙ ap trees_of (all_in f 0 i (item_list before) (omega (arith, long, counted, h)))
