-- Changes made in the items of a list, one after the other.
use Rattle.std.proofs.Common.{◌≡◌, ℕ, zero, suc, ◌+◌, ◌<◌, ◌≤◌, min, List, [], ◌∷◌, length, take, slice_get, Option, Some, None, refl, sym, ap, ◌∙◌, arith, IsSome, IfSome, map}
use Rattle.std.proofs.lemmas.List.{length-map}
use Rattle.gp_tree.specs.Plain.{PlainTree, PlainTrees, trees_of, plain, plain_items}
use Rattle.gp_tree.specs.Find.{item_list}
use Rattle.gp_tree.specs.Look.{nth_item}
use Rattle.gp_tree.specs.TreeEdits.{change_nth}
use Rattle.gp_tree.specs.declared.tree.Tree.{Tree}
use Rattle.gp_tree.proofs.Edited.{items_of}
use Rattle.gp_tree.proofs.Inner.{trees_back}
use Rattle.gp_edits.specs.Changes.{change_each, applied}

abbrev Change : Type 0
Change = PlainTree → PlainTree

-- the changes with numbers below this one were made
abbrev pub AreChanged : List Change → PlainTrees → PlainTrees → ℕ → Type 0
AreChanged edits before after at = after ≡ trees_of (change_each applied (take at edits) (item_list before))

length_changed : (es : List Change) (ts : List PlainTree) → length (change_each applied es ts) ≡ length ts
length_changed [] ts = refl
length_changed (e ∷ es) [] = refl
length_changed (e ∷ es) (t ∷ ts) = ap suc (length_changed es ts)

nth_some : (ts : List PlainTree) (i : ℕ) → i < length ts → IsSome (nth_item (trees_of ts) i)
nth_some [] i h = absurd (let e : i < 0 = h in omega (arith, e))
nth_some (t ∷ ts) zero h = refl
nth_some (t ∷ ts) (suc i) h = nth_some ts i (omega (arith, h))

pub item_there : (es : List Change) (before after : PlainTrees) (i : ℕ) → AreChanged es before after i → i < length (item_list before) → IsSome (nth_item after i)
item_there es before after i changed h = rw changed (nth_some (change_each applied (take i es) (item_list before)) i (rw (length_changed (take i es) (item_list before)) h))

length_items : (slice : List Tree) → length (item_list (plain_items slice)) ≡ length slice
length_items slice = ap length (items_of (map plain slice)) ∙ length-map slice plain

pub within : (slice : List Tree) (before : PlainTrees) (count most i : ℕ) → plain_items slice ≡ before → most ≡ min count (length slice) → i < most → i < length (item_list before)
within slice before count most i is least h = rw (sym is, length_items slice) (omega (arith, least, h))

pub below : (es : List Change) (count slice most i : ℕ) → length es ≡ count → most ≡ min count slice → i < most → i < length es
below es count slice most i counted least h = omega (arith, counted, least, h)

-- ---- one more

next_in : (es : List Change) (ts : List PlainTree) (i : ℕ) (e : Change) (t w : PlainTree)
    → slice_get es i ≡ Some e → nth_item (trees_of (change_each applied (take i es) ts)) i ≡ Some t → w ≡ e t
    → change_nth i (λ _. w) (change_each applied (take i es) ts) ≡ change_each applied (take (suc i) es) ts
next_in [] ts i e t w there found is = absurd (let n : ◌≡◌ {A = Option Change} None (Some e) = there in cc)
next_in (f ∷ es) [] zero e t w there found is = absurd (let n : ◌≡◌ {A = Option PlainTree} None (Some t) = found in cc)
next_in (f ∷ es) [] (suc i) e t w there found is = refl
next_in (f ∷ es) (s ∷ ts) zero e t w there found is =
    let same : f ≡ e = (let n : ◌≡◌ {A = Option Change} (Some f) (Some e) = there in cc) in
    let read : s ≡ t = (let n : ◌≡◌ {A = Option PlainTree} (Some s) (Some t) = found in cc) in
    ap (λ u. u ∷ ts) (is ∙ ap e (sym read) ∙ ap (λ g. g s) (sym same))
next_in (f ∷ es) (s ∷ ts) (suc i) e t w there found is = ap (λ us. f s ∷ us) (next_in es ts i e t w there found is)

not_past : (es : List Change) (i : ℕ) → i < length es → slice_get es i ≡ None → ⊥
not_past [] i h none = omega (arith, h)
not_past (e ∷ es) zero h none = let n : ◌≡◌ {A = Option Change} (Some e) None = none in cc
not_past (e ∷ es) (suc i) h none = not_past es i (omega (arith, h)) none

pub one_more : (es : List Change) (before after : PlainTrees) (i : ℕ) (t w : PlainTree) (next : PlainTrees)
    → AreChanged es before after i → nth_item after i ≡ Some t → IfSome (slice_get es i) (λ change. w ≡ change t) → i < length es
    → next ≡ trees_of (change_nth i (λ _. w) (item_list after)) → AreChanged es before next (i + 1)
one_more es before after i t w next changed found made within is = by_edit (slice_get es i) refl made
  where
    by_edit : (o : Option Change) → slice_get es i ≡ o → IfSome o (λ change. w ≡ change t) → AreChanged es before next (i + 1)
    by_edit None there made = absurd (not_past es i within there)
    by_edit (Some f) there made =
        let items : item_list after ≡ change_each applied (take i es) (item_list before) = ap item_list changed ∙ items_of (change_each applied (take i es) (item_list before)) in
        let read : nth_item (trees_of (change_each applied (take i es) (item_list before))) i ≡ Some t = ap (λ ts. nth_item ts i) (sym changed) ∙ found in
        let later : i + 1 ≡ suc i = omega arith in
        is ∙ ap (λ ts. trees_of (change_nth i (λ _. w) ts)) items ∙ ap trees_of (next_in es (item_list before) i f t w there read made)
        ∙ ap (λ n. trees_of (change_each applied (take n es) (item_list before))) (sym later)

-- ---- all

all_in : (es : List Change) (ts : List PlainTree) (n : ℕ) → min (length es) (length ts) ≤ n → change_each applied (take n es) ts ≡ change_each applied es ts
all_in [] ts zero h = refl
all_in [] ts (suc n) h = refl
all_in (e ∷ es) [] zero h = refl
all_in (e ∷ es) [] (suc n) h = refl
all_in (e ∷ es) (t ∷ ts) zero h = absurd (omega (arith, h))
all_in (e ∷ es) (t ∷ ts) (suc n) h = ap (λ us. e t ∷ us) (all_in es ts n (omega (arith, h)))

pub all_changed : (es : List Change) (before after : PlainTrees) (slice : List Tree) (count most i : ℕ)
    → AreChanged es before after i → plain_items slice ≡ before → length es ≡ count → most ≡ min count (length slice) → most ≤ i
    → after ≡ trees_of (change_each applied es (item_list before))
all_changed es before after slice count most i changed is counted least h =
    let long : length (item_list before) ≡ length slice = ap (λ b. length (item_list b)) (sym is) ∙ length_items slice in
    changed ∙ ap trees_of (all_in es (item_list before) i (omega (arith, long, counted, least, h)))

pub none_changed : (es : List Change) (before : PlainTrees) → AreChanged es before before 0
none_changed es before = sym (trees_back before)
