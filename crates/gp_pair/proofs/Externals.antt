-- The files of external buffers, as they are found one after the other.
use Rattle.std.proofs.Common.{◌≡◌, ℕ, zero, suc, ◌+◌, ◌<◌, ◌≤◌, List, [], ◌∷◌, ◌++◌, length, take, map, slice_get, Option, Some, None, option_and_then, refl, sym, ap, ◌∙◌, arith, codes}
use Rattle.gp_tree.specs.Plain.{PlainTree, PlainTrees, null, truth, number, text, list, members, no_items, item as item_of}
use Rattle.gp_tree.specs.Find.{find_member, item_list, array_items}
use Rattle.gp_tree.specs.Look.{item, nth_item, items_len, items_length}
use Rattle.gp_pair.specs.Names.{front_of}
use Rattle.gp_pair.specs.External.{items_of, buffers_of, file_in, files_of}

abbrev Files : Type 0
Files = List (Option (List ℕ))

-- ---- all of them

nth_get : (ts : PlainTrees) (i : ℕ) → nth_item ts i ≡ slice_get (item_list ts) i
nth_get no_items i = refl
nth_get (item_of t ts) zero = refl
nth_get (item_of t ts) (suc i) = nth_get ts i

item_get : (t : PlainTree) (i : ℕ) → item t i ≡ slice_get (array_items t) i
item_get null i = refl
item_get (truth b) i = refl
item_get (number s) i = refl
item_get (text s) i = refl
item_get (list ts) i = nth_get ts i
item_get (members ms) i = refl

length_list : (ts : PlainTrees) → items_length ts ≡ length (item_list ts)
length_list no_items = refl
length_list (item_of t ts) = ap suc (length_list ts)

length_items : (t : PlainTree) → items_len t ≡ length (array_items t)
length_items null = refl
length_items (truth b) = refl
length_items (number s) = refl
length_items (text s) = refl
length_items (list ts) = length_list ts
length_items (members ms) = refl

-- the files of the buffers before this one
abbrev pub AreFirst : List ℕ → PlainTree → Files → ℕ → Type 0
AreFirst front buffers files at = files ≡ take at (map (file_in front) (array_items buffers))

one_more : (front : List ℕ) (ts : List PlainTree) (at : ℕ) → at < length ts
    → take (suc at) (map (file_in front) ts) ≡ take at (map (file_in front) ts) ++ option_and_then (file_in front) (slice_get ts at) ∷ []
one_more front [] at h = absurd (omega (arith, h))
one_more front (t ∷ ts) zero h = refl
one_more front (t ∷ ts) (suc at) h = ap (λ fs. file_in front t ∷ fs) (one_more front ts at (omega (arith, h)))

pub next : (front : List ℕ) (buffers : PlainTree) (files : Files) (file : Option (List ℕ)) (at : ℕ) → AreFirst front buffers files at → at < items_len buffers
    → file ≡ option_and_then (file_in front) (item buffers at) → AreFirst front buffers (files ++ file ∷ []) (at + 1)
next front buffers files file at are h is =
    let later : at + 1 ≡ suc at = omega arith in
    let within : at < length (array_items buffers) = omega (arith, length_items buffers, h) in
    ap (λ fs. fs ++ file ∷ []) are
    ∙ ap (λ f. take at (map (file_in front) (array_items buffers)) ++ f ∷ []) (is ∙ ap (λ o. option_and_then (file_in front) o) (item_get buffers at))
    ∙ sym (one_more front (array_items buffers) at within)
    ∙ ap (λ n. take n (map (file_in front) (array_items buffers))) (sym later)

pushed : {A : Type 0} (f : A → Option (List ℕ)) (old : List A) (x : A) → map f (old ++ x ∷ []) ≡ map f old ++ f x ∷ []
pushed f [] x = refl
pushed f (y ∷ old) x = ap (λ fs. f y ∷ fs) (pushed f old x)

pub next_pushed : {A : Type 0} (f : A → Option (List ℕ)) (front : List ℕ) (buffers : PlainTree) (old new : List A) (x : A) (at : ℕ) → AreFirst front buffers (map f old) at → at < items_len buffers
    → f x ≡ option_and_then (file_in front) (item buffers at) → new ≡ old ++ x ∷ [] → AreFirst front buffers (map f new) (at + 1)
next_pushed f front buffers old new x at are h is longer = ap (λ xs. map f xs) longer ∙ pushed f old x ∙ next front buffers (map f old) (f x) at are h is

all_of : (front : List ℕ) (ts : List PlainTree) (at : ℕ) → length ts ≤ at → take at (map (file_in front) ts) ≡ map (file_in front) ts
all_of front [] zero h = refl
all_of front [] (suc at) h = refl
all_of front (t ∷ ts) zero h = absurd (omega (arith, h))
all_of front (t ∷ ts) (suc at) h = ap (λ fs. file_in front t ∷ fs) (all_of front ts at (omega (arith, h)))

pub whole : (name front : List ℕ) (root buffers : PlainTree) (files : Files) (at : ℕ) → Some buffers ≡ find_member (codes "buffers") root → front ≡ front_of name
    → AreFirst front buffers files at → items_len buffers ≤ at → files ≡ files_of name root
unfolding files_of buffers_of
whole name front root buffers files at found is are h =
    are ∙ all_of front (array_items buffers) at (omega (arith, length_items buffers, h))
    ∙ ap (λ f. map (file_in f) (array_items buffers)) is
    ∙ ap (λ o. map (file_in (front_of name)) (items_of o)) found

pub none : (name : List ℕ) (root : PlainTree) → ◌≡◌ {A = Option PlainTree} None (find_member (codes "buffers") root) → ◌≡◌ {A = List (Option (List ℕ))} [] (files_of name root)
unfolding files_of buffers_of
none name root found = ap (λ o. map (file_in (front_of name)) (items_of o)) found

pub none_of : {A : Type 0} (f : A → Option (List ℕ)) (items : List A) (name : List ℕ) (root : PlainTree) → items ≡ [] → ◌≡◌ {A = Option PlainTree} None (find_member (codes "buffers") root) → map f items ≡ files_of name root
none_of f items name root empty found = ap (λ xs. map f xs) empty ∙ none name root found
