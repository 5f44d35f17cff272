-- Lists of items that are changed by their numbers, or of which some stay, or that get more, as they are read.
use Rattle.std.specs.Prelude.{cond, option_map}
use Rattle.std.specs.List.{enumerate_from}
use Rattle.std.proofs.Common.{◌≡◌, ℕ, suc, ◌+◌, Bool, true, false, List, [], ◌∷◌, ◌++◌, length, map, filter, Option, Some, None, Result, Ok, refl, sym, ap, ◌∙◌, arith}
use Rattle.gp_tree.specs.Lexical.{Each}
use Rattle.gp_tree.specs.Plain.{PlainTree, null, truth, number, text, list, members, trees_of}
use Rattle.gp_tree.specs.Find.{item_list}
use Rattle.gp_tree.specs.TreeEdits.{with_items, and_items}
use Rattle.gp_tree.proofs.Edited.{items_of}
use Rattle.gp_fields.specs.declared.fault.Place.{Place}
use Rattle.gp_fields.specs.declared.fault.FieldFault.{FieldFault}
use Rattle.gp_fields.specs.Shapes.{Shaped, each, list_of}
use Rattle.gp_fields.specs.Record.{items_of_shape}
use Rattle.gp_edits.proofs.ItemsBack.{AreRead, items_are_read, read_items, items_by}
use Rattle.gp_sameness.specs.Survivors.{where_numbered}
use Rattle.gp_packed.proofs.Wider.{each_reads, reads_each}

-- ---- items that are changed by their numbers

pub numbered_reads : {A B : Type 0} (f : Shaped A) (g : Shaped B) (change : ℕ → PlainTree → PlainTree) (value : ℕ → A → B)
    → ((at : ℕ) (t : PlainTree) (a : A) → f t ≡ Some a → g (change at t) ≡ Some (value at a))
    → (n : ℕ) (ts : List PlainTree) (values : List A) → AreRead f ts values
    → AreRead g (map (λ (p : ℕ × PlainTree). change p.0 p.1) (enumerate_from n ts)) (map (λ (p : ℕ × A). value p.0 p.1) (enumerate_from n values))
numbered_reads f g change value one n [] [] h = tt
numbered_reads f g change value one n [] (a ∷ values) h = absurd h
numbered_reads f g change value one n (t ∷ ts) [] h = absurd h
numbered_reads f g change value one n (t ∷ ts) (a ∷ values) h = (one n t a h.0, numbered_reads f g change value one (n + 1) ts values h.1)

-- ---- lists after a change of their items

-- the change makes items that are read as some values into items that are read as others
abbrev pub Rereads : {A B : Type 0} → Shaped A → Shaped B → (List PlainTree → List PlainTree) → List A → List B → Type 0
Rereads f g change values others = (ts : List PlainTree) → AreRead f ts values → AreRead g (change ts) others

pub list_after : {A B : Type 0} (f : Shaped A) (g : Shaped B) (change : List PlainTree → List PlainTree) (values : List A) (others : List B)
    → Rereads f g change values others → (t : PlainTree) → list_of f t ≡ Some values → list_of g (with_items change t) ≡ Some others
list_after f g change values others h null e = absurd (cc)
list_after f g change values others h (truth b) e = absurd (cc)
list_after f g change values others h (number s) e = absurd (cc)
list_after f g change values others h (text s) e = absurd (cc)
list_after f g change values others h (members ms) e = absurd (cc)
list_after f g change values others h (list ts) e =
    ap (each g) (items_of (change (item_list ts))) ∙ reads_each g (change (item_list ts)) others (h (item_list ts) (each_reads f (item_list ts) values e))

items_after : {A B : Type 0} (place : Place) (f : Shaped A) (g : Shaped B) (change : List PlainTree → List PlainTree) (values : List A) (others : List B)
    → Rereads f g change values others → (t : PlainTree) → items_of_shape place f t ≡ Ok values → items_of_shape place g (with_items change t) ≡ Ok others
items_after place f g change values others h null e = absurd (cc)
items_after place f g change values others h (truth b) e = absurd (cc)
items_after place f g change values others h (number s) e = absurd (cc)
items_after place f g change values others h (text s) e = absurd (cc)
items_after place f g change values others h (members ms) e = absurd (cc)
items_after place f g change values others h (list ts) e = read_items place g (change (item_list ts)) others (h (item_list ts) (items_are_read place f ts values e))

-- what is found of a list, where one that isn't there is empty before and after
pub found_after : {A B : Type 0} (place : Place) (f : Shaped A) (g : Shaped B) (change : List PlainTree → List PlainTree) (values : List A) (others : List B)
    → Rereads f g change values others → (values ≡ [] → others ≡ []) → (found : Option PlainTree) → items_by place f found ≡ Ok values
    → items_by place g (option_map (with_items change) found) ≡ Ok others
found_after {A} place f g change values others h empty None e =
    let e' : ◌≡◌ {A = Result (List A) FieldFault} (Ok []) (Ok values) = e in
    let none : [] ≡ values = cc in
    ap Ok (sym (empty (sym none)))
found_after place f g change values others h empty (Some t) e = items_after place f g change values others h t e

-- ---- more items behind those of a changed list

more_after : (change : List PlainTree → List PlainTree) (more : List PlainTree) (t : PlainTree) → and_items more (with_items change t) ≡ with_items (λ ts. change ts ++ more) t
more_after change more null = refl
more_after change more (truth b) = refl
more_after change more (number s) = refl
more_after change more (text s) = refl
more_after change more (members ms) = refl
more_after change more (list ts) = ap (λ l. list (trees_of (l ++ more))) (items_of (change (item_list ts)))

pub found_more : (change : List PlainTree → List PlainTree) (more : List PlainTree) (found : Option PlainTree)
    → option_map (λ t. and_items more (with_items change t)) found ≡ option_map (with_items (λ ts. change ts ++ more)) found
found_more change more None = refl
found_more change more (Some t) = ap Some (more_after change more t)

pub reads_append : {A : Type 0} (f : Shaped A) (ts us : List PlainTree) (values others : List A) → AreRead f ts values → AreRead f us others → AreRead f (ts ++ us) (values ++ others)
reads_append f [] us [] others h g = g
reads_append f [] us (a ∷ values) others h g = absurd h
reads_append f (t ∷ ts) us [] others h g = absurd h
reads_append f (t ∷ ts) us (a ∷ values) others h g = (h.0, reads_append f ts us values others h.1 g)

-- ---- items whose numbers pass

abbrev passing_from : {A : Type 0} → (ℕ → Bool) → ℕ → List A → List A
passing_from {A} test n items = map (λ (p : ℕ × A). p.1) (filter (λ (p : ℕ × A). test p.0) (enumerate_from n items))

passing_step : {A : Type 0} (f : Shaped A) (b : Bool) (n : ℕ) (t : PlainTree) (a : A) (ts : List (ℕ × PlainTree)) (values : List (ℕ × A)) → f t ≡ Some a
    → AreRead f (map (λ (p : ℕ × PlainTree). p.1) ts) (map (λ (p : ℕ × A). p.1) values)
    → AreRead f (map (λ (p : ℕ × PlainTree). p.1) (cond b ((n, t) ∷ ts) ts)) (map (λ (p : ℕ × A). p.1) (cond b ((n, a) ∷ values) values))
passing_step f true n t a ts values e h = (e, h)
passing_step f false n t a ts values e h = h

passing_reads : {A : Type 0} (test : ℕ → Bool) (f : Shaped A) (n : ℕ) (ts : List PlainTree) (values : List A) → AreRead f ts values
    → AreRead f (passing_from test n ts) (passing_from test n values)
passing_reads test f n [] [] h = tt
passing_reads test f n [] (a ∷ values) h = absurd h
passing_reads test f n (t ∷ ts) [] h = absurd h
passing_reads {A} test f n (t ∷ ts) (a ∷ values) h =
    passing_step f (test n) n t a (filter (λ (p : ℕ × PlainTree). test p.0) (enumerate_from (n + 1) ts)) (filter (λ (p : ℕ × A). test p.0) (enumerate_from (n + 1) values)) h.0
    (passing_reads test f (n + 1) ts values h.1)

pub where_reads : {A : Type 0} (test : ℕ → Bool) (f : Shaped A) (ts : List PlainTree) (values : List A) → AreRead f ts values → AreRead f (where_numbered test ts) (where_numbered test values)
where_reads test f ts values h = passing_reads test f 0 ts values h

-- of lists of one length as many pass
count_step : {A B : Type 0} (b : Bool) (n : ℕ) (x : A) (y : B) (xs : List (ℕ × A)) (ys : List (ℕ × B)) → length (map (λ (p : ℕ × A). p.1) xs) ≡ length (map (λ (p : ℕ × B). p.1) ys)
    → length (map (λ (p : ℕ × A). p.1) (cond b ((n, x) ∷ xs) xs)) ≡ length (map (λ (p : ℕ × B). p.1) (cond b ((n, y) ∷ ys) ys))
count_step true n x y xs ys e = ap suc e
count_step false n x y xs ys e = e

passing_count : {A B : Type 0} (test : ℕ → Bool) (n : ℕ) (xs : List A) (ys : List B) → length xs ≡ length ys → length (passing_from test n xs) ≡ length (passing_from test n ys)
passing_count test n [] [] e = refl
passing_count test n [] (y ∷ ys) e = absurd (omega (arith, e))
passing_count test n (x ∷ xs) [] e = absurd (omega (arith, e))
passing_count {A} {B} test n (x ∷ xs) (y ∷ ys) e =
    count_step (test n) n x y (filter (λ (p : ℕ × A). test p.0) (enumerate_from (n + 1) xs)) (filter (λ (p : ℕ × B). test p.0) (enumerate_from (n + 1) ys))
    (passing_count test (n + 1) xs ys (omega (arith, e)))

pub where_count : {A B : Type 0} (test : ℕ → Bool) (xs : List A) (ys : List B) → length xs ≡ length ys → length (where_numbered test xs) ≡ length (where_numbered test ys)
where_count test xs ys e = passing_count test 0 xs ys e

-- what holds of each holds of those that pass
each_step : {A : Type 0} (P : A → Type 0) (b : Bool) (n : ℕ) (x : A) (xs : List (ℕ × A)) → P x → Each P (map (λ (p : ℕ × A). p.1) xs) → Each P (map (λ (p : ℕ × A). p.1) (cond b ((n, x) ∷ xs) xs))
each_step P true n x xs here h = (here, h)
each_step P false n x xs here h = h

passing_each : {A : Type 0} (P : A → Type 0) (test : ℕ → Bool) (n : ℕ) (xs : List A) → Each P xs → Each P (passing_from test n xs)
passing_each P test n [] h = tt
passing_each {A} P test n (x ∷ xs) h =
    each_step P (test n) n x (filter (λ (p : ℕ × A). test p.0) (enumerate_from (n + 1) xs)) h.0 (passing_each P test (n + 1) xs h.1)

pub where_each : {A : Type 0} (P : A → Type 0) (test : ℕ → Bool) (xs : List A) → Each P xs → Each P (where_numbered test xs)
where_each P test xs h = passing_each P test 0 xs h
