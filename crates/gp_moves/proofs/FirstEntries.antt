-- A table of first entries, made from the last entry on, and lists gone through by place.
use Rattle.std.specs.Prelude.{cond, ◌==◌, find, option_map, flat_map}
use Rattle.std.specs.List.{range_with_len, enumerate_from}
use Rattle.std.proofs.Common.{◌≡◌, ℕ, zero, suc, ◌+◌, ◌-◌, ◌<◌, ◌≤◌, false, List, [], ◌∷◌, ◌++◌, length, map, get_or, drop, replicate, slice_set, slice_get, Option, Some, None, refl, sym, ap, ◌∙◌, arith}
use Rattle.std.proofs.lemmas.Bool.{eq-eqb}
use Rattle.std.proofs.lemmas.Bool.Decides.{nat_tests}
use Rattle.gp_moves.specs.declared.firsts.Entry.{Entry}
use Rattle.gp_moves.specs.Firsts.{first_value, first_values}

-- ---- lists gone through by place

pub drop_at : {A : Type 0} (xs : List A) (i : ℕ) (x : A) → i < length xs → x ≡ get_or xs i x → drop i xs ≡ x ∷ drop (i + 1) xs
drop_at [] i x h e = absurd (omega (arith, h))
drop_at (y ∷ xs) zero x h e = ap (λ z. z ∷ xs) (sym e)
drop_at (y ∷ xs) (suc i) x h e = let later : suc i + 1 ≡ suc (i + 1) = omega arith in rw later (drop_at xs i x (omega (arith, h)) e)

drop_got : {A : Type 0} (xs : List A) (i : ℕ) (x : A) → slice_get xs i ≡ Some x → drop i xs ≡ x ∷ drop (i + 1) xs
drop_got {A} [] i x e = absurd (let n : ◌≡◌ {A = Option A} None (Some x) = e in cc)
drop_got {A} (y ∷ xs) zero x e = let n : ◌≡◌ {A = Option A} (Some y) (Some x) = e in let s : y ≡ x = cc in ap (λ z. z ∷ xs) s
drop_got (y ∷ xs) (suc i) x e = let later : suc i + 1 ≡ suc (i + 1) = omega arith in rw later (drop_got xs i x e)

-- a read with another default
pub read_again : (xs : List ℕ) (i d e : ℕ) → i < length xs → get_or xs i d ≡ get_or xs i e
read_again [] i d e h = absurd (omega (arith, h))
read_again (x ∷ xs) zero d e h = refl
read_again (x ∷ xs) (suc i) d e h = read_again xs i d e (omega (arith, h))

pub drop_all : {A : Type 0} (xs : List A) (i : ℕ) → length xs ≤ i → drop i xs ≡ []
drop_all [] zero h = refl
drop_all [] (suc i) h = refl
drop_all (x ∷ xs) zero h = absurd (omega (arith, h))
drop_all (x ∷ xs) (suc i) h = drop_all xs i (omega (arith, h))

pub nothing_behind : {A : Type 0} (xs : List A) → xs ++ [] ≡ xs
nothing_behind [] = refl
nothing_behind (x ∷ xs) = ap (λ l. x ∷ l) (nothing_behind xs)

pub regrouped : {A : Type 0} (xs ys zs : List A) → (xs ++ ys) ++ zs ≡ xs ++ (ys ++ zs)
regrouped [] ys zs = refl
regrouped (x ∷ xs) ys zs = ap (λ l. x ∷ l) (regrouped xs ys zs)

-- ---- one entry more in front

own_value : (e : Entry) (es : List Entry) (at : ℕ) → e.number ≡ at → first_value (e ∷ es) at ≡ Some e.value
own_value e es at h = ap (λ b. option_map (λ (x : Entry). x.value) (cond b (Some e) (find (λ (x : Entry). x.number == at) es))) (eq-eqb e.number at h)

other_value : (e : Entry) (es : List Entry) (at : ℕ) → (e.number == at) ≡ false → first_value (e ∷ es) at ≡ first_value es at
other_value e es at h = ap (λ b. option_map (λ (x : Entry). x.value) (cond b (Some e) (find (λ (x : Entry). x.number == at) es))) h

not_before : (n at : ℕ) → n < at → (n == at) ≡ false
not_before n at h = grind (arith, nat_tests, h)

not_behind : (n at k : ℕ) → n ≡ at + suc k → (n == at) ≡ false
not_behind n at k h = grind (arith, nat_tests, h)

above_stay : (e : Entry) (es : List Entry) (a n : ℕ) → e.number < a → map (first_value es) (range_with_len a n) ≡ map (first_value (e ∷ es)) (range_with_len a n)
above_stay e es a zero h = refl
above_stay e es a (suc n) h =
    ap (λ v. v ∷ map (first_value es) (range_with_len (a + 1) n)) (sym (other_value e es a (not_before e.number a h)))
    ∙ ap (λ l. first_value (e ∷ es) a ∷ l) (above_stay e es (a + 1) n (omega (arith, h)))

put_first : (e : Entry) (es : List Entry) (a n j : ℕ) → e.number ≡ a + j
    → slice_set (map (first_value es) (range_with_len a n)) j (Some e.value) ≡ map (first_value (e ∷ es)) (range_with_len a n)
put_first e es a zero zero h = refl
put_first e es a zero (suc j) h = refl
put_first e es a (suc n) zero h =
    let here : e.number ≡ a = omega (arith, h) in
    ap (λ v. v ∷ map (first_value es) (range_with_len (a + 1) n)) (sym (own_value e es a here))
    ∙ ap (λ l. first_value (e ∷ es) a ∷ l) (above_stay e es (a + 1) n (omega (arith, here)))
put_first e es a (suc n) (suc j) h =
    ap (λ v. v ∷ slice_set (map (first_value es) (range_with_len (a + 1) n)) j (Some e.value)) (sym (other_value e es a (not_behind e.number a j h)))
    ∙ ap (λ l. first_value (e ∷ es) a ∷ l) (put_first e es (a + 1) n j (omega (arith, h)))

none_first : (a n : ℕ) → replicate n None ≡ map (first_value []) (range_with_len a n)
none_first a zero = refl
none_first a (suc n) = ap (λ l. None ∷ l) (none_first (a + 1) n)

-- ---- the loop

-- the last entries are in the table
abbrev pub ArePut : List Entry → ℕ → List (Option ℕ) → ℕ → Type 0
ArePut entries count values done = values ≡ first_values (drop (length entries - done) entries) count

pub none_put : (entries : List Entry) (count : ℕ) → ArePut entries count (replicate count None) 0
none_put entries count =
    none_first 0 count ∙ ap (λ es. map (first_value es) (range_with_len 0 count)) (sym (drop_all entries (length entries - 0) (omega arith)))

pub one_put : (entries : List Entry) (count : ℕ) (values after : List (Option ℕ)) (done : ℕ) (e : Entry)
    → ArePut entries count values done → done < length entries → slice_get entries (length entries - 1 - done) ≡ Some e
    → after ≡ slice_set values e.number (Some e.value) → ArePut entries count after (done + 1)
one_put entries count values after done e so h read made =
    let at : length entries - (done + 1) ≡ length entries - 1 - done = omega (arith, h) in
    let next : length entries - 1 - done + 1 ≡ length entries - done = omega (arith, h) in
    let front = drop_got entries (length entries - 1 - done) e read in
    made ∙ ap (λ vs. slice_set vs e.number (Some e.value)) so
    ∙ put_first e (drop (length entries - done) entries) 0 count e.number (omega arith)
    ∙ ap (λ es. first_values es count) (sym (ap (λ k. drop k entries) at ∙ front ∙ ap (λ k. e ∷ drop k entries) next))

pub all_put : (entries : List Entry) (count : ℕ) (values : List (Option ℕ)) (done : ℕ) → ArePut entries count values done → length entries ≤ done → values ≡ first_values entries count
all_put entries count values done so h =
    let none : length entries - done ≡ 0 = omega (arith, h) in
    so ∙ ap (λ k. first_values (drop k entries) count) none

-- past the end of a table
pub put_past : (values : List (Option ℕ)) (at : ℕ) (v : Option ℕ) → length values ≤ at → values ≡ slice_set values at v
put_past [] at v h = refl
put_past (x ∷ values) zero v h = absurd (omega (arith, h))
put_past (x ∷ values) (suc at) v h = ap (λ l. x ∷ l) (put_past values at v (omega (arith, h)))

-- ---- the entries of groups

pub one_entry : {A B : Type 0} (f : A → B) (old before after : List B) (numbers : List A) (i : ℕ) (x : A)
    → before ++ map f (drop i numbers) ≡ old ++ map f numbers → i < length numbers → x ≡ get_or numbers i x → after ≡ before ++ f x ∷ []
    → after ++ map f (drop (i + 1) numbers) ≡ old ++ map f numbers
one_entry f old before after numbers i x so h read made =
    ap (λ l. l ++ map f (drop (i + 1) numbers)) made ∙ regrouped before (f x ∷ []) (map f (drop (i + 1) numbers))
    ∙ ap (λ l. before ++ map f l) (sym (drop_at numbers i x h read)) ∙ so

pub all_entries : {A B : Type 0} (f : A → B) (old after : List B) (numbers : List A) (i : ℕ)
    → after ++ map f (drop i numbers) ≡ old ++ map f numbers → length numbers ≤ i → after ≡ old ++ map f numbers
all_entries f old after numbers i so h = sym (nothing_behind after) ∙ ap (λ l. after ++ map f l) (sym (drop_all numbers i h)) ∙ so

-- of the items from this place on
abbrev pub entries_from : {A B : Type 0} → (ℕ × A → List B) → ℕ → List A → List B
entries_from f i xs = flat_map f (enumerate_from i (drop i xs))

pub one_group : {A B : Type 0} (f : ℕ × A → List B) (whole before after : List B) (xs : List A) (i : ℕ) (x : A)
    → before ++ entries_from f i xs ≡ whole → i < length xs → x ≡ get_or xs i x → after ≡ before ++ f (i, x)
    → after ++ entries_from f (i + 1) xs ≡ whole
one_group f whole before after xs i x so h read made =
    ap (λ l. l ++ entries_from f (i + 1) xs) made ∙ regrouped before (f (i, x)) (entries_from f (i + 1) xs)
    ∙ ap (λ l. before ++ flat_map f (enumerate_from i l)) (sym (drop_at xs i x h read)) ∙ so

pub all_groups : {A B : Type 0} (f : ℕ × A → List B) (whole after : List B) (xs : List A) (i : ℕ)
    → after ++ entries_from f i xs ≡ whole → length xs ≤ i → after ≡ whole
all_groups f whole after xs i so h = sym (nothing_behind after) ∙ ap (λ l. after ++ flat_map f (enumerate_from i l)) (sym (drop_all xs i h)) ∙ so

-- ---- items behind one another

pub one_part : {A B : Type 0} (f : A → List B) (whole before after : List B) (xs : List A) (i : ℕ) (x : A)
    → before ++ flat_map f (drop i xs) ≡ whole → i < length xs → x ≡ get_or xs i x → after ≡ before ++ f x
    → after ++ flat_map f (drop (i + 1) xs) ≡ whole
one_part f whole before after xs i x so h read made =
    ap (λ l. l ++ flat_map f (drop (i + 1) xs)) made ∙ regrouped before (f x) (flat_map f (drop (i + 1) xs))
    ∙ ap (λ l. before ++ flat_map f l) (sym (drop_at xs i x h read)) ∙ so

pub all_parts : {A B : Type 0} (f : A → List B) (whole after : List B) (xs : List A) (i : ℕ)
    → after ++ flat_map f (drop i xs) ≡ whole → length xs ≤ i → after ≡ whole
all_parts f whole after xs i so h = sym (nothing_behind after) ∙ ap (λ l. after ++ flat_map f l) (sym (drop_all xs i h)) ∙ so
