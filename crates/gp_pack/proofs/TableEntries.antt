-- The entries of tables are what becomes of accessors where groups move.
use Rattle.std.specs.Prelude.{cond, ◌==◌, if◌then◌else◌, is_some, is_none, option_map, option_and_then, filter, find}
use Rattle.std.specs.List.{range_with_len, enumerate_from, count_by, filter_map, cons_option}
use Rattle.std.proofs.Common.{◌≡◌, ℕ, zero, suc, ◌+◌, ◌-◌, ◌<◌, ◌≤◌, ◌⊎◌, inl, inr, Bool, true, false, ◌||◌, List, [], ◌∷◌, map, length, slice_get, Option, Some, None, refl, ap, ◌∙◌, arith}
use Rattle.std.proofs.lemmas.Bool.Decides.{nat_tests}
use Rattle.std.proofs.lemmas.List.Sums.{sum_by-cons}
use Rattle.gp_tree.specs.Lexical.{Each}
use Rattle.gp_sameness.specs.Moved.{Moved, is_number_in}
use Rattle.gp_packed.specs.MadeViews.{Made}
use Rattle.gp_pack.specs.MadeParts.{made_part_of}
use Rattle.gp_pack.specs.MoveTables.{move_by, made_view_of, group_edit_of}
use Rattle.gp_pack.specs.TableParts.{view_of_part, move_with}

-- ---- an entry of a table

pub found_within : {A : Type 0} (f : ℕ → A) (a n i : ℕ) → i < n → slice_get (map f (range_with_len a n)) i ≡ Some (f (a + i))
found_within f a zero i h = absurd (omega (arith, h))
found_within f a (suc n) zero h = let e : a ≡ a + 0 = omega arith in ap (λ k. Some (f k)) e
found_within f a (suc n) (suc i) h = let e : a + 1 + i ≡ a + suc i = omega arith in found_within f (a + 1) n i (omega (arith, h)) ∙ ap (λ k. Some (f k)) e

pub within_or_past : (i n : ℕ) → (i < n) ⊎ (n ≤ i)
within_or_past i zero = inr (omega arith)
within_or_past zero (suc n) = inl (omega arith)
within_or_past (suc i) (suc n) = elim (within_or_past i n) [
  | inl h ↦ inl (omega (arith, h))
  | inr h ↦ inr (omega (arith, h))
]

-- ---- groups

pub group_edited : (moved : List Moved) (k : ℕ) → slice_get (map group_edit_of moved) k ≡ option_map group_edit_of (slice_get moved k)
group_edited [] k = refl
group_edited (m ∷ moved) zero = refl
group_edited (m ∷ moved) (suc k) = group_edited moved k

pub edited_at : (moved : List Moved) (place : Option ℕ) → option_and_then (slice_get (map group_edit_of moved)) place ≡ option_map group_edit_of (option_and_then (slice_get moved) place)
edited_at moved None = refl
edited_at moved (Some k) = group_edited moved k

pub moves_alike : (view : ℕ) (column list : Option Moved) → move_with view (option_map group_edit_of column) (option_map group_edit_of list) ≡ move_by view column list
moves_alike view (Some m) list = refl
moves_alike view None (Some m) = refl
moves_alike view None None = refl

-- no group has a number past all that groups have
not_among : (n at : ℕ) (numbers : List ℕ) → n ≤ at → Each (λ k. k < n) numbers → is_number_in numbers at ≡ false
not_among n at [] h below = refl
not_among n at (k ∷ numbers) h below =
    let e : (k == at) ≡ false = other k (omega (arith, h, below.0)) in
    ap (λ b. b || is_number_in numbers at) e ∙ not_among n at numbers h below.1
  where
    other : (k : ℕ) → k < at → (k == at) ≡ false
    other k less = grind (arith, nat_tests, less)

pub no_group : (part : Moved → List ℕ) (n at : ℕ) (moved : List Moved) → n ≤ at → Each (λ m. Each (λ k. k < n) (part m)) moved → find (λ m. is_number_in (part m) at) moved ≡ None
no_group part n at [] h below = refl
no_group part n at (m ∷ moved) h below =
    ap (λ b. cond b (Some m) (find (λ x. is_number_in (part x) at) moved)) (not_among n at (part m) h below.0) ∙ no_group part n at moved h below.1

-- ---- views that stay

some_if : (b : Bool) (n : ℕ) → is_some (if b then Some n else None) ≡ b
some_if true n = refl
some_if false n = refl

pub is_numbered : (o : Option ℕ) (b : Bool) (n : ℕ) → o ≡ (if b then Some n else None) → is_some o ≡ b
is_numbered o b n e = ap is_some e ∙ some_if b n

kept_step : {A : Type 0} (b : Bool) (k n : ℕ) (x : A) (rest : List (ℕ × A)) → n ≡ length (map (λ (p : ℕ × A). p.1) rest) → cond b 1 0 + n ≡ length (map (λ (p : ℕ × A). p.1) (cond b ((k, x) ∷ rest) rest))
kept_step true k n x rest e = omega (arith, e)
kept_step false k n x rest e = omega (arith, e)

pub kept_counted : {A : Type 0} (f : ℕ → Option ℕ) (test : ℕ → Bool) → ((view : ℕ) → is_some (f view) ≡ test view) → (k : ℕ) (xs : List A)
    → count_by is_some (map f (range_with_len k (length xs))) ≡ length (map (λ (p : ℕ × A). p.1) (filter (λ (p : ℕ × A). test p.0) (enumerate_from k xs)))
kept_counted f test same k [] = refl
kept_counted {A} f test same k (x ∷ xs) =
    sum_by-cons (λ o. cond (is_some o) 1 0) (f k) (map f (range_with_len (k + 1) (length xs)))
    ∙ ap (λ b. cond b 1 0 + count_by is_some (map f (range_with_len (k + 1) (length xs)))) (same k)
    ∙ kept_step (test k) k (count_by is_some (map f (range_with_len (k + 1) (length xs)))) x (filter (λ (p : ℕ × A). test p.0) (enumerate_from (k + 1) xs)) (kept_counted f test same (k + 1) xs)

one_of_two : (o : Option ℕ) (some none rest : ℕ) → some + none ≡ rest → cond (is_some o) 1 0 + some + (cond (is_none o) 1 0 + none) ≡ suc rest
one_of_two None some none rest e = omega (arith, e)
one_of_two (Some n) some none rest e = omega (arith, e)

all_counted : (numbers : List (Option ℕ)) → count_by is_some numbers + count_by is_none numbers ≡ length numbers
all_counted [] = refl
all_counted (o ∷ numbers) =
    ap (λ n. n + count_by is_none (o ∷ numbers)) (sum_by-cons (λ x. cond (is_some x) 1 0) o numbers)
    ∙ ap (λ n. cond (is_some o) 1 0 + count_by is_some numbers + n) (sum_by-cons (λ x. cond (is_none x) 1 0) o numbers)
    ∙ one_of_two o (count_by is_some numbers) (count_by is_none numbers) (length numbers) (all_counted numbers)

pub rest_dropped : (numbers : List (Option ℕ)) (kept dropped : ℕ) → kept ≡ count_by is_some numbers → dropped ≡ length numbers - kept → dropped ≡ count_by is_none numbers
rest_dropped numbers kept dropped k d = omega (arith, k, d, all_counted numbers)

-- ---- lists and views that are made

pub same_picked : {A B C : Type 0} (h : A → B) (f : B → Option C) (g : A → Option C) (xs : List A) → Each (λ x. f (h x) ≡ g x) xs → filter_map f (map h xs) ≡ filter_map g xs
same_picked h f g [] same = refl
same_picked h f g (x ∷ xs) same =
    ap (λ o. cons_option o (filter_map f (map h xs))) same.0 ∙ ap (cons_option (g x)) (same_picked h f g xs same.1)

pub views_alike : (vs : List Made) → map view_of_part (map made_part_of vs) ≡ map made_view_of vs
views_alike [] = refl
views_alike (v ∷ vs) = ap (λ l. made_view_of v ∷ l) (views_alike vs)
