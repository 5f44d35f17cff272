-- Which accessor of a packed asset stands at which number.
use Rattle.std.specs.Prelude.{◌≢◌, ◌==◌, cond, get_or, option_map, option_to_list}
use Rattle.std.specs.List.{AllPairs, enumerate_from, filter_map, cons_option, range_with_len}
use Rattle.std.proofs.Common.{◌≡◌, ℕ, zero, suc, ◌+◌, inl, inr, Bool, true, false, ◌||◌, List, [], ◌∷◌, ◌++◌, length, length-append, append_assoc, map, flat_map, slice_get, Option, Some, None, refl, sym, ap, ◌∙◌, subst, arith}
use Rattle.std.proofs.lemmas.Bool.{eq-eqb}
use Rattle.std.proofs.lemmas.List.{length-map}
use Rattle.std.proofs.lemmas.List.FromFn.{length-enumerate_from}
use Rattle.std.proofs.lemmas.Option.{get_or_from_slice_get, slice_get-get_or, slice_get_within}
use Rattle.gp_rules.specs.declared.accessing.Accessor.{Accessor}
use Rattle.gp_asset.specs.Asset.{AssetParts}
use Rattle.gp_sameness.specs.Moved.{Moved, is_number_in, is_moved, group_with}
use Rattle.gp_sameness.specs.Survivors.{renumbered}
use Rattle.gp_packed.specs.GroupEdits.{made_number}
use Rattle.gp_packed.specs.MadeLaws.{AreApart, numbers_of}
use Rattle.gp_packed.specs.PackedParts.{made_list_part, part_by, edited_part, list_part, packed_accessors}
use Rattle.gp_kept.specs.ElementsMoved.{KeptAccessorsStandThere, ColumnsByTheirGroup, ListsByTheirGroup, MovedColumnsStandThere, MovedListsStandThere, MadeListsStandThere, PackedAccessorsAreCounted}
use Rattle.gp_packed.proofs.NewNumbers.{Among, among_front, among_behind, among_each}
use Rattle.gp_packed.proofs.OutputViews.{front_found, behind_found}
use Rattle.gp_packed.proofs.MadePlaces.{number_among}

-- ---- each accessor of the input by its number

pub numbered_found : {A B : Type 0} (f : ℕ × A → B) (n i number : ℕ) (x : A) (xs : List A) → number ≡ n + i → slice_get xs i ≡ Some x
    → slice_get (map f (enumerate_from n xs)) i ≡ Some (f (number, x))
numbered_found f n i number x [] e found = absurd (cc)
numbered_found f n zero number x (y ∷ xs) e found =
    let same : y ≡ x = cc in
    let here : n ≡ number = omega (arith, e) in
    ap (λ z. Some (f (n, z))) same ∙ ap (λ k. Some (f (k, x))) here
numbered_found f n (suc i) number x (y ∷ xs) e found = numbered_found f (n + 1) i number x xs (omega (arith, e)) found

pub edited_there : (moved : List Moved) (a : AssetParts) (at : ℕ) (x : Accessor) → slice_get a.accessors at ≡ Some x
    → slice_get (packed_accessors moved a) at ≡ Some (edited_part moved a at x)
edited_there moved a at x found =
    let f : ℕ × Accessor → Accessor = λ p. edited_part moved a p.0 p.1 in
    front_found (map f (enumerate_from 0 a.accessors)) (filter_map (list_part moved a) moved) at (edited_part moved a at x)
    (numbered_found f 0 at at x a.accessors (omega arith) found)

-- ---- one that doesn't move

none_parts : (b c rest : Bool) → ((b || c) || rest) ≡ false → (b ≡ false) × (c ≡ false) × (rest ≡ false)
none_parts true c rest e = absurd (cc)
none_parts false true rest e = absurd (cc)
none_parts false false rest e = (refl, refl, e)

none_next : (part : Moved → List ℕ) (m : Moved) (moved : List Moved) (at : ℕ) → is_number_in (part m) at ≡ false → group_with part moved at ≡ None
    → group_with part (m ∷ moved) at ≡ None
none_next part m moved at own others = ap (λ b. cond b (Some m) (group_with part moved at)) own ∙ others

no_group : (moved : List Moved) (at : ℕ) → is_moved moved at ≡ false
    → (group_with (λ (m : Moved). m.columns) moved at ≡ None) × (group_with (λ (m : Moved). m.lists) moved at ≡ None)
no_group [] at stays = (refl, refl)
no_group (m ∷ moved) at stays =
    let parts = none_parts (is_number_in m.columns at) (is_number_in m.lists at) (is_moved moved at) stays in
    let others = no_group moved at parts.2 in
    (none_next (λ (u : Moved). u.columns) m moved at parts.0 others.0, none_next (λ (u : Moved). u.lists) m moved at parts.1 others.1)

pub kept_there : KeptAccessorsStandThere
kept_there moved a at x stays found =
    let none = no_group moved at stays in
    let lists = group_with (λ (m : Moved). m.lists) moved at in
    edited_there moved a at x found
    ∙ ap (λ o. Some (part_by (renumbered moved a) (made_number moved a at) o lists x)) none.0
    ∙ ap (λ o. Some (part_by (renumbered moved a) (made_number moved a at) None o x)) none.1

-- ---- one that moves, by its group

pub column_by_group : ColumnsByTheirGroup
column_by_group moved a at m x group found =
    let lists = group_with (λ (u : Moved). u.lists) moved at in
    edited_there moved a at x found ∙ ap (λ o. Some (part_by (renumbered moved a) (made_number moved a at) o lists x)) group

pub list_by_group : ListsByTheirGroup
list_by_group moved a at m x none group found =
    let view = made_number moved a at in
    let lists = group_with (λ (u : Moved). u.lists) moved at in
    edited_there moved a at x found
    ∙ ap (λ o. Some (part_by (renumbered moved a) view o lists x)) none
    ∙ ap (λ o. Some (part_by (renumbered moved a) view None o x)) group

-- ---- numbers that are apart

there : {A : Type 0} (x : A) (xs : List A) → Among x xs → (i : ℕ) × (slice_get xs i ≡ Some x)
there x [] h = absurd h
there x (y ∷ xs) (inl e) = (0, ap Some e)
there x (y ∷ xs) (inr h) = let rest = there x xs h in (suc rest.0, rest.1)

pub among_there : {A : Type 0} (x : A) (xs : List A) (i : ℕ) → slice_get xs i ≡ Some x → Among x xs
among_there x [] i e = absurd (cc)
among_there x (y ∷ xs) zero e = let same : y ≡ x = cc in inl same
among_there x (y ∷ xs) (suc i) e = inr (among_there x xs i e)

abbrev Apart : List ℕ → Type 0
Apart xs = AllPairs (λ x y. x ≢ y) xs

-- none of the first is one of the others
apart_sides : (xs ys : List ℕ) (x : ℕ) → Apart (xs ++ ys) → Among x xs → Among x ys → ⊥
apart_sides xs ys x apart front behind =
    let i = there x xs front in
    let j = there x ys behind in
    let all = xs ++ ys in
    let k = length xs + j.0 in
    let first : slice_get all i.0 ≡ Some x = front_found xs ys i.0 x i.1 in
    let second : slice_get all k ≡ Some x = behind_found xs ys k j.0 refl ∙ j.1 in
    let before = slice_get_within xs i.0 x i.1 in
    let within = slice_get_within all k x second in
    apart i.0 k x (omega (arith, before)) within (get_or_from_slice_get all i.0 x x first ∙ sym (get_or_from_slice_get all k x x second))

apart_behind : (xs ys : List ℕ) → Apart (xs ++ ys) → Apart ys
apart_behind [] ys apart = apart
apart_behind (x ∷ xs) ys apart = apart_behind xs ys (λ i j d before within. apart (suc i) (suc j) d (omega (arith, before)) (omega (arith, within)))

or_true : (b c : Bool) → c ≡ true → (b || c) ≡ true
or_true true c e = refl
or_true false c e = e

number_in : (numbers : List ℕ) (at : ℕ) → Among at numbers → is_number_in numbers at ≡ true
number_in [] at h = absurd h
number_in (n ∷ numbers) at (inl e) = ap (λ b. b || is_number_in numbers at) (eq-eqb n at e)
number_in (n ∷ numbers) at (inr h) = or_true (n == at) (is_number_in numbers at) (number_in numbers at h)

not_in : (numbers : List ℕ) (at : ℕ) (b : Bool) → is_number_in numbers at ≡ b → (Among at numbers → ⊥) → b ≡ false
not_in numbers at true e other = absurd (other (number_among numbers at e))
not_in numbers at false e other = refl

is_not_in : (numbers : List ℕ) (at : ℕ) → (Among at numbers → ⊥) → is_number_in numbers at ≡ false
is_not_in numbers at other = not_in numbers at (is_number_in numbers at) refl other

-- ---- the group of a column or a list

-- a part of the accessors of a group
abbrev IsPart : (Moved → List ℕ) → Type 0
IsPart part = (m : Moved) (at : ℕ) → Among at (part m) → Among at (numbers_of m)

are_columns : IsPart (λ (m : Moved). m.columns)
are_columns m at h = among_front at m.columns (m.lists ++ option_to_list m.list_accessor) h

are_lists : IsPart (λ (m : Moved). m.lists)
are_lists m at h = among_behind at m.columns (m.lists ++ option_to_list m.list_accessor) (among_front at m.lists (option_to_list m.list_accessor) h)

in_all : (moved : List Moved) (i : ℕ) (m : Moved) (at : ℕ) → slice_get moved i ≡ Some m → Among at (numbers_of m) → Among at (flat_map numbers_of moved)
in_all moved i m at found h = among_each numbers_of m at moved (among_there m moved i found) h

none_of : (part : Moved → List ℕ) → IsPart part → (moved : List Moved) (at : ℕ) → (Among at (flat_map numbers_of moved) → ⊥) → group_with part moved at ≡ None
none_of part is [] at other = refl
none_of part is (m ∷ moved) at other =
    let rest = flat_map numbers_of moved in
    none_next part m moved at (is_not_in (part m) at (λ h. other (among_front at (numbers_of m) rest (is m at h))))
    (none_of part is moved at (λ h. other (among_behind at (numbers_of m) rest h)))

group_of : (part : Moved → List ℕ) → IsPart part → (moved : List Moved) (i : ℕ) (m : Moved) (at : ℕ) → AreApart moved → slice_get moved i ≡ Some m → Among at (part m)
    → group_with part moved at ≡ Some m
group_of part is [] i m at apart found h = absurd (cc)
group_of part is (u ∷ moved) zero m at apart found h =
    let same : u ≡ m = cc in
    let own = number_in (part u) at (subst (λ (w : Moved). Among at (part w)) (sym same) h) in
    ap (λ b. cond b (Some u) (group_with part moved at)) own ∙ ap (λ (w : Moved). Some w) same
group_of part is (u ∷ moved) (suc i) m at apart found h =
    let rest = flat_map numbers_of moved in
    let later = in_all moved i m at found (is m at h) in
    let own = is_not_in (part u) at (λ early. apart_sides (numbers_of u) rest at apart (is u at early) later) in
    ap (λ b. cond b (Some u) (group_with part moved at)) own ∙ group_of part is moved i m at (apart_behind (numbers_of u) rest apart) found h

-- a list is no column
columns_and_lists : (m : Moved) (rest : List ℕ) (at : ℕ) → Apart (numbers_of m ++ rest) → Among at m.lists → Among at m.columns → ⊥
columns_and_lists m rest at apart list column =
    let others = m.lists ++ option_to_list m.list_accessor in
    apart_sides m.columns (others ++ rest) at (subst Apart (append_assoc m.columns others rest) apart) column
    (among_front at others rest (among_front at m.lists (option_to_list m.list_accessor) list))

no_column : (moved : List Moved) (i : ℕ) (m : Moved) (at : ℕ) → AreApart moved → slice_get moved i ≡ Some m → Among at m.lists
    → group_with (λ (u : Moved). u.columns) moved at ≡ None
no_column [] i m at apart found h = refl
no_column (u ∷ moved) zero m at apart found h =
    let same : u ≡ m = cc in
    let rest = flat_map numbers_of moved in
    let list : Among at u.lists = subst (λ (w : Moved). Among at w.lists) (sym same) h in
    none_next (λ (w : Moved). w.columns) u moved at (is_not_in u.columns at (columns_and_lists u rest at apart list))
    (none_of (λ (w : Moved). w.columns) are_columns moved at (λ later. apart_sides (numbers_of u) rest at apart (are_lists u at list) later))
no_column (u ∷ moved) (suc i) m at apart found h =
    let rest = flat_map numbers_of moved in
    let later = in_all moved i m at found (are_lists m at h) in
    none_next (λ (w : Moved). w.columns) u moved at (is_not_in u.columns at (λ early. apart_sides (numbers_of u) rest at apart (are_columns u at early) later))
    (no_column moved i m at (apart_behind (numbers_of u) rest apart) found h)

pub columns_there : MovedColumnsStandThere
columns_there a moved i k m x apart found column =
    let at = get_or m.columns k 0 in
    let own = among_there at m.columns k (slice_get-get_or m.columns k 0 column.within) in
    column_by_group moved a at m x (group_of (λ (u : Moved). u.columns) are_columns moved i m at apart found own) column.accessor

pub lists_there : MovedListsStandThere
lists_there a moved i k at m x apart found number accessor =
    let own = among_there at m.lists k number in
    list_by_group moved a at m x (no_column moved i m at apart found own) (group_of (λ (u : Moved). u.lists) are_lists moved i m at apart found own) accessor

-- ---- those that are made

abbrev numbers_made : List Moved → List ℕ
numbers_made moved = filter_map (λ (m : Moved). m.list_accessor) moved

abbrev parts_made : (Moved → ℕ → Accessor) → List Moved → List Accessor
parts_made part moved = filter_map (λ (m : Moved). option_map (part m) m.list_accessor) moved

numbered_first : (number n : ℕ) (numbers : List ℕ) → number ∷ numbers ≡ range_with_len n (length (number ∷ numbers))
    → (number ≡ n) × (numbers ≡ range_with_len (n + 1) (length numbers))
numbered_first number n numbers e = (cc, cc)

-- at the same place among the accessors and among their numbers, which begin here
abbrev MadeAt : (Moved → ℕ → Accessor) → ℕ → List Moved → Moved → ℕ → Type 0
MadeAt part n moved m number = (j : ℕ) × (number ≡ n + j) × (slice_get (parts_made part moved) j ≡ Some (part m number))

made_next : (part : Moved → ℕ → Accessor) (n : ℕ) (u : Moved) (moved : List Moved) (m : Moved) (number : ℕ) (own : Option ℕ) → u.list_accessor ≡ own
    → numbers_made (u ∷ moved) ≡ range_with_len n (length (numbers_made (u ∷ moved)))
    → ((k : ℕ) → numbers_made moved ≡ range_with_len k (length (numbers_made moved)) → MadeAt part k moved m number)
    → MadeAt part n (u ∷ moved) m number
made_next part n u moved m number None e all rest =
    let P : List ℕ → Type 0 = λ numbers. numbers ≡ range_with_len n (length numbers) in
    let r = rest n (subst P (ap (λ o. cons_option o (numbers_made moved)) e) all) in
    (r.0, r.1, ap (λ o. slice_get (cons_option (option_map (part u) o) (parts_made part moved)) r.0) e ∙ r.2)
made_next part n u moved m number (Some first) e all rest =
    let P : List ℕ → Type 0 = λ numbers. numbers ≡ range_with_len n (length numbers) in
    let both = numbered_first first n (numbers_made moved) (subst P (ap (λ o. cons_option o (numbers_made moved)) e) all) in
    let r = rest (n + 1) both.1 in
    (suc r.0, omega (arith, r.1), ap (λ o. slice_get (cons_option (option_map (part u) o) (parts_made part moved)) (suc r.0)) e ∙ r.2)

made_at : (part : Moved → ℕ → Accessor) (n : ℕ) (moved : List Moved) (i : ℕ) (m : Moved) (number : ℕ) → numbers_made moved ≡ range_with_len n (length (numbers_made moved))
    → slice_get moved i ≡ Some m → m.list_accessor ≡ Some number → MadeAt part n moved m number
made_at part n [] i m number all found own = absurd (cc)
made_at part n (u ∷ moved) zero m number all found own =
    let same : u ≡ m = cc in
    let e : u.list_accessor ≡ Some number = ap (λ (w : Moved). w.list_accessor) same ∙ own in
    let P : List ℕ → Type 0 = λ numbers. numbers ≡ range_with_len n (length numbers) in
    let both = numbered_first number n (numbers_made moved) (subst P (ap (λ o. cons_option o (numbers_made moved)) e) all) in
    (0, omega (arith, both.0), ap (λ o. slice_get (cons_option (option_map (part u) o) (parts_made part moved)) 0) e ∙ ap (λ (w : Moved). Some (part w number)) same)
made_at part n (u ∷ moved) (suc i) m number all found own =
    made_next part n u moved m number u.list_accessor refl all (λ k rest. made_at part k moved i m number rest found own)

pub made_lists_there : MadeListsStandThere
made_lists_there a moved i at m last found own =
    let f : ℕ × Accessor → Accessor = λ p. edited_part moved a p.0 p.1 in
    let part : Moved → ℕ → Accessor = λ u number. made_list_part (made_number moved a number) u in
    let made = made_at part (length a.accessors) moved i m at last found own in
    let front = map f (enumerate_from 0 a.accessors) in
    behind_found front (filter_map (list_part moved a) moved) at made.0 (omega (arith, made.1, length-map (enumerate_from 0 a.accessors) f, length-enumerate_from 0 a.accessors)) ∙ made.2

-- ---- how many

one_more : (part : Moved → ℕ → Accessor) (m : Moved) (xs : List Accessor) (numbers : List ℕ) (own : Option ℕ) → length xs ≡ length numbers
    → length (cons_option (option_map (part m) own) xs) ≡ length (cons_option own numbers)
one_more part m xs numbers None e = e
one_more part m xs numbers (Some number) e = ap suc e

as_many_made : (part : Moved → ℕ → Accessor) (moved : List Moved) → length (parts_made part moved) ≡ length (numbers_made moved)
as_many_made part [] = refl
as_many_made part (m ∷ moved) = one_more part m (parts_made part moved) (numbers_made moved) m.list_accessor (as_many_made part moved)

pub accessors_counted : PackedAccessorsAreCounted
accessors_counted moved a =
    let f : ℕ × Accessor → Accessor = λ p. edited_part moved a p.0 p.1 in
    let part : Moved → ℕ → Accessor = λ u number. made_list_part (made_number moved a number) u in
    omega (
      arith,
      length-append (map f (enumerate_from 0 a.accessors)) (parts_made part moved),
      length-map (enumerate_from 0 a.accessors) f,
      length-enumerate_from 0 a.accessors,
      as_many_made part moved,
    )
