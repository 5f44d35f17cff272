-- Each made view stands at the place of its accessor.
use Rattle.std.proofs.Common.{◌≡◌, ℕ, zero, suc, ◌+◌, ◌<◌, true, false, List, [], ◌∷◌, ◌++◌, map, get_or, length, Option, Some, None, refl, sym, ap, ◌∙◌, subst, arith}
use Rattle.std.specs.Prelude.{◌≢◌, ◌==◌, slice_get, filter_map, option_map, option_to_list, zip}
use Rattle.std.specs.List.{All, AllPairs, cons_option, enumerate_from}
use Rattle.std.specs.Option.{IsSome}
use Rattle.std.proofs.lemmas.Bool.{eq-eqb, ne_eqb}
use Rattle.std.proofs.lemmas.List.{get_or-map, length-map, map-append}
use Rattle.std.proofs.lemmas.List.Elements.{All-head, All-tail}
use Rattle.std.proofs.lemmas.List.Sums.{position_or_len_is}
use Rattle.std.proofs.lemmas.Option.{get_or_from_slice_get, slice_get_within, slice_get-map}
use Rattle.gp_rules.specs.declared.accessing.Accessor.{Accessor}
use Rattle.gp_asset.specs.Asset.{AssetParts}
use Rattle.gp_sameness.specs.Moved.{Moved}
use Rattle.gp_packed.specs.MadeViews.{Made, made_column, made_columns, made_list, made_lists, made_views, made_place}
use Rattle.gp_packed.specs.MadeLaws.{HasViews, AreApart, numbers_of, MadeInOrder, MadeColumnsFound, MadeListsFound}

abbrev reader : Made → ℕ
reader v = v.accessor

-- ---- the accessors in order

one_reader : (one : Accessor → Made) (o : Option Accessor) (others : List Made) (at : ℕ) → ((x : Accessor) → reader (one x) ≡ at) → IsSome o
    → map reader (cons_option (option_map one o) others) ≡ at ∷ map reader others
one_reader one None others at is some = absurd (cc)
one_reader one (Some x) others at is some = ap (λ n. n ∷ map reader others) (is x)

pub column_readers : (a : AssetParts) (m : Moved) (columns : List ℕ) (from : ℕ) → All (λ at. IsSome (slice_get a.accessors at)) columns
    → map reader (filter_map (λ (p : ℕ × ℕ). option_map (made_column a m p.0 p.1) (slice_get a.accessors p.1)) (enumerate_from from columns)) ≡ columns
column_readers a m [] from exist = refl
column_readers a m (c ∷ columns) from exist =
    let P = λ (at : ℕ). IsSome (slice_get a.accessors at) in
    let others = filter_map (λ (p : ℕ × ℕ). option_map (made_column a m p.0 p.1) (slice_get a.accessors p.1)) (enumerate_from (from + 1) columns) in
    one_reader (made_column a m from c) (slice_get a.accessors c) others c (λ x. refl) (All-head P c columns exist)
    ∙ ap (λ ns. c ∷ ns) (column_readers a m columns (from + 1) (All-tail P c columns exist))

list_readers : (m : Moved) (numbers : List ℕ) (lists : List (List ℕ)) → length lists ≡ length numbers → map reader (map (made_list m) (zip numbers lists)) ≡ numbers
list_readers m [] lists each = refl
list_readers m (n ∷ numbers) [] each = absurd (omega (arith, each))
list_readers m (n ∷ numbers) (list ∷ lists) each = ap (λ ns. n ∷ ns) (list_readers m numbers lists (omega (arith, each)))

group_readers : (a : AssetParts) (m : Moved) → HasViews a m → map reader (made_columns a m ++ made_lists m) ≡ numbers_of m
group_readers a m has =
    let numbers = m.lists ++ option_to_list m.list_accessor in
    map-append reader (made_columns a m) (made_lists m)
    ∙ ap (λ ns. ns ++ map reader (made_lists m)) (column_readers a m m.columns 0 has.exist)
    ∙ ap (λ ns. m.columns ++ ns) (list_readers m numbers m.ordered has.each)

pub made_in_order : MadeInOrder
made_in_order a [] all = refl
made_in_order a (m ∷ moved) all =
    let own = made_columns a m ++ made_lists m in
    map-append reader own (made_views a moved)
    ∙ ap (λ ns. ns ++ map reader (made_views a moved)) (group_readers a m (All-head (HasViews a) m moved all))
    ∙ ap (λ ns. numbers_of m ++ ns) (made_in_order a moved (All-tail (HasViews a) m moved all))

-- ---- a view that is there

abbrev Held : List Made → Made → Type 0
Held made v = (j : ℕ) × (slice_get made j ≡ Some v)

held_behind : (front others : List Made) (v : Made) → Held others v → Held (front ++ others) v
held_behind [] others v at = at
held_behind (u ∷ front) others v at = let rest = held_behind front others v at in (suc rest.0, rest.1)

held_from : (front others : List Made) (v : Made) (j : ℕ) → slice_get front j ≡ Some v → Held (front ++ others) v
held_from [] others v j is = absurd (cc)
held_from (u ∷ front) others v zero is = (0, is)
held_from (u ∷ front) others v (suc j) is = let rest = held_from front others v j is in (suc rest.0, rest.1)

held_among : (a : AssetParts) (moved : List Moved) (i : ℕ) (m : Moved) (v : Made) → slice_get moved i ≡ Some m → Held (made_columns a m ++ made_lists m) v → Held (made_views a moved) v
held_among a [] i m v is at = absurd (cc)
held_among a (u ∷ moved) zero m v is at =
    let same : m ≡ u = cc in
    let own : Held (made_columns a u ++ made_lists u) v = subst (λ (w : Moved). Held (made_columns a w ++ made_lists w) v) same at in
    held_from (made_columns a u ++ made_lists u) (made_views a moved) v own.0 own.1
held_among a (u ∷ moved) (suc i) m v is at = held_behind (made_columns a u ++ made_lists u) (made_views a moved) v (held_among a moved i m v is at)

-- it is found, since no other has its accessor
is_found : (made : List Made) (v : Made) → AllPairs (λ x y. x ≢ y) (map reader made) → Held made v → slice_get made (made_place made v.accessor) ≡ Some v
is_found made v apart held =
    let j = held.0 in
    let below : j < length made = slice_get_within made j v held.1 in
    let here : get_or made j v ≡ v = get_or_from_slice_get made j v v held.1 in
    let long = length-map made reader in
    let others : (k : ℕ) → k < j → (reader (get_or made k v) == v.accessor) ≡ false = λ k before.
    ne_eqb (reader (get_or made k v)) v.accessor (λ same.
    apart k j 0 before (omega (arith, long, below))
    (get_or-map reader made k v 0 (omega arith) ∙ same ∙ sym (get_or-map reader made j v 0 below ∙ ap reader here))) in
    let passes : (reader (get_or made j v) == v.accessor) ≡ true = eq-eqb (reader (get_or made j v)) v.accessor (ap reader here) in
    let place : made_place made v.accessor ≡ j = position_or_len_is (λ (u : Made). reader u == v.accessor) made j v (omega (arith, below)) others (λ _. passes) in
    ap (slice_get made) place ∙ held.1

are_apart : (a : AssetParts) (moved : List Moved) → All (HasViews a) moved → AreApart moved → AllPairs (λ x y. x ≢ y) (map reader (made_views a moved))
are_apart a moved all apart = subst (AllPairs (λ x y. x ≢ y)) (sym (made_in_order a moved all)) apart

-- ---- columns

first_is : (one : Accessor → Made) (o : Option Accessor) (x : Accessor) (others : List Made) → o ≡ Some x → slice_get (cons_option (option_map one o) others) 0 ≡ Some (one x)
first_is one None x others is = absurd (cc)
first_is one (Some y) x others is = let same : y ≡ x = cc in ap (λ (z : Accessor). Some (one z)) same

next_is : (o : Option Made) (others : List Made) (v : Made) (k : ℕ) → IsSome o → slice_get others k ≡ Some v → slice_get (cons_option o others) (suc k) ≡ Some v
next_is None others v k some is = absurd (cc)
next_is (Some u) others v k some is = is

is_made : (one : Accessor → Made) (o : Option Accessor) → IsSome o → IsSome (option_map one o)
is_made one None some = some
is_made one (Some x) some = refl

column_is : (a : AssetParts) (m : Moved) (columns : List ℕ) (from k : ℕ) (x : Accessor) → All (λ at. IsSome (slice_get a.accessors at)) columns
    → k < length columns → slice_get a.accessors (get_or columns k 0) ≡ Some x
    → slice_get (filter_map (λ (p : ℕ × ℕ). option_map (made_column a m p.0 p.1) (slice_get a.accessors p.1)) (enumerate_from from columns)) k
    ≡ Some (made_column a m (from + k) (get_or columns k 0) x)
column_is a m [] from k x exist below is = absurd (omega arith)
column_is a m (c ∷ columns) from zero x exist below is =
    let others = filter_map (λ (p : ℕ × ℕ). option_map (made_column a m p.0 p.1) (slice_get a.accessors p.1)) (enumerate_from (from + 1) columns) in
    let here : from + 0 ≡ from = omega arith in
    rw here (first_is (made_column a m from c) (slice_get a.accessors c) x others is)
column_is a m (c ∷ columns) from (suc k) x exist below is =
    let P = λ (at : ℕ). IsSome (slice_get a.accessors at) in
    let others = filter_map (λ (p : ℕ × ℕ). option_map (made_column a m p.0 p.1) (slice_get a.accessors p.1)) (enumerate_from (from + 1) columns) in
    let here : from + suc k ≡ from + 1 + k = omega arith in
    let rest = column_is a m columns (from + 1) k x (All-tail P c columns exist) (omega arith) is in
    let v = made_column a m (from + 1 + k) (get_or columns k 0) x in
    rw here (next_is (option_map (made_column a m from c) (slice_get a.accessors c)) others v k (is_made (made_column a m from c) (slice_get a.accessors c) (All-head P c columns exist)) rest)

pub columns_found : MadeColumnsFound
columns_found a moved i k m x all apart is column =
    let at = get_or m.columns k 0 in
    let v = made_column a m k at x in
    let has : HasViews a m = subst (HasViews a) (get_or_from_slice_get moved i m m is) (all i m (slice_get_within moved i m is)) in
    let from_0 : 0 + k ≡ k = omega arith in
    let here : slice_get (made_columns a m) k ≡ Some v =
    column_is a m m.columns 0 k x has.exist column.within column.accessor ∙ ap (λ n. Some (made_column a m n at x)) from_0 in
    is_found (made_views a moved) v (are_apart a moved all apart) (held_among a moved i m v is (held_from (made_columns a m) (made_lists m) v k here))

-- ---- lists

zipped_is : (numbers : List ℕ) (lists : List (List ℕ)) (k at : ℕ) (list : List ℕ) → slice_get numbers k ≡ Some at → slice_get lists k ≡ Some list
    → slice_get (zip numbers lists) k ≡ Some (at, list)
zipped_is [] lists k at list is other = absurd (cc)
zipped_is (n ∷ numbers) [] k at list is other = absurd (cc)
zipped_is (n ∷ numbers) (l ∷ lists) zero at list is other = let number : n ≡ at = cc in let same : l ≡ list = cc in rw (number, same) refl
zipped_is (n ∷ numbers) (l ∷ lists) (suc k) at list is other = zipped_is numbers lists k at list is other

pub lists_found : MadeListsFound
lists_found a moved i k at m list all apart is number other =
    let zipped = zip (m.lists ++ option_to_list m.list_accessor) m.ordered in
    let v = made_list m (at, list) in
    let here : slice_get (made_lists m) k ≡ Some v = slice_get-map (made_list m) zipped k ∙ ap (option_map (made_list m)) (zipped_is (m.lists ++ option_to_list m.list_accessor) m.ordered k at list number other) in
    is_found (made_views a moved) v (are_apart a moved all apart) (held_among a moved i m v is (held_behind (made_columns a m) (made_lists m) v (k, here)))
