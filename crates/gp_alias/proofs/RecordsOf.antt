-- Records and lists of groups, piece by piece.
use Rattle.std.proofs.Common.{◌≡◌, ℕ, ◌+◌, ◌*◌, ◌^◌, nat_le, ◌<◌, ◌==◌, Bool, true, false, ◌&&◌, if◌then◌else◌, List, [], ◌∷◌, ◌++◌, length, map, get_or, take, Option, Some, None, refl, sym, ap, ◌∙◌, arith, subst, append-nil, append_assoc, length-append}
use Rattle.std.specs.Prelude.{slice_get, unwrap_or, option_map}
use Rattle.std.specs.List.{All, list_all, flat_map, filter_map, cons_option, concat, range_with_len}
use Rattle.std.proofs.lemmas.Bool.{eqb-true}
use Rattle.std.proofs.lemmas.Option.{slice_get_within, get_or_from_slice_get, slice_get-get_or, same_Some}
use Rattle.std.proofs.lemmas.List.{map-id, map_more}
use Rattle.std.proofs.lemmas.List.Elements.{All-nil, All-cons}
use Rattle.std.proofs.lemmas.List.Folds.{concat-append, flat_map-map}
use Rattle.std.proofs.lemmas.List.FromFn.{map-range_with_len_more}
use Rattle.std.proofs.lemmas.Grind.{flat_map-append}
use Rattle.gp_rules.specs.declared.accessing.Accessor.{Accessor}
use Rattle.gp_asset.specs.Asset.{AssetParts}
use Rattle.gp_elements.specs.Elements.{number_of, items_in, indices_in, values_in, with_sparse, resolved_at}
use Rattle.gp_elements.specs.Resolving.{is_resolvable}
use Rattle.gp_elements.specs.Held.{HasEvery, contents_of, IsSound}
use Rattle.gp_elements.proofs.Places.{length-resolved}
use Rattle.gp_rules.specs.declared.accessing.Sparse.{Sparse}
use Rattle.gp_alias.specs.declared.group.Group.{Group}
use Rattle.gp_alias.specs.Movable.{items_of, numbers_of, holds_at, has_column_shape, is_column, is_given, is_vector, has_resolved, is_index_list, is_triangle_list, has_vertices, have_attributes, is_used_only, is_vertex_role, is_index_role, are_whole, corner_count, is_movable}
use Rattle.gp_alias.specs.Records.{item_at, record_at, vertex_record, records, HasItems, AreNumbers, accessors_at, lists, ends_from}
use Rattle.gp_alias.proofs.ElementNumbers.{are_numbers, corners_of, length-base}
use Rattle.gp_alias.proofs.Resolved.{all_resolved}

-- ---- one more of a range

pub range_more : (n : ℕ) → range_with_len 0 (n + 1) ≡ range_with_len 0 n ++ n ∷ []
range_more n =
    sym (map-id (range_with_len 0 (n + 1)))
    ∙ map-range_with_len_more (λ (i : ℕ). i) 0 n n (omega arith)
    ∙ ap (λ xs. xs ++ n ∷ []) (map-id (range_with_len 0 n))

pub record_more : (columns : List (List (List ℕ))) (n : ℕ) (before bytes new : List ℕ) → bytes ≡ before ++ flat_map (record_at columns) (range_with_len 0 n) → new ≡ bytes ++ record_at columns n
    → new ≡ before ++ flat_map (record_at columns) (range_with_len 0 (n + 1))
record_more columns n before bytes new e step =
    step ∙ ap (λ xs. xs ++ record_at columns n) e ∙ append_assoc before (flat_map (record_at columns) (range_with_len 0 n)) (record_at columns n)
    ∙ ap (λ xs. before ++ xs)
    (sym (ap (flat_map (record_at columns)) (range_more n) ∙ flat_map-append (record_at columns) (range_with_len 0 n) (n ∷ []) ∙ ap (λ xs. flat_map (record_at columns) (range_with_len 0 n) ++ xs) (append-nil (record_at columns n))))

pub vertex_more : (before joined new : List ℕ) (n : ℕ) → joined ≡ before ++ range_with_len 0 n → new ≡ joined ++ n ∷ [] → new ≡ before ++ range_with_len 0 (n + 1)
vertex_more before joined new n e step =
    step ∙ ap (λ xs. xs ++ n ∷ []) e ∙ append_assoc before (range_with_len 0 n) (n ∷ []) ∙ ap (λ xs. before ++ xs) (sym (range_more n))

-- ---- records

joined_map : (f g : ℕ → List ℕ) → ((i : ℕ) → f i ≡ g i) → (xs : List ℕ) → flat_map f xs ≡ concat (map g xs)
joined_map f g same [] = refl
joined_map f g same (x ∷ xs) = ap (λ ys. ys ++ flat_map f xs) (same x) ∙ ap (λ ys. g x ++ ys) (joined_map f g same xs)

pub records_are : (a : AssetParts) (contents : List (List ℕ)) (g : Group) → flat_map (record_at (map (items_of a contents) (accessors_at a g.columns))) (range_with_len 0 g.count) ≡ concat (records a contents g)
unfolding records
records_are a contents g =
    let all = map (items_of a contents) (accessors_at a g.columns) in
    joined_map (record_at all) (vertex_record a contents g.columns) (λ i. flat_map-map (item_at i) (items_of a contents) (accessors_at a g.columns)) (range_with_len 0 g.count)

-- ---- what the conditions say

conditions : (a b c d e f g h i : Bool) → (a && b && (c && d && e) && (f && g) && h && i) ≡ true → (c ≡ true) × (f ≡ true)
conditions true true true true true true g h i is = (refl, refl)
conditions true true true true true false g h i is = cc
conditions true true true true false f g h i is = cc
conditions true true true false e f g h i is = cc
conditions true true false d e f g h i is = cc
conditions true false c d e f g h i is = cc
conditions false b c d e f g h i is = cc

both : (a b : Bool) → (a && b) ≡ true → (a ≡ true) × (b ≡ true)
both true true is = (refl, refl)
both true false is = cc
both false b is = cc

-- as many as the accessor says, whatever is put in place of some
length-in : (base contents : List (List ℕ)) (acc : Accessor) (sparse : Option Sparse) → length (with_sparse base contents acc sparse).items ≡ length base
length-in base contents acc None = refl
length-in base contents acc (Some s) = by_test (is_resolvable acc.count (indices_in contents s)) refl
  where
    by_test : (b : Bool) → is_resolvable acc.count (indices_in contents s) ≡ b → length (with_sparse base contents acc (Some s)).items ≡ length base
    by_test true is = rw is (length-resolved base (indices_in contents s) (values_in contents acc s))
    by_test false is = rw is refl

pub length-items : (a : AssetParts) (contents : List (List ℕ)) (acc : Accessor) → length (items_of a contents acc) ≡ acc.count
length-items a contents acc = length-in (items_in a.views contents acc acc.view) contents acc acc.sparse ∙ length-base a.views contents acc acc.view

hold : (a : AssetParts) (contents : List (List ℕ)) (g : Group) → is_movable a contents g ≡ true
    → (list_all (holds_at a.accessors (is_column contents g.count)) g.columns ≡ true) × (list_all (holds_at a.accessors (is_index_list a contents g.count)) g.lists ≡ true)
unfolding is_movable
hold a contents g movable =
    conditions a.closed (have_attributes a g) (list_all (holds_at a.accessors (is_column contents g.count)) g.columns) (nat_le g.count (2 ^ 24)) (list_all (is_used_only is_vertex_role a.uses g.primitives) g.columns)
    (list_all (holds_at a.accessors (is_index_list a contents g.count)) g.lists) (list_all (is_used_only is_index_role a.uses g.primitives) g.lists) (are_whole g) (nat_le (corner_count a g) (3 * 2 ^ 25)) movable

-- those that are found have what the test says
each_found : (accessors : List Accessor) (test : Accessor → Bool) (f : Accessor → List (List ℕ)) (P : List (List ℕ) → Type 0)
    → ((k : ℕ) (acc : Accessor) → slice_get accessors k ≡ Some acc → test acc ≡ true → P (f acc)) → (numbers : List ℕ)
    → list_all (holds_at accessors test) numbers ≡ true → All P (map f (filter_map (slice_get accessors) numbers))
each_found accessors test f P has [] is = All-nil P
each_found accessors test f P has (k ∷ ks) is =
    let parts = both (holds_at accessors test k) (list_all (holds_at accessors test) ks) is in
    by_found (slice_get accessors k) refl parts.0 (each_found accessors test f P has ks parts.1)
  where
    by_found : (o : Option Accessor) → slice_get accessors k ≡ o → unwrap_or (option_map test o) false ≡ true → All P (map f (filter_map (slice_get accessors) ks)) → All P (map f (cons_option o (filter_map (slice_get accessors) ks)))
    by_found None found passes rest = rest
    by_found (Some acc) found passes rest = All-cons P (f acc) (map f (filter_map (slice_get accessors) ks)) (has k acc found passes) rest

count_is : (contents : List (List ℕ)) (n : ℕ) (acc : Accessor) → is_column contents n acc ≡ true → acc.count ≡ n
unfolding is_column
count_is contents n acc is = last (is_given acc) (is_vector acc.shape) (acc.count == n) refl (both (has_column_shape n acc) (has_resolved contents acc) is).0
  where
    last : (p v c : Bool) → (acc.count == n) ≡ c → (p && v && c) ≡ true → acc.count ≡ n
    last true true true same is = eqb-true acc.count n same
    last true true false same is = cc
    last true false c same is = cc
    last false v c same is = cc

column_resolved : (contents : List (List ℕ)) (n : ℕ) (acc : Accessor) → is_column contents n acc ≡ true → has_resolved contents acc ≡ true
unfolding is_column
column_resolved contents n acc is = (both (has_column_shape n acc) (has_resolved contents acc) is).1

list_resolved : (a : AssetParts) (contents : List (List ℕ)) (n : ℕ) (acc : Accessor) → is_index_list a contents n acc ≡ true → (is_triangle_list acc ≡ true) × (has_resolved contents acc ≡ true)
list_resolved a contents n acc is =
    both (is_triangle_list acc) (has_resolved contents acc) (both (is_triangle_list acc && has_resolved contents acc) (has_vertices a contents n acc) is).0

-- the columns and the lists of a group that may move resolve to their elements
pub columns_resolved : (a : AssetParts) (contents : List (List ℕ)) (g : Group) → is_movable a contents g ≡ true → filter_map (resolved_at a contents) g.columns ≡ map (items_of a contents) (accessors_at a g.columns)
columns_resolved a contents g movable = all_resolved a contents (is_column contents g.count) (column_resolved contents g.count) g.columns (hold a contents g movable).0

pub lists_resolved : (a : AssetParts) (contents : List (List ℕ)) (g : Group) → is_movable a contents g ≡ true → filter_map (resolved_at a contents) g.lists ≡ map (items_of a contents) (accessors_at a g.lists)
lists_resolved a contents g movable = all_resolved a contents (is_index_list a contents g.count) (λ acc is. (list_resolved a contents g.count acc is).1) g.lists (hold a contents g movable).1

pub have_items : (a : AssetParts) (contents : List (List ℕ)) (g : Group) → is_movable a contents g ≡ true → All (HasItems g.count) (map (items_of a contents) (accessors_at a g.columns))
have_items a contents g movable =
    each_found a.accessors (is_column contents g.count) (items_of a contents) (HasItems g.count)
    (λ k acc found is.
    let long = length-items a contents acc in
    let same = count_is contents g.count acc is in
    omega (arith, long, same))
    g.columns (hold a contents g movable).0

pub sound_of : (a : AssetParts) (k : ℕ) (acc : Accessor) → All (IsSound a.views) a.accessors → slice_get a.accessors k ≡ Some acc → IsSound a.views acc
sound_of a k acc sound found = subst (IsSound a.views) (get_or_from_slice_get a.accessors k acc acc found) (sound k acc (slice_get_within a.accessors k acc found))

pub are_all_numbers : (a : AssetParts) (held : List (Option (List ℕ))) (g : Group) → HasEvery a.views held → All (IsSound a.views) a.accessors → is_movable a (contents_of held) g ≡ true → All AreNumbers (map (items_of a (contents_of held)) (accessors_at a g.lists))
are_all_numbers a held g every sound movable =
    each_found a.accessors (is_index_list a (contents_of held) g.count) (items_of a (contents_of held)) AreNumbers
    (λ k acc found is. are_numbers a held acc every (sound_of a k acc sound found) (corners_of acc (list_resolved a (contents_of held) g.count acc is).0))
    g.lists (hold a (contents_of held) g movable).1

-- ---- lists, one by one

abbrev pub numbers_in : List (List (List ℕ)) → List (List ℕ)
numbers_in lists = map (map number_of) lists

numbers_more : (all : List (List (List ℕ))) (at : ℕ) (x : List (List ℕ)) → at < length all → x ≡ get_or all at x → numbers_in (take (at + 1) all) ≡ numbers_in (take at all) ++ map number_of x ∷ []
numbers_more all at x within is = map_more (map number_of) all at x within ∙ ap (λ (y : List (List ℕ)). numbers_in (take at all) ++ map number_of y ∷ []) (sym is)

joined_push : (xs : List (List ℕ)) (x : List ℕ) → concat (xs ++ x ∷ []) ≡ concat xs ++ x
joined_push xs x = concat-append xs (x ∷ []) ∙ ap (λ ys. concat xs ++ ys) (append-nil x)

pub joined_more : (before joined new : List ℕ) (all : List (List (List ℕ))) (at : ℕ) (x : List (List ℕ)) → at < length all → x ≡ get_or all at x
    → joined ≡ before ++ concat (numbers_in (take at all)) → new ≡ joined ++ map number_of x → new ≡ before ++ concat (numbers_in (take (at + 1) all))
joined_more before joined new all at x within is e step =
    step ∙ ap (λ ys. ys ++ map number_of x) e ∙ append_assoc before (concat (numbers_in (take at all))) (map number_of x)
    ∙ ap (λ ys. before ++ ys) (sym (ap concat (numbers_more all at x within is) ∙ joined_push (numbers_in (take at all)) (map number_of x)))

pub ends_push : (start : ℕ) (xs : List (List ℕ)) (x : List ℕ) → ends_from start (xs ++ x ∷ []) ≡ ends_from start xs ++ (start + length (concat (xs ++ x ∷ []))) ∷ []
ends_push start [] x =
    let long : start + length x ≡ start + length (x ++ []) = ap (λ (ys : List ℕ). start + length ys) (sym (append-nil x)) in
    ap (λ n. n ∷ []) long
ends_push start (y ∷ ys) x =
    let long = length-append y (concat (ys ++ x ∷ [])) in
    let same : start + length y + length (concat (ys ++ x ∷ [])) ≡ start + length (y ++ concat (ys ++ x ∷ [])) = omega (arith, long) in
    ap (λ ns. (start + length y) ∷ ns) (ends_push (start + length y) ys x ∙ ap (λ n. ends_from (start + length y) ys ++ n ∷ []) same)

pub ends_more : (before joined ends before_ends new : List ℕ) (number : ℕ) (all : List (List (List ℕ))) (at : ℕ) (x : List (List ℕ)) → at < length all → x ≡ get_or all at x
    → joined ≡ before ++ concat (numbers_in (take (at + 1) all)) → number ≡ length joined
    → ends ≡ before_ends ++ ends_from (length before) (numbers_in (take at all)) → new ≡ ends ++ number ∷ [] → new ≡ before_ends ++ ends_from (length before) (numbers_in (take (at + 1) all))
ends_more before joined ends before_ends new number all at x within is whole count e step =
    let more = numbers_more all at x within is in
    let long = length-append before (concat (numbers_in (take (at + 1) all))) in
    let number_is : number ≡ length before + length (concat (numbers_in (take at all) ++ map number_of x ∷ [])) =
    count ∙ ap (λ (ys : List ℕ). length ys) whole ∙ long ∙ ap (λ (ys : List (List ℕ)). length before + length (concat ys)) more in
    step ∙ ap (λ ys. ys ++ number ∷ []) e ∙ append_assoc before_ends (ends_from (length before) (numbers_in (take at all))) (number ∷ [])
    ∙ ap (λ n. before_ends ++ (ends_from (length before) (numbers_in (take at all)) ++ n ∷ [])) number_is
    ∙ ap (λ ys. before_ends ++ ys) (sym (ap (ends_from (length before)) more ∙ ends_push (length before) (numbers_in (take at all)) (map number_of x)))

-- ---- all lists

map_map : (a : AssetParts) (contents : List (List ℕ)) (accs : List Accessor) → numbers_in (map (items_of a contents) accs) ≡ map (numbers_of a contents) accs
map_map a contents [] = refl
map_map a contents (x ∷ xs) = ap (λ ys. numbers_of a contents x ∷ ys) (map_map a contents xs)

pub bare_lists : (a : AssetParts) (contents : List (List ℕ)) (g : Group) → g.bare ≡ true → lists a contents g ≡ numbers_in (map (items_of a contents) (accessors_at a g.lists)) ++ range_with_len 0 g.count ∷ []
unfolding lists
bare_lists a contents g bare =
    ap (λ b. map (numbers_of a contents) (accessors_at a g.lists) ++ (if b then range_with_len 0 g.count ∷ [] else [])) bare
    ∙ ap (λ ys. ys ++ range_with_len 0 g.count ∷ []) (sym (map_map a contents (accessors_at a g.lists)))

pub other_lists : (a : AssetParts) (contents : List (List ℕ)) (g : Group) → g.bare ≡ false → lists a contents g ≡ numbers_in (map (items_of a contents) (accessors_at a g.lists))
unfolding lists
other_lists a contents g bare =
    ap (λ b. map (numbers_of a contents) (accessors_at a g.lists) ++ (if b then range_with_len 0 g.count ∷ [] else [])) bare
    ∙ append-nil (map (numbers_of a contents) (accessors_at a g.lists))
    ∙ sym (map_map a contents (accessors_at a g.lists))

pub bare_joined : (a : AssetParts) (contents : List (List ℕ)) (g : Group) (joined new : List ℕ) → g.bare ≡ true → joined ≡ concat (numbers_in (map (items_of a contents) (accessors_at a g.lists)))
    → new ≡ joined ++ range_with_len 0 g.count → new ≡ concat (lists a contents g)
bare_joined a contents g joined new bare e step =
    step ∙ ap (λ ys. ys ++ range_with_len 0 g.count) e
    ∙ sym (ap concat (bare_lists a contents g bare) ∙ joined_push (numbers_in (map (items_of a contents) (accessors_at a g.lists))) (range_with_len 0 g.count))

pub bare_ends : (a : AssetParts) (contents : List (List ℕ)) (g : Group) (joined ends new : List ℕ) (number : ℕ) → g.bare ≡ true → joined ≡ concat (lists a contents g) → number ≡ length joined
    → ends ≡ ends_from 0 (numbers_in (map (items_of a contents) (accessors_at a g.lists))) → new ≡ ends ++ number ∷ [] → new ≡ ends_from 0 (lists a contents g)
bare_ends a contents g joined ends new number bare whole count e step =
    let all = numbers_in (map (items_of a contents) (accessors_at a g.lists)) in
    let are = bare_lists a contents g bare in
    let number_is : number ≡ 0 + length (concat (all ++ range_with_len 0 g.count ∷ [])) =
    count ∙ ap (λ (ys : List ℕ). length ys) whole ∙ ap (λ (ys : List (List ℕ)). length (concat ys)) are ∙ omega arith in
    step ∙ ap (λ ys. ys ++ number ∷ []) e ∙ ap (λ n. ends_from 0 all ++ n ∷ []) number_is
    ∙ sym (ap (ends_from 0) are ∙ ends_push 0 all (range_with_len 0 g.count))

-- ---- numbers, one by one

pub number_more : (before joined new : List ℕ) (items : List (List ℕ)) (at number : ℕ) → at < length items → option_map number_of (slice_get items at) ≡ Some number
    → joined ≡ before ++ map number_of (take at items) → new ≡ joined ++ number ∷ [] → new ≡ before ++ map number_of (take (at + 1) items)
number_more before joined new items at number within is e step =
    let here : number_of (get_or items at []) ≡ number = same_Some (number_of (get_or items at [])) number (sym (ap (option_map number_of) (slice_get-get_or items at [] within)) ∙ is) in
    step ∙ ap (λ xs. xs ++ number ∷ []) e ∙ append_assoc before (map number_of (take at items)) (number ∷ [])
    ∙ ap (λ xs. before ++ xs) (ap (λ n. map number_of (take at items) ++ n ∷ []) (sym here) ∙ sym (map_more number_of items at [] within))

-- ---- lists that nothing stands before

pub first_joined : (before joined : List ℕ) (found all : List (List (List ℕ))) → before ≡ [] → found ≡ all → joined ≡ before ++ concat (numbers_in found) → joined ≡ concat (numbers_in all)
first_joined before joined found all none same is = is ∙ ap (λ xs. xs ++ concat (numbers_in found)) none ∙ ap (λ (l : List (List (List ℕ))). concat (numbers_in l)) same

pub first_ends : (before ends joined : List ℕ) (found all : List (List (List ℕ))) → before ≡ [] → joined ≡ [] → found ≡ all → ends ≡ before ++ ends_from (length joined) (numbers_in found) → ends ≡ ends_from 0 (numbers_in all)
first_ends before ends joined found all none nothing same is =
    is ∙ ap (λ xs. xs ++ ends_from (length joined) (numbers_in found)) none
    ∙ ap (λ (xs : List ℕ). ends_from (length xs) (numbers_in found)) nothing
    ∙ ap (λ (l : List (List (List ℕ))). ends_from 0 (numbers_in l)) same
