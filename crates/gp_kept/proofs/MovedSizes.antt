-- The views that are made for groups that move have together at most twice the bytes that the accessors ask for.
use Rattle.std.specs.Prelude.{◌*◌, ◌/◌, flat_map, if◌then◌else◌, option_map, option_to_list, sum, unwrap_or, zip, Option, Some, None}
use Rattle.std.specs.List.{All, cons_option, list_all, range_with_len, slice_get, sum_by}
use Rattle.std.proofs.Common.{◌≡◌, inl, inr, ℕ, zero, suc, ◌+◌, ◌<◌, ◌≤◌, Bool, true, false, List, [], ◌∷◌, ◌++◌, length, map, take, get_or, refl, sym, ap, ◌∙◌, subst, arith, append_assoc}
use Rattle.std.proofs.Math.Nat.{mul-le-mul_right, mul_assoc, mul_comm}
use Rattle.std.proofs.lemmas.List.{take_all, length-map}
use Rattle.std.proofs.lemmas.List.FromFn.{length-range_with_len}
use Rattle.std.proofs.lemmas.List.Sums.{sum_by-cons, sum_by-append, sum_by_more, sum-map}
use Rattle.std.proofs.lemmas.Option.{slice_get-get_or}
use Rattle.gp_tree.specs.Lexical.{Each}
use Rattle.gp_rules.specs.declared.accessing.Accessor.{Accessor}
use Rattle.gp_rules.specs.declared.accessing.Component.TheVariants.{U8}
use Rattle.gp_rules.specs.declared.accessing.Shape.TheVariants.{Scalar}
use Rattle.gp_rules.specs.Sizes.{padded}
use Rattle.gp_rules.specs.Accessors.{size_of, padded_load}
use Rattle.gp_asset.specs.Asset.{AssetParts}
use Rattle.gp_elements.specs.Elements.{number_of}
use Rattle.gp_alias.specs.declared.group.Group.{Group}
use Rattle.gp_alias.specs.Movable.{items_of, numbers_of as numbers_in, holds_at, is_column}
use Rattle.gp_alias.specs.Records.{accessors_at, records, lists}
use Rattle.gp_alias.proofs.Members.{Among}
use Rattle.gp_moving.proofs.Lists.{IsKept, same_of, lists_kept}
use Rattle.gp_sameness.specs.Moved.{Moved}
use Rattle.gp_packed.specs.MadeViews.{Made, is_narrow, made_column, made_columns, made_list, made_lists, made_views}
use Rattle.gp_packed.specs.MadeLaws.{numbers_of, IsWhole}
use Rattle.gp_packed.specs.MovedGroups.{ordered_group, moved_of, number_if, moved_groups}
use Rattle.gp_kept.specs.TrianglesMoved.{IsRead}
use Rattle.gp_kept.proofs.MadeLists.{width_if, lists_long}
use Rattle.gp_kept.proofs.MadeColumns.{columns_long}
use Rattle.gp_kept.proofs.MadeSizes.{all_found as each_found_column}
use Rattle.gp_kept.proofs.MadeInOrder.{column_readers}
use Rattle.gp_kept.proofs.ApartNumbers.{Apart, among_join, apart_join, apart_front, sum_below, apart_sum}
use Rattle.gp_kept.proofs.ElementSizes.{items_count}
use Rattle.gp_kept.proofs.GroupsApart.{MayMove, HasUses, numbers_pass, column_in, list_in}
use Rattle.gp_kept.proofs.GroupsWhole.{left_in, right_in, orders, chosen, holds, first_column, few_records, one_found, column_of}
use Rattle.gp_kept.proofs.GroupsRead.{element_some}
use Rattle.gp_kept.proofs.MovedGroups.{each_group, all_apart, apart_behind, apart_between}
use Rattle.gp_kept.proofs.MovedGroupsWhole.{each_whole}
use Rattle.gp_unpack.proofs.EachItem.{each_is}
use Rattle.gp_packed.specs.RulesMoved.{GroupIsWhole}

-- ---- what the accessors with some numbers ask for

abbrev load_at : List Accessor → ℕ → ℕ
load_at xs at = unwrap_or (option_map padded_load (slice_get xs at)) 0

abbrev pub loads : AssetParts → List ℕ → ℕ
loads a numbers = sum_by (load_at a.accessors) numbers

-- what stands for an accessor that isn't there
abbrev no_accessor : Accessor
no_accessor = record { view = None; offset = 0; component = U8; shape = Scalar; count = 0; sparse = None }

first_loads : (xs : List Accessor) (k : ℕ) → k ≤ length xs → sum_below (load_at xs) k ≡ sum_by padded_load (take k xs)
first_loads xs zero within = refl
first_loads xs (suc k) within =
    let below : k < length xs = omega (arith, within) in
    let x : Accessor = get_or xs k no_accessor in
    let more : k + 1 ≡ suc k = omega arith in
    let here : load_at xs k ≡ padded_load x = ap (λ o. unwrap_or (option_map padded_load o) 0) (slice_get-get_or xs k no_accessor below) in
    let others = first_loads xs k (omega (arith, within)) in
    let step = subst (λ n. sum_by padded_load (take n xs) ≡ sum_by padded_load (take k xs) + padded_load x) more (sum_by_more padded_load xs k no_accessor below) in
    omega (arith, here, others, step)

all_loads : (xs : List Accessor) → sum_below (load_at xs) (length xs) ≡ sum_by padded_load xs
all_loads xs = first_loads xs (length xs) (omega arith) ∙ ap (sum_by padded_load) (take_all (length xs) xs (omega arith))

load_among : (a : AssetParts) (at : ℕ) (numbers : List ℕ) → Among at numbers → load_at a.accessors at ≤ loads a numbers
load_among a at [] h = absurd h
load_among a at (n ∷ numbers) (inl e) =
    let same : load_at a.accessors at ≡ load_at a.accessors n = ap (load_at a.accessors) e in
    omega (arith, sum_by-cons (load_at a.accessors) n numbers, same)
load_among a at (n ∷ numbers) (inr h) = omega (arith, sum_by-cons (load_at a.accessors) n numbers, load_among a at numbers h)

loads_join : (a : AssetParts) (xs ys : List ℕ) → loads a (xs ++ ys) ≡ loads a xs + loads a ys
loads_join a xs ys = sum_by-append (load_at a.accessors) xs ys

-- ---- the views of a group

-- with the gap up to the next one
abbrev pub room : Made → ℕ
room v = padded (length v.contents)

-- its records are no more than the elements of its columns, nor its corners than those of its lists and one column
pub record IsSized (a : AssetParts) (m : Moved) : Type 0 where
  pub columns : (at : ℕ) (x : Accessor) → Among at m.columns → slice_get a.accessors at ≡ Some x → length m.records * padded (size_of x) ≤ padded_load x
  pub lists : 4 * sum_by length m.ordered ≤ loads a m.columns + loads a m.lists

padded_whole : (n k : ℕ) → padded (n * padded k) ≡ n * padded k
padded_whole n k =
    let q = (k + 3) / 4 in
    let same : n * padded k ≡ (n * q) * 4 = sym (mul_assoc n q 4) in
    let w = n * q in
    let whole : padded (w * 4) ≡ w * 4 = omega arith in
    ap padded same ∙ whole ∙ sym same

get_among : (xs : List ℕ) (k : ℕ) → k < length xs → Among (get_or xs k 0) xs
get_among [] k within = absurd (omega (arith, within))
get_among (x ∷ xs) zero within = inl refl
get_among (x ∷ xs) (suc k) within = inr (get_among xs k (omega (arith, within)))

abbrev FitsLoad : AssetParts → Made → Type 0
FitsLoad a v = room v ≤ load_at a.accessors v.accessor

columns_fit : (a : AssetParts) (m : Moved) → IsWhole a m → IsSized a m → All (FitsLoad a) (made_columns a m)
columns_fit a m whole sized =
    each_found_column (FitsLoad a) (made_column a m) a.accessors m.columns 0 (λ k x below is.
    let from_0 : 0 + k ≡ k = omega arith in
    let at = get_or m.columns k 0 in
    let long = ap padded (columns_long a m k x whole (record { within = below; accessor = is })) ∙ padded_whole (length m.records) (size_of x) in
    let load : load_at a.accessors at ≡ padded_load x = ap (λ o. unwrap_or (option_map padded_load o) 0) is in
    let few = sized.columns at x (get_among m.columns k below) is in
    let own : FitsLoad a (made_column a m k at x) = omega (arith, long, load, few) in
    subst (λ n. FitsLoad a (made_column a m n at x)) (sym from_0) own)

rooms_fit : (a : AssetParts) (vs : List Made) → All (FitsLoad a) vs → sum_by room vs ≤ loads a (map (λ (v : Made). v.accessor) vs)
rooms_fit a [] h = omega arith
rooms_fit a (v ∷ vs) h =
    let own : FitsLoad a v = h 0 v (omega arith) in
    omega (
      arith,
      sum_by-cons room v vs,
      sum_by-cons (load_at a.accessors) v.accessor (map (λ (v : Made). v.accessor) vs),
      own,
      rooms_fit a vs (λ k d within. h (suc k) d (omega (arith, within))),
    )

pub column_rooms : (a : AssetParts) (m : Moved) → IsWhole a m → IsSized a m → sum_by room (made_columns a m) ≤ loads a m.columns
column_rooms a m whole sized =
    subst (λ ns. sum_by room (made_columns a m) ≤ loads a ns) (column_readers a m m.columns 0 whole.exist) (rooms_fit a (made_columns a m) (columns_fit a m whole sized))

width_room : (b : Bool) (n : ℕ) → padded (width_if b * n) ≤ 4 * n
width_room true n = omega arith
width_room false n = omega arith

list_room : (m : Moved) (p : ℕ × List ℕ) → room (made_list m p) ≤ 4 * length p.1
list_room m p = omega (arith, ap padded (lists_long m p.1), width_room (is_narrow m) (length p.1))

rooms_of_lists : (m : Moved) (ns : List ℕ) (ls : List (List ℕ)) → sum_by room (map (made_list m) (zip ns ls)) ≤ 4 * sum_by length ls
rooms_of_lists m [] ls = omega arith
rooms_of_lists m (n ∷ ns) [] = omega arith
rooms_of_lists m (n ∷ ns) (l ∷ ls) =
    omega (arith, sum_by-cons room (made_list m (n, l)) (map (made_list m) (zip ns ls)), sum_by-cons length l ls, list_room m (n, l), rooms_of_lists m ns ls)

pub list_rooms : (a : AssetParts) (m : Moved) → IsSized a m → sum_by room (made_lists m) ≤ loads a m.columns + loads a m.lists
list_rooms a m sized = let few = sized.lists in omega (arith, rooms_of_lists m (m.lists ++ option_to_list m.list_accessor) m.ordered, few)

abbrev pub own_of : Moved → List ℕ
own_of m = m.columns ++ m.lists

pub group_rooms : (a : AssetParts) (m : Moved) → IsWhole a m → IsSized a m → sum_by room (made_columns a m ++ made_lists m) ≤ 2 * loads a (own_of m)
group_rooms a m whole sized =
    omega (arith, sum_by-append room (made_columns a m) (made_lists m), column_rooms a m whole sized, list_rooms a m sized, loads_join a m.columns m.lists)

-- ---- the views of all groups

abbrev pub all_own : List Moved → List ℕ
all_own moved = flat_map own_of moved

pub all_rooms : (a : AssetParts) (moved : List Moved) → Each (IsWhole a) moved → Each (IsSized a) moved → sum_by room (made_views a moved) ≤ 2 * loads a (all_own moved)
all_rooms a [] whole sized = omega arith
all_rooms a (m ∷ moved) whole sized =
    omega (
      arith,
      sum_by-append room (made_columns a m ++ made_lists m) (made_views a moved),
      group_rooms a m whole.0 sized.0,
      all_rooms a moved whole.1 sized.1,
      loads_join a (own_of m) (all_own moved),
    )

-- the bytes of no single view are more than the accessors ask for
abbrev pub IsWithin : ℕ → Made → Type 0
IsWithin most v = room v ≤ most

each_within : (most : ℕ) (vs : List Made) → sum_by room vs ≤ most → Each (IsWithin most) vs
each_within most [] few = tt
each_within most (v ∷ vs) few = (omega (arith, sum_by-cons room v vs, few), each_within most vs (omega (arith, sum_by-cons room v vs, few)))

join_each : (most : ℕ) (xs ys : List Made) → Each (IsWithin most) xs → Each (IsWithin most) ys → Each (IsWithin most) (xs ++ ys)
join_each most [] ys h k = k
join_each most (x ∷ xs) ys h k = (h.0, join_each most xs ys h.1 k)

pub all_within : (a : AssetParts) (moved : List Moved) (most : ℕ) → Each (IsWhole a) moved → Each (IsSized a) moved → loads a (all_own moved) ≤ most → Each (IsWithin most) (made_views a moved)
all_within a [] most whole sized few = tt
all_within a (m ∷ moved) most whole sized few =
    let split = loads_join a (own_of m) (all_own moved) in
    let own = loads_join a m.columns m.lists in
    join_each most (made_columns a m ++ made_lists m) (made_views a moved)
    (join_each most (made_columns a m) (made_lists m)
    (each_within most (made_columns a m) (omega (arith, column_rooms a m whole.0 sized.0, split, own, few)))
    (each_within most (made_lists m) (omega (arith, list_rooms a m sized.0, split, own, few))))
    (all_within a moved most whole.1 sized.1 (omega (arith, split, few)))

-- ---- accessors of groups that are apart

own_is_number : (moved : List Moved) (x : ℕ) → Among x (all_own moved) → Among x (flat_map numbers_of moved)
own_is_number [] x h = h
own_is_number (m ∷ moved) x h = elim (among_join x (own_of m) (all_own moved) h) [
  | inl here ↦
      left_in x (numbers_of m) (flat_map numbers_of moved)
      (subst (Among x) (append_assoc m.columns m.lists (option_to_list m.list_accessor)) (left_in x (own_of m) (option_to_list m.list_accessor) here))
  | inr there ↦ right_in x (numbers_of m) (flat_map numbers_of moved) (own_is_number moved x there)
]

own_apart : (moved : List Moved) → Apart (flat_map numbers_of moved) → Apart (all_own moved)
own_apart [] h = h
own_apart (m ∷ moved) h =
    let others = flat_map numbers_of moved in
    let made = option_to_list m.list_accessor in
    let same : numbers_of m ≡ own_of m ++ made = sym (append_assoc m.columns m.lists made) in
    apart_join (own_of m) (all_own moved) (apart_front (own_of m) made (subst Apart same (apart_front (numbers_of m) others h)))
    (own_apart moved (apart_behind (numbers_of m) others h))
    (λ x p q. apart_between (numbers_of m) others h x (subst (Among x) (sym same) (left_in x (own_of m) made p)) (own_is_number moved x q))

abbrev pub OwnBelow : ℕ → Moved → Type 0
OwnBelow n m = (x : ℕ) → Among x (own_of m) → x < n

all_below : (n : ℕ) (moved : List Moved) → Each (OwnBelow n) moved → (x : ℕ) → Among x (all_own moved) → x < n
all_below n [] h x k = absurd k
all_below n (m ∷ moved) h x k = elim (among_join x (own_of m) (all_own moved) k) [
  | inl here ↦ h.0 x here
  | inr there ↦ all_below n moved h.1 x there
]

-- ---- the groups of an asset

pub own_below : (a : AssetParts) (contents : List (List ℕ)) → HasUses a → Each (OwnBelow (length a.accessors)) (moved_groups a contents)
own_below a contents has =
    each_group a contents (OwnBelow (length a.accessors)) (λ g next m x h. elim (among_join x g.columns g.lists h) [
      | inl here ↦ (column_in a contents has g m x here).0
      | inr there ↦ (list_in a contents has g m x there).0
    ])

pub few_loads : (a : AssetParts) (contents : List (List ℕ)) → HasUses a → loads a (all_own (moved_groups a contents)) ≤ sum_by padded_load a.accessors
few_loads a contents has =
    let moved = moved_groups a contents in
    let own = apart_sum (load_at a.accessors) (length a.accessors) (all_own moved) (own_apart moved (all_apart a contents has)) (all_below (length a.accessors) moved (own_below a contents has)) in
    omega (arith, own, all_loads a.accessors)

-- four bytes for each corner are no more than its accessor asks for
least_bytes : (x : Accessor) → 4 * x.count ≤ padded_load x
least_bytes x =
    let four : 4 ≤ padded (size_of x) = omega (arith, element_some x.component x.shape) in
    omega (arith, mul-le-mul_right {m = 4} {n = padded (size_of x)} x.count four, mul_comm x.count (padded (size_of x)))

corners_of : (a : AssetParts) (contents : List (List ℕ)) (numbers : List ℕ) → 4 * sum_by length (map (numbers_in a contents) (accessors_at a numbers)) ≤ loads a numbers
corners_of a contents [] = omega arith
corners_of a contents (k ∷ ks) = by_found (slice_get a.accessors k) refl (corners_of a contents ks)
  where
    by_found : (o : Option Accessor) → slice_get a.accessors k ≡ o → 4 * sum_by length (map (numbers_in a contents) (accessors_at a ks)) ≤ loads a ks
        → 4 * sum_by length (map (numbers_in a contents) (cons_option o (accessors_at a ks))) ≤ loads a (k ∷ ks)
    by_found None found others = omega (arith, others, sum_by-cons (load_at a.accessors) k ks)
    by_found (Some x) found others =
        let long : length (numbers_in a contents x) ≡ x.count = length-map (items_of a contents x) number_of ∙ items_count a contents x in
        let load : load_at a.accessors k ≡ padded_load x = ap (λ o. unwrap_or (option_map padded_load o) 0) found in
        omega (
          arith,
          sum_by-cons (load_at a.accessors) k ks,
          sum_by-cons length (numbers_in a contents x) (map (numbers_in a contents) (accessors_at a ks)),
          long,
          load,
          others,
          least_bytes x,
        )

same_lengths : (xs ys : List (List ℕ)) → map length xs ≡ map length ys → sum_by length xs ≡ sum_by length ys
same_lengths xs ys e = sym (sum-map length xs) ∙ ap sum e ∙ sum-map length ys

module _ (a : AssetParts) (contents : List (List ℕ)) (known : IsRead a contents) (g : Group) (m : MayMove a contents g) where
  abbrev columns_hold : list_all (holds_at a.accessors (is_column contents g.count)) g.columns ≡ true
  columns_hold = (holds a contents known g m).columns

  column_count : (at : ℕ) (x : Accessor) → Among at g.columns → slice_get a.accessors at ≡ Some x → x.count ≡ g.count
  column_count at x h is =
      let found = one_found a.accessors (is_column contents g.count) at (numbers_pass (holds_at a.accessors (is_column contents g.count)) g.columns at columns_hold h) in
      let both : Some found.0 ≡ Some x = sym found.1 ∙ is in
      let same : found.0 ≡ x = cc in
      sym (ap (λ (y : Accessor). y.count) same) ∙ (column_of contents g.count found.0 found.2).count

  -- one column has as many bytes
  one_column : 4 * g.count ≤ loads a g.columns
  one_column =
      let first = first_column a contents known g m in
      let found = one_found a.accessors (is_column contents g.count) first.0 (numbers_pass (holds_at a.accessors (is_column contents g.count)) g.columns first.0 columns_hold first.1) in
      let count = (column_of contents g.count found.0 found.2).count in
      let load : load_at a.accessors first.0 ≡ padded_load found.0 = ap (λ o. unwrap_or (option_map padded_load o) 0) found.1 in
      omega (arith, least_bytes found.0, count, load, load_among a first.0 g.columns first.1)

  bare_corners : (b : Bool) → 4 * sum_by length (if b then range_with_len 0 g.count ∷ [] else []) ≤ 4 * g.count
  bare_corners true = omega (arith, sum_by-cons length (range_with_len 0 g.count) [], length-range_with_len 0 g.count)
  bare_corners false = omega arith

  all_corners : 4 * sum_by length (lists a contents g) ≤ loads a g.lists + 4 * g.count
  unfolding lists
  all_corners =
      let given = map (numbers_in a contents) (accessors_at a g.lists) in
      let bare = if g.bare then range_with_len 0 g.count ∷ [] else [] in
      omega (arith, sum_by-append length given bare, corners_of a contents g.lists, bare_corners g.bare)

  pub is_sized : (o : Option ℕ) → IsSized a (moved_of a contents o g)
  is_sized o = record {
    columns = λ at x h is. (
        let count = column_count at x h is in
        let few : length (ordered_group a contents g).records ≤ x.count = omega (arith, count, few_records a contents known g m) in
        mul-le-mul_right (padded (size_of x)) few
        );
    lists =
        let new = (ordered_group a contents g).lists in
        let lengths : map length new ≡ map length (lists a contents g) =
        same_of (λ list other. IsKept (records a contents g) list (ordered_group a contents g).records other) length length (λ list other k. k.long) (lists a contents g) new
        (lists_kept (records a contents g) (lists a contents g) (orders a contents known g m) (chosen a contents known g m)) in
        omega (arith, same_lengths new (lists a contents g) lengths, all_corners, one_column);
  }

pub groups_sized : (a : AssetParts) (contents : List (List ℕ)) → IsRead a contents → Each (IsSized a) (moved_groups a contents)
groups_sized a contents known = each_group a contents (IsSized a) (λ g next m. is_sized a contents known g m (number_if g.bare next))

pub groups_whole : (a : AssetParts) (contents : List (List ℕ)) → IsRead a contents → Each (IsWhole a) (moved_groups a contents)
groups_whole a contents known = each_is (GroupIsWhole a) (IsWhole a) (λ m is. is.columns) (moved_groups a contents) (each_whole a contents known)
