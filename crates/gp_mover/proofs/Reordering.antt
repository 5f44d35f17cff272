-- Records and lists in their new order, step by step as the code goes.
use Rattle.std.specs.Prelude.{slice_index, slice_index_or, filter}
use Rattle.std.proofs.Common.{◌≡◌, ℕ, ◌+◌, ◌*◌, ◌/◌, ◌%◌, ◌^◌, ◌<◌, ◌≤◌, not, List, [], ◌∷◌, map, length, get_or, refl, sym, ap, ◌∙◌, subst, arith}
use Rattle.std.specs.List.{All, concat}
use Rattle.std.specs.Str.{bytes_eq}
use Rattle.std.proofs.lemmas.List.{length-map}
use Rattle.std.proofs.lemmas.List.Elements.{All-nil, All-cons, All-filter, All-get_or, All-weaker, All-map}
use Rattle.std.proofs.lemmas.List.FromFn.{get_or-map-range_with_len, length-map-range_with_len}
use Rattle.std.proofs.lemmas.Simd.{map-map}
use Rattle.gp_alias.specs.Records.{ends_from}
use Rattle.gp_cache.specs.Tipsify.{better}
use Rattle.gp_merge.specs.Distinct.{without_repeats}
use Rattle.gp_merge.specs.Records.{record_at, records, distinct as distinct_of_merge, numbers as numbers_of_merge}
use Rattle.gp_merge.specs.Order.{first_seen, places_in}
use Rattle.gp_merge.proofs.Cuts.{length-records, get_or-records}
use Rattle.gp_merge.proofs.Keeping.{record_within}
use Rattle.gp_merge.proofs.Placing.{length-part}
use Rattle.gp_merge.proofs.Tables.{table_arranges}
use Rattle.gp_moving.specs.Records.{distinct, numbers, numbered}
use Rattle.gp_moving.specs.Ordered.{ordered, chosen_by, places}
use Rattle.gp_moving.specs.Triangles.{IsTriangleList}
use Rattle.gp_moving.specs.Kept.{AreChosen}
use Rattle.gp_moving.proofs.Numbers.{numbered_list}
use Rattle.gp_moving.proofs.Lists.{IsKept, same_of, lists_kept, numbers_below}
use Rattle.gp_moving.proofs.Places.{lists_by_places, records_by_places}
use Rattle.gp_mover.specs.Standing.{between, AreJoined, Reordered}
use Rattle.gp_mover.proofs.SameWords.{same_distinct, same_numbers, same_places}
use Rattle.gp_mover.proofs.Rows.{Sized, length-rows, cut_rows, whole_rows, between_joined, same_ends, map-joined, all_joined}
use Rattle.gp_mover.proofs.Orders.{better_chosen}

-- ---- sizes

pub cut_sized : (size : ℕ) (bytes : List ℕ) → Sized size (records size bytes)
cut_sized size bytes i d below =
    let long = length-records size bytes in
    let within : i < length bytes / size = omega (arith, long, below) in
    ap (λ (r : List ℕ). length r) (get_or-map-range_with_len (record_at size bytes) 0 (length bytes / size) i i d within (omega arith))
    ∙ length-part bytes (i * size) size (record_within size (length bytes) i within)

all_distinct : (P : List ℕ → Type 0) (rows : List (List ℕ)) → All P rows → All P (distinct_of_merge rows)
all_distinct P [] each = each
all_distinct P (r ∷ rows) each =
    let rest = all_distinct P rows (Rattle.std.proofs.lemmas.List.Elements.All-tail P r rows each) in
    let own = Rattle.std.proofs.lemmas.List.Elements.All-head P r rows each in
    let others : List (List ℕ) = filter (λ other. not (bytes_eq r other)) (distinct_of_merge rows) in
    All-cons P r others own (All-filter (λ other. not (bytes_eq r other)) P (distinct_of_merge rows) rest)

pub distinct_sized : (size : ℕ) (rows : List (List ℕ)) → Sized size rows → Sized size (distinct_of_merge rows)
distinct_sized size rows sized = all_distinct (λ (r : List ℕ). length r ≡ size) rows sized

-- ---- where lists end, by their lengths

abbrev ends_of : ℕ → List ℕ → List ℕ
ends_of start [] = []
ends_of start (n ∷ more) = (start + n) ∷ ends_of (start + n) more

by_lengths : (start : ℕ) (lists : List (List ℕ)) → ends_from start lists ≡ ends_of start (map length lists)
by_lengths start [] = refl
by_lengths start (list ∷ lists) = ap (λ es. (start + length list) ∷ es) (by_lengths (start + length list) lists)

-- ---- the steps

module _ (size : ℕ) (all lists : List (List ℕ)) (ends joined : List ℕ) (count : ℕ) (are : AreJoined (length all) ends joined lists) (count_is : count ≡ length (distinct_of_merge all)) where
  count_same : count ≡ length (distinct all)
  count_same = count_is ∙ ap (λ (ds : List (List ℕ)). length ds) (same_distinct all)

  are_chosen : AreChosen all lists (chosen_by better all lists)
  are_chosen = better_chosen all lists are.sound

  -- each number of the lists has an entry
  pub numbers_have_entries : (table : List ℕ) → table ≡ numbers_of_merge all → All (λ n. n < length table) joined
  numbers_have_entries table is =
      let long : length table ≡ length all = ap (λ (l : List ℕ). length l) (is ∙ same_numbers all) ∙ length-map all _ in
      let each : All (All (λ n. n < length all)) lists = All-weaker (IsTriangleList (length all)) (All (λ n. n < length all)) (λ l sound. sound.below) lists are.sound in
      subst (All (λ n. n < length table)) (sym are.row) (subst (λ k. All (λ n. n < k) (concat lists)) (sym long) (all_joined (λ n. n < length all) lists each))

  numbered_joined : (table : List ℕ) → table ≡ numbers_of_merge all → AreJoined count ends (map (slice_index table) joined) (map (numbered all) lists)
  numbered_joined table is = record {
    row = ap (λ (t : List ℕ). map (slice_index t) joined) (is ∙ same_numbers all) ∙ ap (map (slice_index (numbers all))) are.row ∙ map-joined (slice_index (numbers all)) lists;
    places = are.places ∙ sym (same_ends (numbered all) 0 lists (λ i d below. length-map (get_or lists i d) (slice_index (numbers all))));
    sound = subst (λ n. All (IsTriangleList n) (map (numbered all) lists)) (sym count_same)
        (All-map (IsTriangleList (length (distinct all))) (numbered all) lists
        (All-weaker (IsTriangleList (length all)) (λ l. IsTriangleList (length (distinct all)) (numbered all l)) (numbered_list all) lists are.sound));
    few = All-map (λ (l : List ℕ). length l ≤ 3 * 2 ^ 25) (numbered all) lists
        (All-weaker (λ (l : List ℕ). length l ≤ 3 * 2 ^ 25) (λ (l : List ℕ). length (numbered all l) ≤ 3 * 2 ^ 25) (λ l fits. omega (arith, fits, length-map l (slice_index (numbers all)))) lists are.few);
  }

  numbered_between : (table : List ℕ) → table ≡ numbers_of_merge all → between 0 ends (map (slice_index table) joined) ≡ map (numbered all) lists
  numbered_between table is =
      let own = numbered_joined table is in
      between_joined ends (map (slice_index table) joined) (map (numbered all) lists) own.row own.places

  -- the lists over numbers of distinct records
  pub numbered_are : (table : List ℕ) → table ≡ numbers_of_merge all → AreJoined count ends (map (slice_index table) joined) (between 0 ends (map (slice_index table) joined))
  numbered_are table is = subst (AreJoined count ends (map (slice_index table) joined)) (sym (numbered_between table is)) (numbered_joined table is)

  -- and in their better orders
  pub orders_joined : (table now : List ℕ) → table ≡ numbers_of_merge all → now ≡ concat (map (λ list. better list count) (between 0 ends (map (slice_index table) joined))) → now ≡ concat (chosen_by better all lists)
  orders_joined table now is made =
      made ∙ ap (λ (ls : List (List ℕ)). concat (map (λ list. better list count) ls)) (numbered_between table is)
      ∙ ap (λ (ls : List (List ℕ)). concat ls) (map-map (λ list. better list count) (numbered all) lists)
      ∙ ap (λ n. concat (map (λ list. better (numbered all list) n) lists)) count_same

  pub orders_below : (now : List ℕ) → now ≡ concat (chosen_by better all lists) → All (λ n. n < count) now
  orders_below now is =
      subst (All (λ n. n < count)) (sym is)
      (subst (λ k. All (λ n. n < k) (concat (chosen_by better all lists))) (sym count_same)
      (all_joined (λ n. n < length (distinct all)) (chosen_by better all lists) (numbers_below all lists (chosen_by better all lists) are_chosen)))

  table_is : (order : List ℕ) → order ≡ concat (chosen_by better all lists) → places_in (first_seen order count) count ≡ places all (chosen_by better all lists)
  table_is order is = ap (λ (o : List ℕ). places_in (first_seen o count) count) is ∙ same_places all (chosen_by better all lists) count count_same

  module _ (some : 1 ≤ size) (sized : Sized size all) (order bytes moved : List ℕ) (order_is : order ≡ concat (chosen_by better all lists)) (bytes_are : bytes ≡ concat (distinct_of_merge all)) (long : length moved ≡ length bytes) (at : (i : ℕ) → i < count → record_at size moved (slice_index (places_in (first_seen order count) count) i) ≡ record_at size bytes i) where
    ds_sized : Sized size (distinct_of_merge all)
    ds_sized = distinct_sized size all sized

    bytes_cut : records size bytes ≡ distinct_of_merge all
    bytes_cut = cut_rows size (distinct_of_merge all) bytes some ds_sized bytes_are

    many : length bytes / size ≡ count
    many = sym (length-records size bytes) ∙ ap (λ (rs : List (List ℕ)). length rs) bytes_cut ∙ sym count_is

    as_many : length moved / size ≡ count
    as_many = ap (λ n. n / size) long ∙ many

    new_many : length (records size moved) ≡ length (distinct all)
    new_many = length-records size moved ∙ as_many ∙ count_same

    each : (n : ℕ) → n < length (distinct all) → slice_index_or (records size moved) (slice_index (places all (chosen_by better all lists)) n) [] ≡ slice_index_or (distinct all) n []
    each n below =
        let table = places_in (first_seen order count) count in
        let within : n < count = omega (arith, below, count_same) in
        let entries : length table ≡ count = length-map-range_with_len _ 0 count in
        let arranged = table_arranges order count (orders_below order order_is) in
        let place : ℕ = slice_index table n in
        let inside : place < length table = arranged.below n 0 (omega (arith, within, entries)) in
        ap (λ (t : List ℕ). slice_index_or (records size moved) (slice_index t n) []) (sym (table_is order order_is))
        ∙ get_or-records size moved place (omega (arith, inside, entries, as_many))
        ∙ at n within
        ∙ sym (get_or-records size bytes n (omega (arith, within, many)))
        ∙ ap (λ (rs : List (List ℕ)). get_or rs n []) (bytes_cut ∙ same_distinct all)

    pub reordered : (now : List ℕ) → now ≡ map (slice_index (places_in (first_seen order count) count)) order → Reordered size moved ends now (ordered all (chosen_by better all lists))
    reordered now is =
        let chosen = chosen_by better all lists in
        let new = ordered all chosen in
        let lengths : map length new.lists ≡ map length lists = same_of (λ list other. IsKept all list new.records other) length length (λ list other k. k.long) lists new.lists (lists_kept all lists chosen are_chosen) in
        record {
          records = records_by_places all lists chosen are_chosen (records size moved) new_many each;
          whole = ap (λ n. n % size) long ∙ whole_rows size (distinct_of_merge all) bytes some ds_sized bytes_are;
          row = is ∙ ap (λ (t : List ℕ). map (slice_index t) order) (table_is order order_is) ∙ ap (map (slice_index (places all chosen))) order_is
              ∙ map-joined (slice_index (places all chosen)) chosen ∙ ap (λ (ls : List (List ℕ)). concat ls) (sym (lists_by_places all lists chosen are_chosen));
          places = are.places ∙ by_lengths 0 lists ∙ ap (ends_of 0) (sym lengths) ∙ sym (by_lengths 0 new.lists);
        }
