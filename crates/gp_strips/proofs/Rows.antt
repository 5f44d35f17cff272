-- Corners in a row, triangle by triangle.
use Rattle.std.proofs.Common.{◌≡◌, ℕ, ◌+◌, ◌-◌, ◌*◌, ◌<◌, ◌%◌, List, [], ◌∷◌, ◌++◌, length, map, get_or, zero, suc, ◌==◌, refl, sym, ap, ◌∙◌, append_assoc, Bool, true, false, if◌then◌else◌, subst, arith}
use Rattle.std.specs.Prelude.{flat_map, count_by, Contains}
use Rattle.std.specs.List.{All, range_with_len}
use Rattle.std.proofs.lemmas.List.{flat_map_more, get_or-map, length-map}
use Rattle.std.proofs.lemmas.List.FromFn.{map-range_with_len_more, length-map-range_with_len, get_or-map-range_with_len}
use Rattle.std.proofs.lemmas.List.Elements.{All-nil, All-cons, All-head, All-tail, All-get_or, All-from_get_or, All-contains_itself}
use Rattle.gp_cache.specs.Triangles.{Corners, corner_list, triples, same_corners}
use Rattle.gp_strips.specs.Strips.{strip_places, fan_places, triangle_count, corners_at, triangles_at, corners_in_row, places_by, listed_corners}

-- the corners of so many triangles
abbrev pub row_of : (ℕ → Corners) → List ℕ → ℕ → List ℕ
row_of places list n = flat_map corner_list (map (λ i. corners_at 0 list (places i)) (range_with_len 0 n))

pub row_none : (places : ℕ → Corners) (list : List ℕ) → row_of places list 0 ≡ []
row_none places list = refl

pub row_more : (places : ℕ → Corners) (list : List ℕ) (n : ℕ) → row_of places list (n + 1) ≡ row_of places list n ++ corner_list (corners_at 0 list (places n))
row_more places list n =
    let f : ℕ → Corners = λ i. corners_at 0 list (places i) in
    ap (flat_map corner_list) (map-range_with_len_more f 0 n n (omega arith)) ∙ sym (flat_map_more corner_list [] (map f (range_with_len 0 n)) (f n))

pub row_all : (places : ℕ → Corners) (list : List ℕ) (n : ℕ) → n ≡ triangle_count list → row_of places list n ≡ corners_in_row places list
unfolding corners_in_row
row_all places list n all = ap (row_of places list) all

-- three corners pushed
pub pushed : (places : ℕ → Corners) (list before one two three : List ℕ) (n a b c : ℕ) → before ≡ row_of places list n
    → one ≡ before ++ a ∷ [] → two ≡ one ++ b ∷ [] → three ≡ two ++ c ∷ []
    → a ≡ get_or list (places n).0 0 → b ≡ get_or list (places n).1 0 → c ≡ get_or list (places n).2 0
    → three ≡ row_of places list (n + 1)
pushed places list before one two three n a b c start first second third is_a is_b is_c =
    rw (third, second, first, start, is_a, is_b, is_c) (
    append_assoc (row_of places list n ++ _ ∷ []) (_ ∷ []) (_ ∷ []) ∙ append_assoc (row_of places list n) (_ ∷ []) (_ ∷ _ ∷ [])
    ∙ sym (row_more places list n))

-- ---- laws

triples_of : (ts : List Corners) → triples (flat_map corner_list ts) ≡ ts
triples_of [] = refl
triples_of (t ∷ ts) = ap (λ us. t ∷ us) (triples_of ts)

pub are_triangles : (places : ℕ → Corners) (list : List ℕ) → triples (corners_in_row places list) ≡ triangles_at 0 places list
unfolding corners_in_row
are_triangles places list = triples_of (triangles_at 0 places list)

pub equally_often : (places : ℕ → Corners) (list : List ℕ) (t : Corners) → count_by (same_corners t) (triples (corners_in_row places list)) ≡ count_by (same_corners t) (triangles_at 0 places list)
equally_often places list t = ap (count_by (same_corners t)) (are_triangles places list)

length_of : (ts : List Corners) → length (flat_map corner_list ts) ≡ 3 * length ts
length_of [] = refl
length_of (t ∷ ts) = let more = length_of ts in omega (arith, more)

pub three_corners : (places : ℕ → Corners) (list : List ℕ) → length (corners_in_row places list) ≡ 3 * triangle_count list
unfolding corners_in_row
three_corners places list =
    length_of (triangles_at 0 places list) ∙ ap (λ n. 3 * n) (length-map-range_with_len (λ i. corners_at 0 list (places i)) 0 (triangle_count list))

-- the three places are within the list
pub record AreWithin (n : ℕ) (places : Corners) : Type 0 where
  pub first : places.0 < n
  pub second : places.1 < n
  pub third : places.2 < n

strip_within : (n i : ℕ) → i < n - 2 → AreWithin n (strip_places i)
strip_within n i below =
    let turn : i % 2 < 2 = omega arith in
    record { first = omega (arith, below); second = omega (arith, below, turn); third = omega (arith, below, turn) }

fan_within : (n i : ℕ) → i < n - 2 → AreWithin n (fan_places i)
fan_within n i below = record { first = omega (arith, below); second = omega (arith, below); third = omega (arith, below) }

pub places_within : (b : Bool) (n i : ℕ) → i < n - 2 → AreWithin n ((if b then strip_places else fan_places) i)
places_within true n i below = strip_within n i below
places_within false n i below = fan_within n i below

-- what holds of each corner of triangles
abbrev OfEach : (ℕ → Type 0) → Corners → Type 0
OfEach P t = P t.0 × P t.1 × P t.2

module _ (P : ℕ → Type 0) where
  all_of : (ts : List Corners) → All (OfEach P) ts → All P (flat_map corner_list ts)
  all_of [] all = All-nil P
  all_of (t ∷ ts) all =
      let here = All-head (OfEach P) t ts all in
      All-cons P t.0 (t.1 ∷ t.2 ∷ flat_map corner_list ts) here.0 (All-cons P t.1 (t.2 ∷ flat_map corner_list ts) here.1
      (All-cons P t.2 (flat_map corner_list ts) here.2 (all_of ts (All-tail (OfEach P) t ts all))))

  all_corners : (places : ℕ → Corners) (list : List ℕ) → ((i : ℕ) → i < triangle_count list → AreWithin (length list) (places i)) → All P list → All P (corners_in_row places list)
  unfolding corners_in_row
  all_corners places list within all =
      let f : ℕ → Corners = λ i. corners_at 0 list (places i) in
      let n = triangle_count list in
      all_of (triangles_at 0 places list) (All-from_get_or (OfEach P) (triangles_at 0 places list) (0, 0, 0) (λ i below.
      let long = length-map-range_with_len f 0 n in
      let small : i < n = omega (arith, below, long) in
      let w = within i small in
      subst (OfEach P) (sym (get_or-map-range_with_len f 0 n i i (0, 0, 0) small (omega arith)))
      (All-get_or P list (places i).0 0 w.first all, All-get_or P list (places i).1 0 w.second all, All-get_or P list (places i).2 0 w.third all)))

pub are_vertices : (mode : ℕ) (list : List ℕ) → All (Contains list) (listed_corners mode list)
are_vertices mode list = all_corners (Contains list) (places_by mode) list (λ i below. places_within (mode == 5) (length list) i below) (All-contains_itself list)

-- ---- vertices as their values

abbrev three : {V : Type 0} → (ℕ → V) → Corners → V × V × V
three values t = (values t.0, values t.1, values t.2)

triples_map : {V : Type 0} (values : ℕ → V) (ts : List Corners) → triples (map values (flat_map corner_list ts)) ≡ map (three values) ts
triples_map values [] = refl
triples_map values (t ∷ ts) = ap (λ us. three values t ∷ us) (triples_map values ts)

module _ (values : ℕ → List (List ℕ)) where
  each_drawn : (places : Corners) (list : List ℕ) → AreWithin (length list) places → three values (corners_at 0 list places) ≡ corners_at [] (map values list) places
  each_drawn places list w =
      rw (get_or-map values list places.0 0 [] w.first, get_or-map values list places.1 0 [] w.second, get_or-map values list places.2 0 [] w.third) refl

  all_drawn : (places : ℕ → Corners) (list : List ℕ) (from n : ℕ) → ((i : ℕ) → i < from + n → AreWithin (length list) (places i))
      → map (three values) (map (λ i. corners_at 0 list (places i)) (range_with_len from n)) ≡ map (λ i. corners_at [] (map values list) (places i)) (range_with_len from n)
  all_drawn places list from zero within = refl
  all_drawn places list from (suc n) within =
      ap (λ ts. three values (corners_at 0 list (places from)) ∷ ts) (all_drawn places list (from + 1) n (λ i below. within i (omega (arith, below))))
      ∙ ap (λ t. t ∷ map (λ i. corners_at [] (map values list) (places i)) (range_with_len (from + 1) n)) (each_drawn (places from) list (within from (omega arith)))

  pub draw_the_same : (mode : ℕ) (list : List ℕ) → triples (map values (listed_corners mode list)) ≡ triangles_at [] (places_by mode) (map values list)
  unfolding corners_in_row
  draw_the_same mode list =
      triples_map values (triangles_at 0 (places_by mode) list)
      ∙ all_drawn (places_by mode) list 0 (triangle_count list) (λ i below. places_within (mode == 5) (length list) i (omega (arith, below)))
      ∙ ap (λ n. map (λ i. corners_at [] (map values list) (places_by mode i)) (range_with_len 0 (n - 2))) (sym (length-map list values))
