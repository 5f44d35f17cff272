-- The accessors of a primitive are among the columns and the lists of its group.
use Rattle.std.proofs.Common.{◌≡◌, inl, inr, ℕ, ◌<◌, ◌==◌, Bool, true, List, [], ◌∷◌, length, get_or, Option, Some, None, refl, sym, ap, ◌∙◌, subst, eq-eqb, eqb-true, lt-ltb, ltb-true, ◌++◌}
use Rattle.std.specs.Prelude.{slice_get, is_none, option_map}
use Rattle.std.specs.List.{All, list_any, flat_map, cons_option, position_or_len, range_with_len}
use Rattle.std.proofs.lemmas.Bool.{and_parts, and_from, or_cases, or_left, or_right}
use Rattle.std.proofs.lemmas.List.Folds.{list_any-append, list_any_at}
use Rattle.std.proofs.lemmas.List.Sums.{passes_at_first}
use Rattle.std.proofs.lemmas.Option.{slice_get-map, slice_get-get_or}
use Rattle.gp_asset.specs.declared.geometry.Primitive.{Primitive}
use Rattle.gp_asset.specs.Asset.{AssetParts}
use Rattle.gp_alias.specs.declared.group.Group.{Group}
use Rattle.gp_alias.specs.Classes.{classes}
use Rattle.gp_alias.specs.Groups.{is_among, vertex_accessors, index_accessors, primitives_at, rising, accessors_by, is_bare, first_count, gathered}
use Rattle.gp_alias.specs.Movable.{group_of, groups}
use Rattle.gp_alias.specs.Laws.{IsIn}
use Rattle.gp_alias.proofs.RisingNumbers.{among-filter, among-range}
use Rattle.gp_moving.proofs.Repeats.{first_within}

-- ---- membership

-- each number of a list is in it
pub all_in : (xs : List ℕ) → All (λ x. IsIn x xs) xs
all_in xs i d within = list_any_at (λ n. n == get_or xs i d) xs i d within (eq-eqb (get_or xs i d) (get_or xs i d) refl)

-- what holds of all of a list holds of each number in it
pub in_all : (P : ℕ → Type 0) (xs : List ℕ) (x : ℕ) → All P xs → IsIn x xs → P x
in_all P xs x all is =
    let test = λ (n : ℕ). n == x in
    let within = first_within test xs is in
    let same = eqb-true (get_or xs (position_or_len test xs) 0) x (passes_at_first test xs 0 within) in
    subst P same (all (position_or_len test xs) 0 within)

pub in_front : (x : ℕ) (xs ys : List ℕ) → IsIn x xs → IsIn x (xs ++ ys)
in_front x xs ys is = list_any-append (λ n. n == x) xs ys ∙ or_left (is_among xs x) (is_among ys x) is

pub in_rest : (x : ℕ) (xs ys : List ℕ) → IsIn x ys → IsIn x (xs ++ ys)
in_rest x xs ys is = list_any-append (λ n. n == x) xs ys ∙ or_right (is_among xs x) (is_among ys x) is

-- where a number stands in a list
abbrev pub place_in : List ℕ → ℕ → ℕ
place_in xs x = position_or_len (λ n. n == x) xs

pub placed_within : (xs : List ℕ) (x : ℕ) → IsIn x xs → place_in xs x < length xs
placed_within xs x is = first_within (λ n. n == x) xs is

pub placed_there : (xs : List ℕ) (x d : ℕ) → IsIn x xs → get_or xs (place_in xs x) d ≡ x
placed_there xs x d is = eqb-true (get_or xs (place_in xs x) d) x (passes_at_first (λ n. n == x) xs d (placed_within xs x is))

pub placed_found : (xs : List ℕ) (x : ℕ) → IsIn x xs → slice_get xs (place_in xs x) ≡ Some x
placed_found xs x is = slice_get-get_or xs (place_in xs x) 0 (placed_within xs x is) ∙ ap (λ n. Some n) (placed_there xs x 0 is)

-- ---- rising numbers

pub rising_has : (count : ℕ) (listed : List ℕ) (x : ℕ) → IsIn x listed → x < count → IsIn x (rising count listed)
unfolding rising
rising_has count listed x is below =
    among-filter (is_among listed) (range_with_len 0 count) x
    ∙ and_from (is_among (range_with_len 0 count) x) (is_among listed x) (among-range count x ∙ lt-ltb x count below) is

pub rising_below : (count : ℕ) (listed : List ℕ) (x : ℕ) → IsIn x (rising count listed) → x < count
unfolding rising
rising_below count listed x is =
    let both = and_parts (is_among (range_with_len 0 count) x) (is_among listed x) (sym (among-filter (is_among listed) (range_with_len 0 count) x) ∙ is) in
    ltb-true x count (sym (among-range count x) ∙ both.0)

-- ---- primitives at places

module _ (a : AssetParts) (at : ℕ) (p : Primitive) (there : slice_get a.primitives at ≡ Some p) where
  -- a test that the primitive passes
  some_passes : (test : Primitive → Bool) (places : List ℕ) → test p ≡ true → IsIn at places → list_any test (primitives_at a places) ≡ true
  some_passes test [] passes is = is
  some_passes test (n ∷ places) passes is = elim (or_cases (n == at) (is_among places at) is) [
    | inl here ↦
        let found : slice_get a.primitives n ≡ Some p = ap (slice_get a.primitives) (eqb-true n at here) ∙ there in
        ap (λ o. list_any test (cons_option o (primitives_at a places))) found ∙ or_left (test p) (list_any test (primitives_at a places)) passes
    | inr later ↦ passed (slice_get a.primitives n) (some_passes test places passes later)
  ]
    where
      passed : (o : Option Primitive) → list_any test (primitives_at a places) ≡ true → list_any test (cons_option o (primitives_at a places)) ≡ true
      passed None rest = rest
      passed (Some q) rest = or_right (test q) (list_any test (primitives_at a places)) rest

  joined_has : (rule : Primitive → List ℕ) (ps : List Primitive) (x : ℕ) → list_any (λ q. is_among (rule q) x) ps ≡ true → IsIn x (flat_map rule ps)
  joined_has rule [] x is = is
  joined_has rule (q ∷ ps) x is =
      list_any-append (λ n. n == x) (rule q) (flat_map rule ps) ∙ elim (or_cases (is_among (rule q) x) (list_any (λ r. is_among (rule r) x) ps) is) [
        | inl here ↦ or_left (is_among (rule q) x) (is_among (flat_map rule ps) x) here
        | inr later ↦ or_right (is_among (rule q) x) (is_among (flat_map rule ps) x) (joined_has rule ps x later)
      ]

  pub has_accessor : (rule : Primitive → List ℕ) (places : List ℕ) (x : ℕ) → IsIn at places → IsIn x (rule p) → x < length a.accessors → IsIn x (accessors_by rule a places)
  has_accessor rule places x inside own below =
      rising_has (length a.accessors) (flat_map rule (primitives_at a places)) x
      (joined_has rule (primitives_at a places) x (some_passes (λ q. is_among (rule q) x) places own inside)) below

  pub makes_bare : (places : List ℕ) → IsIn at places → is_none p.indices ≡ true → is_bare (primitives_at a places) ≡ true
  makes_bare places inside none = some_passes (λ q. is_none q.indices) places none inside

-- ---- a group of an asset

pub record IsGathered (a : AssetParts) (g : Group) : Type 0 where
  pub columns : g.columns ≡ accessors_by vertex_accessors a g.primitives
  pub lists : g.lists ≡ accessors_by index_accessors a g.primitives
  pub bare : g.bare ≡ is_bare (primitives_at a g.primitives)
  pub count : g.count ≡ first_count a.accessors g.columns

pub is_gathered : (a : AssetParts) (contents : List (List ℕ)) (k : ℕ) (g : Group) → slice_get (groups a contents) k ≡ Some g → IsGathered a g
unfolding groups gathered
is_gathered a contents k g is = by_class (slice_get (classes a) k) (sym (slice_get-map (group_of a contents) (classes a) k) ∙ is)
  where
    by_class : (o : Option (List ℕ)) → option_map (group_of a contents) o ≡ Some g → IsGathered a g
    by_class None e = absurd (let no : None ≡ Some g = e in cc)
    by_class (Some places) e =
        let same : group_of a contents places ≡ g = cc in
        subst (IsGathered a) same (record { columns = refl; lists = refl; bare = refl; count = refl })

-- its columns are accessors of the asset, and so are its lists
pub columns_below : (a : AssetParts) (g : Group) → IsGathered a g → All (λ at. at < length a.accessors) g.columns
columns_below a g is i d within =
    rising_below (length a.accessors) _ (get_or g.columns i d) (subst (λ xs. IsIn (get_or g.columns i d) xs) is.columns (all_in g.columns i d within))

pub lists_below : (a : AssetParts) (g : Group) → IsGathered a g → All (λ at. at < length a.accessors) g.lists
lists_below a g is i d within =
    rising_below (length a.accessors) _ (get_or g.lists i d) (subst (λ xs. IsIn (get_or g.lists i d) xs) is.lists (all_in g.lists i d within))
