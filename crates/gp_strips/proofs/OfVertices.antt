-- The vertices of strips and fans, test by test.
use Rattle.std.proofs.Common.{◌≡◌, ℕ, ◌-◌, ◌^◌, ◌<◌, ◌≤◌, ◌⊎◌, inl, inr, Bool, true, false, ◌&&◌, ◌||◌, ◌==◌, if◌then◌else◌, List, [], ◌∷◌, length, get_or, Option, Some, None, refl, sym, ap, ◌∙◌, subst, arith}
use Rattle.std.specs.Prelude.{slice_get, option_and_then}
use Rattle.std.specs.List.{list_all, range_with_len}
use Rattle.std.proofs.lemmas.Option.{slice_get-get_or, same_Some}
use Rattle.std.proofs.lemmas.List.{length-map}
use Rattle.std.proofs.lemmas.List.FromFn.{length-range_with_len}
use Rattle.gp_fields.specs.declared.geometry.Entry.{Entry}
use Rattle.gp_rules.specs.declared.accessing.Accessor.{Accessor}
use Rattle.gp_rules.specs.Accessors.{is_index}
use Rattle.gp_rules.specs.Sizes.{component_size}
use Rattle.gp_asset.specs.declared.geometry.Primitive.{Primitive}
use Rattle.gp_asset.specs.Asset.{AssetParts}
use Rattle.gp_alias.specs.Movable.{items_of, numbers_of, has_resolved, is_scalar, is_vertex, greatest}
use Rattle.gp_alias.specs.Groups.{count_at}
use Rattle.gp_alias.proofs.RecordsOf.{length-items}
use Rattle.gp_elements.specs.Elements.{number_of}
use Rattle.gp_strips.specs.Listed.{is_column, has_columns, has_index_shape, is_listed_length, is_strip_or_fan, vertices_in, vertices_by, vertices_where, vertices_with, vertices_of, listed_vertices, triangles_of, listed_triangles}

-- ---- an accessor's numbers

abbrev tested : Bool → Bool → Bool → List ℕ → Option (List ℕ)
tested shape known vertices numbers = if shape && known && vertices then Some numbers else None

both : (s i m : Bool) → (s && i && m) ≡ true → (s ≡ true) × (i ≡ true)
both true true m e = (refl, refl)
both true false m e = cc
both false i m e = cc

pub shape_of : (acc : Accessor) → has_index_shape acc ≡ true → (is_scalar acc.shape ≡ true) × (is_index acc.component ≡ true)
shape_of acc is = both (is_scalar acc.shape) (is_index acc.component) (is_listed_length acc.count) is

module _ (a : AssetParts) (contents : List (List ℕ)) (count : ℕ) (acc : Accessor) where
  abbrev are : Bool
  are = list_all (is_vertex count (greatest acc)) (numbers_of a contents acc)

  pub other_shape : has_index_shape acc ≡ false → None ≡ vertices_in a contents count acc
  unfolding vertices_in
  other_shape is = sym (ap (λ b. tested b (has_resolved contents acc) are (numbers_of a contents acc)) is)

  pub not_known : has_index_shape acc ≡ true → has_resolved contents acc ≡ false → None ≡ vertices_in a contents count acc
  unfolding vertices_in
  not_known shape is =
      sym (ap (λ b. tested b (has_resolved contents acc) are (numbers_of a contents acc)) shape
      ∙ ap (λ b. tested true b are (numbers_of a contents acc)) is)

  -- by what its numbers say
  by_numbers : (b : Bool) → has_index_shape acc ≡ true → has_resolved contents acc ≡ true → are ≡ b → tested true true b (numbers_of a contents acc) ≡ vertices_in a contents count acc
  unfolding vertices_in
  by_numbers b shape known is =
      sym (ap (λ b. tested b (has_resolved contents acc) are (numbers_of a contents acc)) shape
      ∙ ap (λ b. tested true b are (numbers_of a contents acc)) known
      ∙ ap (λ b. tested true true b (numbers_of a contents acc)) is)

  same_test : (numbers : List ℕ) (most : ℕ) (b : Bool) → numbers ≡ numbers_of a contents acc → most ≡ 256 ^ component_size acc.component - 1 → b ≡ list_all (is_vertex count most) numbers → are ≡ b
  same_test numbers most b same greatest is =
      sym (is ∙ ap (list_all (is_vertex count most)) same ∙ ap (λ m. list_all (is_vertex count m) (numbers_of a contents acc)) greatest)

  pub no_vertices : (numbers : List ℕ) (most : ℕ) (b : Bool) → has_index_shape acc ≡ true → has_resolved contents acc ≡ true → numbers ≡ numbers_of a contents acc → most ≡ 256 ^ component_size acc.component - 1
      → b ≡ list_all (is_vertex count most) numbers → b ≡ false → None ≡ vertices_in a contents count acc
  no_vertices numbers most b shape known same greatest is fails = by_numbers false shape known (same_test numbers most b same greatest is ∙ fails)

  pub all_known : (numbers : List ℕ) (most : ℕ) (b : Bool) → has_index_shape acc ≡ true → has_resolved contents acc ≡ true → numbers ≡ numbers_of a contents acc → most ≡ 256 ^ component_size acc.component - 1
      → b ≡ list_all (is_vertex count most) numbers → b ≡ true → Some numbers ≡ vertices_in a contents count acc
  all_known numbers most b shape known same greatest is passes = ap (λ ns. Some ns) same ∙ by_numbers true shape known (same_test numbers most b same greatest is ∙ passes)

-- ---- columns

same_numbers : (m n : ℕ) → m ≡ n → (m == n) ≡ true
same_numbers m n is = grind (arith, is)

pub column_is : (contents : List (List ℕ)) (count : ℕ) (acc : Accessor) (tells : Bool) → acc.count ≡ count → tells ≡ has_resolved contents acc → tells ≡ is_column contents count acc
column_is contents count acc tells same told = told ∙ ap (λ b. b && has_resolved contents acc) (sym (same_numbers acc.count count same))

-- ---- primitives

pub primitive_at : (a : AssetParts) (contents : List (List ℕ)) (at : ℕ) (p : Primitive) (all : List Primitive) → all ≡ a.primitives → at < length a.primitives → p ≡ get_or all at p → vertices_of a contents p ≡ listed_vertices a contents at
unfolding listed_vertices
primitive_at a contents at p all same within is =
    ap (vertices_of a contents) (is ∙ ap (λ ps. get_or ps at p) same) ∙ sym (ap (option_and_then (vertices_of a contents)) (slice_get-get_or a.primitives at p within))

pub triangles_at_place : (a : AssetParts) (contents : List (List ℕ)) (at : ℕ) (p : Primitive) (all : List Primitive) → all ≡ a.primitives → at < length a.primitives → p ≡ get_or all at p → triangles_of a contents p ≡ listed_triangles a contents at
unfolding listed_triangles
triangles_at_place a contents at p all same within is =
    ap (triangles_of a contents) (is ∙ ap (λ ps. get_or ps at p) same) ∙ sym (ap (option_and_then (triangles_of a contents)) (slice_get-get_or a.primitives at p within))

-- ---- how many vertices

long_by : (b : Bool) (wanted vertices : List ℕ) → (b ≡ true → is_listed_length (length wanted) ≡ true) → (if b then Some wanted else None) ≡ Some vertices → is_listed_length (length vertices) ≡ true
long_by true wanted vertices long is = subst (λ ns. is_listed_length (length ns) ≡ true) (same_Some wanted vertices is) (long refl)
long_by false wanted vertices long is = cc

last_of : (s i m : Bool) → (s && i && m) ≡ true → m ≡ true
last_of true true m e = e
last_of true false m e = cc
last_of false i m e = cc

first_of : (s i m : Bool) → (s && i && m) ≡ true → s ≡ true
first_of true i m e = refl
first_of false i m e = cc

numbers_long : (a : AssetParts) (contents : List (List ℕ)) (count : ℕ) (acc : Accessor) (vertices : List ℕ) → vertices_in a contents count acc ≡ Some vertices → is_listed_length (length vertices) ≡ true
unfolding vertices_in
numbers_long a contents count acc vertices is =
    long_by (has_index_shape acc && has_resolved contents acc && list_all (is_vertex count (greatest acc)) (numbers_of a contents acc)) (numbers_of a contents acc) vertices
    (λ passes. ap is_listed_length (length-map (items_of a contents acc) number_of ∙ length-items a contents acc)
    ∙ last_of (is_scalar acc.shape) (is_index acc.component) (is_listed_length acc.count) (first_of (has_index_shape acc) (has_resolved contents acc) _ passes)) is

by_indices_long : (a : AssetParts) (contents : List (List ℕ)) (count : ℕ) (indices : Option ℕ) (vertices : List ℕ) → vertices_by a contents count indices ≡ Some vertices → is_listed_length (length vertices) ≡ true
by_indices_long a contents count None vertices is =
    long_by (is_listed_length count) (range_with_len 0 count) vertices (λ passes. ap is_listed_length (length-range_with_len 0 count) ∙ passes) is
by_indices_long a contents count (Some at) vertices is = by_found (slice_get a.accessors at) is
  where
    by_found : (o : Option Accessor) → option_and_then (vertices_in a contents count) o ≡ Some vertices → is_listed_length (length vertices) ≡ true
    by_found None is = cc
    by_found (Some acc) is = numbers_long a contents count acc vertices is

by_test_long : (b : Bool) (a : AssetParts) (contents : List (List ℕ)) (count : ℕ) (indices : Option ℕ) (vertices : List ℕ) → vertices_where b a contents count indices ≡ Some vertices → is_listed_length (length vertices) ≡ true
by_test_long true a contents count indices vertices is = by_indices_long a contents count indices vertices is
by_test_long false a contents count indices vertices is = cc

with_long : (a : AssetParts) (contents : List (List ℕ)) (p : Primitive) (entries : List Entry) (vertices : List ℕ) → vertices_with a contents p entries ≡ Some vertices → is_listed_length (length vertices) ≡ true
with_long a contents p [] vertices is = cc
with_long a contents p (first ∷ more) vertices is = by_test_long (has_columns a contents (count_at a.accessors first.accessor) p) a contents (count_at a.accessors first.accessor) p.indices vertices is

-- a primitive's mode and its list
listed_by : (b : Bool) (found : Option (List ℕ)) (vertices : List ℕ) → (if b then found else None) ≡ Some vertices → (b ≡ true) × (found ≡ Some vertices)
listed_by true found vertices is = (refl, is)
listed_by false found vertices is = cc

pub have_triangles : (a : AssetParts) (contents : List (List ℕ)) (p : Primitive) (vertices : List ℕ) → vertices_of a contents p ≡ Some vertices → is_listed_length (length vertices) ≡ true
have_triangles a contents p vertices is = with_long a contents p p.attributes vertices (listed_by (a.closed && is_strip_or_fan p.mode) (vertices_with a contents p p.attributes) vertices is).1

either : (c m n : Bool) → (c && (m || n)) ≡ true → (m ≡ true) ⊎ (n ≡ true)
either true true n is = inl refl
either true false n is = inr is
either false m n is = cc

mode_by : (m : ℕ) → (((m == 5) ≡ true) ⊎ ((m == 6) ≡ true)) → (m ≡ 5) ⊎ (m ≡ 6)
mode_by m (inl five) = inl (grind (arith, five))
mode_by m (inr six) = inr (grind (arith, six))

pub mode_of : (a : AssetParts) (contents : List (List ℕ)) (p : Primitive) (vertices : List ℕ) → vertices_of a contents p ≡ Some vertices → (p.mode ≡ 5) ⊎ (p.mode ≡ 6)
mode_of a contents p vertices is =
    mode_by p.mode (either a.closed (p.mode == 5) (p.mode == 6) (listed_by (a.closed && is_strip_or_fan p.mode) (vertices_with a contents p p.attributes) vertices is).0)

within_by : (n : ℕ) → is_listed_length n ≡ true → (3 ≤ n) × (n ≤ 2 ^ 24)
within_by n is = grind (arith, is)

pub few_of : (a : AssetParts) (contents : List (List ℕ)) (p : Primitive) (vertices : List ℕ) → vertices_of a contents p ≡ Some vertices → (3 ≤ length vertices) × (length vertices ≤ 2 ^ 24)
few_of a contents p vertices is = within_by (length vertices) (have_triangles a contents p vertices is)
