-- A plain list has whole triangles.
use Rattle.std.proofs.Common.{◌≡◌, ℕ, ◌%◌, ◌==◌, Bool, true, false, ◌&&◌, cond, List, [], ◌∷◌, length, Option, Some, None, refl, sym, ap, ◌∙◌}
use Rattle.std.specs.Prelude.{slice_get, option_and_then}
use Rattle.std.specs.List.{range_with_len}
use Rattle.std.proofs.lemmas.Bool.{and_parts, eqb-true}
use Rattle.std.proofs.lemmas.List.{length-map}
use Rattle.std.proofs.lemmas.List.FromFn.{length-range_with_len}
use Rattle.std.proofs.lemmas.Option.{none-some, same_Some}
use Rattle.gp_fields.specs.declared.geometry.Entry.{Entry}
use Rattle.gp_rules.specs.declared.accessing.Accessor.{Accessor}
use Rattle.gp_rules.specs.declared.accessing.Sparse.{Sparse}
use Rattle.gp_rules.specs.Accessors.{is_index}
use Rattle.gp_asset.specs.declared.geometry.Primitive.{Primitive}
use Rattle.gp_asset.specs.Asset.{AssetParts}
use Rattle.gp_elements.specs.Elements.{number_of, items_in, indices_in, values_in, with_sparse}
use Rattle.gp_elements.specs.Resolving.{is_resolvable}
use Rattle.gp_elements.proofs.Places.{length-resolved}
use Rattle.gp_alias.specs.Groups.{count_at}
use Rattle.gp_alias.specs.Movable.{items_of, numbers_of, is_scalar, has_corner_shape, has_resolved}
use Rattle.gp_alias.specs.Plain.{are_below, all_vertices, list_in, list_by, list_with, list_of}
use Rattle.gp_alias.proofs.ElementNumbers.{length-base}

length-in : (base contents : List (List ℕ)) (acc : Accessor) (sparse : Option Sparse) → length (with_sparse base contents acc sparse).items ≡ length base
length-in base contents acc None = refl
length-in base contents acc (Some s) = by_test (is_resolvable acc.count (indices_in contents s)) refl
  where
    by_test : (b : Bool) → is_resolvable acc.count (indices_in contents s) ≡ b → length (with_sparse base contents acc (Some s)).items ≡ length base
    by_test true is = rw is (length-resolved base (indices_in contents s) (values_in contents acc s))
    by_test false is = rw is refl

-- as many numbers as the accessor says
long : (a : AssetParts) (contents : List (List ℕ)) (acc : Accessor) → length (numbers_of a contents acc) ≡ acc.count
long a contents acc =
    length-map (items_of a contents acc) number_of
    ∙ length-in (items_in a.views contents acc acc.view) contents acc acc.sparse ∙ length-base a.views contents acc acc.view

-- a list that is given under a test
given : (test : Bool) (numbers list : List ℕ) → cond test (Some numbers) None ≡ Some list → (test ≡ true) × (numbers ≡ list)
given true numbers list is = (refl, same_Some numbers list is)
given false numbers list is = absurd (none-some list is)

in_accessor : (a : AssetParts) (contents : List (List ℕ)) (vertices : ℕ) (acc : Accessor) (list : List ℕ) → list_in a contents vertices acc ≡ Some list → length list % 3 ≡ 0
unfolding list_in
in_accessor a contents vertices acc list is =
    let h = given (has_corner_shape acc && has_resolved contents acc && are_below vertices (numbers_of a contents acc)) (numbers_of a contents acc) list is in
    let two = and_parts (has_corner_shape acc && has_resolved contents acc) (are_below vertices (numbers_of a contents acc)) h.0 in
    let shape = (and_parts (has_corner_shape acc) (has_resolved contents acc) two.0).0 in
    let thirds = (and_parts (is_scalar acc.shape && is_index acc.component) (acc.count % 3 == 0) shape).1 in
    sym (ap (λ l. length l % 3) h.1) ∙ ap (λ n. n % 3) (long a contents acc) ∙ eqb-true (acc.count % 3) 0 thirds

in_order : (vertices : ℕ) (list : List ℕ) → all_vertices vertices ≡ Some list → length list % 3 ≡ 0
in_order vertices list is =
    let h = given (vertices % 3 == 0) (range_with_len 0 vertices) list is in
    sym (ap (λ l. length l % 3) h.1) ∙ ap (λ n. n % 3) (length-range_with_len 0 vertices) ∙ eqb-true (vertices % 3) 0 h.0

by_indices : (a : AssetParts) (contents : List (List ℕ)) (vertices : ℕ) (indices : Option ℕ) (list : List ℕ) → list_by a contents vertices indices ≡ Some list → length list % 3 ≡ 0
by_indices a contents vertices None list is = in_order vertices list is
by_indices a contents vertices (Some at) list is = by_found (slice_get a.accessors at) is
  where
    by_found : (o : Option Accessor) → option_and_then (list_in a contents vertices) o ≡ Some list → length list % 3 ≡ 0
    by_found None h = absurd (none-some list h)
    by_found (Some acc) h = in_accessor a contents vertices acc list h

by_attributes : (a : AssetParts) (contents : List (List ℕ)) (attributes : List Entry) (indices : Option ℕ) (list : List ℕ) → list_with a contents attributes indices ≡ Some list → length list % 3 ≡ 0
by_attributes a contents [] indices list is = absurd (none-some list is)
by_attributes a contents (first ∷ more) indices list is = by_indices a contents (count_at a.accessors first.accessor) indices list is

pub whole_list : (a : AssetParts) (contents : List (List ℕ)) (p : Primitive) (list : List ℕ) → list_of a contents p ≡ Some list → length list % 3 ≡ 0
whole_list a contents p list is = by_attributes a contents p.attributes p.indices list is
