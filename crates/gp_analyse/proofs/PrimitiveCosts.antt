-- The costs of a primitive, case by case.
use Rattle.std.proofs.Common.{◌≡◌, ℕ, ◌+◌, ◌*◌, ◌/◌, ◌%◌, ◌<◌, ◌≤◌, Bool, true, false, ◌&&◌, if◌then◌else◌, List, [], length, Option, Some, None, refl, sym, ap, ◌∙◌, subst, arith, eq-eqb}
use Rattle.std.specs.Prelude.{slice_get, option_map, option_and_then, unwrap_or}
use Rattle.std.specs.List.{range_with_len}
use Rattle.std.proofs.lemmas.List.FromFn.{length-range_with_len}
use Rattle.gp_rules.specs.declared.accessing.Accessor.{Accessor}
use Rattle.gp_asset.specs.Asset.{AssetParts}
use Rattle.gp_alias.specs.Movable.{numbers_of, has_corner_shape, has_resolved}
use Rattle.gp_alias.specs.Plain.{are_below, list_in, all_vertices}
use Rattle.gp_cache.specs.Misses.{misses, lines}
use Rattle.gp_analyse.specs.declared.costing.Costs.{Costs}
use Rattle.gp_analyse.specs.declared.drawing.Drawn.{Drawn}
use Rattle.gp_analyse.specs.Text.{vertex_size}
use Rattle.gp_analyse.specs.Costs.{costs_of, costs_in, corners_in, corners_at, vertices_from, drawn_by, drawn_at, lines_at}
use Rattle.gp_analyse.proofs.RisingLists.{rising_misses, rising_lines}
use Rattle.gp_analyse.proofs.Thinned.{have_vertices, want_vertices}

-- these costs
abbrev pub given_costs : ℕ → ℕ → ℕ → ℕ → Option Costs
given_costs vertices triangles missed missed_lines = Some (record { vertices = vertices; triangles = triangles; misses = missed; lines = missed_lines })

-- ---- all vertices in their order

abbrev whole : Accessor → Bool → Option Costs
whole first b = costs_in (if b then Some (range_with_len 0 first.count) else None) (Some first)

pub all_triangles : (first : Accessor) (size : ℕ) → first.count % 3 ≡ 0 → size ≡ vertex_size first → 1 ≤ size
    → given_costs first.count (first.count / 3) first.count ((first.count * size + 63) / 64) ≡ costs_in (all_vertices first.count) (Some first)
all_triangles first size is same some =
    let list = range_with_len 0 first.count in
    let long : length list ≡ first.count = length-range_with_len 0 first.count in
    let missed : misses list ≡ first.count = rising_misses first.count in
    let missed_lines : lines list (vertex_size first) ≡ (first.count * size + 63) / 64 = ap (lines list) (sym same) ∙ rising_lines first.count size some in
    let costs : costs_of list first ≡ record { vertices = first.count; triangles = first.count / 3; misses = first.count; lines = (first.count * size + 63) / 64 } =
    rw (long, missed, missed_lines) refl in
    sym (ap (whole first) (eq-eqb (first.count % 3) 0 is) ∙ ap (λ (c : Costs). Some c) costs)

-- ---- the list of an accessor of indices

-- a list, where each of its numbers is of a vertex
abbrev pub below : ℕ → List ℕ → Option (List ℕ)
below count list = if are_below count list then Some list else None

tested : (shape resolved : Bool) (count : ℕ) (numbers : List ℕ)
    → (if shape && resolved && are_below count numbers then Some numbers else None) ≡ option_and_then (below count) (if shape && resolved then Some numbers else None)
tested true true count numbers = refl
tested true false count numbers = refl
tested false resolved count numbers = refl

pub one_tested : (a : AssetParts) (contents : List (List ℕ)) (count : ℕ) (found : Option Accessor) → option_and_then (list_in a contents count) found ≡ option_and_then (below count) (option_and_then (corners_in a contents) found)
unfolding list_in
one_tested a contents count None = refl
one_tested a contents count (Some acc) = tested (has_corner_shape acc) (has_resolved contents acc) count (numbers_of a contents acc)

abbrev costs_below : Accessor → Option (List ℕ) → Option Costs
costs_below first list = costs_in (option_and_then (below first.count) list) (Some first)

is_tested : (a : AssetParts) (contents : List (List ℕ)) (at : ℕ) (first : Accessor)
    → costs_in (option_and_then (list_in a contents first.count) (slice_get a.accessors at)) (Some first) ≡ costs_below first (corners_at a contents at)
is_tested a contents at first = ap (λ list. costs_in list (Some first)) (one_tested a contents first.count (slice_get a.accessors at))

none_drawn : (first : Accessor) (list : Option (List ℕ)) → None ≡ option_map drawn_by list → None ≡ costs_below first list
none_drawn first None is = refl
none_drawn first (Some list) is = cc

too_few : (first : Accessor) (drawn : Drawn) (list : Option (List ℕ)) → Some drawn ≡ option_map drawn_by list → first.count < drawn.vertices → None ≡ costs_below first list
too_few first drawn None is past = cc
too_few first drawn (Some list) is past =
    let same : drawn ≡ drawn_by list = cc in
    let most : first.count < vertices_from 0 list = subst (λ n. first.count < n) (ap (λ (d : Drawn). d.vertices) same) past in
    let fails = want_vertices first.count 0 list (omega arith) most in
    sym (ap (λ b. costs_in (if b then Some list else None) (Some first)) fails)

enough : (first : Accessor) (drawn : Drawn) (list : Option (List ℕ)) → Some drawn ≡ option_map drawn_by list → drawn.vertices ≤ first.count
    → given_costs first.count drawn.triangles drawn.misses (lines (unwrap_or list []) (vertex_size first)) ≡ costs_below first list
enough first drawn None is most = cc
enough first drawn (Some list) is most =
    let same : drawn ≡ drawn_by list = cc in
    let least : vertices_from 0 list ≤ first.count = subst (λ n. n ≤ first.count) (ap (λ (d : Drawn). d.vertices) same) most in
    let passes = have_vertices first.count 0 list least in
    let costs = ap (λ (d : Drawn). given_costs first.count d.triangles d.misses (lines list (vertex_size first))) same in
    costs ∙ sym (ap (λ b. costs_in (if b then Some list else None) (Some first)) passes)

module _ (a : AssetParts) (contents : List (List ℕ)) (at : ℕ) (first : Accessor) where
  pub no_list : None ≡ drawn_at a contents at → None ≡ costs_in (option_and_then (list_in a contents first.count) (slice_get a.accessors at)) (Some first)
  no_list is = none_drawn first (corners_at a contents at) is ∙ sym (is_tested a contents at first)

  pub past_vertices : (drawn : Drawn) → Some drawn ≡ drawn_at a contents at → first.count < drawn.vertices → None ≡ costs_in (option_and_then (list_in a contents first.count) (slice_get a.accessors at)) (Some first)
  past_vertices drawn is past = too_few first drawn (corners_at a contents at) is past ∙ sym (is_tested a contents at first)

  pub within_vertices : (drawn : Drawn) (size count : ℕ) → Some drawn ≡ drawn_at a contents at → drawn.vertices ≤ first.count → size ≡ vertex_size first → count ≡ lines_at a contents at size
      → given_costs first.count drawn.triangles drawn.misses count ≡ costs_in (option_and_then (list_in a contents first.count) (slice_get a.accessors at)) (Some first)
  within_vertices drawn size count is most same counted =
      let lines_are : count ≡ lines_at a contents at (vertex_size first) = counted ∙ ap (lines_at a contents at) same in
      ap (given_costs first.count drawn.triangles drawn.misses) lines_are
      ∙ enough first drawn (corners_at a contents at) is most ∙ sym (is_tested a contents at first)
