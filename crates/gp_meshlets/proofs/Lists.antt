-- The list of an accessor of indices, from how many vertices it takes; and that a plain list has whole triangles.
use Rattle.std.proofs.Common.{◌≡◌, ℕ, ◌<◌, ◌≤◌, Bool, if◌then◌else◌, List, ◌++◌, Option, Some, None, IfSome, refl, sym, ap, subst, ◌∙◌, append_assoc, arith}
use Rattle.std.specs.Prelude.{slice_get, option_map, option_and_then}
use Rattle.gp_asset.specs.declared.geometry.Primitive.{Primitive}
use Rattle.gp_asset.specs.Asset.{AssetParts}
use Rattle.gp_alias.specs.Plain.{list_in, list_of}
use Rattle.gp_analyse.specs.declared.drawing.Drawn.{Drawn}
use Rattle.gp_analyse.specs.Costs.{corners_at, vertices_from, drawn_by, drawn_at}
use Rattle.gp_analyse.proofs.PrimitiveCosts.{below, one_tested}
use Rattle.gp_analyse.proofs.Thinned.{have_vertices, want_vertices}
use Rattle.gp_meshlets.specs.declared.corners.Corners.{Corners}
use Rattle.gp_meshlets.specs.Corners.{corners_of, HasNumbers, AreTriangles}
use Rattle.gp_meshlets.specs.Text.{title, findings, lines_of}
use Rattle.gp_meshlets.proofs.Plain.{whole_list}

none_below : (vertices : ℕ) (list : Option (List ℕ)) → None ≡ option_map drawn_by list → None ≡ option_and_then (below vertices) list
none_below vertices None is = refl
none_below vertices (Some list) is = cc

too_few : (vertices : ℕ) (drawn : Drawn) (list : Option (List ℕ)) → Some drawn ≡ option_map drawn_by list → vertices < drawn.vertices → None ≡ option_and_then (below vertices) list
too_few vertices drawn None is past = cc
too_few vertices drawn (Some list) is past =
    let same : drawn ≡ drawn_by list = cc in
    let most : vertices < vertices_from 0 list = subst (λ n. vertices < n) (ap (λ (d : Drawn). d.vertices) same) past in
    sym (ap (λ (b : Bool). if b then Some list else None) (want_vertices vertices 0 list (omega arith) most))

enough : (vertices : ℕ) (drawn : Drawn) (list : Option (List ℕ)) → Some drawn ≡ option_map drawn_by list → drawn.vertices ≤ vertices → list ≡ option_and_then (below vertices) list
enough vertices drawn None is most = cc
enough vertices drawn (Some list) is most =
    let same : drawn ≡ drawn_by list = cc in
    let least : vertices_from 0 list ≤ vertices = subst (λ n. n ≤ vertices) (ap (λ (d : Drawn). d.vertices) same) most in
    sym (ap (λ (b : Bool). if b then Some list else None) (have_vertices vertices 0 list least))

module _ (a : AssetParts) (contents : List (List ℕ)) (at vertices : ℕ) where
  pub no_list : None ≡ drawn_at a contents at → None ≡ option_and_then (list_in a contents vertices) (slice_get a.accessors at)
  no_list is = none_below vertices (corners_at a contents at) is ∙ sym (one_tested a contents vertices (slice_get a.accessors at))

  pub past_vertices : (drawn : Drawn) → Some drawn ≡ drawn_at a contents at → vertices < drawn.vertices → None ≡ option_and_then (list_in a contents vertices) (slice_get a.accessors at)
  past_vertices drawn is past = too_few vertices drawn (corners_at a contents at) is past ∙ sym (one_tested a contents vertices (slice_get a.accessors at))

  pub within_vertices : (drawn : Drawn) → Some drawn ≡ drawn_at a contents at → drawn.vertices ≤ vertices → corners_at a contents at ≡ option_and_then (list_in a contents vertices) (slice_get a.accessors at)
  within_vertices drawn is most = enough vertices drawn (corners_at a contents at) is most ∙ sym (one_tested a contents vertices (slice_get a.accessors at))

-- ---- whole triangles

pub are_triangles : (a : AssetParts) (contents : List (List ℕ)) (p : Primitive) (found : Option Corners) → option_map corners_of found ≡ list_of a contents p → IfSome found HasNumbers → IfSome found AreTriangles
are_triangles a contents p None is numbers = tt
are_triangles a contents p (Some corners) is numbers = record { whole = whole_list a contents p (corners_of corners) (sym is); numbers = numbers }

-- the lines of its two parts
pub lines_put : (a : AssetParts) (contents : List (List ℕ)) (p : Primitive) (old titled new : List ℕ) (list : Option (List ℕ))
    → titled ≡ old ++ title p → list ≡ list_of a contents p → new ≡ titled ++ findings list → new ≡ old ++ lines_of a contents p
lines_put a contents p old titled new list put_title is_list put_found =
    put_found ∙ ap (λ l. titled ++ findings l) is_list ∙ ap (λ xs. xs ++ findings (list_of a contents p)) put_title
    ∙ append_assoc old (title p) (findings (list_of a contents p))
