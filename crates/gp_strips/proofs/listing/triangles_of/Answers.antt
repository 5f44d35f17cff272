use Rattle.std.proofs.Common.{◌≤◌, ◌^◌, sym, ap, ◌∙◌, subst, length, List, ℕ}
use Rattle.std.specs.Prelude.{option_map}
use Rattle.gp_elements.specs.Held.{contents_of}
use Rattle.gp_strips.proofs.OfVertices.{few_of}
use Rattle.gp_strips.proofs.listing.triangles_of.Goals as goal

pub triangles-requires-clause-some : goal.triangles-requires-clause-some
triangles-requires-clause-some g c =
    subst (λ (xs : List ℕ). 3 ≤ length xs) (sym c.as_slice.ensures.value)
    (few_of c.args.asset.now (contents_of (g.V.ViewBytes.views c.args.views.now)) c.args.primitive.now c.in-Some.vertices.items (sym c.in_ok-vertices.ensures ∙ ap (option_map (λ v. v.items)) c.in-Some.is)).0

pub triangles-requires-clause-few : goal.triangles-requires-clause-few
triangles-requires-clause-few g c =
    subst (λ (xs : List ℕ). length xs ≤ 2 ^ 24) (sym c.as_slice.ensures.value)
    (few_of c.args.asset.now (contents_of (g.V.ViewBytes.views c.args.views.now)) c.args.primitive.now c.in-Some.vertices.items (sym c.in_ok-vertices.ensures ∙ ap (option_map (λ v. v.items)) c.in-Some.is)).1
