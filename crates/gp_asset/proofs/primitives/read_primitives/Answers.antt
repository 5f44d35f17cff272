use Rattle.std.proofs.Common.{ℕ, List, ap, ◌∙◌}
use Rattle.std.specs.List.{flat_map}
use Rattle.std.specs.Iterator.Adapters.{enumerate_source, enumerate_count}
use Rattle.gp_fields.specs.declared.geometry.PrimitiveFields.{PrimitiveFields}
use Rattle.gp_asset.specs.Primitives.{primitives_of, primitives_of_mesh}
use Rattle.gp_asset.proofs.Numbered.{all_numbered}
use Rattle.gp_asset.proofs.primitives.read_primitives.Goals as goal

pub returns : goal.returns
unfolding primitives_of
returns c =
    let first = c.into_iter-place-iterator.ensures.into_iter_gives in
    let numbered = all_numbered c.args.meshes.items c.into_iter.result c.into_iter-place-iterator.result c.meshes.place-iterator c.next.new.self c.meshes.yielded c.next.result
    c.into_iter.ensures.rest (c.into_iter.ensures.len ∙ c.args.meshes.ok.0)
    (ap enumerate_source first ∙ c.enumerate-place-items.ensures.source) (ap enumerate_count first ∙ c.enumerate-place-items.ensures.count)
    c.meshes.yielded_by c.in-None.is c.next.ensures.steps in
    c.meshes.invariant ∙ ap (flat_map (λ (m : ℕ × List PrimitiveFields). primitives_of_mesh m.0 m.1)) numbered
