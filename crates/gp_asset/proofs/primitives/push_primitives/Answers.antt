use Rattle.std.proofs.Common.{◌++◌, ℕ, map, ap, ◌∙◌}
use Rattle.std.specs.Iterator.Adapters.{enumerate_source, enumerate_count}
use Rattle.gp_fields.specs.declared.geometry.PrimitiveFields.{PrimitiveFields}
use Rattle.gp_asset.specs.Primitives.{primitive_of}
use Rattle.gp_asset.proofs.Numbered.{all_numbered}
use Rattle.gp_asset.proofs.primitives.push_primitives.Goals as goal

pub returns : goal.returns
returns c =
    let first = c.into_iter-place-iterator.ensures.into_iter_gives in
    let numbered = all_numbered c.args.fields.items c.into_iter.result c.into_iter-place-iterator.result c.primitives.place-iterator c.next.new.self c.primitives.yielded c.next.result
    c.into_iter.ensures.rest (c.into_iter.ensures.len ∙ c.args.fields.ok.0)
    (ap enumerate_source first ∙ c.enumerate-place-items.ensures.source) (ap enumerate_count first ∙ c.enumerate-place-items.ensures.count)
    c.primitives.yielded_by c.in-None.is c.next.ensures.steps in
    c.primitives.invariant ∙ ap (λ ps. c.args.primitives.now.items ++ map (λ (p : ℕ × PrimitiveFields). primitive_of c.args.mesh p.0 p.1) ps) numbered
