use Rattle.std.proofs.Common.{◌≡◌, ◌+◌, ◌-◌, length, take, drop, Some, sym, ap, ◌∙◌, arith}
use Rattle.gp_unpack.proofs.Standing.{has_part, part_within, part_there}
use Rattle.gp_unpack.proofs.contents.ContentsViewBytes.view.Goals as goal

pub overflow_add-result : goal.overflow_add-result
overflow_add-result c =
    let bytes = c.self.inside.buffer.items in
    let parts = c.self.inside.parts.items in
    let below = has_part bytes parts c.args.self.now c.args.at c.self.view_is c.requires in
    omega (arith, part_within bytes parts c.args.at c.index-part.result.now c.self.invariant below c.index-part.ensures, c.self.inside.buffer.small, c.self.inside.buffer.ok.0)

pub slice_bounds-result-end : goal.slice_bounds-result-end
slice_bounds-result-end c =
    let bytes = c.self.inside.buffer.items in
    let parts = c.self.inside.parts.items in
    let below = has_part bytes parts c.args.self.now c.args.at c.self.view_is c.requires in
    omega (arith, part_within bytes parts c.args.at c.index-part.result.now c.self.invariant below c.index-part.ensures, ap length c.deref.ensures.value)

pub returns : goal.returns
returns c =
    let bytes = c.self.inside.buffer.items in
    let parts = c.self.inside.parts.items in
    let part = c.index-part.result.now in
    let below = has_part bytes parts c.args.self.now c.args.at c.self.view_is c.requires in
    let long : part.start + part.length - part.start ≡ part.length = omega arith in
    part_there bytes parts c.args.self.now c.args.at part c.self.view_is below c.index-part.ensures
    ∙ ap (λ b. Some (take part.length (drop part.start b))) (sym c.deref.ensures.value) ∙ ap (λ n. Some (take n (drop part.start c.deref.result.now))) (sym long)
