use Rattle.std.proofs.Common.{rules, ◌+◌, drop, sym, ap, ◌∙◌, arith}
use Rattle.gp_rules.specs.Checks.{each}
use Rattle.gp_rules.specs.Accessors.{accessor_of}
use Rattle.gp_rules.proofs.Each.{behind, begin, next, stop, last}
use Rattle.gp_rules.proofs.accessors.read_accessors.Goals as goal

pub accessors-init : goal.accessors-init
accessors-init c = rw c.new-read.ensures.items (begin (accessor_of c.args.views.now) c.args.accessors.now)

pub returns-in-Err : goal.returns-in-Err
returns-in-Err c =
    let faulty = ap (accessor_of c.args.views.now c.accessors.at) (sym c.index-accessors-at.is) ∙ sym c.read_accessor.ensures ∙ c.in-Err.is in
    c.accessors.invariant ∙ stop (accessor_of c.args.views.now) c.args.accessors.now c.accessors.at c.index-accessors-at.result c.accessors.read.items c.in-Err.fault (omega arith) faulty

pub accessors-preserved : goal.accessors-preserved
accessors-preserved c =
    let sound = ap (accessor_of c.args.views.now c.accessors.at) (sym c.index-accessors-at.is) ∙ sym c.read_accessor.ensures ∙ c.in-Ok.is in
    c.accessors.invariant
    ∙ next (accessor_of c.args.views.now) c.args.accessors.now c.accessors.at c.index-accessors-at.result c.accessors.read.items _ (omega arith) sound
    ∙ ap (λ xs. behind xs (each (accessor_of c.args.views.now) (c.accessors.at + 1) (drop (c.accessors.at + 1) c.args.accessors.now))) (search rules)

pub returns : goal.returns
returns c = c.accessors.invariant ∙ last (accessor_of c.args.views.now) c.args.accessors.now c.accessors.at c.accessors.read.items (omega arith)
