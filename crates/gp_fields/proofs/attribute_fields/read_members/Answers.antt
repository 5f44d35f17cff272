use Rattle.std.proofs.Common.{rules, ◌+◌, Some, map, drop, sym, ap, ◌∙◌, arith}
use Rattle.gp_tree.specs.Plain.{plain_member}
use Rattle.gp_fields.specs.Fields.{entry_of, entries_of}
use Rattle.gp_fields.proofs.Each.{behind}
use Rattle.gp_fields.proofs.EachEntry.{begin, next, stop, last}
use Rattle.gp_fields.proofs.attribute_fields.read_members.Goals as goal

pub entries-init : goal.entries-init
entries-init c = rw c.new-read.ensures.items (begin c.args.accessors c.args.items.now)

pub returns-in_default : goal.returns-in_default
returns-in_default c =
    let lacks = ap (λ m. entry_of c.args.accessors (plain_member m)) (sym c.index-items-at.is) ∙ sym c.in_ok-entry.ensures ∙ c.in_default.is in
    sym (c.entries.invariant ∙ stop c.args.accessors c.args.items.now c.entries.at c.index-items-at.result c.entries.read.items (omega arith) lacks)

pub entries-preserved : goal.entries-preserved
entries-preserved c =
    let has = ap (λ m. entry_of c.args.accessors (plain_member m)) (sym c.index-items-at.is) ∙ sym c.in_ok-entry.ensures ∙ c.in-Some.is in
    c.entries.invariant
    ∙ next c.args.accessors c.args.items.now c.entries.at c.index-items-at.result c.entries.read.items _ (omega arith) has
    ∙ ap (λ xs. behind xs (entries_of c.args.accessors (map plain_member (drop (c.entries.at + 1) c.args.items.now)))) (search (rules))

pub returns : goal.returns
returns c = ap Some c.from_vec.ensures ∙ sym (c.entries.invariant ∙ last c.args.accessors c.args.items.now c.entries.at c.entries.read.items (omega arith))
