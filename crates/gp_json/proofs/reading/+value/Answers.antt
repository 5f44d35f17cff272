use Rattle.std.proofs.Common.{◌≡◌, ℕ, ◌-◌, List, [], ◌∷◌, ◌++◌, refl, sym, ap, ◌∙◌, subst, arith, rules, Err}
use Rattle.std.proofs.lemmas.Grind.{common_steps}
use Rattle.gp_json.specs.declared.fault.JsonFault.TheVariants.{NotJson}
use Rattle.gp_tree.specs.Plain.{plain, plain_items, plain_entries, plain_member, list, members}
use Rattle.gp_json.specs.Deep.{IsDeep}
use Rattle.gp_json.specs.Reading.{BeginsItems, BeginsMembers, BeginsMember, BeginsValue, HasNone}
use Rattle.gp_tree.specs.declared.tree.Tree.{List as a_list, Members as an_object, the_lemmas}
use Rattle.gp_tree.specs.declared.tree.Trees.{roll-Trees}
use Rattle.gp_tree.specs.declared.tree.Members.{roll-Members}
use Rattle.gp_tree.specs.declared.tree.Member.{roll-Member}
use Rattle.gp_json.proofs.ItemTurns.{Turn, first_turn, next_turn, last_turn, flat_turn, flat_empty, failed_turn, failed_value, refused_value, list_good, list_none, flat_list, refused_list}
use Rattle.gp_json.proofs.MemberTurns as turns
use Rattle.std.proofs.lemmas.Result.{err_from_is_err_and}
use Rattle.gp_json.proofs.Exits.{exit_fault}
use Rattle.gp_json.proofs.reading.+value.Goals as goal

no_comma : (s r : List ℕ) (x : ℕ) → (x ≡ 44 → ⊥) → s ≡ x ∷ r → (q : List ℕ) → s ≡ 44 ∷ q → ⊥
no_comma s r x n e q f =
    let e' : x ∷ r ≡ 44 ∷ q = sym e ∙ f in
    let same : x ≡ 44 = cc in
    n same

pub read_items-items-init : goal.read_items-items-init
read_items-items-init t c =
    let d = c.args.depth in
    let s0 = c.args.text.now in
    let s = c.skip_space.new.self in
    let turn = first_turn d s0 s c.skip_space.ensures.space c.skip_space.ensures.ends (c.if-take.ensures.other refl) in
    subst (λ y. Turn d s0 y c.new-items.result.items) (sym (c.if-take.ensures.stays refl)) (subst (λ y. Turn d s0 s y) (sym c.new-items.ensures.items) turn)

pub read_items-returns-in_err-item-clause-none : goal.read_items-returns-in_err-item-clause-none
read_items-returns-in_err-item-clause-none t c f e =
    failed_value c.args.depth c.args.text.now c.items.text c.items.items.items c.items.invariant (let r = exit_fault c.from_residual.result _ f c.from_residual.ensures.1 e in c.in_err-item.ensures.none f (ap Err r))

pub read_items-returns-then-take-2-clause-ok : goal.read_items-returns-then-take-2-clause-ok
read_items-returns-then-take-2-clause-ok t c =
    let d = c.args.depth in
    let s0 = c.args.text.now in
    let pushed : c.push.new.self.items ≡ c.items.items.items ++ c.in_ok-item.item ∷ [] = grind (arith, common_steps) in
    subst (λ y. BeginsItems d s0 (plain_items y) c.take-in-items.new.self) (sym pushed)
    (last_turn d s0 c.items.text c.read_value.new.text c.skip_space-in-items.new.self c.take-in-items.new.self c.items.items.items c.in_ok-item.item c.items.invariant c.in_ok-item.ensures.ok c.skip_space-in-items.ensures.space (c.if-take-2.ensures.taken refl))

pub read_items-returns-then-not-take-clause-none : goal.read_items-returns-then-not-take-clause-none
read_items-returns-then-not-take-clause-none t c f e =
    let stays = c.if-take-2.ensures.stays refl in
    failed_turn c.args.depth c.args.text.now c.items.text c.read_value.new.text c.skip_space-in-items.new.self c.items.items.items (plain c.in_ok-item.item) c.items.invariant c.in_ok-item.ensures.ok c.skip_space-in-items.ensures.space c.skip_space-in-items.ensures.ends
    (c.if-take-2.ensures.other refl) (λ r h. c.if-not-take.ensures.other refl r (stays ∙ h))

pub read_items-items-preserved : goal.read_items-items-preserved
read_items-items-preserved t c =
    let d = c.args.depth in
    let s0 = c.args.text.now in
    let stays = c.if-take-2.ensures.stays refl in
    let s4 = c.skip_space-in-items-2.new.self in
    let pushed : c.push.new.self.items ≡ c.items.items.items ++ c.in_ok-item.item ∷ [] = grind (arith, common_steps) in
    subst (λ y. Turn d s0 s4 y) (sym pushed)
    (next_turn d s0 c.items.text c.read_value.new.text c.skip_space-in-items.new.self c.take-in-items-2.new.self s4 c.items.items.items c.in_ok-item.item c.items.invariant c.in_ok-item.ensures.ok c.skip_space-in-items.ensures.space c.skip_space-in-items.ensures.ends
    (sym stays ∙ c.if-not-take.ensures.taken refl) c.skip_space-in-items-2.ensures.space c.skip_space-in-items-2.ensures.ends c.in_ok-item.ensures.deep)

pub read_members-members-init : goal.read_members-members-init
read_members-members-init t c =
    let d = c.args.depth in
    let s0 = c.args.text.now in
    let s = c.skip_space.new.self in
    let turn = turns.first_turn d s0 s c.skip_space.ensures.space c.skip_space.ensures.ends (c.if-take.ensures.other refl) in
    subst (λ y. turns.MemberTurn d s0 y c.new-items.result.items) (sym (c.if-take.ensures.stays refl)) (subst (λ y. turns.MemberTurn d s0 s y) (sym c.new-items.ensures.items) turn)

pub read_members-returns-in_err-item-clause-none : goal.read_members-returns-in_err-item-clause-none
read_members-returns-in_err-item-clause-none t c f e =
    turns.failed_member c.args.depth c.args.text.now c.members.text c.members.items.items c.members.invariant (let r = exit_fault c.from_residual.result _ f c.from_residual.ensures.1 e in c.in_err-item.ensures.none f (ap Err r))

pub read_members-returns-then-take-2-clause-ok : goal.read_members-returns-then-take-2-clause-ok
read_members-returns-then-take-2-clause-ok t c =
    let d = c.args.depth in
    let s0 = c.args.text.now in
    let pushed : c.push.new.self.items ≡ c.members.items.items ++ c.in_ok-item.item ∷ [] = grind (arith, common_steps) in
    subst (λ y. BeginsMembers d s0 (plain_entries y) c.take-in-members.new.self) (sym pushed)
    (turns.last_turn d s0 c.members.text c.read_member.new.text c.skip_space-in-members.new.self c.take-in-members.new.self c.members.items.items c.in_ok-item.item c.members.invariant c.in_ok-item.ensures.ok c.skip_space-in-members.ensures.space (c.if-take-2.ensures.taken refl))

pub read_members-returns-then-not-take-clause-none : goal.read_members-returns-then-not-take-clause-none
read_members-returns-then-not-take-clause-none t c f e =
    let stays = c.if-take-2.ensures.stays refl in
    turns.failed_turn c.args.depth c.args.text.now c.members.text c.read_member.new.text c.skip_space-in-members.new.self c.members.items.items (plain_member c.in_ok-item.item) c.members.invariant c.in_ok-item.ensures.ok c.skip_space-in-members.ensures.space c.skip_space-in-members.ensures.ends
    (c.if-take-2.ensures.other refl) (λ r h. c.if-not-take.ensures.other refl r (stays ∙ h))

pub read_members-members-preserved : goal.read_members-members-preserved
read_members-members-preserved t c =
    let d = c.args.depth in
    let s0 = c.args.text.now in
    let stays = c.if-take-2.ensures.stays refl in
    let s4 = c.skip_space-in-members-2.new.self in
    let pushed : c.push.new.self.items ≡ c.members.items.items ++ c.in_ok-item.item ∷ [] = grind (arith, common_steps) in
    subst (λ y. turns.MemberTurn d s0 s4 y) (sym pushed)
    (turns.next_turn d s0 c.members.text c.read_member.new.text c.skip_space-in-members.new.self c.take-in-members-2.new.self s4 c.members.items.items c.in_ok-item.item c.members.invariant c.in_ok-item.ensures.ok c.skip_space-in-members.ensures.space c.skip_space-in-members.ensures.ends
    (sym stays ∙ c.if-not-take.ensures.taken refl) c.skip_space-in-members-2.ensures.space c.skip_space-in-members-2.ensures.ends c.in_ok-item.ensures.deep)

pub read_value-returns-in_err-items-clause-none : goal.read_value-returns-in_err-items-clause-none
read_value-returns-in_err-items-clause-none t c f e = list_none c.args.depth c.args.text.now c.take.new.self (c.if-take.ensures.taken refl) (let r = exit_fault c.from_residual.result _ f c.from_residual.ensures.1 e in c.in_err-items.ensures.none f (ap Err r))

pub read_value-returns-then-take-clause-ok : goal.read_value-returns-then-take-clause-ok
read_value-returns-then-take-clause-ok t c =
    let d = c.args.depth in
    let v = c.fitted-items.result in
    let seen : plain (a_list (roll-Trees record { items = v })) ≡ list (plain_items v.items) = search (rules, the_lemmas) in
    let good = subst (λ y. BeginsItems (d - 1) c.take.new.self (plain_items y) c.read_items.new.text) (sym c.fitted-items.ensures) c.in_ok-items.ensures.ok in
    subst (λ y. BeginsValue d c.args.text.now y c.read_items.new.text) (sym seen) (list_good d c.args.text.now c.take.new.self c.read_items.new.text (plain_items v.items) (omega arith) (c.if-take.ensures.taken refl) good)

pub read_value-returns-in_err-members-clause-none : goal.read_value-returns-in_err-members-clause-none
read_value-returns-in_err-members-clause-none t c f e =
    let r = exit_fault c.from_residual-in_err-members.result _ f c.from_residual-in_err-members.ensures.1 e in
    let none = turns.object_none c.args.depth c.take.new.self c.take-2.new.self (c.if-take-2.ensures.taken refl) (c.in_err-members.ensures.none f (ap Err r)) in
    subst (λ y. HasNone (BeginsValue c.args.depth y)) (c.if-take.ensures.stays refl) none

pub read_value-returns-then-take-2-clause-ok : goal.read_value-returns-then-take-2-clause-ok
read_value-returns-then-take-2-clause-ok t c =
    let d = c.args.depth in
    let v = c.fitted-members.result in
    let r = c.read_members.new.text in
    let seen : plain (an_object (roll-Members record { items = v })) ≡ members (plain_entries v.items) = search (rules, the_lemmas) in
    let read = subst (λ y. BeginsMembers (d - 1) c.take-2.new.self (plain_entries y) r) (sym c.fitted-members.ensures) c.in_ok-members.ensures.ok in
    let good = turns.object_good d c.take.new.self c.take-2.new.self r (plain_entries v.items) (omega arith) (c.if-take-2.ensures.taken refl) read in
    subst (λ y. BeginsValue d c.args.text.now y r) (sym seen) (subst (λ y. BeginsValue d y (members (plain_entries v.items)) r) (c.if-take.ensures.stays refl) good)

pub read_value-returns-clause-none : goal.read_value-returns-clause-none
read_value-returns-clause-none t c f e =
    let same = c.if-take-2.ensures.stays refl ∙ c.if-take.ensures.stays refl in
    subst (λ y. HasNone (BeginsValue c.args.depth y)) same (c.read_leaf.ensures.none f e)

pub read_member-returns-then-not-take-2-clause-none : goal.read_member-returns-then-not-take-2-clause-none
read_member-returns-then-not-take-2-clause-none t c f e =
    turns.colon_none c.args.depth c.args.text.now c.take.new.self c.read_string.new.text c.skip_space.new.self c.in_ok-key.key (c.if-not-take.ensures.taken refl) c.in_ok-key.ensures.ok.1.0 c.in_ok-key.ensures.ok.1.1 c.skip_space.ensures.space c.skip_space.ensures.ends
    (c.if-not-take-2.ensures.other refl)

pub read_member-returns-in_err-value-clause-none : goal.read_member-returns-in_err-value-clause-none
read_member-returns-in_err-value-clause-none t c f e =
    let r = exit_fault c.from_residual-in_err-value.result _ f c.from_residual-in_err-value.ensures.1 e in
    turns.member_value_none c.args.depth c.args.text.now c.take.new.self c.read_string.new.text c.skip_space.new.self c.take-2.new.self c.skip_space-2.new.self c.in_ok-key.key (c.if-not-take.ensures.taken refl) c.in_ok-key.ensures.ok.1.0 c.in_ok-key.ensures.ok.1.1
    c.skip_space.ensures.space c.skip_space.ensures.ends (c.if-not-take-2.ensures.taken refl) c.skip_space-2.ensures.space c.skip_space-2.ensures.ends (c.in_err-value.ensures.none f (ap Err r))

pub read_member-returns-clause-ok : goal.read_member-returns-clause-ok
read_member-returns-clause-ok t c =
    let d = c.args.depth in
    let key = c.in_ok-key.key in
    let value = c.in_ok-value.value in
    let seen : plain_member (roll-Member record { key = key; value = value }) ≡ (key, plain value) = search (rules, the_lemmas) in
    subst (λ y. BeginsMember d c.args.text.now y c.read_value.new.text) (sym seen)
    (turns.member_good d c.args.text.now c.take.new.self c.read_string.new.text c.skip_space.new.self c.take-2.new.self c.skip_space-2.new.self c.read_value.new.text key (plain value) (c.if-not-take.ensures.taken refl) c.in_ok-key.ensures.ok.0 c.in_ok-key.ensures.ok.1.1
    c.skip_space.ensures.space (c.if-not-take-2.ensures.taken refl) c.skip_space-2.ensures.space c.in_ok-value.ensures.ok)

pub read_items-returns-then-take-clause-deep : goal.read_items-returns-then-take-clause-deep
read_items-returns-then-take-clause-deep t c = flat_empty c.args.depth c.args.text.now c.skip_space.new.self c.take.new.self c.skip_space.ensures.space (c.if-take.ensures.taken refl)

pub read_items-returns-in_err-item-clause-deep : goal.read_items-returns-in_err-item-clause-deep
read_items-returns-in_err-item-clause-deep t c =
    let p = err_from_is_err_and c.from_residual.result c.from_residual.ensures.1 in
    rw (p.1, p.2) (refused_value c.args.depth c.args.text.now c.items.text c.items.items.items _ c.items.invariant (λ e. c.in_err-item.ensures.none NotJson (ap Err e)) c.in_err-item.ensures.deep)

pub read_items-returns-then-take-2-clause-deep : goal.read_items-returns-then-take-2-clause-deep
read_items-returns-then-take-2-clause-deep t c =
    flat_turn c.args.depth c.args.text.now c.items.text c.read_value.new.text c.skip_space-in-items.new.self c.items.items.items (plain c.in_ok-item.item) c.items.invariant c.in_ok-item.ensures.ok c.skip_space-in-items.ensures.space c.skip_space-in-items.ensures.ends
    (no_comma c.skip_space-in-items.new.self c.take-in-items.new.self 93 (λ e. omega (arith, e)) (c.if-take-2.ensures.taken refl)) c.in_ok-item.ensures.deep

pub read_items-returns-then-not-take-clause-deep : goal.read_items-returns-then-not-take-clause-deep
read_items-returns-then-not-take-clause-deep t c =
    let stays = c.if-take-2.ensures.stays refl in
    flat_turn c.args.depth c.args.text.now c.items.text c.read_value.new.text c.skip_space-in-items.new.self c.items.items.items (plain c.in_ok-item.item) c.items.invariant c.in_ok-item.ensures.ok c.skip_space-in-items.ensures.space c.skip_space-in-items.ensures.ends
    (λ r h. c.if-not-take.ensures.other refl r (stays ∙ h)) c.in_ok-item.ensures.deep

pub read_members-returns-then-take-clause-deep : goal.read_members-returns-then-take-clause-deep
read_members-returns-then-take-clause-deep t c = turns.flat_empty c.args.depth c.args.text.now c.skip_space.new.self c.take.new.self c.skip_space.ensures.space (c.if-take.ensures.taken refl)

pub read_members-returns-in_err-item-clause-deep : goal.read_members-returns-in_err-item-clause-deep
read_members-returns-in_err-item-clause-deep t c =
    let p = err_from_is_err_and c.from_residual.result c.from_residual.ensures.1 in
    rw (p.1, p.2) (turns.refused_member c.args.depth c.args.text.now c.members.text c.members.items.items _ c.members.invariant (λ e. c.in_err-item.ensures.none NotJson (ap Err e)) c.in_err-item.ensures.deep)

pub read_members-returns-then-take-2-clause-deep : goal.read_members-returns-then-take-2-clause-deep
read_members-returns-then-take-2-clause-deep t c =
    turns.flat_turn c.args.depth c.args.text.now c.members.text c.read_member.new.text c.skip_space-in-members.new.self c.members.items.items (plain_member c.in_ok-item.item) c.members.invariant c.in_ok-item.ensures.ok c.skip_space-in-members.ensures.space c.skip_space-in-members.ensures.ends
    (no_comma c.skip_space-in-members.new.self c.take-in-members.new.self 125 (λ e. omega (arith, e)) (c.if-take-2.ensures.taken refl)) c.in_ok-item.ensures.deep

pub read_members-returns-then-not-take-clause-deep : goal.read_members-returns-then-not-take-clause-deep
read_members-returns-then-not-take-clause-deep t c =
    let stays = c.if-take-2.ensures.stays refl in
    turns.flat_turn c.args.depth c.args.text.now c.members.text c.read_member.new.text c.skip_space-in-members.new.self c.members.items.items (plain_member c.in_ok-item.item) c.members.invariant c.in_ok-item.ensures.ok c.skip_space-in-members.ensures.space c.skip_space-in-members.ensures.ends
    (λ r h. c.if-not-take.ensures.other refl r (stays ∙ h)) c.in_ok-item.ensures.deep

pub read_member-returns-then-not-take-2-clause-deep : goal.read_member-returns-then-not-take-2-clause-deep
read_member-returns-then-not-take-2-clause-deep t c =
    turns.colon_flat (IsDeep c.args.depth) c.args.text.now c.take.new.self c.read_string.new.text c.skip_space.new.self c.in_ok-key.key (c.if-not-take.ensures.taken refl) c.in_ok-key.ensures.ok.1.0 c.in_ok-key.ensures.ok.1.1 c.skip_space.ensures.space c.skip_space.ensures.ends
    (c.if-not-take-2.ensures.other refl)

pub read_member-returns-in_err-value-clause-deep : goal.read_member-returns-in_err-value-clause-deep
read_member-returns-in_err-value-clause-deep t c =
    let p = err_from_is_err_and c.from_residual-in_err-value.result c.from_residual-in_err-value.ensures.1 in
    rw (p.1, p.2) (turns.refused_keyed c.args.depth c.args.text.now c.take.new.self c.read_string.new.text c.skip_space.new.self c.take-2.new.self c.skip_space-2.new.self c.in_ok-key.key _ (c.if-not-take.ensures.taken refl) c.in_ok-key.ensures.ok.0 c.in_ok-key.ensures.ok.1.1
    c.skip_space.ensures.space c.skip_space.ensures.ends (c.if-not-take-2.ensures.taken refl) c.skip_space-2.ensures.space c.skip_space-2.ensures.ends c.in_err-value.ensures.deep)

pub read_member-returns-clause-deep : goal.read_member-returns-clause-deep
read_member-returns-clause-deep t c =
    turns.flat_keyed c.args.depth c.args.text.now c.take.new.self c.read_string.new.text c.skip_space.new.self c.take-2.new.self c.skip_space-2.new.self c.in_ok-key.key (c.if-not-take.ensures.taken refl) c.in_ok-key.ensures.ok.1.0 c.in_ok-key.ensures.ok.1.1
    c.skip_space.ensures.space c.skip_space.ensures.ends (c.if-not-take-2.ensures.taken refl) c.skip_space-2.ensures.space c.skip_space-2.ensures.ends c.in_ok-value.ensures.deep

pub read_value-returns-in_err-items-clause-deep : goal.read_value-returns-in_err-items-clause-deep
read_value-returns-in_err-items-clause-deep t c =
    let p = err_from_is_err_and c.from_residual.result c.from_residual.ensures.1 in
    rw (p.1, p.2) (refused_list c.args.depth c.args.text.now c.take.new.self _ (omega arith) (c.if-take.ensures.taken refl) c.in_err-items.ensures.deep)

pub read_value-returns-then-take-clause-deep : goal.read_value-returns-then-take-clause-deep
read_value-returns-then-take-clause-deep t c = flat_list c.args.depth c.args.text.now c.take.new.self (omega arith) (c.if-take.ensures.taken refl) c.in_ok-items.ensures.deep

pub read_value-returns-in_err-members-clause-deep : goal.read_value-returns-in_err-members-clause-deep
read_value-returns-in_err-members-clause-deep t c =
    let p = err_from_is_err_and c.from_residual-in_err-members.result c.from_residual-in_err-members.ensures.1 in
    rw (p.1, p.2) (turns.refused_object c.args.depth c.args.text.now c.take-2.new.self _ (omega arith) (sym (c.if-take.ensures.stays refl) ∙ c.if-take-2.ensures.taken refl) c.in_err-members.ensures.deep)

pub read_value-returns-then-take-2-clause-deep : goal.read_value-returns-then-take-2-clause-deep
read_value-returns-then-take-2-clause-deep t c =
    subst (λ y. IsDeep c.args.depth y → ⊥) (c.if-take.ensures.stays refl)
    (turns.flat_object c.args.depth c.take.new.self c.take-2.new.self (omega arith) (c.if-take-2.ensures.taken refl) c.in_ok-members.ensures.deep)
