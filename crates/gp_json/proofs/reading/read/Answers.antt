use Rattle.std.proofs.Common.{◌≡◌, ◌⊎◌, inl, Err, ℕ, List, refl, sym, ap, ◌∙◌, subst, true≢false, IsUtf8}
use Rattle.gp_json.specs.declared.fault.JsonFault.{JsonFault}
use Rattle.gp_json.specs.declared.fault.JsonFault.TheVariants.{NotUtf8, TooDeep, NotJson, DuplicateKey}
use Rattle.gp_json.specs.declared.fault.JsonRefusal.{JsonRefusal}
use Rattle.gp_json.specs.declared.fault.JsonRefusal.TheVariants.{Fault, Memory}
use Rattle.gp_tree.specs.Plain.{PlainTree, plain}
use Rattle.gp_json.specs.Spelling.{Spells}
use Rattle.gp_tree.specs.Sound.{HasDistinctKeys}
use Rattle.gp_json.specs.Fault.{IsTooDeep, HasFault}
use Rattle.gp_json.proofs.Refusals.{fault_unique, told}
use Rattle.gp_json.proofs.Spelled.{spelled}
use Rattle.gp_json.proofs.Utf8Texts.{spells_utf8}
use Rattle.std.proofs.lemmas.Result.{err_from_is_err_and}
use Rattle.gp_json.proofs.reading.read.Goals as goal

-- a value with distinct keys that a text spells rules out each fault
no_fault : (s : List ℕ) (t : PlainTree) → IsUtf8 s → (IsTooDeep s → ⊥) → Spells s t → ((u : PlainTree) → Spells s u → t ≡ u) → HasDistinctKeys t → (f : JsonFault) → HasFault s f → ⊥
no_fault s t utf8 flat h only d NotUtf8 k = k utf8
no_fault s t utf8 flat h only d TooDeep k = flat k.1
no_fault s t utf8 flat h only d NotJson k = k.2 (t, h)
no_fault s t utf8 flat h only d DuplicateKey (_, _, (u, g, n)) = n (subst HasDistinctKeys (only u g) d)

pub returns-in-Ok-true-clause-sound : goal.returns-in-Ok-true-clause-sound
returns-in-Ok-true-clause-sound c = record {
  spelled = spelled c.in-Ok.text.now (plain c.in_ok-tree.tree) c.in_ok-tree.ensures.spelled;
  shallow = c.in_ok-tree.ensures.shallow;
  distinct = c.in-Ok-true.ensures.0 c.in-Ok-true.field-0-test;
}

pub returns-in-Ok-true-clause-only : goal.returns-in-Ok-true-clause-only
returns-in-Ok-true-clause-only c u h = c.in_ok-tree.ensures.only u (subst (λ s. Spells s u) (sym c.in-Ok.ensures.cases.0) h)

pub returns-in-Ok-true-clause-told : goal.returns-in-Ok-true-clause-told
returns-in-Ok-true-clause-told c f h =
    let same = c.in-Ok.ensures.cases.0 in
    let own = c.in_ok-tree.ensures in
    no_fault c.in-Ok.text.now (plain c.in_ok-tree.tree) (subst IsUtf8 (sym same) c.in-Ok.ensures.cases.1) own.flat own.spelled own.only (c.in-Ok-true.ensures.0 c.in-Ok-true.field-0-test) f (subst (λ s. HasFault s f) (sym same) h)

-- a fault that is told is the one that the text has
told_as : (s : List ℕ) (g f : JsonFault) → HasFault s g → HasFault s f → (Fault g ≡ Fault f) ⊎ (Fault g ≡ Memory)
told_as s g f own h = inl (ap Fault (fault_unique s g f own h))

pub returns-in-Err-clause-told : goal.returns-in-Err-clause-told
returns-in-Err-clause-told c f h = told_as c.args.text.now NotUtf8 f c.in-Err.ensures.cases.0 h

pub returns-in_err-tree-clause-told : goal.returns-in_err-tree-clause-told
returns-in_err-tree-clause-told c f h =
    let p = err_from_is_err_and c.from_residual.result c.from_residual.ensures.1 in
    rw (p.1, p.2) (told c.in-Ok.text.now _ (λ g e. c.in_err-tree.ensures.fault g (ap Err e)) f (subst (λ s. HasFault s f) (sym c.in-Ok.ensures.cases.0) h))

has_equal_keys : (s r : List ℕ) (t : PlainTree) → s ≡ r → IsUtf8 r → (IsTooDeep s → ⊥) → Spells s t → (HasDistinctKeys t → ⊥) → HasFault r DuplicateKey
has_equal_keys s r t same utf8 flat h n = (utf8, (λ d. flat (subst IsTooDeep (sym same) d)), (t, subst (λ y. Spells y t) same h, n))

pub returns-in-Ok-false-clause-told : goal.returns-in-Ok-false-clause-told
returns-in-Ok-false-clause-told c f h =
    let own = c.in_ok-tree.ensures in
    let equal = has_equal_keys c.in-Ok.text.now c.args.text.now (plain c.in_ok-tree.tree) c.in-Ok.ensures.cases.0 c.in-Ok.ensures.cases.1 own.flat own.spelled (λ d. true≢false (sym (c.in-Ok-false.ensures.1 d) ∙ c.in-Ok-false.field-0-test)) in
    told_as c.args.text.now DuplicateKey f equal h

pub returns-in-Ok-false-clause-fault : goal.returns-in-Ok-false-clause-fault
returns-in-Ok-false-clause-fault c f e =
    let own = c.in_ok-tree.ensures in
    let is : DuplicateKey ≡ f = cc in
    subst (HasFault c.args.text.now) is (has_equal_keys c.in-Ok.text.now c.args.text.now (plain c.in_ok-tree.tree) c.in-Ok.ensures.cases.0 c.in-Ok.ensures.cases.1 own.flat own.spelled (λ d. true≢false (sym (c.in-Ok-false.ensures.1 d) ∙ c.in-Ok-false.field-0-test)))

memory_left : (r : JsonRefusal) → ((g : JsonFault) → r ≡ Fault g → ⊥) → r ≡ Memory
memory_left (Fault g) n = absurd (n g refl)
memory_left Memory n = refl

pub returns-in-Err-clause-found : goal.returns-in-Err-clause-found
returns-in-Err-clause-found c t h sound = absurd (c.in-Err.ensures.cases.0 (spells_utf8 c.args.text.now t h))

pub returns-in_err-tree-clause-found : goal.returns-in_err-tree-clause-found
returns-in_err-tree-clause-found c t h sound =
    let p = err_from_is_err_and c.from_residual.result c.from_residual.ensures.1 in
    rw (p.1, p.2) (memory_left _ (λ g e. c.in_err-tree.ensures.none g (ap Err e) t (subst (λ s. Spells s t) (sym c.in-Ok.ensures.cases.0) h) sound.shallow))

pub returns-in-Ok-true-clause-found : goal.returns-in-Ok-true-clause-found
returns-in-Ok-true-clause-found c t h sound = c.in_ok-tree.ensures.only t (subst (λ s. Spells s t) (sym c.in-Ok.ensures.cases.0) h)

pub returns-in-Ok-false-clause-found : goal.returns-in-Ok-false-clause-found
returns-in-Ok-false-clause-found c t h sound =
    let same = c.in_ok-tree.ensures.only t (subst (λ s. Spells s t) (sym c.in-Ok.ensures.cases.0) h) in
    absurd (true≢false (sym (c.in-Ok-false.ensures.1 (subst HasDistinctKeys (sym same) sound.distinct)) ∙ c.in-Ok-false.field-0-test))
