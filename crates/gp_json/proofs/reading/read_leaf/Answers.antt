use Rattle.std.proofs.Common.{◌≡◌, true, false, refl, sym, ◌∙◌, subst, rules}
use Rattle.gp_tree.specs.Plain.{plain, null, truth, text}
use Rattle.gp_json.specs.Reading.{BeginsValue}
use Rattle.gp_tree.specs.declared.tree.Tree.{Null, Truth, Text, the_lemmas}
use Rattle.gp_json.proofs.Leaves.{null_good, true_good, false_good, text_good}
use Rattle.gp_json.proofs.reading.read_leaf.Goals as goal

pub returns-then-take_word-clause-ok : goal.returns-then-take_word-clause-ok
returns-then-take_word-clause-ok c =
    let seen : plain Null ≡ null = search (rules, the_lemmas) in
    subst (λ y. BeginsValue c.args.depth c.args.text.now y c.take_word.new.self) (sym seen) (null_good c.args.depth c.args.text.now c.take_word.new.self (c.if-take_word.ensures.taken refl))

pub returns-then-take_word-2-clause-ok : goal.returns-then-take_word-2-clause-ok
returns-then-take_word-2-clause-ok c =
    let seen : plain (Truth true) ≡ truth true = search (rules, the_lemmas) in
    let same = c.if-take_word.ensures.stays refl in
    subst (λ y. BeginsValue c.args.depth c.args.text.now y c.take_word-2.new.self) (sym seen) (true_good c.args.depth c.args.text.now c.take_word-2.new.self (sym same ∙ c.if-take_word-2.ensures.taken refl))

pub returns-then-take_word-3-clause-ok : goal.returns-then-take_word-3-clause-ok
returns-then-take_word-3-clause-ok c =
    let seen : plain (Truth false) ≡ truth false = search (rules, the_lemmas) in
    let same = c.if-take_word-2.ensures.stays refl ∙ c.if-take_word.ensures.stays refl in
    subst (λ y. BeginsValue c.args.depth c.args.text.now y c.take_word-3.new.self) (sym seen) (false_good c.args.depth c.args.text.now c.take_word-3.new.self (sym same ∙ c.if-take_word-3.ensures.taken refl))

pub returns-then-take-clause-ok : goal.returns-then-take-clause-ok
returns-then-take-clause-ok c =
    let seen : plain (Text c.in_ok-string.string) ≡ text c.in_ok-string.string = search (rules, the_lemmas) in
    let same = c.if-take_word-3.ensures.stays refl ∙ c.if-take_word-2.ensures.stays refl ∙ c.if-take_word.ensures.stays refl in
    subst (λ y. BeginsValue c.args.depth c.args.text.now y c.read_string.new.text) (sym seen)
    (text_good c.args.depth c.args.text.now c.take.new.self c.read_string.new.text c.in_ok-string.string (sym same ∙ c.if-take.ensures.taken refl) c.in_ok-string.ensures.ok.0 c.in_ok-string.ensures.ok.1.1)
