use Rattle.std.proofs.Common.{◌≡◌, ℕ, List, ◌++◌, ◌∷◌, [], get_or, set, sym, ap, subst, ◌∙◌, None, Some}
use Rattle.std.specs.List.{position}
use Rattle.gp_folder.specs.declared.file.File.{File}
use Rattle.gp_folder.specs.Files.{has_name, AreNamed}
use Rattle.gp_folder.proofs.Named.{changed, set_found, added_last, named_still, named_more}
use Rattle.gp_folder.proofs.file.FileList.set.Goals as goal

pushed : {now held files : List File} {n name b bytes : List ℕ} → now ≡ held ++ record { name = n; bytes = b } ∷ [] → held ≡ files → n ≡ name → b ≡ bytes
    → now ≡ files ++ record { name = name; bytes = bytes } ∷ []
pushed grown same names contents = cc

pub returns-in-Some-clause-set : goal.returns-in-Some-clause-set
returns-in-Some-clause-set c =
    let place = c.in-Some.place in
    let file = c.index_mut.result.now in
    let held = sym c.self.view_is ∙ sym c.deref.ensures.value in
    let at : position (has_name c.args.name.now) c.args.self.now ≡ Some place = ap (λ l. position (has_name c.args.name.now) l) held ∙ sym c.place_of.ensures ∙ c.in-Some.is in
    let there = c.index_mut.ensures.value ∙ ap (λ l. get_or l place file) c.self.view_is in
    let put = ap (λ b. changed file b) (c.from_vec-bytes.ensures ∙ c.in_ok-from_slice.ensures.items) ∙ ap (λ f. changed f c.args.bytes.now) there in
    ap (λ l. set l place (changed file c.from_vec-bytes.result)) c.self.view_is ∙ ap (λ f. set c.args.self.now place f) put ∙ set_found c.args.name.now c.args.bytes.now c.args.self.now place file at

pub returns-in-Some-clause-named : goal.returns-in-Some-clause-named
returns-in-Some-clause-named c named =
    let place = c.in-Some.place in
    let file = c.index_mut.result.now in
    let held = sym c.self.view_is ∙ sym c.deref.ensures.value in
    let at : position (has_name c.args.name.now) c.args.self.now ≡ Some place = ap (λ l. position (has_name c.args.name.now) l) held ∙ sym c.place_of.ensures ∙ c.in-Some.is in
    let there = c.index_mut.ensures.value ∙ ap (λ l. get_or l place file) c.self.view_is in
    let put = ap (λ b. changed file b) (c.from_vec-bytes.ensures ∙ c.in_ok-from_slice.ensures.items) ∙ ap (λ f. changed f c.args.bytes.now) there in
    let all = ap (λ l. set l place (changed file c.from_vec-bytes.result)) c.self.view_is ∙ ap (λ f. set c.args.self.now place f) put in
    subst AreNamed (sym all) (named_still c.args.name.now c.args.bytes.now c.args.self.now place file at named)

pub returns-in_ok-push-in-None-clause-set : goal.returns-in_ok-push-in-None-clause-set
returns-in_ok-push-in-None-clause-set c =
    let held = sym c.self.view_is ∙ sym c.deref.ensures.value in
    let none : position (has_name c.args.name.now) c.args.self.now ≡ None = ap (λ l. position (has_name c.args.name.now) l) held ∙ sym c.place_of.ensures ∙ c.in-None.is in
    pushed c.in_ok-push-in-None.ensures.items c.self.view_is (c.from_vec-name.ensures ∙ c.in_ok-from_slice-in-None.ensures.items ∙ c.as_bytes.ensures.value)
    (c.from_vec-bytes.ensures ∙ c.in_ok-from_slice.ensures.items) ∙ added_last c.args.name.now c.args.bytes.now c.args.self.now none

pub returns-in_ok-push-in-None-clause-named : goal.returns-in_ok-push-in-None-clause-named
returns-in_ok-push-in-None-clause-named c named =
    let held = sym c.self.view_is ∙ sym c.deref.ensures.value in
    let none : position (has_name c.args.name.now) c.args.self.now ≡ None = ap (λ l. position (has_name c.args.name.now) l) held ∙ sym c.place_of.ensures ∙ c.in-None.is in
    let all = pushed c.in_ok-push-in-None.ensures.items c.self.view_is (c.from_vec-name.ensures ∙ c.in_ok-from_slice-in-None.ensures.items ∙ c.as_bytes.ensures.value)
    (c.from_vec-bytes.ensures ∙ c.in_ok-from_slice.ensures.items) in
    subst AreNamed (sym all) (named_more c.args.name.now c.args.bytes.now c.args.self.now none c.utf8.name named)
