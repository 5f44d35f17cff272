-- From how the command of the words ends to how the run ends.
use Rattle.std.proofs.Common.{◌≡◌, ℕ, ◌<◌, List, [], length, map, get_or, Option, Some, IfSome, String, Global, string_bytes, sym, ap, ◌∙◌, subst, arith}
use Rattle.std.proofs.lemmas.List.{get_or-map}
use Rattle.gp_app.specs.WideWords.{wide_command, file_in, stem_in, HasNames}
use Rattle.gp_app.specs.WideMoment.{WideMoment}
use Rattle.gp_app.specs.WideEnds.{BundleEnds, PairEnds, WideCommandEnds, WideEnds, TakingCompletes}
use Rattle.gp_app.specs.declared.commands.Wide.{Wide}
use Rattle.gp_app.specs.declared.commands.Wide.TheVariants.{Bundle, Pair}
use Rattle.gp_app.specs.declared.status.Status.{Status}

-- a word that is passed on as a name
module _ (words : List (String Global)) where
  abbrev IsNamed : ℕ → List ℕ → Type 0
  IsNamed at name = (word : String Global) × (word ≡ get_or words at word) × (name ≡ string_bytes word)

  named : (at : ℕ) (name : List ℕ) → at < length words → IsNamed at name → name ≡ get_or (map string_bytes words) at []
  named at name small (word, is, e) = e ∙ ap string_bytes is ∙ sym (get_or-map string_bytes words at word [] small)

module _ (words : List (String Global)) (o : Option Wide) (asked : Wide) (is : o ≡ Some asked) (value : o ≡ wide_command (map string_bytes words)) (names : IfSome o (HasNames words))
    (before after : WideMoment) (status : Status) where
  command_is : (wide : Wide) → asked ≡ wide → wide_command (map string_bytes words) ≡ Some wide
  command_is wide same = sym value ∙ is ∙ ap Some same

  has_names : (wide : Wide) → asked ≡ wide → HasNames words wide
  has_names wide same = subst (λ o. IfSome o (HasNames words)) (is ∙ ap Some same) names

  pub ends_bundle : asked ≡ Bundle → (file : List ℕ) → IsNamed words 1 file → BundleEnds file before after status → after.streams.input ≡ before.streams.input
      → WideEnds (map string_bytes words) before after status
  ends_bundle same file is_file ends input =
      let few : length words ≡ 2 = has_names Bundle same in
      let e = named words 1 file (omega (arith, few)) is_file in
      subst (λ o. WideCommandEnds o (map string_bytes words) before after status) (sym (command_is Bundle same)) (subst (λ f. BundleEnds f before after status) e ends, input)

  pub ends_pair : asked ≡ Pair → (file stem : List ℕ) → IsNamed words 1 file → IsNamed words 2 stem → PairEnds file stem before after status → after.streams.input ≡ before.streams.input
      → WideEnds (map string_bytes words) before after status
  ends_pair same file stem is_file is_stem ends input =
      let few : length words ≡ 3 = has_names Pair same in
      let e = named words 1 file (omega (arith, few)) is_file in
      let d = named words 2 stem (omega (arith, few)) is_stem in
      subst (λ o. WideCommandEnds o (map string_bytes words) before after status) (sym (command_is Pair same))
      (subst (λ f. PairEnds f (stem_in (map string_bytes words)) before after status) e (subst (λ s. PairEnds file s before after status) d ends), input)

  pub completes_pair : asked ≡ Pair → (file : List ℕ) → IsNamed words 1 file → TakingCompletes file before after status → TakingCompletes (file_in (map string_bytes words)) before after status
  completes_pair same file is_file completes =
      let few : length words ≡ 3 = has_names Pair same in
      subst (λ f. TakingCompletes f before after status) (named words 1 file (omega (arith, few)) is_file) completes
