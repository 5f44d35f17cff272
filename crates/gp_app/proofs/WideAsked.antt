-- Words have a command with a folder exactly where they ask for it.
use Rattle.std.proofs.Common.{◌≡◌, ◌≢◌, ◌⊎◌, inl, inr, ℕ, ◌==◌, Bool, true, false, not, ◌&&◌, List, [], ◌∷◌, length, None, Some, Option, option_map, refl, sym, ap, ◌∙◌, codes, decimal, if◌then◌else◌}
use Rattle.std.specs.Cmp.Lexicographic.{same_text}
use Rattle.std.proofs.lemmas.Bool.{not_from_false, ne_eqb}
use Rattle.gp_app.specs.Words.{is_word, command, AsksFor}
use Rattle.gp_app.specs.WideWords.{is_stem, is_bundle, is_pair, folder_command, or_plain, wide_command, AsksWidely, WideCommandsAreAsked}
use Rattle.gp_app.proofs.Sizes.{chosen, both_true}
use Rattle.gp_app.proofs.Asked.{commands_are_asked}
use Rattle.gp_app.specs.declared.commands.Command.{Command}
use Rattle.gp_app.specs.declared.commands.Command.TheVariants.{Pack, Unpack, Analyse, Sample, Lists, Meshlets}
use Rattle.gp_app.specs.declared.commands.Wide.{Wide}
use Rattle.gp_app.specs.declared.commands.Wide.TheVariants.{Plain, Bundle, Pair}

named : (file : List ℕ) → not (length file == 0) ≡ true → file ≢ []
named [] e is = absurd (cc e)
named (byte ∷ file) e is = absurd (cc is)

not_zero : (file : List ℕ) → file ≢ [] → length file ≢ 0
not_zero [] other e = other refl
not_zero (byte ∷ file) other e = absurd (cc e)

not_empty : (file : List ℕ) → file ≢ [] → not (length file == 0) ≡ true
not_empty file other = not_from_false (length file == 0) (ne_eqb (length file) 0 (not_zero file other))

plain_asks : (words : List (List ℕ)) (o : Option Command) (asked : Wide) → command words ≡ o → option_map Plain o ≡ Some asked → AsksWidely words asked
plain_asks words None asked is e = absurd (cc e)
plain_asks words (Some one) (Plain other) is e = (commands_are_asked words other).0 (is ∙ (cc e))
plain_asks words (Some one) Bundle is e = absurd (cc e)
plain_asks words (Some one) Pair is e = absurd (cc e)

bundle_asks : (name file : List ℕ) (b : Bool) (asked : Wide) → is_bundle name file ≡ b → (if b then Some Bundle else None) ≡ Some asked → AsksWidely (name ∷ file ∷ []) asked
bundle_asks name file true (Plain other) is e = absurd (cc e)
bundle_asks name file true Pair is e = absurd (cc e)
bundle_asks name file true Bundle is e =
    let tests = both_true (is_word (codes "bundle") name) (not (length file == 0)) is in
    (file, named file tests.1, ap (λ w. w ∷ file ∷ []) (same_text name (codes "bundle") (sym tests.0)))
bundle_asks name file false asked is e = absurd (cc e)

pair_asks : (name file stem : List ℕ) (b : Bool) (asked : Wide) → is_pair name file stem ≡ b → (if b then Some Pair else None) ≡ Some asked → AsksWidely (name ∷ file ∷ stem ∷ []) asked
pair_asks name file stem true (Plain other) is e = absurd (cc e)
pair_asks name file stem true Bundle is e = absurd (cc e)
pair_asks name file stem true Pair is e =
    let outer = both_true (is_word (codes "pair") name && not (length file == 0)) (is_stem stem) is in
    let tests = both_true (is_word (codes "pair") name) (not (length file == 0)) outer.0 in
    (file, stem, named file tests.1, outer.1, ap (λ w. w ∷ file ∷ stem ∷ []) (same_text name (codes "pair") (sym tests.0)))
pair_asks name file stem false asked is e = absurd (cc e)

folder_asks : (words : List (List ℕ)) (asked : Wide) → folder_command words ≡ Some asked → AsksWidely words asked
folder_asks [] asked e = absurd (cc e)
folder_asks (name ∷ []) asked e = absurd (cc e)
folder_asks (name ∷ file ∷ []) asked e = bundle_asks name file (is_bundle name file) asked refl e
folder_asks (name ∷ file ∷ stem ∷ []) asked e = pair_asks name file stem (is_pair name file stem) asked refl e
folder_asks (name ∷ file ∷ stem ∷ other ∷ words) asked e = absurd (cc e)

either_asks : (words : List (List ℕ)) (o : Option Wide) (asked : Wide) → folder_command words ≡ o → or_plain o (command words) ≡ Some asked → AsksWidely words asked
either_asks words None asked is e = plain_asks words (command words) asked refl e
either_asks words (Some one) asked is e = folder_asks words asked (is ∙ e)

asks : (words : List (List ℕ)) (asked : Wide) → wide_command words ≡ Some asked → AsksWidely words asked
unfolding wide_command
asks words asked e = either_asks words (folder_command words) asked refl e

plain_command : (words : List (List ℕ)) (asked : Command) → AsksFor words asked → option_map Plain (command words) ≡ Some (Plain asked)
plain_command words asked is = ap (option_map Plain) ((commands_are_asked words asked).1 is)

sample_command : (number : List ℕ) (asked : Command) → AsksFor (codes "sample" ∷ number ∷ []) asked → wide_command (codes "sample" ∷ number ∷ []) ≡ Some (Plain asked)
unfolding wide_command
sample_command number asked is = plain_command (codes "sample" ∷ number ∷ []) asked is

one_command : (word : List ℕ) (asked : Command) → AsksFor (word ∷ []) asked → wide_command (word ∷ []) ≡ Some (Plain asked)
unfolding wide_command
one_command word asked is = plain_command (word ∷ []) asked is

bundle_command : (file : List ℕ) → file ≢ [] → wide_command (codes "bundle" ∷ file ∷ []) ≡ Some Bundle
unfolding wide_command
bundle_command file other = rw (not_empty file other) refl

pair_command : (file stem : List ℕ) → file ≢ [] → is_stem stem ≡ true → wide_command (codes "pair" ∷ file ∷ stem ∷ []) ≡ Some Pair
unfolding wide_command
pair_command file stem other is = rw (not_empty file other, is) refl

has_command : (words : List (List ℕ)) (asked : Wide) → AsksWidely words asked → wide_command words ≡ Some asked
has_command words Bundle (file, other, is) = ap wide_command is ∙ bundle_command file other
has_command words Pair (file, stem, other, fits, is) = ap wide_command is ∙ pair_command file stem other fits
has_command words (Plain Pack) is = ap wide_command is ∙ one_command (codes "pack") Pack refl
has_command words (Plain Unpack) is = ap wide_command is ∙ one_command (codes "unpack") Unpack refl
has_command words (Plain Analyse) is = ap wide_command is ∙ one_command (codes "analyse") Analyse refl
has_command words (Plain Lists) is = ap wide_command is ∙ one_command (codes "lists") Lists refl
has_command words (Plain Meshlets) is = ap wide_command is ∙ one_command (codes "meshlets") Meshlets refl
has_command words (Plain (Sample n)) (least, most, is) = ap wide_command is ∙ sample_command (decimal n) (Sample n) (least, most, refl)

pub wide_commands_are_asked : WideCommandsAreAsked
wide_commands_are_asked words asked = (asks words asked, has_command words asked)
