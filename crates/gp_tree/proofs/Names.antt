-- Names spell themselves.
use Rattle.std.proofs.Common.{◌≡◌, ◌≢◌, ℕ, zero, suc, ◌<◌, false, ◌==◌, List, [], ◌∷◌, ◌++◌, refl, sym, ap, ◌∙◌, subst, arith, rules}
use Rattle.std.proofs.lemmas.Bool.Decides.{nat_tests}
use Rattle.std.proofs.lemmas.Str.{chars-nil, IsUtf8-from_ascii}
use Rattle.std.specs.List.{concat}
use Rattle.std.specs.Str.{chars, IsAscii}
use Rattle.std.specs.Char.Escape.{encode_utf16}
use Rattle.gp_tree.specs.Lexical.{Each, IsChar, IsString}
use Rattle.gp_tree.specs.Key.{units, units_from, outside}
use Rattle.gp_tree.specs.declared.tree.Tree.{Text as text_tree, the_lemmas}
use Rattle.gp_tree.specs.declared.lexeme.Lexeme.{Lexeme}
use Rattle.gp_tree.specs.Plain.{plain, text}
use Rattle.gp_tree.specs.Sound.{IsSound}
use Rattle.gp_tree.specs.Values.{IsName}
use Rattle.gp_tree.proofs.Chars.{next_one}

pub chars_ascii : (x : ℕ) (s : List ℕ) → x < 128 → chars (x ∷ s) ≡ x ∷ chars s
chars_ascii x s h = (next_one (x ∷ s) (omega arith) h).is

one_unit : (x : ℕ) → x < 128 → encode_utf16 x ≡ x ∷ []
one_unit x h = grind (arith, nat_tests)

unescaped : (x : ℕ) → x ≢ 92 → (x == 92) ≡ false
unescaped x h = grind (arith, nat_tests)

pub units_of_name : (s : List ℕ) → IsName s → units s ≡ s
units_of_name [] h = search (rules, chars-nil)
units_of_name (x ∷ s) h =
    let step : units_from outside (x ∷ chars s) ≡ x ∷ units s = rw (unescaped x h.0.3) (ap (λ l. l ++ units s) (one_unit x (omega arith))) in
    ap (units_from outside) (chars_ascii x s (omega arith)) ∙ step ∙ ap (λ l. x ∷ l) (units_of_name s h.1)

chars_of : List ℕ → List (List ℕ)
chars_of [] = []
chars_of (x ∷ s) = (x ∷ []) ∷ chars_of s

each_char : (s : List ℕ) → IsName s → Each IsChar (chars_of s)
unfolding chars_of
each_char [] h = tt
each_char (x ∷ s) h = ((h.0.0, h.0.2, h.0.3), each_char s h.1)

chars_join : (s : List ℕ) → s ≡ concat (chars_of s)
unfolding chars_of
chars_join [] = refl
chars_join (x ∷ s) = ap (λ l. x ∷ l) (chars_join s)

ascii_name : (s : List ℕ) → IsName s → IsAscii s
ascii_name [] h i = omega arith
ascii_name (x ∷ s) h zero = omega (arith, h.0.1)
ascii_name (x ∷ s) h (suc i) = ascii_name s h.1 i

pub name_string : (s : List ℕ) → IsName s → IsString s
name_string s h = record { chars = (chars_of s, each_char s h, chars_join s); utf8 = IsUtf8-from_ascii s (ascii_name s h) }

text_is : (x : Lexeme) → plain (text_tree x) ≡ text x
text_is x = search (rules, the_lemmas)

pub sound_text : (x : Lexeme) (s : List ℕ) → x ≡ s → IsName s → IsSound (plain (text_tree x))
sound_text x s e h = rw (text_is x) (record { spelled = subst IsString (sym e) (name_string s h); shallow = omega arith; distinct = tt })
