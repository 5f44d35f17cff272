-- The length of what is written.
use Rattle.std.proofs.Common.{◌≡◌, ℕ, ◌<◌, ◌≤◌, ◌^◌, true, false, nat_lt, Bool, List, length, Option, sym, ap, ◌∙◌, arith, refl}
use Rattle.std.specs.Option.{option_map}
use Rattle.std.proofs.lemmas.Bool.Decides.{nat_tests}
use Rattle.gp_tree.specs.Plain.{PlainTree}
use Rattle.gp_json.specs.Text.{text_of}
use Rattle.gp_glb.specs.Container.{glb, glb_len}
use Rattle.gp_glb.proofs.ReadingBack.{has_length}
use Rattle.gp_document.specs.Document.{Document, glb_of}
use Rattle.gp_document.specs.Answers.{IsOutput}
use Rattle.gp_document.specs.Writing.{made_of}

abbrev written : PlainTree → Option (List ℕ) → List ℕ → Document
written t bin rest = record { tree = t; bin = bin; rest = rest }

-- the test of the lengths is the test of the container's length
tested : (t : PlainTree) (bin : Option (List ℕ)) (rest text : List ℕ) (fits : Bool) → text ≡ text_of t
    → fits ≡ nat_lt (glb_len (length text) (option_map length bin) (length rest)) (2 ^ 32) → fits ≡ nat_lt (length (glb_of (written t bin rest))) (2 ^ 32)
unfolding glb_of
tested t bin rest text fits is test =
    test ∙ ap (λ n. nat_lt n (2 ^ 32)) (ap (λ s. glb_len (length s) (option_map length bin) (length rest)) is ∙ sym (has_length (text_of t) bin rest))

not_below : (n : ℕ) → false ≡ nat_lt n (2 ^ 32) → 2 ^ 32 ≤ n
not_below n h = grind (arith, nat_tests)

below : (n : ℕ) → true ≡ nat_lt n (2 ^ 32) → n < 2 ^ 32
below n h = grind (arith, nat_tests)

pub too_large : (t : PlainTree) (bin : Option (List ℕ)) (rest text : List ℕ) (fits : Bool) → text ≡ text_of t
    → fits ≡ nat_lt (glb_len (length text) (option_map length bin) (length rest)) (2 ^ 32) → fits ≡ false → 2 ^ 32 ≤ length (glb_of (written t bin rest))
too_large t bin rest text fits is test no_room = not_below (length (glb_of (written t bin rest))) (sym no_room ∙ tested t bin rest text fits is test)

pub is_output : (t : PlainTree) (bin : Option (List ℕ)) (rest text out : List ℕ) (views streams : ℕ) (fits : Bool) → text ≡ text_of t
    → fits ≡ nat_lt (glb_len (length text) (option_map length bin) (length rest)) (2 ^ 32) → fits ≡ true → out ≡ glb text bin rest
    → IsOutput (made_of t bin rest views streams) (record { glb = out; views = views; packed = streams })
unfolding glb_of
is_output t bin rest text out views streams fits is test room joined = record {
  fits = below (length (glb_of (written t bin rest))) (sym room ∙ tested t bin rest text fits is test);
  glb = joined ∙ ap (λ s. glb s bin rest) is;
  views = refl;
  streams = refl;
}
