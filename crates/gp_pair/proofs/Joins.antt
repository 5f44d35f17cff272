-- The contents of external buffers in their document.
use Rattle.std.proofs.Common.{◌≡◌, ℕ, ◌<◌, ◌≤◌, ◌^◌, Bool, true, false, List, [], ◌∷◌, length, Option, Some, None, Result, Ok, Err, IfSome, OnOk, is_ok, sym, ap, ◌∙◌, subst, arith}
use Rattle.std.specs.Option.{option_map}
use Rattle.gp_tree.specs.Plain.{PlainTree}
use Rattle.gp_json.specs.Text.{text_of}
use Rattle.gp_glb.specs.Bytes.{missing}
use Rattle.gp_glb.specs.Container.{glb, glb_len}
use Rattle.gp_glb.proofs.ReadingBack.{parts_are_within}
use Rattle.gp_document.specs.Document.{Document, Holds, glb_of}
use Rattle.gp_pair.specs.Joined.{content_at, joined_tree, bin_or, joined_bin, joined}
use Rattle.gp_pair.specs.Taking.{contents_len}
use Rattle.gp_pair.specs.Answers.{IsSmall, IsJoined}

-- ---- one buffer

-- what holds after a success
pub on_done : {A E : Type 0} (r : Result A E) {P : Type 0} → OnOk r P → is_ok r ≡ true → P
on_done (Ok a) h e = h
on_done (Err e) h f = absurd (let no : false ≡ true = f in cc)

-- ---- the BIN chunk

first_is_small : (contents : List (Option (List ℕ))) (bin : Option (List ℕ)) → contents_len contents ≤ 2 ^ 29 → IfSome bin (λ bytes. length bytes ≤ 2 ^ 29) → IfSome (bin_or bin (content_at contents 0)) (λ bytes. length bytes ≤ 2 ^ 29)
first_is_small [] bin few small = small
first_is_small (None ∷ contents) bin few small = small
first_is_small (Some bytes ∷ contents) bin few small = omega (arith, few)

bin_is_small : (of_text : Bool) (contents : List (Option (List ℕ))) (bin : Option (List ℕ)) → contents_len contents ≤ 2 ^ 29 → IfSome bin (λ bytes. length bytes ≤ 2 ^ 29) → IfSome (joined_bin of_text contents bin) (λ bytes. length bytes ≤ 2 ^ 29)
unfolding joined_bin
bin_is_small true contents bin few small = first_is_small contents bin few small
bin_is_small false contents bin few small = small

missing_few : (n : ℕ) → missing n < 4
missing_few n = omega arith

len_fits : (json rest : ℕ) (bin : Option (List ℕ)) → json ≤ 2 ^ 26 → IfSome bin (λ bytes. length bytes ≤ 2 ^ 29) → rest ≤ 2 ^ 29 → glb_len json (option_map length bin) rest < 2 ^ 32
len_fits json rest None few small short = omega (arith, missing_few json)
len_fits json rest (Some bytes) few small short = omega (arith, missing_few json, missing_few (length bytes), small)

pub fits : (of_text : Bool) (contents : List (Option (List ℕ))) (document : Document) (json rest : List ℕ) (bin : Option (List ℕ)) → IsSmall document → contents_len contents ≤ 2 ^ 29
    → length json ≤ 2 ^ 26 → bin ≡ joined_bin of_text contents document.bin → rest ≡ document.rest → glb_len (length json) (option_map length bin) (length rest) < 2 ^ 32
fits of_text contents document json rest bin small few short is_bin is_rest =
    let bin_small = subst (λ b. IfSome b (λ bytes. length bytes ≤ 2 ^ 29)) (sym is_bin) (bin_is_small of_text contents document.bin few small.bin) in
    let rest_small : length rest ≤ 2 ^ 29 = omega (arith, ap length is_rest, small.rest) in
    len_fits (length json) (length rest) bin short bin_small rest_small

-- ---- the container

pub joins : (of_text : Bool) (contents : List (Option (List ℕ))) (document : Document) (tree : PlainTree) (json out : List ℕ) (bin : Option (List ℕ)) (taken count : ℕ)
    → tree ≡ joined_tree of_text contents document.tree → json ≡ text_of tree → length json ≤ 2 ^ 26 → bin ≡ joined_bin of_text contents document.bin → out ≡ glb json bin document.rest → taken ≡ count
    → IsJoined (joined of_text contents document) count (record { glb = out; taken = taken })
unfolding glb_of
joins of_text contents document tree json out bin taken count is_tree is_json short is_bin is_out counted =
    let whole : json ≡ text_of (joined_tree of_text contents document.tree) = is_json ∙ ap text_of is_tree in
    record {
      small = omega (arith, ap length whole, short);
      glb = is_out ∙ ap (λ j. glb j bin document.rest) whole ∙ ap (λ b. glb (text_of (joined_tree of_text contents document.tree)) b document.rest) is_bin;
      taken = counted;
    }

-- ---- the parts of a document that was read

pub small_parts : (bytes : List ℕ) (document : Document) → Holds bytes document → length bytes ≤ 2 ^ 29 → IsSmall document
small_parts bytes document h few =
    let within = parts_are_within bytes (record { json = h.json; bin = document.bin; rest = document.rest }) h.container in
    record { bin = shorter document.bin within.bin; rest = omega (arith, within.rest, few) }
  where
    shorter : (bin : Option (List ℕ)) → IfSome bin (λ b. length b ≤ length bytes) → IfSome bin (λ b. length b ≤ 2 ^ 29)
    shorter None h = tt
    shorter (Some b) h = omega (arith, h, few)
