-- The sizes of samples that words can ask for.
use Rattle.std.proofs.Common.{◌≡◌, ℕ, ◌+◌, ◌-◌, ◌*◌, ◌≤◌, Bool, true, false, List, [], ◌∷◌, None, Some, Option, refl, sym, subst, length, ◌^◌, arith, codes, nat_le, ◌&&◌, if◌then◌else◌}
use Rattle.gp_sample.specs.Sample.{sample}
use Rattle.gp_sample.proofs.Lengths.{sample_fits}
use Rattle.gp_app.specs.Words.{command, is_word, is_digit, is_leading, number_of, sized_sample}
use Rattle.gp_app.specs.Work.{HasSize}
use Rattle.gp_app.specs.declared.commands.Command.{Command}
use Rattle.gp_app.specs.declared.commands.Command.TheVariants.{Pack, Unpack, Analyse, Sample, Lists, Meshlets}

pub chosen : {A : Type 0} (b : Bool) (x y : A) → (if b then Some x else None) ≡ Some y → (b ≡ true) × (x ≡ y)
chosen true x y e = (refl, (cc e))
chosen false x y e = absurd (cc e)

pub both_true : (a b : Bool) → (a && b) ≡ true → (a ≡ true) × (b ≡ true)
both_true true b e = (refl, e)
both_true false b e = absurd (cc e)

pub leads : (a : ℕ) → is_leading a ≡ true → (49 ≤ a) × (a ≤ 57)
leads a e = let p = both_true (nat_le 49 a) (nat_le a 57) e in (grind (arith, p.0), grind (arith, p.1))

pub digit : (a : ℕ) → is_digit a ≡ true → (48 ≤ a) × (a ≤ 57)
digit a e = let p = both_true (nat_le 48 a) (nat_le a 57) e in (grind (arith, p.0), grind (arith, p.1))

-- a number that is written so isn't zero
pub number_above : (word : List ℕ) (n : ℕ) → number_of word ≡ Some n → 1 ≤ n
number_above [] n e = absurd (cc e)
number_above (a ∷ []) n e =
    let p = chosen (is_leading a) (a - 48) n e in
    let lead = leads a p.0 in
    omega (arith, lead.0, p.1)
number_above (a ∷ b ∷ []) n e =
    let p = chosen (is_leading a && is_digit b) (10 * (a - 48) + (b - 48)) n e in
    let lead = leads a (both_true (is_leading a) (is_digit b) p.0).0 in
    omega (arith, lead.0, p.1)
number_above (a ∷ b ∷ c ∷ []) n e =
    let p = chosen (is_leading a && (is_digit b && is_digit c)) (100 * (a - 48) + 10 * (b - 48) + (c - 48)) n e in
    let lead = leads a (both_true (is_leading a) (is_digit b && is_digit c) p.0).0 in
    omega (arith, lead.0, p.1)
number_above (a ∷ b ∷ c ∷ d ∷ word) n e = absurd (cc e)

sized : (o : Option ℕ) (asked : Command) → ((n : ℕ) → o ≡ Some n → 1 ≤ n) → sized_sample o ≡ Some asked → HasSize asked
sized None asked least e = absurd (cc e)
sized (Some n) asked least e =
    let p = chosen (nat_le n 512) (Sample n) asked e in
    subst HasSize p.1 (least n refl, grind (arith, p.0))

of_one : (b c d e f : Bool) (asked : Command)
    → (if b then Some Pack else if c then Some Unpack else if d then Some Analyse else if e then Some Lists else if f then Some Meshlets else None) ≡ Some asked → HasSize asked
of_one true c d e f asked is = let one : Pack ≡ asked = cc is in subst HasSize one tt
of_one false true d e f asked is = let one : Unpack ≡ asked = cc is in subst HasSize one tt
of_one false false true e f asked is = let one : Analyse ≡ asked = cc is in subst HasSize one tt
of_one false false false true f asked is = let one : Lists ≡ asked = cc is in subst HasSize one tt
of_one false false false false true asked is = let one : Meshlets ≡ asked = cc is in subst HasSize one tt
of_one false false false false false asked is = absurd (cc is)

of_two : (b : Bool) (o : Option Command) (asked : Command) → (o ≡ Some asked → HasSize asked) → (if b then o else None) ≡ Some asked → HasSize asked
of_two true o asked small e = small e
of_two false o asked small e = absurd (cc e)

pub has_size : (words : List (List ℕ)) (asked : Command) → command words ≡ Some asked → HasSize asked
unfolding command
has_size [] asked e = absurd (cc e)
has_size (word ∷ []) asked e =
    of_one (is_word (codes "pack") word) (is_word (codes "unpack") word) (is_word (codes "analyse") word) (is_word (codes "lists") word) (is_word (codes "meshlets") word) asked e
has_size (word ∷ number ∷ []) asked e = of_two (is_word (codes "sample") word) (sized_sample (number_of number)) asked (sized (number_of number) asked (number_above number)) e
has_size (word ∷ number ∷ other ∷ words) asked e = absurd (cc e)

-- a sample is within the limit of inputs
pub sample_within : (asked : Command) (n : ℕ) (bytes : List ℕ) → asked ≡ Sample n → HasSize asked → bytes ≡ sample n → length bytes ≤ 2 ^ 29
sample_within asked n bytes is size same = subst (λ b. length b ≤ 2 ^ 29) (sym same) (sample_fits n (subst HasSize is size).1)
