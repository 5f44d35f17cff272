-- Words have a command exactly where they ask for it.
use Rattle.std.proofs.Common.{◌≡◌, ℕ, ◌+◌, ◌-◌, ◌*◌, ◌/◌, ◌%◌, ◌<◌, ◌≤◌, ◌⊎◌, inl, inr, Bool, true, false, List, [], ◌∷◌, ◌++◌, None, Some, Option, refl, sym, subst, ap, ◌∙◌, arith, codes, decimal, nat_le, ◌&&◌, if◌then◌else◌}
use Rattle.std.specs.Cmp.Lexicographic.{same_text}
use Rattle.std.proofs.lemmas.Bool.{le-leb}
use Rattle.std.proofs.lemmas.Fmt.{decimal_digit, decimal_step}
use Rattle.gp_app.specs.Words.{command, is_word, is_digit, is_leading, number_of, sized_sample, AsksFor, CommandsAreAsked}
use Rattle.gp_app.proofs.Sizes.{chosen, both_true, leads, digit, number_above}
use Rattle.gp_app.specs.declared.commands.Command.{Command}
use Rattle.gp_app.specs.declared.commands.Command.TheVariants.{Pack, Unpack, Analyse, Sample, Lists, Meshlets}

-- ---- the digits of a number below 1000

two_digits : (n : ℕ) → 10 ≤ n → n < 100 → decimal n ≡ (48 + n / 10) ∷ (48 + n % 10) ∷ []
two_digits n least most = decimal_step n least (omega (arith, most)) ∙ ap (λ l. l ++ (48 + n % 10) ∷ []) (decimal_digit (n / 10) (omega (arith, most)))

three_digits : (n : ℕ) → 100 ≤ n → n < 1000 → decimal n ≡ (48 + n / 100) ∷ (48 + n / 10 % 10) ∷ (48 + n % 10) ∷ []
three_digits n least most =
    let front : decimal (n / 10) ≡ (48 + n / 10 / 10) ∷ (48 + n / 10 % 10) ∷ [] = two_digits (n / 10) (omega (arith, least)) (omega (arith, most)) in
    let place : n / 10 / 10 ≡ n / 100 = omega arith in
    decimal_step n (omega (arith, least)) (omega (arith, most)) ∙ ap (λ l. l ++ (48 + n % 10) ∷ []) (front ∙ ap (λ d. (48 + d) ∷ (48 + n / 10 % 10) ∷ []) place)

-- ---- from the digits to the number

leading : (a : ℕ) → 49 ≤ a → a ≤ 57 → is_leading a ≡ true
leading a least most = rw (le-leb 49 a least, le-leb a 57 most) refl

a_digit : (a : ℕ) → 48 ≤ a → a ≤ 57 → is_digit a ≡ true
a_digit a least most = rw (le-leb 48 a least, le-leb a 57 most) refl

taken : (b : Bool) (x n : ℕ) → b ≡ true → x ≡ n → (if b then Some x else None) ≡ Some n
taken b x n is same = rw is (ap (λ k. Some k) same)

reads_one : (n : ℕ) → 1 ≤ n → n < 10 → number_of (decimal n) ≡ Some n
reads_one n least most =
    rw (decimal_digit n most) (taken (is_leading (48 + n)) (48 + n - 48) n (leading (48 + n) (omega (arith, least)) (omega (arith, most))) (omega arith))

reads_two : (n : ℕ) → 10 ≤ n → n < 100 → number_of (decimal n) ≡ Some n
reads_two n least most =
    let a : ℕ = 48 + n / 10 in
    let b : ℕ = 48 + n % 10 in
    let lead = leading a (omega (arith, least)) (omega (arith, most)) in
    let last = a_digit b (omega arith) (omega arith) in
    rw (two_digits n least most) (taken (is_leading a && is_digit b) (10 * (a - 48) + (b - 48)) n (rw (lead, last) refl) (omega (arith, least, most)))

reads_three : (n : ℕ) → 100 ≤ n → n < 1000 → number_of (decimal n) ≡ Some n
reads_three n least most =
    let a : ℕ = 48 + n / 100 in
    let b : ℕ = 48 + n / 10 % 10 in
    let c : ℕ = 48 + n % 10 in
    let lead = leading a (omega (arith, least)) (omega (arith, most)) in
    let middle = a_digit b (omega arith) (omega arith) in
    let last = a_digit c (omega arith) (omega arith) in
    rw (three_digits n least most) (taken (is_leading a && (is_digit b && is_digit c)) (100 * (a - 48) + 10 * (b - 48) + (c - 48)) n (rw (lead, middle, last) refl) (omega (arith, least, most)))

reads : (n : ℕ) → 1 ≤ n → n ≤ 512 → number_of (decimal n) ≡ Some n
reads n least most =
    let split : (n < 10) ⊎ ((10 ≤ n) × (n < 100)) ⊎ (100 ≤ n) = grind arith in
    elim split [ inl one ↦ reads_one n least one | inr (inl two) ↦ reads_two n two.0 two.1 | inr (inr three) ↦ reads_three n three (omega (arith, most)) ]

-- ---- from the number to the digits

digits : (word : List ℕ) (n : ℕ) → number_of word ≡ Some n → word ≡ decimal n
digits [] n e = absurd (cc e)
digits (a ∷ []) n e =
    let p = chosen (is_leading a) (a - 48) n e in
    let lead = leads a p.0 in
    let same : a ≡ 48 + n = omega (arith, lead.0, p.1) in
    ap (λ d. d ∷ []) same ∙ sym (decimal_digit n (omega (arith, lead.1, p.1)))
digits (a ∷ b ∷ []) n e =
    let p = chosen (is_leading a && is_digit b) (10 * (a - 48) + (b - 48)) n e in
    let tests = both_true (is_leading a) (is_digit b) p.0 in
    let lead = leads a tests.0 in
    let last = digit b tests.1 in
    let tens : a ≡ 48 + n / 10 = omega (arith, lead.0, lead.1, last.0, last.1, p.1) in
    let ones : b ≡ 48 + n % 10 = omega (arith, lead.0, lead.1, last.0, last.1, p.1) in
    ap (λ d. d ∷ b ∷ []) tens ∙ ap (λ d. (48 + n / 10) ∷ d ∷ []) ones ∙ sym (two_digits n (omega (arith, lead.0, p.1)) (omega (arith, lead.1, last.1, p.1)))
digits (a ∷ b ∷ c ∷ []) n e =
    let p = chosen (is_leading a && (is_digit b && is_digit c)) (100 * (a - 48) + 10 * (b - 48) + (c - 48)) n e in
    let tests = both_true (is_leading a) (is_digit b && is_digit c) p.0 in
    let others = both_true (is_digit b) (is_digit c) tests.1 in
    let lead = leads a tests.0 in
    let middle = digit b others.0 in
    let last = digit c others.1 in
    let hundreds : a ≡ 48 + n / 100 = omega (arith, lead.0, lead.1, middle.0, middle.1, last.0, last.1, p.1) in
    let tens : b ≡ 48 + n / 10 % 10 = omega (arith, lead.0, lead.1, middle.0, middle.1, last.0, last.1, p.1) in
    let ones : c ≡ 48 + n % 10 = omega (arith, lead.0, lead.1, middle.0, middle.1, last.0, last.1, p.1) in
    ap (λ d. d ∷ b ∷ c ∷ []) hundreds ∙ ap (λ d. (48 + n / 100) ∷ d ∷ c ∷ []) tens ∙ ap (λ d. (48 + n / 100) ∷ (48 + n / 10 % 10) ∷ d ∷ []) ones
    ∙ sym (three_digits n (omega (arith, lead.0, p.1)) (omega (arith, lead.1, middle.1, last.1, p.1)))
digits (a ∷ b ∷ c ∷ d ∷ word) n e = absurd (cc e)

-- ---- the words

asks_one : (word : List ℕ) (b c d e f : Bool) (asked : Command)
    → is_word (codes "pack") word ≡ b → is_word (codes "unpack") word ≡ c → is_word (codes "analyse") word ≡ d → is_word (codes "lists") word ≡ e → is_word (codes "meshlets") word ≡ f
    → (if b then Some Pack else if c then Some Unpack else if d then Some Analyse else if e then Some Lists else if f then Some Meshlets else None) ≡ Some asked → AsksFor (word ∷ []) asked
asks_one word true c d e f asked pack unpack analyse lists meshlets is =
    let one : Pack ≡ asked = cc is in
    subst (AsksFor (word ∷ [])) one (ap (λ w. w ∷ []) (same_text word (codes "pack") (sym pack)))
asks_one word false true d e f asked pack unpack analyse lists meshlets is =
    let one : Unpack ≡ asked = cc is in
    subst (AsksFor (word ∷ [])) one (ap (λ w. w ∷ []) (same_text word (codes "unpack") (sym unpack)))
asks_one word false false true e f asked pack unpack analyse lists meshlets is =
    let one : Analyse ≡ asked = cc is in
    subst (AsksFor (word ∷ [])) one (ap (λ w. w ∷ []) (same_text word (codes "analyse") (sym analyse)))
asks_one word false false false true f asked pack unpack analyse lists meshlets is =
    let one : Lists ≡ asked = cc is in
    subst (AsksFor (word ∷ [])) one (ap (λ w. w ∷ []) (same_text word (codes "lists") (sym lists)))
asks_one word false false false false true asked pack unpack analyse lists meshlets is =
    let one : Meshlets ≡ asked = cc is in
    subst (AsksFor (word ∷ [])) one (ap (λ w. w ∷ []) (same_text word (codes "meshlets") (sym meshlets)))
asks_one word false false false false false asked pack unpack analyse lists meshlets is = absurd (cc is)

of_number : (word number : List ℕ) (o : Option ℕ) (asked : Command) → word ≡ codes "sample" → number_of number ≡ o → sized_sample o ≡ Some asked → AsksFor (word ∷ number ∷ []) asked
of_number word number None asked name is e = absurd (cc e)
of_number word number (Some n) asked name is e =
    let p = chosen (nat_le n 512) (Sample n) asked e in
    let most : n ≤ 512 = grind (arith, p.0) in
    subst (AsksFor (word ∷ number ∷ [])) p.1 (number_above number n is, most, ap (λ w. w ∷ number ∷ []) name ∙ ap (λ d. codes "sample" ∷ d ∷ []) (digits number n is))

asks_two : (word number : List ℕ) (b : Bool) (asked : Command) → is_word (codes "sample") word ≡ b → (if b then sized_sample (number_of number) else None) ≡ Some asked → AsksFor (word ∷ number ∷ []) asked
asks_two word number true asked sample e = of_number word number (number_of number) asked (same_text word (codes "sample") (sym sample)) refl e
asks_two word number false asked sample e = absurd (cc e)

asks : (words : List (List ℕ)) (asked : Command) → command words ≡ Some asked → AsksFor words asked
unfolding command
asks [] asked e = absurd (cc e)
asks (word ∷ []) asked e =
    asks_one word (is_word (codes "pack") word) (is_word (codes "unpack") word) (is_word (codes "analyse") word) (is_word (codes "lists") word) (is_word (codes "meshlets") word) asked refl refl refl refl refl e
asks (word ∷ number ∷ []) asked e = asks_two word number (is_word (codes "sample") word) asked refl e
asks (word ∷ number ∷ other ∷ words) asked e = absurd (cc e)

sample_asked : (n : ℕ) → 1 ≤ n → n ≤ 512 → command (codes "sample" ∷ decimal n ∷ []) ≡ Some (Sample n)
unfolding command
sample_asked n least most = ap sized_sample (reads n least most) ∙ (rw (le-leb n 512 most) refl)

has_command : (words : List (List ℕ)) (asked : Command) → AsksFor words asked → command words ≡ Some asked
unfolding command
has_command words Pack is = ap command is
has_command words Unpack is = ap command is
has_command words Analyse is = ap command is
has_command words Lists is = ap command is
has_command words Meshlets is = ap command is
has_command words (Sample n) (least, most, is) = ap command is ∙ sample_asked n least most

pub commands_are_asked : CommandsAreAsked
commands_are_asked words asked = (asks words asked, has_command words asked)
