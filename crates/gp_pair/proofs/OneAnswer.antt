-- Known files have one answer.
use Rattle.std.proofs.Common.{◌≡◌, ◌⊎◌, inl, inr, ℕ, zero, suc, ◌+◌, ◌-◌, ◌<◌, ◌≤◌, List, [], ◌∷◌, length, slice_get, Option, Some, None, Result, Ok, Err, IsSomeAnd, refl, sym, ap, ◌∙◌, subst, arith}
use Rattle.std.proofs.lemmas.Bool.{cases_lt}
use Rattle.gp_folder.specs.declared.file.File.{File}
use Rattle.gp_folder.specs.Folder.{Gives, Lacks, Exceeds}
use Rattle.gp_json.specs.Text.{text_of}
use Rattle.gp_json.specs.Fault.{HasFault as HasJsonFault}
use Rattle.gp_json.proofs.Refusals.{fault_unique}
use Rattle.gp_glb.specs.Container.{Container}
use Rattle.gp_glb.specs.declared.fault.GlbFault.{GlbFault}
use Rattle.gp_glb.specs.declared.fault.GlbFault.TheVariants.{JsonTooLarge}
use Rattle.gp_glb.proofs.OneReading.{reads_one, stands_one}
use Rattle.gp_asset.specs.declared.refusal.Refusal.{Refusal}
use Rattle.gp_asset.specs.declared.refusal.Refusal.TheVariants.{Glb, Json, Asset, Stream, OutputTooLarge}
use Rattle.gp_asset.specs.declared.refusal.Refusal.TheVariants as file
use Rattle.gp_document.specs.Document.{Document, IsDocument, glb_of}
use Rattle.gp_document.specs.Reading.{HasTextFault}
use Rattle.gp_document.proofs.Documents.{no_glb_fault}
use Rattle.gp_document.proofs.OneAnswer.{document_one, documents_are_sound}
use Rattle.gp_pair.specs.External.{files_of}
use Rattle.gp_pair.specs.Joined.{is_text, joined}
use Rattle.gp_pair.specs.Taking.{IsContent, AreContents, content_len, contents_len, LacksNext, ExceedsNext, TakesAll}
use Rattle.gp_pair.specs.Bundle.{most_bytes, IsTaken, IsInput, names_in, left_for, IsFaulty, LacksBuffer, ExceedsAtBuffer, IsWhole, joined_of, IsLarge, IsBundled, Bundles, Stops, IsOnlyAnswer}
use Rattle.gp_pair.specs.declared.bundled.Bundled.{Bundled}
use Rattle.gp_pair.specs.declared.refusal.BundleRefusal.{BundleRefusal}
use Rattle.gp_pair.specs.declared.refusal.BundleRefusal.TheVariants.{Failed, Missing, TooLarge, Bad, Memory}

abbrev Answer : Type 0
Answer = Result Bundled BundleRefusal

abbrev Names : Type 0
Names = List (Option (List ℕ))

same_some : {A : Type 0} (x y : A) → ◌≡◌ {A = Option A} (Some x) (Some y) → x ≡ y
same_some x y e = cc

-- ---- a file: it isn't there, it is past a limit, or it is taken within it

given_one : (known : List File) (name one other : List ℕ) → Gives (Some known) name one → Gives (Some known) name other → one ≡ other
given_one known name one other h k = same_some one other (sym h ∙ k)

lacks_not_given : (known : List File) (name bytes : List ℕ) → Lacks (Some known) name → Gives (Some known) name bytes → ⊥
lacks_not_given known name bytes h k = let e : ◌≡◌ {A = Option (List ℕ)} None (Some bytes) = sym h ∙ k in cc

exceeds_not_given : (known : List File) (name bytes : List ℕ) (limit : ℕ) → Exceeds (Some known) name limit → Gives (Some known) name bytes → length bytes ≤ limit → ⊥
exceeds_not_given known name bytes limit h k few =
    let long : limit < length bytes = subst (λ o. IsSomeAnd o (λ b. limit < length b)) k h in
    absurd (omega (arith, long, few))

lacks_not_exceeds : (known : List File) (name : List ℕ) (limit : ℕ) → Lacks (Some known) name → Exceeds (Some known) name limit → ⊥
lacks_not_exceeds known name limit h k = let none : IsSomeAnd {T = List ℕ} None (λ b. limit < length b) = subst (λ o. IsSomeAnd o (λ b. limit < length b)) h k in none

-- ---- files one after the other

content_one : (known : List File) (name one other : Option (List ℕ)) → IsContent (Some known) name one → IsContent (Some known) name other → one ≡ other
content_one known None None None h k = refl
content_one known None None (Some b) h k = absurd k
content_one known None (Some a) other h k = absurd h
content_one known (Some name) None other h k = absurd h
content_one known (Some name) (Some a) None h k = absurd k
content_one known (Some name) (Some a) (Some b) h k = ap Some (given_one known name a b h k)

contents_one : (known : List File) (names one other : Names) → AreContents (Some known) names one → AreContents (Some known) names other → length one ≡ length other → one ≡ other
contents_one known names [] [] h k e = refl
contents_one known names [] (d ∷ other) h k e = absurd (omega (arith, e))
contents_one known names (c ∷ one) [] h k e = absurd (omega (arith, e))
contents_one known [] (c ∷ one) (d ∷ other) h k e = absurd h
contents_one known (n ∷ names) (c ∷ one) (d ∷ other) h k e =
    ap (λ x. x ∷ one) (content_one known n c d h.0 k.0) ∙ ap (λ xs. d ∷ xs) (contents_one known names one other h.1 k.1 (omega (arith, e)))

-- the next file isn't there, or is past what is left
abbrev IsStuck : List File → List ℕ → ℕ → Type 0
IsStuck known name left = Lacks (Some known) name ⊎ Exceeds (Some known) name left

stuck_here : (known : List File) (name : List ℕ) (content : Option (List ℕ)) (limit : ℕ) → IsStuck known name limit → IsContent (Some known) (Some name) content → content_len content ≤ limit → ⊥
stuck_here known name None limit h k few = k
stuck_here known name (Some bytes) limit (inl h) k few = lacks_not_given known name bytes h k
stuck_here known name (Some bytes) limit (inr h) k few = exceeds_not_given known name bytes limit h k few

-- no more files are taken than those before it
not_past : (known : List File) (names one other : Names) (name : List ℕ) (limit : ℕ) → AreContents (Some known) names one → slice_get names (length one) ≡ Some (Some name) → IsStuck known name (limit - contents_len one)
    → AreContents (Some known) names other → contents_len other ≤ limit → length one < length other → ⊥
not_past known names one [] name limit h at stuck k few more = absurd (omega (arith, more))
not_past known [] [] (d ∷ other) name limit h at stuck k few more = k
not_past known [] (c ∷ one) (d ∷ other) name limit h at stuck k few more = h
not_past known (n ∷ names) [] (d ∷ other) name limit h at stuck k few more =
    let same : n ≡ Some name = same_some n (Some name) at in
    let all : limit - 0 ≡ limit = omega arith in
    stuck_here known name d limit (subst (λ l. IsStuck known name l) all stuck) (subst (λ m. IsContent (Some known) m d) same k.0) (omega (arith, few))
not_past known (n ∷ names) (c ∷ one) (d ∷ other) name limit h at stuck k few more =
    let same : content_len c ≡ content_len d = ap content_len (content_one known n c d h.0 k.0) in
    let left : limit - contents_len (c ∷ one) ≡ (limit - content_len d) - contents_len one = omega (arith, same) in
    not_past known names one other name (limit - content_len d) h.1 at (subst (λ l. IsStuck known name l) left stuck) k.1 (omega (arith, few)) (omega (arith, more))

-- two such places are one
stuck_one : (known : List File) (names one other : Names) (name others : List ℕ) (limit : ℕ) → AreContents (Some known) names one → slice_get names (length one) ≡ Some (Some name) → IsStuck known name (limit - contents_len one)
    → contents_len one ≤ limit → AreContents (Some known) names other → slice_get names (length other) ≡ Some (Some others) → IsStuck known others (limit - contents_len other) → contents_len other ≤ limit
    → length one ≡ length other
stuck_one known names one other name others limit h at stuck few k to stop small = elim (cases_lt (length one) (length other)) [
  | inl less ↦ absurd (not_past known names one other name limit h at stuck k small less)
  | inr most ↦ elim (cases_lt (length other) (length one)) [
    | inl more ↦ absurd (not_past known names other one others limit k to stop h few more)
    | inr least ↦ omega (arith, most, least)
  ]
]

slice_within : (names : Names) (i : ℕ) (name : Option (List ℕ)) → slice_get names i ≡ Some name → i < length names
slice_within [] i name e = absurd (let no : ◌≡◌ {A = Option (Option (List ℕ))} None (Some name) = e in cc)
slice_within (n ∷ names) zero name e = omega arith
slice_within (n ∷ names) (suc i) name e = omega (arith, slice_within names i name e)

-- and where one is, not all are taken
stuck_not_all : (known : List File) (names one other : Names) (name : List ℕ) (limit : ℕ) → AreContents (Some known) names one → slice_get names (length one) ≡ Some (Some name) → IsStuck known name (limit - contents_len one)
    → TakesAll (Some known) names limit other → ⊥
stuck_not_all known names one other name limit h at stuck all =
    not_past known names one other name limit h at stuck all.are_contents all.within (omega (arith, slice_within names (length one) (Some name) at, all.whole))

there : (names : Names) (at n : ℕ) (name : Option (List ℕ)) → at ≡ n → slice_get names at ≡ Some name → slice_get names n ≡ Some name
there names at n name e h = ap (λ i. slice_get names i) (sym e) ∙ h

lacks_one : (known : List File) (names : Names) (limit at to : ℕ) → LacksNext (Some known) names limit at → LacksNext (Some known) names limit to → at ≡ to
lacks_one known names limit at to l m =
    l.number ∙ stuck_one known names l.before.contents m.before.contents l.name m.name limit l.before.are_contents (there names at _ _ l.number l.is_name) (inl l.lacks) l.before.within
    m.before.are_contents (there names to _ _ m.number m.is_name) (inl m.lacks) m.before.within ∙ sym m.number

lacks_not_past : (known : List File) (names : Names) (limit at : ℕ) → LacksNext (Some known) names limit at → ExceedsNext (Some known) names limit → ⊥
lacks_not_past known names limit at l m =
    let here = there names at _ _ l.number l.is_name in
    let same = stuck_one known names l.before.contents m.before.contents l.name m.name limit l.before.are_contents here (inl l.lacks) l.before.within m.before.are_contents m.is_name (inr m.exceeds) m.before.within in
    let name : Some l.name ≡ Some m.name = same_some _ _ (sym here ∙ ap (λ i. slice_get names i) same ∙ m.is_name) in
    lacks_not_exceeds known m.name _ (subst (λ n. Lacks (Some known) n) (same_some _ _ name) l.lacks) m.exceeds

lacks_not_all : (known : List File) (names contents : Names) (limit at : ℕ) → LacksNext (Some known) names limit at → TakesAll (Some known) names limit contents → ⊥
lacks_not_all known names contents limit at l all = stuck_not_all known names l.before.contents contents l.name limit l.before.are_contents (there names at _ _ l.number l.is_name) (inl l.lacks) all

exceeds_not_all : (known : List File) (names contents : Names) (limit : ℕ) → ExceedsNext (Some known) names limit → TakesAll (Some known) names limit contents → ⊥
exceeds_not_all known names contents limit l all = stuck_not_all known names l.before.contents contents l.name limit l.before.are_contents l.is_name (inr l.exceeds) all

all_one : (known : List File) (names one other : Names) (limit : ℕ) → TakesAll (Some known) names limit one → TakesAll (Some known) names limit other → one ≡ other
all_one known names one other limit h k = contents_one known names one other h.are_contents k.are_contents (h.whole ∙ sym k.whole)

-- ---- the file and its document

taken_one : (known : List File) (name one other : List ℕ) → IsTaken (Some known) name one → IsTaken (Some known) name other → one ≡ other
taken_one known name one other h k = given_one known name one other h.given k.given

input_document : (known : List File) (name : List ℕ) (a b : IsInput (Some known) name) → a.document ≡ b.document
input_document known name a b =
    let same = taken_one known name a.bytes b.bytes a.taken b.taken in
    document_one b.bytes a.document b.document (subst (λ s. IsDocument s a.document) same a.is_document).holds b.is_document.holds

input_bytes : (known : List File) (name : List ℕ) (a b : IsInput (Some known) name) → a.bytes ≡ b.bytes
input_bytes known name a b = taken_one known name a.bytes b.bytes a.taken b.taken

-- what is said of the files of buffers
abbrev over : (known : List File) (name : List ℕ) (P : Names → ℕ → Type 0) (a b : IsInput (Some known) name) → P (names_in a) (left_for a) → P (names_in b) (left_for b)
over known name P a b h =
    let names = ap (λ (d : Document). files_of name d.tree) (input_document known name a b) in
    let left = ap (λ s. most_bytes - length s) (input_bytes known name a b) in
    subst (λ l. P (names_in b) l) left (subst (λ ns. P ns (left_for a)) names h)

document_not_faulty : (bytes : List ℕ) (document : Document) (refusal : Refusal) → IsDocument bytes document → HasTextFault bytes refusal → ⊥
document_not_faulty bytes document (Glb fault) h k = no_glb_fault bytes (record { json = h.holds.json; bin = document.bin; rest = document.rest }) fault (h.holds.container, h.fits) k
document_not_faulty bytes document (Json fault) h k = (documents_are_sound bytes document h.holds).json k.0 fault k.1.0 k.2
document_not_faulty bytes document (Asset fault) h k = k
document_not_faulty bytes document (Stream view fault) h k = k
document_not_faulty bytes document OutputTooLarge h k = k
document_not_faulty bytes document file.Memory h k = k

text_fault_one : (bytes : List ℕ) (one other : Refusal) → HasTextFault bytes one → HasTextFault bytes other → one ≡ other
text_fault_one bytes (Glb f) (Glb g) h k = let e : ◌≡◌ {A = Result Container GlbFault} (Err f) (Err g) = reads_one bytes (Err f) (Err g) h k in let same : f ≡ g = cc in ap Glb same
text_fault_one bytes (Glb f) (Json g) h k = absurd (no_glb_fault bytes k.0 f k.1 h)
text_fault_one bytes (Json f) (Glb g) h k = absurd (no_glb_fault bytes h.0 g h.1 k)
text_fault_one bytes (Json f) (Json g) h k =
    let same = ap (λ (c : Container). c.json) (stands_one bytes h.0 k.0 h.1.0 k.1.0) in
    ap Json (fault_unique k.0.json f g (subst (λ s. HasJsonFault s f) same h.2) k.2)
text_fault_one bytes (Glb f) (Asset g) h k = absurd k
text_fault_one bytes (Glb f) (Stream view g) h k = absurd k
text_fault_one bytes (Glb f) OutputTooLarge h k = absurd k
text_fault_one bytes (Glb f) file.Memory h k = absurd k
text_fault_one bytes (Json f) (Asset g) h k = absurd k
text_fault_one bytes (Json f) (Stream view g) h k = absurd k
text_fault_one bytes (Json f) OutputTooLarge h k = absurd k
text_fault_one bytes (Json f) file.Memory h k = absurd k
text_fault_one bytes (Asset f) other h k = absurd h
text_fault_one bytes (Stream view f) other h k = absurd h
text_fault_one bytes OutputTooLarge other h k = absurd h
text_fault_one bytes file.Memory other h k = absurd h

faulty_one : (known : List File) (name : List ℕ) (one other : Refusal) → IsFaulty (Some known) name one → IsFaulty (Some known) name other → one ≡ other
faulty_one known name one other h k = text_fault_one k.bytes one other (subst (λ s. HasTextFault s one) (taken_one known name h.bytes k.bytes h.taken k.taken) h.faulty) k.faulty

faulty_no_input : (known : List File) (name : List ℕ) (refusal : Refusal) → IsFaulty (Some known) name refusal → IsInput (Some known) name → ⊥
faulty_no_input known name refusal h i = document_not_faulty i.bytes i.document refusal i.is_document (subst (λ s. HasTextFault s refusal) (taken_one known name h.bytes i.bytes h.taken i.taken) h.faulty)

-- ---- all of them

whole_joined : (known : List File) (name : List ℕ) (a b : IsWhole (Some known) name) → joined_of a ≡ joined_of b
whole_joined known name a b =
    let contents = all_one known (names_in b.input) a.contents b.contents (left_for b.input) (over known name (λ ns l. TakesAll (Some known) ns l a.contents) a.input b.input a.taken) b.taken in
    ap (λ s. joined (is_text s) a.contents a.input.document) (input_bytes known name a.input b.input)
    ∙ ap (λ c. joined (is_text b.input.bytes) c a.input.document) contents
    ∙ ap (λ d. joined (is_text b.input.bytes) b.contents d) (input_document known name a.input b.input)

whole_len : (known : List File) (name : List ℕ) (a b : IsWhole (Some known) name) → length a.input.bytes + contents_len a.contents ≡ length b.input.bytes + contents_len b.contents
whole_len known name a b =
    let contents = all_one known (names_in b.input) a.contents b.contents (left_for b.input) (over known name (λ ns l. TakesAll (Some known) ns l a.contents) a.input b.input a.taken) b.taken in
    omega (arith, ap length (input_bytes known name a.input b.input), ap contents_len contents)

bundled_one : (known : List File) (name : List ℕ) (one other : Bundled) → IsBundled (Some known) name one → IsBundled (Some known) name other → one ≡ other
bundled_one known name one other h k =
    let glb : one.glb ≡ other.glb = h.glb ∙ ap glb_of (whole_joined known name h.whole k.whole) ∙ sym k.glb in
    let taken : one.taken ≡ other.taken = h.taken ∙ whole_len known name h.whole k.whole ∙ sym k.taken in
    λ i. record { glb = glb i; taken = taken i }

bundled_not_large : (known : List File) (name : List ℕ) (one : Bundled) → IsBundled (Some known) name one → IsLarge (Some known) name → ⊥
bundled_not_large known name one h k =
    let same = ap (λ (d : Document). length (text_of d.tree)) (whole_joined known name h.whole k.whole) in
    absurd (omega (arith, same, h.small, k.large))

-- ---- answers, in the order in which refusals come

lacks_first : (known : List File) (name : List ℕ) (other : Answer) → Lacks (Some known) name → Bundles (Some known) name other → Err (Missing None) ≡ other
lacks_first known name (Ok b) h k = absurd (lacks_not_given known name _ h k.whole.input.taken.given)
lacks_first known name (Err (Missing None)) h k = refl
lacks_first known name (Err (Missing (Some at))) h k = absurd (lacks_not_given known name _ h k.input.taken.given)
lacks_first known name (Err TooLarge) h (inl k) = absurd (lacks_not_exceeds known name most_bytes h k)
lacks_first known name (Err TooLarge) h (inr k) = absurd (lacks_not_given known name _ h k.input.taken.given)
lacks_first known name (Err (Bad r)) h (inl k) = absurd (lacks_not_given known name _ h k.taken.given)
lacks_first known name (Err (Bad r)) h (inr k) = absurd (lacks_not_given known name _ h k.1.whole.input.taken.given)
lacks_first known name (Err Failed) h k = absurd k
lacks_first known name (Err Memory) h k = absurd k

not_both : (known : List File) (name bytes : List ℕ) → Exceeds (Some known) name most_bytes → IsTaken (Some known) name bytes → ⊥
not_both known name bytes h k = exceeds_not_given known name bytes most_bytes h k.given k.within

exceeds_first : (known : List File) (name : List ℕ) (other : Answer) → Exceeds (Some known) name most_bytes → Bundles (Some known) name other → Err TooLarge ≡ other
exceeds_first known name (Ok b) h k = absurd (not_both known name _ h k.whole.input.taken)
exceeds_first known name (Err (Missing None)) h k = absurd (lacks_not_exceeds known name most_bytes k h)
exceeds_first known name (Err (Missing (Some at))) h k = absurd (not_both known name _ h k.input.taken)
exceeds_first known name (Err TooLarge) h k = refl
exceeds_first known name (Err (Bad r)) h (inl k) = absurd (not_both known name _ h k.taken)
exceeds_first known name (Err (Bad r)) h (inr k) = absurd (not_both known name _ h k.1.whole.input.taken)
exceeds_first known name (Err Failed) h k = absurd k
exceeds_first known name (Err Memory) h k = absurd k

faulty_first : (known : List File) (name : List ℕ) (refusal : Refusal) (other : Answer) → IsFaulty (Some known) name refusal → Bundles (Some known) name other → Err (Bad refusal) ≡ other
faulty_first known name refusal (Ok b) h k = absurd (faulty_no_input known name refusal h k.whole.input)
faulty_first known name refusal (Err (Missing None)) h k = absurd (lacks_not_given known name _ k h.taken.given)
faulty_first known name refusal (Err (Missing (Some at))) h k = absurd (faulty_no_input known name refusal h k.input)
faulty_first known name refusal (Err TooLarge) h (inl k) = absurd (not_both known name _ k h.taken)
faulty_first known name refusal (Err TooLarge) h (inr k) = absurd (faulty_no_input known name refusal h k.input)
faulty_first known name refusal (Err (Bad r)) h (inl k) = ap (λ x. Err (Bad x)) (faulty_one known name refusal r h k)
faulty_first known name refusal (Err (Bad r)) h (inr k) = absurd (faulty_no_input known name refusal h k.1.whole.input)
faulty_first known name refusal (Err Failed) h k = absurd k
faulty_first known name refusal (Err Memory) h k = absurd k

missing_first : (known : List File) (name : List ℕ) (at : ℕ) (other : Answer) → LacksBuffer (Some known) name at → Bundles (Some known) name other → Err (Missing (Some at)) ≡ other
missing_first known name at (Ok b) h k = absurd (lacks_not_all known _ k.whole.contents _ at (over known name (λ ns l. LacksNext (Some known) ns l at) h.input k.whole.input h.lacks) k.whole.taken)
missing_first known name at (Err (Missing None)) h k = absurd (lacks_not_given known name _ k h.input.taken.given)
missing_first known name at (Err (Missing (Some to))) h k = ap (λ n. Err (Missing (Some n))) (lacks_one known _ _ at to (over known name (λ ns l. LacksNext (Some known) ns l at) h.input k.input h.lacks) k.lacks)
missing_first known name at (Err TooLarge) h (inl k) = absurd (not_both known name _ k h.input.taken)
missing_first known name at (Err TooLarge) h (inr k) = absurd (lacks_not_past known _ _ at (over known name (λ ns l. LacksNext (Some known) ns l at) h.input k.input h.lacks) k.exceeds)
missing_first known name at (Err (Bad r)) h (inl k) = absurd (faulty_no_input known name r k h.input)
missing_first known name at (Err (Bad r)) h (inr k) = absurd (lacks_not_all known _ k.1.whole.contents _ at (over known name (λ ns l. LacksNext (Some known) ns l at) h.input k.1.whole.input h.lacks) k.1.whole.taken)
missing_first known name at (Err Failed) h k = absurd k
missing_first known name at (Err Memory) h k = absurd k

past_first : (known : List File) (name : List ℕ) (other : Answer) → ExceedsAtBuffer (Some known) name → Bundles (Some known) name other → Err TooLarge ≡ other
past_first known name (Ok b) h k = absurd (exceeds_not_all known _ k.whole.contents _ (over known name (λ ns l. ExceedsNext (Some known) ns l) h.input k.whole.input h.exceeds) k.whole.taken)
past_first known name (Err (Missing None)) h k = absurd (lacks_not_given known name _ k h.input.taken.given)
past_first known name (Err (Missing (Some to))) h k = absurd (lacks_not_past known _ _ to (over known name (λ ns l. LacksNext (Some known) ns l to) k.input h.input k.lacks) h.exceeds)
past_first known name (Err TooLarge) h k = refl
past_first known name (Err (Bad r)) h (inl k) = absurd (faulty_no_input known name r k h.input)
past_first known name (Err (Bad r)) h (inr k) = absurd (exceeds_not_all known _ k.1.whole.contents _ (over known name (λ ns l. ExceedsNext (Some known) ns l) h.input k.1.whole.input h.exceeds) k.1.whole.taken)
past_first known name (Err Failed) h k = absurd k
past_first known name (Err Memory) h k = absurd k

large_first : (known : List File) (name : List ℕ) (other : Answer) → IsLarge (Some known) name → Bundles (Some known) name other → Err (Bad (Glb JsonTooLarge)) ≡ other
large_first known name (Ok b) h k = absurd (bundled_not_large known name b k h)
large_first known name (Err (Missing None)) h k = absurd (lacks_not_given known name _ k h.whole.input.taken.given)
large_first known name (Err (Missing (Some at))) h k = absurd (lacks_not_all known _ h.whole.contents _ at (over known name (λ ns l. LacksNext (Some known) ns l at) k.input h.whole.input k.lacks) h.whole.taken)
large_first known name (Err TooLarge) h (inl k) = absurd (not_both known name _ k h.whole.input.taken)
large_first known name (Err TooLarge) h (inr k) = absurd (exceeds_not_all known _ h.whole.contents _ (over known name (λ ns l. ExceedsNext (Some known) ns l) k.input h.whole.input k.exceeds) h.whole.taken)
large_first known name (Err (Bad r)) h (inl k) = absurd (faulty_no_input known name r k h.whole.input)
large_first known name (Err (Bad r)) h (inr k) = ap (λ x. Err (Bad x)) (sym k.0)
large_first known name (Err Failed) h k = absurd k
large_first known name (Err Memory) h k = absurd k

pub one_answer : (known : List File) (name : List ℕ) (one other : Answer) → Bundles (Some known) name one → Bundles (Some known) name other → one ≡ other
one_answer known name (Ok a) (Ok b) h k = ap Ok (bundled_one known name a b h k)
one_answer known name (Ok a) (Err (Missing None)) h k = sym (lacks_first known name (Ok a) k h)
one_answer known name (Ok a) (Err (Missing (Some at))) h k = sym (missing_first known name at (Ok a) k h)
one_answer known name (Ok a) (Err TooLarge) h (inl k) = sym (exceeds_first known name (Ok a) k h)
one_answer known name (Ok a) (Err TooLarge) h (inr k) = sym (past_first known name (Ok a) k h)
one_answer known name (Ok a) (Err (Bad r)) h (inl k) = sym (faulty_first known name r (Ok a) k h)
one_answer known name (Ok a) (Err (Bad r)) h (inr k) = absurd (bundled_not_large known name a h k.1)
one_answer known name (Ok a) (Err Failed) h k = absurd k
one_answer known name (Ok a) (Err Memory) h k = absurd k
one_answer known name (Err (Missing None)) other h k = lacks_first known name other h k
one_answer known name (Err (Missing (Some at))) other h k = missing_first known name at other h k
one_answer known name (Err TooLarge) other (inl h) k = exceeds_first known name other h k
one_answer known name (Err TooLarge) other (inr h) k = past_first known name other h k
one_answer known name (Err (Bad r)) other (inl h) k = faulty_first known name r other h k
one_answer known name (Err (Bad r)) other (inr h) k = ap (λ x. Err (Bad x)) h.0 ∙ large_first known name other h.1 k
one_answer known name (Err Failed) other h k = absurd h
one_answer known name (Err Memory) other h k = absurd h

pub only_answer : (files : Option (List File)) (name : List ℕ) (answer : Answer) → Bundles files name answer ⊎ Stops answer → IsOnlyAnswer files name answer
only_answer files name answer (inl h) known other is k =
    inl (one_answer known name answer other (subst (λ f. Bundles f name answer) is h) (subst (λ f. Bundles f name other) is k))
only_answer files name answer (inr h) known other is k = inr h
