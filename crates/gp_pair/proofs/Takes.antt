-- Files that are taken one after the other.
use Rattle.std.proofs.Common.{◌≡◌, ℕ, ◌+◌, ◌-◌, ◌≤◌, List, [], ◌∷◌, ◌++◌, length, slice_get, Option, Some, None, Result, Ok, Err, sym, ap, ◌∙◌, subst, arith, length-append}
use Rattle.gp_host.specs.Causes.{Rose}
use Rattle.gp_folder.specs.declared.file.File.{File}
use Rattle.gp_folder.specs.Folder.{FolderAt, Exceeds}
use Rattle.gp_pair.specs.Taking.{IsContent, AreContents, content_len, contents_len, TakesFirst}
use Rattle.gp_pair.specs.Answers.{Asks, TakesOne, Takes}
use Rattle.gp_pair.specs.declared.refusal.BundleRefusal.{BundleRefusal}
use Rattle.gp_pair.specs.declared.refusal.BundleRefusal.TheVariants.{Failed, Missing, TooLarge, Bad, Memory}

abbrev Names : Type 0
Names = List (Option (List ℕ))

-- ---- one take

error : {T E : Type 0} (x y : E) → ◌≡◌ {A = Result T E} (Err x) (Err y) → x ≡ y
error x y e = cc

-- ---- turns

-- the files before `at` were taken, and nothing failed
pub record SoFar (before now : FolderAt) (names contents : List (Option (List ℕ))) (limit count at : ℕ) : Type 0 where
  pub files : now.files ≡ before.files
  pub kept : now.faults ≡ before.faults
  pub are_contents : AreContents before.files names contents
  pub counted : count ≡ contents_len contents
  pub within : count ≤ limit
  pub number : length contents ≡ at

one_more : (files : Option (List File)) (names contents : Names) (name content : Option (List ℕ)) → AreContents files names contents → slice_get names (length contents) ≡ Some name → IsContent files name content
    → AreContents files names (contents ++ content ∷ [])
one_more files [] [] name content are found is = absurd (let e : ◌≡◌ {A = Option (Option (List ℕ))} None (Some name) = found in cc)
one_more files (n ∷ names) [] name content are found is = let same : n ≡ name = (let e : ◌≡◌ {A = Option (Option (List ℕ))} (Some n) (Some name) = found in cc) in (subst (λ m. IsContent files m content) (sym same) is, tt)
one_more files [] (c ∷ contents) name content are found is = absurd are
one_more files (n ∷ names) (c ∷ contents) name content are found is = (are.0, one_more files names contents name content are.1 found is)

len_more : (contents : Names) (content : Option (List ℕ)) → contents_len (contents ++ content ∷ []) ≡ contents_len contents + content_len content
len_more [] content = omega arith
len_more (c ∷ contents) content = omega (arith, len_more contents content)

next_by : {T : Type 0} (before mid now : FolderAt) (names contents : List (Option (List ℕ))) (name content : Option (List ℕ)) (limit count at number : ℕ) (answer : T)
    → SoFar before mid names contents limit count at → slice_get names at ≡ Some name → TakesOne mid.files name number (limit - count) (Ok content) → Asks {T = T} mid now (Ok answer)
    → SoFar before now names (contents ++ content ∷ []) limit (count + content_len content) (at + 1)
next_by before mid now names contents name content limit count at number answer s found takes asks =
    let quiet : now.faults ≡ mid.faults = asks.kept (λ e. cc) in
    let is : IsContent before.files name content = subst (λ f. IsContent f name content) s.files takes.0 in
    let here : slice_get names (length contents) ≡ Some name = ap (λ n. slice_get names n) s.number ∙ found in
    record {
      files = asks.files ∙ s.files;
      kept = quiet ∙ s.kept;
      are_contents = one_more before.files names contents name content s.are_contents here is;
      counted = ap (λ n. n + content_len content) s.counted ∙ sym (len_more contents content);
      within = omega (arith, s.within, takes.1);
      number = omega (arith, length-append contents (content ∷ []), s.number);
    }

pub next : {T : Type 0} (before mid now : FolderAt) (names contents longer : List (Option (List ℕ))) (name content : Option (List ℕ)) (limit count at number len : ℕ) (answer : T)
    → SoFar before mid names contents limit count at → slice_get names at ≡ Some name → TakesOne mid.files name number (limit - count) (Ok content) → Asks {T = T} mid now (Ok answer)
    → len ≡ content_len content → longer ≡ contents ++ content ∷ [] → SoFar before now names longer limit (count + len) (at + 1)
next before mid now names contents longer name content limit count at number len answer s found takes asks has_len is_longer =
    let more = next_by before mid now names contents name content limit count at number answer s found takes asks in
    subst (λ xs. SoFar before now names xs limit (count + len) (at + 1)) (sym is_longer) (subst (λ n. SoFar before now names (contents ++ content ∷ []) limit (count + n) (at + 1)) (sym has_len) more)

-- ---- ends

abbrev first : (before now : FolderAt) (names contents : List (Option (List ℕ))) (limit count at : ℕ) → SoFar before now names contents limit count at → TakesFirst before.files names limit
first before now names contents limit count at s = record { contents = contents; are_contents = s.are_contents; within = omega (arith, s.counted, s.within) }

stopped_by : (before mid : FolderAt) (names contents : List (Option (List ℕ))) (name : Option (List ℕ)) (limit count at : ℕ) (refusal : BundleRefusal)
    → SoFar before mid names contents limit count at → slice_get names at ≡ Some name → TakesOne before.files name at (limit - count) (Err refusal) → Takes before.files names limit (Err refusal)
stopped_by before mid names contents name limit count at Failed s found t = tt
stopped_by before mid names contents name limit count at (Missing None) s found t = t
stopped_by before mid names contents None limit count at (Missing (Some number)) s found t = absurd t.1
stopped_by before mid names contents (Some name) limit count at (Missing (Some number)) s found t = record {
  before = first before mid names contents limit count at s;
  number = t.0 ∙ sym s.number;
  name = name;
  is_name = ap (λ n. slice_get names n) t.0 ∙ found;
  lacks = t.1;
}
stopped_by before mid names contents None limit count at TooLarge s found t = absurd t
stopped_by before mid names contents (Some name) limit count at TooLarge s found t = record {
  before = first before mid names contents limit count at s;
  name = name;
  is_name = ap (λ n. slice_get names n) s.number ∙ found;
  exceeds = subst (λ n. Exceeds before.files name (limit - n)) s.counted t;
}
stopped_by before mid names contents name limit count at (Bad refusal) s found t = absurd t
stopped_by before mid names contents name limit count at Memory s found t = tt

pub stopped : (before mid : FolderAt) (names contents : List (Option (List ℕ))) (name : Option (List ℕ)) (limit count at number : ℕ) (refusal : BundleRefusal)
    → SoFar before mid names contents limit count at → number ≡ at → slice_get names at ≡ Some name → TakesOne mid.files name number (limit - count) (Err refusal) → Takes before.files names limit (Err refusal)
stopped before mid names contents name limit count at number refusal s is found t =
    stopped_by before mid names contents name limit count at refusal s found (subst (λ n. TakesOne before.files name n (limit - count) (Err refusal)) is (subst (λ f. TakesOne f name number (limit - count) (Err refusal)) s.files t))

-- ---- calls after each other

-- a call that went well, and then another
pub asks_then : {T B : Type 0} (before mid now : FolderAt) (first : T) (answer : Result B BundleRefusal) → Asks {T = T} before mid (Ok first) → Asks mid now answer → Asks before now answer
asks_then before mid now first answer a b =
    let quiet : mid.faults ≡ before.faults = a.kept (λ e. cc) in
    record {
      files = b.files ∙ a.files;
      later = omega (arith, quiet, b.later);
      failed = λ e. subst (λ n. Rose n now.faults) quiet (b.failed e);
      kept = λ e. b.kept e ∙ quiet;
    }
