-- Files that are found, set and added.
use Rattle.std.proofs.Common.{◌≡◌, ◌≢◌, ℕ, zero, suc, ◌+◌, ◌<◌, ◌≤◌, List, [], ◌∷◌, ◌++◌, length, get_or, set, Bool, true, false, cond, None, Some, refl, sym, ap, subst, ◌∙◌, arith, rules}
use Rattle.std.specs.List.{All, AllPairs, position}
use Rattle.std.specs.Str.{bytes_eq, IsUtf8}
use Rattle.std.proofs.lemmas.List.Elements.{All-set, All-push}
use Rattle.std.proofs.lemmas.List.Quantifiers.{position-Some, all_pairs_push}
use Rattle.std.proofs.lemmas.List.Sums.{fails_before_first}
use Rattle.std.proofs.lemmas.Grind.{common_steps}
use Rattle.std.proofs.lemmas.Slice.Eq.{bytes_eq-Decides}
use Rattle.gp_folder.specs.declared.file.File.{File}
use Rattle.gp_folder.specs.Files.{has_name, bytes_of, with_file, AreNamed}

-- the file at a place holds these bytes now
abbrev pub changed : File → List ℕ → File
changed file bytes = record file { bytes = bytes }

found_at : (name : List ℕ) (files : List File) (place : ℕ) (d : File) → place < length files → has_name name (get_or files place d) ≡ true
    → ((k : ℕ) → k < place → has_name name (get_or files k d) ≡ false) → bytes_of name files ≡ Some (get_or files place d).bytes
found_at name [] place d within is before = absurd (omega (arith, within))
found_at name (f ∷ fs) zero d within is before = rw is refl
found_at name (f ∷ fs) (suc place) d within is before =
    let first : has_name name f ≡ false = before 0 (omega arith) in
    rw first (found_at name fs place d (omega (arith, within)) is (λ k h. before (suc k) (omega (arith, h))))

found_nowhere : (name : List ℕ) (files : List File) (d : File) → ((k : ℕ) → k < length files → has_name name (get_or files k d) ≡ false) → bytes_of name files ≡ None
found_nowhere name [] d none = refl
found_nowhere name (f ∷ fs) d none =
    let first : has_name name f ≡ false = none 0 (omega arith) in
    rw first (found_nowhere name fs d (λ k h. none (suc k) (omega (arith, h))))

set_at : (name bytes : List ℕ) (files : List File) (place : ℕ) (d : File) → place < length files → has_name name (get_or files place d) ≡ true
    → ((k : ℕ) → k < place → has_name name (get_or files k d) ≡ false) → set files place (changed (get_or files place d) bytes) ≡ with_file name bytes files
set_at name bytes [] place d within is before = absurd (omega (arith, within))
set_at name bytes (f ∷ fs) zero d within is before = rw is refl
set_at name bytes (f ∷ fs) (suc place) d within is before =
    let first : has_name name f ≡ false = before 0 (omega arith) in
    rw first (ap (λ l. f ∷ l) (set_at name bytes fs place d (omega (arith, within)) is (λ k h. before (suc k) (omega (arith, h)))))

added : (name bytes : List ℕ) (files : List File) (d : File) → ((k : ℕ) → k < length files → has_name name (get_or files k d) ≡ false)
    → files ++ record { name = name; bytes = bytes } ∷ [] ≡ with_file name bytes files
added name bytes [] d none = refl
added name bytes (f ∷ fs) d none =
    let first : has_name name f ≡ false = none 0 (omega arith) in
    rw first (ap (λ l. f ∷ l) (added name bytes fs d (λ k h. none (suc k) (omega (arith, h)))))

-- no place has the name
none_has : (name : List ℕ) (files : List File) → position (has_name name) files ≡ None → (k : ℕ) (d : File) → k < length files → has_name name (get_or files k d) ≡ false
none_has name files none k d within = fails_before_first (has_name name) files k d (grind (arith, common_steps))

pub bytes_found : (name : List ℕ) (files : List File) (place : ℕ) (d : File) → position (has_name name) files ≡ Some place → bytes_of name files ≡ Some (get_or files place d).bytes
bytes_found name files place d at =
    let facts = position-Some (has_name name) files place d at in
    found_at name files place d facts.0 facts.1 facts.2

pub bytes_missing : (name : List ℕ) (files : List File) → position (has_name name) files ≡ None → bytes_of name files ≡ None
bytes_missing name files none = let d : File = record { name = []; bytes = [] } in found_nowhere name files d (λ k h. none_has name files none k d h)

pub set_found : (name bytes : List ℕ) (files : List File) (place : ℕ) (d : File) → position (has_name name) files ≡ Some place
    → set files place (changed (get_or files place d) bytes) ≡ with_file name bytes files
set_found name bytes files place d at =
    let facts = position-Some (has_name name) files place d at in
    set_at name bytes files place d facts.0 facts.1 facts.2

pub added_last : (name bytes : List ℕ) (files : List File) → position (has_name name) files ≡ None → files ++ record { name = name; bytes = bytes } ∷ [] ≡ with_file name bytes files
added_last name bytes files none = let d : File = record { name = []; bytes = [] } in added name bytes files d (λ k h. none_has name files none k d h)

-- a change of bytes leaves the names
same_names : (files : List File) (place : ℕ) (e : File) (bytes : List ℕ) (k : ℕ) (d : File) → place < length files
    → (get_or (set files place (changed (get_or files place e) bytes)) k d).name ≡ (get_or files k d).name
same_names [] place e bytes k d within = refl
same_names (f ∷ fs) zero e bytes zero d within = refl
same_names (f ∷ fs) zero e bytes (suc k) d within = refl
same_names (f ∷ fs) (suc place) e bytes zero d within = refl
same_names (f ∷ fs) (suc place) e bytes (suc k) d within = same_names fs place e bytes k d (omega (arith, within))

pub named_still : (name bytes : List ℕ) (files : List File) (place : ℕ) (e : File) → position (has_name name) files ≡ Some place → AreNamed files
    → AreNamed (set files place (changed (get_or files place e) bytes))
named_still name bytes files place e at named =
    let within = (position-Some (has_name name) files place e at).0 in
    let same = λ (k : ℕ) (d : File). sym (same_names files place e bytes k d within) in
    record {
      distinct = λ i j d below inside.
          rw (same_names files place e bytes i d within, same_names files place e bytes j d within) (named.distinct i j d below (let l : length (set files place (changed (get_or files place e) bytes)) ≡ length files = grind (arith, common_steps) in omega (arith, inside, l)));
      text = λ k d inside.
          rw (same_names files place e bytes k d within) (named.text k d (let l : length (set files place (changed (get_or files place e) bytes)) ≡ length files = grind (arith, common_steps) in omega (arith, inside, l)));
    }

not_both : (b : Bool) → b ≡ false → b ≡ true → ⊥
not_both b p q = cc

has_same : (one other : List ℕ) → one ≡ other → bytes_eq one other ≡ true
has_same one other same = grind (arith, common_steps, bytes_eq-Decides)

pub named_more : (name bytes : List ℕ) (files : List File) → position (has_name name) files ≡ None → IsUtf8 name → AreNamed files → AreNamed (files ++ record { name = name; bytes = bytes } ∷ [])
named_more name bytes files none text named =
    let file : File = record { name = name; bytes = bytes } in
    let Differ : File → File → Type 0 = λ one other. one.name ≢ other.name in
    let IsText : File → Type 0 = λ one. IsUtf8 one.name in
    let apart : (k : ℕ) (d : File) → k < length files → Differ (get_or files k d) file =
    λ k d within same. not_both (has_name name (get_or files k d)) (none_has name files none k d within) (has_same _ _ same) in
    record { distinct = all_pairs_push Differ files file named.distinct apart; text = All-push IsText files file named.text text }
