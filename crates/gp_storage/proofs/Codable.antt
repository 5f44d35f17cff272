-- What the rule chooses may be coded so.
use Rattle.std.proofs.Common.{◌≡◌, ℕ, ◌%◌, ◌^◌, ◌<◌, Bool, true, false, ◌&&◌, nat_lt, List, length, Option, Some, None, if◌then◌else◌, refl, sym, subst}
use Rattle.std.specs.Prelude.{◌||◌, ◌==◌, is_none}
use Rattle.std.specs.List.{All, list_all}
use Rattle.std.specs.Option.{IfSome, option_and_then}
use Rattle.std.proofs.lemmas.Bool.{and_parts, ltb-true}
use Rattle.std.proofs.lemmas.List.Sums.{AllPass-from_list_all}
use Rattle.gp_rules.specs.declared.storage.View.{View}
use Rattle.gp_storage.specs.declared.coding.Coding.{Coding}
use Rattle.gp_storage.specs.declared.shared.Shared.{Shared}
use Rattle.gp_storage.specs.Coding.{numbers_in, is_sequence, coding_by}
use Rattle.gp_storage.specs.Shared.{one_of, sequence_by, attributes_by, coding_with}
use Rattle.gp_storage.specs.Streams.{MayBeCoded}

-- the numbers may be those of an index sequence
abbrev pub AreIndices : List ℕ → ℕ → Type 0
AreIndices bytes width = All (λ n. n < 2 ^ 30) (numbers_in width bytes)

pub sequence_small : (lists : Bool) (v : View) (bytes : List ℕ) (width : ℕ) → is_sequence lists v bytes width ≡ true → AreIndices bytes width
sequence_small lists v bytes width is =
    let small = (and_parts (lists && (width == 2 || width == 4) && is_none v.stride && v.length % width == 0) (list_all (λ n. nat_lt n (2 ^ 30)) (numbers_in width bytes)) is).1 in
    λ k d below. ltb-true _ (2 ^ 30) (AllPass-from_list_all (λ n. nat_lt n (2 ^ 30)) (numbers_in width bytes) small k d below)

tested : (lists b : Bool) (v : View) (bytes : List ℕ) (width : ℕ) → is_sequence lists v bytes width ≡ b → IfSome (if b then Some width else None) (AreIndices bytes)
tested lists true v bytes width is = sequence_small lists v bytes width is
tested lists false v bytes width is = tt

pub width_small : (lists : Bool) (v : View) (bytes : List ℕ) (one : Option ℕ)
    → IfSome (option_and_then (λ width. if is_sequence lists v bytes width then Some width else None) one) (AreIndices bytes)
width_small lists v bytes None = tt
width_small lists v bytes (Some width) = tested lists (is_sequence lists v bytes width) v bytes width refl

coded : (image : Bool) (sequence attributes : Option ℕ) (bytes : List ℕ) → IfSome sequence (AreIndices bytes) → IfSome (coding_by image sequence attributes) (MayBeCoded bytes)
coded true sequence attributes bytes small = tt
coded false (Some width) attributes bytes small = small
coded false None (Some stride) bytes small = tt
coded false None None bytes small = tt

pub codable : (image : Bool) (s : Shared) (v : View) (bytes : List ℕ) (coding : Option Coding) → coding ≡ coding_with image s v bytes → IfSome coding (MayBeCoded bytes)
unfolding coding_with
codable image s v bytes coding is =
    subst (λ c. IfSome c (MayBeCoded bytes)) (sym is) (coded image (sequence_by s v bytes) (attributes_by s v) bytes (width_small s.index_lists v bytes (one_of s.components)))
