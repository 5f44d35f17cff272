-- What the code holds of all views of the output: those of the input that stay, then those that are made.
use Rattle.std.specs.Prelude.{◌≡◌, ℕ, Bool, true, false, if◌then◌else◌, is_some, List, map, filter, length, zip, Option, Some, None}
use Rattle.gp_asset.specs.Asset.{AssetParts}
use Rattle.gp_storage.specs.declared.coding.Coding.{Coding}
use Rattle.gp_storage.specs.declared.coding.Stream.{Stream}
use Rattle.gp_pack.specs.declared.made.MadePart.{MadePart}
use Rattle.gp_packed.specs.Plan.{Stored, stored_as, stored_with}
use Rattle.gp_pack.specs.Placement.{Shown, shown_of}

-- one of the input, with these contents and this stream or none
abbrev pub shown_kept : List ℕ → Option Stream → Shown
shown_kept contents stream = shown_of (stored_as (contents, stream))

-- one that is made
abbrev pub coding_if : Bool → Coding → Option Coding
coding_if true coding = Some coding
coding_if false coding = None

abbrev pub shown_made : MadePart → Shown
shown_made v = record { length = v.length; coding = coding_if v.is_stream v.coding; bytes = v.bytes }

-- of each view a stream or none, and a new number or none
pub record AreNumbered (a : AssetParts) (streams : List (Option Stream)) (numbers : List (Option ℕ)) : Type 0 where
  pub stored : length streams ≡ length a.views
  pub renewed : length numbers ≡ length a.views

-- those of the input that have a new number
abbrev pub is_kept : Option ℕ × Stored → Bool
is_kept p = is_some p.0

abbrev pub kept_rows : List (Option ℕ × Stored) → List Shown
kept_rows rows = map (λ (p : Option ℕ × Stored). shown_of p.1) (filter is_kept rows)

abbrev pub kept_shown : AssetParts → List (Option Stream) → List (Option ℕ) → List Shown
kept_shown a streams numbers = kept_rows (zip numbers (stored_with a streams))
