-- Laws of assets whose views are stored in one buffer, plain or as streams, over the definitions alone.
use Rattle.std.specs.Prelude.{◌≡◌, ℕ, ◌<◌, ◌^◌, List, map, length, IfSome, Ok}
use Rattle.std.specs.List.{All}
use Rattle.gp_tree.specs.Plain.{PlainTree}
use Rattle.gp_tree.specs.Sound.{HasDistinctKeys, IsSound}
use Rattle.gp_layout.specs.Layout.{end}
use Rattle.gp_asset.specs.declared.purpose.Form.TheVariants.{Plain, Any}
use Rattle.gp_asset.specs.Extensions.{extensions_in_use, supported}
use Rattle.gp_edits.specs.Common.{common}
use Rattle.gp_storage.specs.declared.coding.Stream.{Stream}
use Rattle.gp_packed.specs.Plan.{Stored, parts, fallback_end}
use Rattle.gp_packed.specs.ViewEdits.{with_stored}

-- ---- numbers that are written

-- a view's length and the stride of its stream are below 2^32
pub record Fits (s : Stored) : Type 0 where
  pub view : length s.contents < 2 ^ 32
  pub stride : IfSome s.stream (λ (stream : Stream). stream.coding.stride < 2 ^ 32)

-- ---- the tree

-- it has the same in common with the input's
abbrev pub StoredStaysCommon : Type 0
StoredStaysCommon = (views : List Stored) (t : PlainTree) → HasDistinctKeys t → common (with_stored views t) ≡ common t

-- it stays sound
abbrev pub StoredStaysSound : Type 0
StoredStaysSound = (views : List Stored) (t : PlainTree)
    → end (map length (parts views)) < 2 ^ 32 → fallback_end views < 2 ^ 32 → All Fits views
    → IsSound t → IsSound (with_stored views t)

-- it uses no other extension than the one that it names, and is supported where the input's is
abbrev pub StoredIsSupported : Type 0
StoredIsSupported = (views : List Stored) (t : PlainTree) (used : List (List ℕ))
    → supported Plain (extensions_in_use t) ≡ Ok used
    → supported Any (extensions_in_use (with_stored views t)) ≡ Ok (extensions_in_use (with_stored views t))
