-- Laws of the edits that packing makes, over the definitions alone.
use Rattle.std.specs.Prelude.{◌≡◌, ℕ, ◌<◌, ◌^◌, true, ◌||◌, List, Ok, codes}
use Rattle.gp_tree.specs.Plain.{PlainTree}
use Rattle.gp_tree.specs.Sound.{HasDistinctKeys, IsSound}
use Rattle.gp_tree.specs.Find.{is_named}
use Rattle.gp_tree.specs.Anywhere.{keys_under}
use Rattle.gp_asset.specs.declared.purpose.Form.TheVariants.{Plain, Any}
use Rattle.gp_asset.specs.Extensions.{extensions_in_use, is_among, supported}
use Rattle.gp_edits.specs.Edits.{extension_name, placed, compressed, with_two_buffers, with_extension_named}
use Rattle.gp_edits.specs.Common.{common_view, common}
use Rattle.gp_edits.specs.declared.compression.Compression.{Compression}

-- ---- what two assets have in common, before and after an edit

abbrev pub AddedCompressionIsNotCommon : Type 0
AddedCompressionIsNotCommon = (c : Compression) (v : PlainTree) → HasDistinctKeys v → common_view (compressed c v) ≡ common_view v

abbrev pub SetTwoBuffersIsNotCommon : Type 0
SetTwoBuffersIsNotCommon = (length fallback : ℕ) (t : PlainTree) → common (with_two_buffers length fallback t) ≡ common t

abbrev pub AddedNamesAreNotInCommon : Type 0
AddedNamesAreNotInCommon = (t : PlainTree) → HasDistinctKeys t → common (with_extension_named t) ≡ common t

-- ---- a sound tree stays sound

pub record HasSmallNumbers (c : Compression) : Type 0 where
  pub offset : c.offset < 2 ^ 64
  pub length : c.length < 2 ^ 64
  pub stride : c.stride < 2 ^ 64
  pub count : c.count < 2 ^ 64

abbrev pub PlacedStaysSound : Type 0
PlacedStaysSound = (buffer offset : ℕ) (v : PlainTree) → buffer < 2 ^ 64 → offset < 2 ^ 64 → IsSound v → IsSound (placed buffer offset v)

abbrev pub CompressedStaysSound : Type 0
CompressedStaysSound = (c : Compression) (v : PlainTree) → HasSmallNumbers c → IsSound v → IsSound (compressed c v)

abbrev pub WithTwoBuffersStaysSound : Type 0
WithTwoBuffersStaysSound = (length fallback : ℕ) (t : PlainTree) → length < 2 ^ 64 → fallback < 2 ^ 64 → IsSound t → IsSound (with_two_buffers length fallback t)

abbrev pub NamedStaysSound : Type 0
NamedStaysSound = (t : PlainTree) → IsSound t → IsSound (with_extension_named t)

-- ---- the extensions in use

-- a view has no other key under `extensions` than one of the extension's name and those that it had
abbrev pub CompressionAddsItsName : Type 0
CompressionAddsItsName = (c : Compression) (v : PlainTree) (name : List ℕ)
    → is_among name (keys_under (codes "extensions") (compressed c v)) ≡ true
    → (is_named name extension_name || is_among name (keys_under (codes "extensions") v)) ≡ true

-- an asset uses no extension that another doesn't, save this one, and is supported where that is as a plain one
pub record UsesOneMore (u t : PlainTree) : Type 0 where
  pub among : (name : List ℕ) → is_among name (extensions_in_use u) ≡ true → (is_named name extension_name || is_among name (extensions_in_use t)) ≡ true
  pub supported : (used : List (List ℕ)) → supported Plain (extensions_in_use t) ≡ Ok used → supported Any (extensions_in_use u) ≡ Ok (extensions_in_use u)

abbrev pub TwoBuffersUseOneMore : Type 0
TwoBuffersUseOneMore = (length fallback : ℕ) (t : PlainTree) → UsesOneMore (with_two_buffers length fallback t) t

abbrev pub NamesUseOneMore : Type 0
NamesUseOneMore = (t : PlainTree) → UsesOneMore (with_extension_named t) t
