-- Laws of the edits on the extensions that an asset uses.
use Rattle.std.specs.Prelude.{◌≡◌, ℕ, true, List, Ok, codes}
use Rattle.gp_tree.specs.Plain.{PlainTree}
use Rattle.gp_tree.specs.Sound.{HasDistinctKeys}
use Rattle.gp_tree.specs.TreeEdits.{without}
use Rattle.gp_asset.specs.declared.purpose.Form.TheVariants.{Any}
use Rattle.gp_asset.specs.Extensions.{extensions_in_use, is_among, supported}
use Rattle.gp_edits.specs.Edits.{with_plain_views, with_one_buffer, without_extension_named}

-- an asset uses no extension that another doesn't, and is supported where that is
pub record UsesNoMore (u t : PlainTree) : Type 0 where
  pub among : (name : List ℕ) → is_among name (extensions_in_use u) ≡ true → is_among name (extensions_in_use t) ≡ true
  pub supported : (used : List (List ℕ)) → supported Any (extensions_in_use t) ≡ Ok used → supported Any (extensions_in_use u) ≡ Ok (extensions_in_use u)

-- so does one whose views were placed in one buffer, or that has none, without the extension
abbrev pub PlainUsesNoMore : Type 0
PlainUsesNoMore = (length : ℕ) (starts : List ℕ) (t : PlainTree) → HasDistinctKeys t → UsesNoMore (without_extension_named (with_one_buffer length (with_plain_views starts t))) t

abbrev pub EmptyUsesNoMore : Type 0
EmptyUsesNoMore = (starts : List ℕ) (t : PlainTree) → HasDistinctKeys t → UsesNoMore (without_extension_named (without (codes "buffers") (with_plain_views starts t))) t
