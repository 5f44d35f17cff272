-- What unpacking keeps of an asset.
use Rattle.std.specs.Prelude.{◌≡◌, ℕ, List, Ok}
use Rattle.gp_asset.specs.declared.purpose.Form.TheVariants.{Any}
use Rattle.gp_document.specs.Accepted.{HoldsAsset, IsAccepted}
use Rattle.gp_edits.specs.Common.{common}
use Rattle.gp_unpack.specs.Contents.{all_contents}

-- the first file stands for an asset, and the second one too: a container without a fault whose JSON spells a sound tree that has no fault
-- as an asset. All views have the same contents, the other chunks are the same, and the trees are the same but for the buffers, the places
-- of views, and the extension.
pub record KeepsViews (before after : List ℕ) : Type 0 where
  pub input : IsAccepted Any before
  pub output : HoldsAsset Any after
  pub contents : List (List ℕ)
  pub read : all_contents input.asset ≡ Ok contents
  pub written : all_contents output.asset ≡ Ok contents
  pub rest : output.document.rest ≡ input.document.rest
  pub trees : common output.document.tree ≡ common input.document.tree
