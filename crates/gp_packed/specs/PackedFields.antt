-- The fields of a packed asset, over the definitions alone.
use Rattle.std.specs.Prelude.{◌≡◌, ℕ, ◌+◌, ◌<◌, ◌≤◌, ◌^◌, List, map, filter_map, length, Option, option_map, Ok}
use Rattle.std.specs.List.{All}
use Rattle.gp_tree.specs.Plain.{PlainTree}
use Rattle.gp_tree.specs.Sound.{HasDistinctKeys}
use Rattle.gp_fields.specs.Record.{AssetFields, asset_fields}
use Rattle.gp_asset.specs.declared.purpose.Form.TheVariants.{Plain}
use Rattle.gp_asset.specs.Asset.{AssetParts, asset}
use Rattle.gp_sameness.specs.Moved.{Moved}
use Rattle.gp_sameness.specs.Survivors.{renumbered}
use Rattle.gp_packed.specs.MadeViews.{made_views}
use Rattle.gp_packed.specs.Plan.{output_views}
use Rattle.gp_packed.specs.Packed.{packed_tree}
use Rattle.gp_packed.specs.AccessorsBack.{new_number, all_accessors_fields}
use Rattle.gp_packed.specs.NewNumbers.{GroupSuits}
use Rattle.gp_packed.specs.MeshesBack.{HasListIn, StandBelow, packed_with}

-- with the accessors and images that groups that move leave
abbrev pub packed_asset : List Moved → AssetParts → AssetFields → AssetFields
packed_asset moved a f = packed_with moved a (all_accessors_fields moved a f.accessors) (map (option_map (new_number (renumbered moved a))) f.images) f

-- how many accessors it has: one more for each group that gets a list
abbrev pub count_accessors : List Moved → AssetParts → ℕ
count_accessors moved a = length a.accessors + length (filter_map (λ (m : Moved). m.list_accessor) moved)

-- groups of an asset can be moved: their numbers read back, and nothing moves or is made where there is nothing
pub record CanBeMoved (moved : List Moved) (a : AssetParts) : Type 0 where
  pub groups : All GroupSuits moved
  pub lists : All (HasListIn (count_accessors moved a)) moved
  pub some_accessors : 0 < length moved → 0 < length a.accessors
  pub some_views : 0 < length (made_views a moved) → 0 < length a.views
  pub few : length (output_views moved a) ≤ 2 ^ 32
  pub stand : StandBelow (output_views moved a)

abbrev pub PackedFieldsReadBack : Type 0
PackedFieldsReadBack = (t : PlainTree) (bin : Option (List ℕ)) (a : AssetParts) (f : AssetFields) (moved : List Moved)
    → HasDistinctKeys t → asset Plain t bin ≡ Ok a → asset_fields t ≡ Ok f → CanBeMoved moved a
    → asset_fields (packed_tree moved a t) ≡ Ok (packed_asset moved a f)
