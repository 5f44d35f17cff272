-- Refusals of the JSON reader and of the asset reader, as refusals of a file.
use Rattle.gp_json.specs.declared.fault.JsonRefusal.{JsonRefusal}
use Rattle.gp_json.specs.declared.fault.JsonRefusal.TheVariants.{Fault as JsonFaulty, Memory as NoMemoryForJson}
use Rattle.gp_rules.specs.declared.fault.AssetRefusal.{AssetRefusal}
use Rattle.gp_rules.specs.declared.fault.AssetRefusal.TheVariants.{Fault as AssetFaulty, Memory as NoMemoryForAsset}
use Rattle.gp_asset.specs.declared.refusal.Refusal.{Refusal}
use Rattle.gp_asset.specs.declared.refusal.Refusal.TheVariants.{Json, Asset, Memory}

abbrev pub json_refusal : JsonRefusal → Refusal
json_refusal (JsonFaulty fault) = Json fault
json_refusal NoMemoryForJson = Memory

abbrev pub asset_refusal : AssetRefusal → Refusal
asset_refusal (AssetFaulty fault) = Asset fault
asset_refusal NoMemoryForAsset = Memory
