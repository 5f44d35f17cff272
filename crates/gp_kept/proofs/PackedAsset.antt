-- The packed tree stands for the packed asset, by all rules but the load.
use Rattle.std.specs.Prelude.{option_map}
use Rattle.std.proofs.Common.{◌≡◌, ℕ, Bool, true, false, List, map, Option, Ok, Err, refl, sym, ap, ◌∙◌}
use Rattle.gp_tree.specs.Plain.{PlainTree}
use Rattle.gp_fields.specs.Record.{◌>>=◌, AssetFields, asset_fields}
use Rattle.gp_rules.specs.declared.fault.AssetFault.TheVariants.{TooMuchData}
use Rattle.gp_rules.specs.Accessors.{is_too_much}
use Rattle.gp_rules.specs.Checks.{Checked, unless}
use Rattle.gp_asset.specs.declared.purpose.Form.{Form}
use Rattle.gp_asset.specs.declared.purpose.Form.TheVariants.{Plain, Any}
use Rattle.gp_asset.specs.declared.geometry.Primitive.{Primitive}
use Rattle.gp_asset.specs.Extensions.{extensions_in_use, supported}
use Rattle.gp_asset.specs.Primitives.{primitives_of}
use Rattle.gp_asset.specs.Uses.{uses_of_all}
use Rattle.gp_asset.specs.Asset.{AssetParts, RuledParts, in_shape, asset, parts as parts_of}
use Rattle.gp_document.proofs.Few.{rules_on, supported_on}
use Rattle.gp_unpack.proofs.Drawn.{asset_holds}
use Rattle.gp_sameness.specs.Moved.{Moved}
use Rattle.gp_sameness.specs.Survivors.{renumbered}
use Rattle.gp_packed.specs.Packed.{packed_tree}
use Rattle.gp_packed.specs.AccessorsBack.{new_number}
use Rattle.gp_packed.specs.PackedFields.{packed_asset}
use Rattle.gp_packed.specs.PackedParts.{packed_primitives}
use Rattle.gp_packed.specs.RulesMoved.{with_load, packed_ruled, packed_asset_parts, asset_with_load, AssetLoadIsLast, PackedAssetPasses}
use Rattle.gp_sameness.specs.AnySize.{by_each_rule, asset_of_any_size}
use Rattle.gp_packed.proofs.PrimitivePlaces.{indexed_primitives}
use Rattle.gp_packed.proofs.FieldsKnown.{parts_stand}
use Rattle.gp_packed.proofs.PackedJoined.{packed_fields_again}
use Rattle.gp_packed.proofs.NamedMoved.{packed_supported}
use Rattle.gp_kept.proofs.RulesMoved.{load_last, rules_pass_moved}

-- ---- the load is asked last

abbrev unloaded : AssetFields → Option (List ℕ) → List (List ℕ) → Checked AssetParts
unloaded fields bin used = by_each_rule fields.buffers fields.views fields.accessors bin >>= λ ruled. Ok (parts_of fields used ruled)

abbrev supported_unloaded : Form → PlainTree → Option (List ℕ) → AssetFields → Checked AssetParts
supported_unloaded form t bin fields = supported form (extensions_in_use t) >>= λ used. unloaded fields bin used

load_by : (fields : AssetFields) (used : List (List ℕ)) (ruled : RuledParts) (much : Bool)
    → (unless much TooMuchData (Ok ruled) >>= λ ruled. Ok (parts_of fields used ruled)) ≡ unless much TooMuchData (Ok (parts_of fields used ruled))
load_by fields used ruled true = refl
load_by fields used ruled false = refl

ruled_behind : (fields : AssetFields) (used : List (List ℕ)) (found : Checked RuledParts)
    → ((found >>= with_load) >>= λ ruled. Ok (parts_of fields used ruled)) ≡ ((found >>= λ ruled. Ok (parts_of fields used ruled)) >>= asset_with_load)
ruled_behind fields used (Err fault) = refl
ruled_behind fields used (Ok ruled) = load_by fields used ruled (is_too_much ruled.views ruled.accessors)

used_behind : (bin : Option (List ℕ)) (fields : AssetFields) (found : Checked (List (List ℕ)))
    → (found >>= λ used. rules_on fields bin used) ≡ ((found >>= λ used. unloaded fields bin used) >>= asset_with_load)
used_behind bin fields (Err fault) = refl
used_behind bin fields (Ok used) =
    ap (λ found. found >>= λ ruled. Ok (parts_of fields used ruled)) (load_last fields.buffers fields.views fields.accessors bin)
    ∙ ruled_behind fields used (by_each_rule fields.buffers fields.views fields.accessors bin)

fields_behind : (form : Form) (t : PlainTree) (bin : Option (List ℕ)) (found : Checked AssetFields)
    → (found >>= λ fields. supported_on form t bin fields) ≡ ((found >>= λ fields. supported_unloaded form t bin fields) >>= asset_with_load)
fields_behind form t bin (Err fault) = refl
fields_behind form t bin (Ok fields) = used_behind bin fields (supported form (extensions_in_use t))

pub asset_load_last : AssetLoadIsLast
unfolding asset asset_of_any_size
asset_load_last form t bin = fields_behind form t bin (in_shape (asset_fields t))

-- ---- the packed asset

unloaded_passes : (form : Form) (t : PlainTree) (bin : Option (List ℕ)) (fields : AssetFields) (used : List (List ℕ)) (ruled : RuledParts)
    → asset_fields t ≡ Ok fields → supported form (extensions_in_use t) ≡ Ok used → by_each_rule fields.buffers fields.views fields.accessors bin ≡ Ok ruled
    → asset_of_any_size form t bin ≡ Ok (parts_of fields used ruled)
unfolding asset_of_any_size
unloaded_passes form t bin fields used ruled read names passes =
    ap (λ r. in_shape r >>= λ fields. supported_unloaded form t bin fields) read
    ∙ ap (λ r. r >>= λ used. unloaded fields bin used) names
    ∙ ap (λ r. r >>= λ ruled. Ok (parts_of fields used ruled)) passes

abbrev with_primitives : List Moved → AssetParts → AssetFields → List (List ℕ) → List ℕ → List Primitive → List (Option ℕ) → AssetParts
with_primitives moved a f used more primitives images =
    record (packed_asset_parts moved a f used more) { primitives = primitives; uses = uses_of_all primitives f.skins f.animations; images = map (option_map (new_number (renumbered moved a))) images }

parts_are : (moved : List Moved) (a : AssetParts) (f : AssetFields) (used : List (List ℕ)) (more : List ℕ) → a.primitives ≡ primitives_of f.meshes → a.images ≡ f.images
    → parts_of (packed_asset moved a f) used (packed_ruled moved a more) ≡ packed_asset_parts moved a f used more
parts_are moved a f used more meshes images =
    ap (λ ps. with_primitives moved a f used more ps f.images) (indexed_primitives moved a f.meshes meshes)
    ∙ ap (λ is. with_primitives moved a f used more (packed_primitives moved a) is) (sym images)

pub packed_passes : PackedAssetPasses
packed_passes t bin a f moved more chunk keys e read can groups has =
    let u = packed_tree moved a t in
    let used = extensions_in_use u in
    let s = parts_stand t bin a f e read in
    asset_holds Plain t bin a e (λ g names r h all.
    unloaded_passes Any u chunk (packed_asset moved a f) used (packed_ruled moved a more) (packed_fields_again t bin a f moved keys e read can) (packed_supported moved a t names h.supports)
    (rules_pass_moved t bin a f moved more chunk e read groups has)
    ∙ ap Ok (parts_are moved a f used more s.primitives s.images))
