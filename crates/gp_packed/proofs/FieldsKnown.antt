-- What is known of the fields of an asset that may be packed.
use Rattle.std.proofs.Common.{◌≡◌, ℕ, suc, ◌+◌, List, [], ◌∷◌, length, Option, Result, Ok, refl, sym, ap, ◌∙◌, subst}
use Rattle.std.proofs.lemmas.List.{length-map}
use Rattle.gp_tree.specs.Plain.{PlainTree}
use Rattle.gp_fields.specs.declared.fault.FieldFault.{FieldFault}
use Rattle.gp_fields.specs.Fields.{ViewFields}
use Rattle.gp_fields.specs.Record.{◌>>=◌, AssetFields}
use Rattle.gp_rules.specs.declared.storage.View.{View}
use Rattle.gp_rules.specs.Checks.{Checked, each}
use Rattle.gp_rules.specs.Accessors.{accessor_of}
use Rattle.gp_asset.specs.declared.purpose.Form.TheVariants.{Plain}
use Rattle.gp_asset.specs.Asset.{RuledParts, parts}
use Rattle.gp_document.proofs.Few.{step, same}
use Rattle.gp_sameness.proofs.AnySize.{each_counted}
use Rattle.gp_unpack.proofs.Drawn.{AssetHolds, rules_hold, asset_holds}
use Rattle.gp_unpack.proofs.Again.{lengths_kept}
use Rattle.gp_packed.specs.MeshesBack.{StandsFor, PartsStandForFields}
use Rattle.gp_packed.proofs.Unpacked.{fields_unpacked}

known : (t : PlainTree) (bin : Option (List ℕ)) (f : AssetFields) (used : List (List ℕ)) (r : RuledParts) → AssetHolds Plain t bin f used r → StandsFor f (parts f used r)
known t bin f used r h =
    let rules = rules_hold f.buffers f.views f.accessors bin r h.by_rule in
    record {
      uncompressed = fields_unpacked t f used h.has_fields h.supports;
      views =
          sym (length-map f.views (λ (v : ViewFields). v.length))
          ∙ ap length (lengths_kept 0 f.buffers f.views r.views rules.all_views)
          ∙ length-map r.views (λ (v : View). v.length);
      ruled = rules.all_accessors;
      accessors = each_counted (accessor_of r.views) 0 f.accessors r.accessors rules.all_accessors;
      primitives = refl;
      images = refl;
    }

pub same_fields : (f g : AssetFields) → ◌≡◌ {A = Result AssetFields FieldFault} (Ok f) (Ok g) → f ≡ g
same_fields f g e = cc

pub parts_stand : PartsStandForFields
parts_stand t bin a f e read =
    asset_holds Plain t bin a e (λ g used r h all.
    subst (StandsFor f) all
    (subst (λ fields. StandsFor fields (parts g used r)) (same_fields g f (sym h.has_fields ∙ read)) (known t bin g used r h)))
