-- An asset is one of any size that doesn't ask for too much.
use Rattle.std.proofs.Common.{◌≡◌, ℕ, suc, ◌+◌, false, List, [], ◌∷◌, length, Option, Result, Ok, Err, ap, ◌∙◌, subst}
use Rattle.gp_tree.specs.Plain.{PlainTree}
use Rattle.gp_fields.specs.declared.fault.FieldFault.{FieldFault}
use Rattle.gp_fields.specs.Fields.{BufferFields, ViewFields, AccessorFields}
use Rattle.gp_fields.specs.Record.{◌>>=◌, AssetFields, asset_fields}
use Rattle.gp_rules.specs.declared.storage.View.{View}
use Rattle.gp_rules.specs.declared.accessing.Accessor.{Accessor}
use Rattle.gp_rules.specs.Checks.{Checked, each}
use Rattle.gp_rules.specs.Views.{view_of}
use Rattle.gp_rules.specs.Accessors.{accessor_of, is_too_much}
use Rattle.gp_asset.specs.declared.purpose.Form.{Form}
use Rattle.gp_asset.specs.Buffers.{buffer_of}
use Rattle.gp_asset.specs.Extensions.{extensions_in_use, supported}
use Rattle.gp_asset.specs.Asset.{AssetParts, RuledParts, asset, in_shape, parts}
use Rattle.gp_document.proofs.Few.{step, same, ruled_by}
use Rattle.gp_unpack.proofs.Drawn.{RulesHold, rules_hold, rules_pass, asset_holds, asset_passes}
use Rattle.gp_sameness.specs.AnySize.{by_each_rule, asset_of_any_size, AssetsAreOfAnySize, SmallOnesAreAssets}

-- checks that all pass give as many values
pub each_counted : {A B : Type 0} (f : ℕ → A → Checked B) (at : ℕ) (xs : List A) (ys : List B) → each f at xs ≡ Ok ys → length xs ≡ length ys
each_counted f at [] ys e = ap length (same [] ys e)
each_counted f at (x ∷ xs) ys e =
    step (f at x) (λ y. each f (at + 1) xs >>= λ rest. Ok (y ∷ rest)) ys e (λ y one more.
    step (each f (at + 1) xs) (λ rest. Ok (y ∷ rest)) ys more (λ rest others whole.
    ap suc (each_counted f (at + 1) xs rest others) ∙ ap length (same (y ∷ rest) ys whole)))

-- ---- step by step

abbrev last_on : List (Option (List ℕ)) → List View → List Accessor → Checked RuledParts
last_on bs vs xs = Ok (ruled_by bs vs xs)

abbrev accessors_on : List AccessorFields → List (Option (List ℕ)) → List View → Checked RuledParts
accessors_on accessors bs vs = each (accessor_of vs) 0 accessors >>= λ xs. last_on bs vs xs

abbrev views_on : List BufferFields → List ViewFields → List AccessorFields → List (Option (List ℕ)) → Checked RuledParts
views_on buffers views accessors bs = each (view_of buffers) 0 views >>= λ vs. accessors_on accessors bs vs

abbrev rules_on : AssetFields → Option (List ℕ) → List (List ℕ) → Checked AssetParts
rules_on fields bin used = by_each_rule fields.buffers fields.views fields.accessors bin >>= λ ruled. Ok (parts fields used ruled)

abbrev supported_on : Form → PlainTree → Option (List ℕ) → AssetFields → Checked AssetParts
supported_on form t bin fields = supported form (extensions_in_use t) >>= λ used. rules_on fields bin used

-- ---- there

each_passes : (buffers : List BufferFields) (views : List ViewFields) (accessors : List AccessorFields) (bin : Option (List ℕ)) (r : RuledParts)
    → RulesHold buffers views accessors bin r → by_each_rule buffers views accessors bin ≡ Ok r
unfolding by_each_rule
each_passes buffers views accessors bin r h =
    ap (λ bs. bs >>= λ bs. views_on buffers views accessors bs) h.all_buffers
    ∙ ap (λ vs. vs >>= λ vs. accessors_on accessors r.buffers vs) h.all_views
    ∙ ap (λ xs. xs >>= λ xs. last_on r.buffers r.views xs) h.all_accessors

abbrev IsSmall : Form → PlainTree → Option (List ℕ) → AssetParts → Type 0
IsSmall form t bin a = (asset_of_any_size form t bin ≡ Ok a) × (is_too_much a.views a.accessors ≡ false)

pub assets_are_of_any_size : AssetsAreOfAnySize
unfolding asset_of_any_size
assets_are_of_any_size form t bin a e =
    asset_holds form t bin a e (λ f used r h all.
    let rules = rules_hold f.buffers f.views f.accessors bin r h.by_rule in
    subst (IsSmall form t bin) all (
      ap (λ r. in_shape r >>= λ fields. supported_on form t bin fields) h.has_fields
          ∙ ap (λ r. r >>= λ used. rules_on f bin used) h.supports
          ∙ ap (λ r. r >>= λ ruled. Ok (parts f used ruled)) (each_passes f.buffers f.views f.accessors bin r rules),
      rules.little,
    ))

-- ---- and back

each_holds : (buffers : List BufferFields) (views : List ViewFields) (accessors : List AccessorFields) (bin : Option (List ℕ)) (r : RuledParts)
    → by_each_rule buffers views accessors bin ≡ Ok r → is_too_much r.views r.accessors ≡ false → RulesHold buffers views accessors bin r
unfolding by_each_rule
each_holds buffers views accessors bin r e =
    step (each (buffer_of views bin) 0 buffers) (λ bs. views_on buffers views accessors bs) r e (λ bs e1 more1.
    step (each (view_of buffers) 0 views) (λ vs. accessors_on accessors bs vs) r more1 (λ vs e2 more2.
    step (each (accessor_of vs) 0 accessors) (λ xs. last_on bs vs xs) r more2 (λ xs e3 whole.
    subst (λ (q : RuledParts). is_too_much q.views q.accessors ≡ false → RulesHold buffers views accessors bin q) (same (ruled_by bs vs xs) r whole)
    (λ little. record { all_buffers = e1; all_views = e2; all_accessors = e3; little = little }))))

shaped : (r : Result AssetFields FieldFault) (fields : AssetFields) → in_shape r ≡ Ok fields → r ≡ Ok fields
shaped (Ok found) fields e = let d : found ≡ fields = same found fields e in ap Ok d
shaped (Err fault) fields e = absurd (cc)

pub small_ones_are_assets : SmallOnesAreAssets
unfolding asset_of_any_size
small_ones_are_assets form t bin a e =
    step (in_shape (asset_fields t)) (λ fields. supported_on form t bin fields) a e (λ fields e1 more1.
    step (supported form (extensions_in_use t)) (λ used. rules_on fields bin used) a more1 (λ used e2 more2.
    step (by_each_rule fields.buffers fields.views fields.accessors bin) (λ ruled. Ok (parts fields used ruled)) a more2 (λ ruled e3 whole.
    subst (λ (b : AssetParts). is_too_much b.views b.accessors ≡ false → asset form t bin ≡ Ok b) (same (parts fields used ruled) a whole) (λ little.
    asset_passes form t bin fields used ruled (record {
      has_fields = shaped (asset_fields t) fields e1;
      supports = e2;
      by_rule = rules_pass fields.buffers fields.views fields.accessors bin ruled (each_holds fields.buffers fields.views fields.accessors bin ruled e3 little);
    })))))

-- ---- as many views and accessors as fields

pub record CountsOf (f : AssetFields) (a : AssetParts) : Type 0 where
  pub views : length f.views ≡ length a.views
  pub accessors : length f.accessors ≡ length a.accessors

abbrev HasFields : PlainTree → AssetParts → Type 0
HasFields t a = (f : AssetFields) × (asset_fields t ≡ Ok f) × CountsOf f a

ruled_counts : (f : AssetFields) (bin : Option (List ℕ)) (used : List (List ℕ)) (r : RuledParts) → by_each_rule f.buffers f.views f.accessors bin ≡ Ok r → CountsOf f (parts f used r)
unfolding by_each_rule
ruled_counts f bin used r e =
    step (each (buffer_of f.views bin) 0 f.buffers) (λ bs. views_on f.buffers f.views f.accessors bs) r e (λ bs e1 more1.
    step (each (view_of f.buffers) 0 f.views) (λ vs. accessors_on f.accessors bs vs) r more1 (λ vs e2 more2.
    step (each (accessor_of vs) 0 f.accessors) (λ xs. last_on bs vs xs) r more2 (λ xs e3 whole.
    subst (λ (q : RuledParts). CountsOf f (parts f used q)) (same (ruled_by bs vs xs) r whole)
    (record { views = each_counted (view_of f.buffers) 0 f.views vs e2; accessors = each_counted (accessor_of vs) 0 f.accessors xs e3 }))))

pub counts_of : (form : Form) (t : PlainTree) (bin : Option (List ℕ)) (a : AssetParts) → asset_of_any_size form t bin ≡ Ok a → HasFields t a
unfolding asset_of_any_size
counts_of form t bin a e =
    step (in_shape (asset_fields t)) (λ fields. supported_on form t bin fields) a e (λ fields e1 more1.
    step (supported form (extensions_in_use t)) (λ used. rules_on fields bin used) a more1 (λ used e2 more2.
    step (by_each_rule fields.buffers fields.views fields.accessors bin) (λ ruled. Ok (parts fields used ruled)) a more2 (λ ruled e3 whole.
    (fields, shaped (asset_fields t) fields e1, subst (CountsOf fields) (same (parts fields used ruled) a whole) (ruled_counts fields bin used ruled e3)))))
