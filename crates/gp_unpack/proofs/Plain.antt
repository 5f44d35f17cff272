-- An asset has the same contents after the contents of all its views were laid plain into one buffer.
use Rattle.std.proofs.Common.{◌≡◌, ◌≢◌, ℕ, List, [], ◌++◌, map, length, Option, Some, None, Ok, refl, sym, ap, subst, ◌∙◌}
use Rattle.gp_tree.specs.Plain.{PlainTree}
use Rattle.gp_fields.specs.Fields.{ViewFields}
use Rattle.gp_fields.specs.Record.{AssetFields, asset_fields}
use Rattle.gp_layout.specs.Layout.{laid}
use Rattle.gp_asset.specs.declared.purpose.Form.TheVariants.{Any}
use Rattle.gp_rules.specs.declared.storage.View.{View}
use Rattle.gp_asset.specs.Extensions.{extensions_in_use, supported}
use Rattle.gp_asset.specs.Asset.{AssetParts, RuledParts, asset, by_rules, parts}
use Rattle.gp_unpack.specs.Contents.{all_contents, contents_from}
use Rattle.gp_unpack.specs.Laws.{ContentsLaidPlain, ViewlessStaysSo}
use Rattle.gp_unpack.specs.PlainFields.{laid_fields, laid_parts, viewless_fields, viewless_parts}
use Rattle.gp_document.proofs.Few.{same}
use Rattle.gp_unpack.proofs.Drawn.{rules_hold, AssetHolds, asset_holds, asset_passes}
use Rattle.gp_unpack.proofs.Whole.{contents_are_whole}
use Rattle.gp_unpack.proofs.Again.{again, lengths_kept, rules_pass_again, rules_pass_without_views}
use Rattle.gp_unpack.proofs.Places.{all_placed}

-- ---- with views

-- the lengths of contents are those that the fields say
said : (f : AssetFields) (bin : Option (List ℕ)) (r : RuledParts) (a : AssetParts) (contents : List (List ℕ))
    → by_rules f.buffers f.views f.accessors bin ≡ Ok r → r.views ≡ a.views → map length contents ≡ map (λ (v : View). v.length) a.views
    → map length contents ≡ map (λ (v : ViewFields). v.length) f.views
said f bin r a contents e views lengths =
    lengths ∙ ap (map (λ (v : View). v.length)) (sym views)
    ∙ sym (lengths_kept 0 f.buffers f.views r.views ((rules_hold f.buffers f.views f.accessors bin r e).all_views))

-- an asset of fields that say where its contents were laid
pub laid_asset : (t u : PlainTree) (bin : Option (List ℕ)) (f : AssetFields) (first used : List (List ℕ)) (r : RuledParts) (contents : List (List ℕ)) (more : List ℕ)
    → AssetHolds Any t bin f first r → map length contents ≡ map (λ (v : View). v.length) r.views → f.views ≢ []
    → asset_fields u ≡ Ok (laid_fields contents f) → supported Any (extensions_in_use u) ≡ Ok used
    → asset Any u (Some (laid contents ++ more)) ≡ Ok (laid_parts contents more used (parts f first r))
laid_asset t u bin f first used r contents more h lengths some has supports =
    let own = said f bin r (parts f first r) contents h.by_rule refl lengths in
    asset_passes Any u (Some (laid contents ++ more)) (laid_fields contents f) used (again (laid contents ++ more) (map length contents) r) (record {
      has_fields = has;
      supports = supports;
      by_rule = rules_pass_again f.buffers f.views f.accessors bin r contents more h.by_rule own some;
    })

pub laid_contents : (a : AssetParts) (contents used : List (List ℕ)) (more : List ℕ) → map length contents ≡ map (λ (v : View). v.length) a.views
    → all_contents (laid_parts contents more used a) ≡ Ok contents
laid_contents a contents used more lengths = all_placed (laid_parts contents more used a) contents more a.views refl refl lengths

abbrev Laid : List (List ℕ) → AssetFields → AssetParts → Type 0
Laid contents f a =
    (u : PlainTree) (g : AssetFields) (used : List (List ℕ)) (more : List ℕ) → f.views ≢ [] → asset_fields u ≡ Ok g
    → g ≡ laid_fields contents f → supported Any (extensions_in_use u) ≡ Ok used
    → (b : AssetParts) × (asset Any u (Some (laid contents ++ more)) ≡ Ok b) × (all_contents b ≡ Ok contents) × (b ≡ laid_parts contents more used a)

laid_so : (t : PlainTree) (bin : Option (List ℕ)) (f : AssetFields) (first : List (List ℕ)) (r : RuledParts) (contents : List (List ℕ))
    → AssetHolds Any t bin f first r → map length contents ≡ map (λ (v : View). v.length) r.views → Laid contents f (parts f first r)
laid_so t bin f first r contents h lengths u g used more some has is supports =
    let a = parts f first r in
    (laid_parts contents more used a, laid_asset t u bin f first used r contents more h lengths some (has ∙ ap Ok is) supports, laid_contents a contents used more lengths, refl)

pub contents_laid_plain : ContentsLaidPlain
contents_laid_plain t bin a contents e is =
    let lengths = contents_are_whole Any t bin a contents e is in
    asset_holds Any t bin a e (λ f first r h all.
    let own : map length contents ≡ map (λ (v : View). v.length) r.views = lengths ∙ ap (λ (x : AssetParts). map (λ (v : View). v.length) x.views) (sym all) in
    (f, h.has_fields, subst (Laid contents f) all (laid_so t bin f first r contents h own)))

-- ---- without views

pub viewless_asset : (t u : PlainTree) (bin : Option (List ℕ)) (f : AssetFields) (first used : List (List ℕ)) (r : RuledParts)
    → AssetHolds Any t bin f first r → f.views ≡ [] → asset_fields u ≡ Ok (viewless_fields f) → supported Any (extensions_in_use u) ≡ Ok used
    → asset Any u None ≡ Ok (viewless_parts used (parts f first r))
viewless_asset t u bin f first used r h none has supports =
    asset_passes Any u None (viewless_fields f) used (record { buffers = []; views = []; accessors = r.accessors }) (record {
      has_fields = has;
      supports = supports;
      by_rule = rules_pass_without_views f.buffers f.accessors bin r (ap (λ views. by_rules f.buffers views f.accessors bin) (sym none) ∙ h.by_rule);
    })

no_contents : (a : AssetParts) (contents used : List (List ℕ)) → a.views ≡ [] → all_contents a ≡ Ok contents
    → all_contents (viewless_parts used a) ≡ Ok contents
unfolding all_contents
no_contents a contents used none e = sym (ap (contents_from a 0) none) ∙ e

no_views : (f : AssetFields) (bin : Option (List ℕ)) (r : RuledParts) → by_rules f.buffers f.views f.accessors bin ≡ Ok r → f.views ≡ []
    → r.views ≡ []
no_views f bin r e none =
    let h = rules_hold f.buffers [] f.accessors bin r (ap (λ views. by_rules f.buffers views f.accessors bin) (sym none) ∙ e) in
    sym (same [] r.views h.all_views)

abbrev Viewless : List (List ℕ) → AssetFields → AssetParts → Type 0
Viewless contents f a =
    (u : PlainTree) (g : AssetFields) (used : List (List ℕ)) → f.views ≡ [] → asset_fields u ≡ Ok g → g ≡ viewless_fields f
    → supported Any (extensions_in_use u) ≡ Ok used
    → (b : AssetParts) × (asset Any u None ≡ Ok b) × (all_contents b ≡ Ok contents) × (b ≡ viewless_parts used a)

viewless_so : (t : PlainTree) (bin : Option (List ℕ)) (f : AssetFields) (first : List (List ℕ)) (r : RuledParts) (contents : List (List ℕ))
    → AssetHolds Any t bin f first r → all_contents (parts f first r) ≡ Ok contents → Viewless contents f (parts f first r)
viewless_so t bin f first r contents h e u g used none has is supports =
    let a = parts f first r in
    (viewless_parts used a, viewless_asset t u bin f first used r h none (has ∙ ap Ok is) supports, no_contents a contents used (no_views f bin r h.by_rule none) e, refl)

pub viewless_stays_so : ViewlessStaysSo
viewless_stays_so t bin a contents e is =
    asset_holds Any t bin a e (λ f first r h all.
    (f, h.has_fields, subst (Viewless contents f) all (viewless_so t bin f first r contents h (ap all_contents all ∙ is))))
