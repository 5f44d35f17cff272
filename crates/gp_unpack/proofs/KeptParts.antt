-- Of the parts of an asset unpacking keeps all but where its bytes are.
use Rattle.std.proofs.Common.{◌≡◌, ℕ, Bool, List, [], ◌∷◌, map, length, Option, refl, sym, ap, ◌∙◌, arith}
use Rattle.std.proofs.lemmas.List.{length-map}
use Rattle.gp_rules.specs.declared.storage.View.{View}
use Rattle.gp_asset.specs.Extensions.{are_closed}
use Rattle.gp_asset.specs.Asset.{AssetParts}
use Rattle.gp_layout.specs.Layout.{starts}
use Rattle.gp_layout.proofs.Parts.{length_starts}
use Rattle.gp_unpack.specs.PlainFields.{plain_views_at, laid_parts, viewless_parts}

-- an asset with other buffers and views, which may be closed or not
abbrev pub relaid : List (Option (List ℕ)) → List View → Bool → AssetParts → AssetParts
relaid buffers views closed a = record a { buffers = buffers; views = views; closed = closed }

abbrev pub strides_of : List View → List (Option ℕ)
strides_of views = map (λ (v : View). v.stride) views

-- all else is the same, and so are the strides of views
pub record KeepsParts (a b : AssetParts) : Type 0 where
  pub buffers : List (Option (List ℕ))
  pub views : List View
  pub closed : Bool
  pub is : b ≡ relaid buffers views closed a
  pub strides : strides_of views ≡ strides_of a.views

strides_stay : (offsets : List ℕ) (views : List View) → length offsets ≡ length views → strides_of (plain_views_at offsets views) ≡ strides_of views
strides_stay [] [] e = refl
strides_stay [] (v ∷ views) e = absurd (omega (arith, e))
strides_stay (offset ∷ offsets) [] e = absurd (omega (arith, e))
strides_stay (offset ∷ offsets) (v ∷ views) e = ap (λ l. v.stride ∷ l) (strides_stay offsets views (omega (arith, e)))

pub laid_keeps : (contents : List (List ℕ)) (more : List ℕ) (used : List (List ℕ)) (a : AssetParts) → map length contents ≡ map (λ (v : View). v.length) a.views
    → KeepsParts a (laid_parts contents more used a)
laid_keeps contents more used a lengths = record {
  buffers = (laid_parts contents more used a).buffers;
  views = plain_views_at (starts (map length contents)) a.views;
  closed = are_closed used;
  is = refl;
  strides = strides_stay (starts (map length contents)) a.views (length_starts (map length contents) ∙ ap length lengths ∙ length-map a.views (λ (v : View). v.length));
}

pub viewless_keeps : (used : List (List ℕ)) (a : AssetParts) → a.views ≡ [] → KeepsParts a (viewless_parts used a)
viewless_keeps used a none = record { buffers = []; views = []; closed = are_closed used; is = refl; strides = sym (ap strides_of none) }
