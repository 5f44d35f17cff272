-- Laws of unpacking, over the definitions alone.
use Rattle.std.specs.Prelude.{◌≡◌, ◌≢◌, ℕ, List, [], ◌∷◌, ◌++◌, map, length, Option, Some, None, Ok}
use Rattle.gp_tree.specs.Plain.{PlainTree}
use Rattle.gp_fields.specs.Fields.{BufferFields, ViewFields, AccessorFields}
use Rattle.gp_fields.specs.Record.{AssetFields, asset_fields}
use Rattle.gp_layout.specs.Layout.{starts, end, laid}
use Rattle.gp_asset.specs.declared.purpose.Form.{Form}
use Rattle.gp_asset.specs.declared.purpose.Form.TheVariants.{Any}
use Rattle.gp_rules.specs.declared.storage.View.{View}
use Rattle.gp_asset.specs.Extensions.{extensions_in_use, supported}
use Rattle.gp_asset.specs.Asset.{AssetParts, RuledParts, asset, by_rules}
use Rattle.gp_document.specs.Answers.{IsMade}
use Rattle.gp_document.specs.declared.output.Output.{Output}
use Rattle.gp_unpack.specs.Contents.{HaveShapes, all_contents}
use Rattle.gp_unpack.specs.Unpacked.{unpacking}
use Rattle.gp_unpack.specs.Kept.{KeepsViews}
use Rattle.gp_edits.specs.ReadingBack.{plain_views_fields}
use Rattle.gp_unpack.specs.PlainFields.{one_buffer, plain_views_at, laid_fields, laid_parts, viewless_fields, viewless_parts}

-- each compressed form of an asset has a stride and a count such as its mode has
abbrev pub AssetsHaveShapes : Type 0
AssetsHaveShapes = (form : Form) (t : PlainTree) (bin : Option (List ℕ)) (a : AssetParts) → asset form t bin ≡ Ok a → HaveShapes a.views

-- the contents of each view of an asset are as long as it says
abbrev pub ContentsAreWhole : Type 0
ContentsAreWhole =
    (form : Form) (t : PlainTree) (bin : Option (List ℕ)) (a : AssetParts) (contents : List (List ℕ)) → asset form t bin ≡ Ok a
    → all_contents a ≡ Ok contents
    → map length contents ≡ map (λ (v : View). v.length) a.views

-- what the rules let through they let through again once the contents of all views were laid plain into one buffer
abbrev pub RulesPassAgain : Type 0
RulesPassAgain =
    (buffers : List BufferFields) (fs : List ViewFields) (accessors : List AccessorFields) (bin : Option (List ℕ)) (r : RuledParts) (contents : List (List ℕ)) (more : List ℕ)
    → by_rules buffers fs accessors bin ≡ Ok r → map length contents ≡ map (λ (v : ViewFields). v.length) fs → fs ≢ []
    → by_rules (one_buffer (end (map length contents))) (plain_views_fields (starts (map length contents)) fs) accessors (Some (laid contents ++ more))
    ≡ Ok (record { buffers = Some (laid contents ++ more) ∷ []; views = plain_views_at (starts (map length contents)) r.views; accessors = r.accessors })

-- and so where there is no view
abbrev pub RulesPassWithoutViews : Type 0
RulesPassWithoutViews =
    (buffers : List BufferFields) (accessors : List AccessorFields) (bin : Option (List ℕ)) (r : RuledParts)
    → by_rules buffers [] accessors bin ≡ Ok r → by_rules [] [] accessors None ≡ Ok (record { buffers = []; views = []; accessors = r.accessors })

-- a tree whose fields are those of an asset but for its buffers and views, which say where the contents were laid plain, is an asset
-- with the same contents, and with all else of the first but for the extensions
abbrev pub ContentsLaidPlain : Type 0
ContentsLaidPlain =
    (t : PlainTree) (bin : Option (List ℕ)) (a : AssetParts) (contents : List (List ℕ)) → asset Any t bin ≡ Ok a → all_contents a ≡ Ok contents
    → (f : AssetFields) × (asset_fields t ≡ Ok f) × (
    (u : PlainTree) (g : AssetFields) (used : List (List ℕ)) (more : List ℕ) → f.views ≢ [] → asset_fields u ≡ Ok g
    → g ≡ laid_fields contents f → supported Any (extensions_in_use u) ≡ Ok used
    → (b : AssetParts) × (asset Any u (Some (laid contents ++ more)) ≡ Ok b) × (all_contents b ≡ Ok contents) × (b ≡ laid_parts contents more used a))

-- and so where there is no view
abbrev pub ViewlessStaysSo : Type 0
ViewlessStaysSo =
    (t : PlainTree) (bin : Option (List ℕ)) (a : AssetParts) (contents : List (List ℕ)) → asset Any t bin ≡ Ok a → all_contents a ≡ Ok contents
    → (f : AssetFields) × (asset_fields t ≡ Ok f) × (
    (u : PlainTree) (g : AssetFields) (used : List (List ℕ)) → f.views ≡ [] → asset_fields u ≡ Ok g → g ≡ viewless_fields f
    → supported Any (extensions_in_use u) ≡ Ok used
    → (b : AssetParts) × (asset Any u None ≡ Ok b) × (all_contents b ≡ Ok contents) × (b ≡ viewless_parts used a))

-- what unpacking writes stands for an asset whose views have the contents that they have in the input
abbrev pub UnpackedKeepsViews : Type 0
UnpackedKeepsViews = (bytes : List ℕ) (out : Output) → IsMade unpacking bytes out → KeepsViews bytes out.glb
