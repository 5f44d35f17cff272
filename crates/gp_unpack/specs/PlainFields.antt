-- The fields of views that are laid plain into one buffer, and the views that they stand for.
use Rattle.std.specs.Prelude.{ℕ, List, [], ◌∷◌, ◌++◌, map, length, Some, None}
use Rattle.gp_fields.specs.Fields.{BufferFields}
use Rattle.gp_fields.specs.Record.{AssetFields}
use Rattle.gp_layout.specs.Layout.{starts, end, laid}
use Rattle.gp_edits.specs.ReadingBack.{buffer_of_length, plain_views_fields}
use Rattle.gp_rules.specs.declared.storage.View.{View}
use Rattle.gp_asset.specs.Extensions.{are_closed}
use Rattle.gp_asset.specs.Asset.{AssetParts}

-- one buffer of so many bytes, which are in the BIN chunk
abbrev pub one_buffer : ℕ → List BufferFields
one_buffer n = buffer_of_length n ∷ []

-- a view without a compressed form, from this offset on in buffer 0, with its own length and stride
abbrev pub plain_view_at : ℕ → View → View
plain_view_at offset v = record { buffer = 0; offset = offset; length = v.length; stride = v.stride; packed = None }

abbrev pub plain_views_at : List ℕ → List View → List View
plain_views_at [] views = []
plain_views_at (offset ∷ offsets) [] = []
plain_views_at (offset ∷ offsets) (v ∷ views) = plain_view_at offset v ∷ plain_views_at offsets views

-- ---- the fields of a whole asset, and what they stand for, where its views have these contents

abbrev pub laid_fields : List (List ℕ) → AssetFields → AssetFields
laid_fields contents f = record f { buffers = one_buffer (end (map length contents)); views = plain_views_fields (starts (map length contents)) f.views }

abbrev pub laid_parts : List (List ℕ) → List ℕ → List (List ℕ) → AssetParts → AssetParts
laid_parts contents more used a = record a {
  buffers = Some (laid contents ++ more) ∷ [];
  views = plain_views_at (starts (map length contents)) a.views;
  closed = are_closed used;
}

-- where there is no view, no buffer either

abbrev pub viewless_fields : AssetFields → AssetFields
viewless_fields f = record f { buffers = []; views = [] }

abbrev pub viewless_parts : List (List ℕ) → AssetParts → AssetParts
viewless_parts used a = record a { buffers = []; views = []; closed = are_closed used }
