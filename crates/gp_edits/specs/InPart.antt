-- What an edit may leave of a value where there was no memory for all of it.
use Rattle.std.specs.Prelude.{◌≡◌, ◌⊎◌, ℕ, List, [], ◌∷◌, codes}
use Rattle.gp_tree.specs.Plain.{PlainTree}
use Rattle.gp_tree.specs.TreeEdits.{with_member}
use Rattle.gp_edits.specs.Changes.{whole_number}
use Rattle.gp_edits.specs.Edits.{with_name_in}
use Rattle.gp_edits.specs.Own.{IsSameBut}

-- as it was, or with its buffer and not yet its place there
abbrev pub IsPlacedInPart : ℕ → PlainTree → PlainTree → Type 0
IsPlacedInPart buffer before after = (after ≡ before) ⊎ (after ≡ with_member (codes "buffer") (whole_number buffer) before)

-- as it was, or with the name in the first of its two lists
abbrev pub IsNamedInPart : PlainTree → PlainTree → Type 0
IsNamedInPart before after = (after ≡ before) ⊎ (after ≡ with_name_in (codes "extensionsUsed") before)

-- a view keeps all that doesn't say where its bytes are
abbrev pub IsViewEditedInPart : PlainTree → PlainTree → Type 0
IsViewEditedInPart before after = IsSameBut (codes "buffer" ∷ codes "byteOffset" ∷ codes "extensions" ∷ []) before after

-- an asset keeps all but its views
abbrev pub AreViewsEditedInPart : PlainTree → PlainTree → Type 0
AreViewsEditedInPart before after = IsSameBut (codes "bufferViews" ∷ []) before after
