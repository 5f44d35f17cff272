-- The contents of all views in one buffer, each in a part of its own. But for `cut` and `IsLaid`, which the model of the contents has, these
-- are helpers' words: no public contract cites them.
use Rattle.std.specs.Prelude.{◌≡◌, ℕ, ◌*◌, List, map, length, take, drop, Option, Some, None, Result, Ok, Err}
use Rattle.gp_rules.specs.declared.storage.View.{View}
use Rattle.gp_rules.specs.declared.storage.Packed.{Packed}
use Rattle.gp_asset.specs.Asset.{AssetParts}
use Rattle.gp_asset.specs.declared.refusal.Refusal.{Refusal}
use Rattle.gp_asset.specs.Contents.{plain_bytes}
use Rattle.gp_layout.specs.Layout.{starts, end, laid}
use Rattle.gp_unpack.specs.declared.laying.Place.{Place}
use Rattle.gp_unpack.specs.Contents.{FaultyView, Answers}

-- ---- the parts of a buffer

abbrev pub place : ℕ → ℕ → Place
place start length = record { start = start; length = length }

-- the bytes in a part
abbrev pub part_in : List ℕ → Place → List ℕ
part_in bytes p = take p.length (drop p.start bytes)

-- those of each part
abbrev pub cut : List ℕ → List Place → List (List ℕ)
cut bytes parts = map (part_in bytes) parts

abbrev pub starts_of : List Place → List ℕ
starts_of parts = map (λ (p : Place). p.start) parts

abbrev pub lengths_of : List Place → List ℕ
lengths_of parts = map (λ (p : Place). p.length) parts

-- the buffer is what stands in its parts, laid in a row, and nothing else
pub record IsLaid (bytes : List ℕ) (parts : List Place) : Type 0 where
  pub sized : map length (cut bytes parts) ≡ lengths_of parts
  pub placed : starts_of parts ≡ starts (lengths_of parts)
  pub row : bytes ≡ laid (cut bytes parts)

-- ---- how long the contents of views are

abbrev pub length_by : List (Option (List ℕ)) → View → Option Packed → ℕ
length_by buffers v None = length (plain_bytes buffers v)
length_by buffers v (Some p) = p.count * p.stride

abbrev pub content_length : AssetParts → View → ℕ
content_length a v = length_by a.buffers v v.packed

abbrev pub content_lengths : AssetParts → List ℕ
content_lengths a = map (content_length a) a.views

-- ---- placing parts of these lengths

pub record ArePlaced (sizes : List ℕ) (parts : List Place) (until : ℕ) : Type 0 where
  pub sized : lengths_of parts ≡ sizes
  pub placed : starts_of parts ≡ starts sizes
  pub ended : until ≡ end sizes

-- ---- filling the parts

-- the views' contents stand in the parts, unless the stream of one has a fault
abbrev pub Fills : Result (List (List ℕ)) FaultyView → List Place → Result (Unit {0}) Refusal → List ℕ → Type 0
Fills wanted parts (Ok _) bytes = IsLaid bytes parts × (wanted ≡ Ok (cut bytes parts))
Fills wanted parts (Err refusal) bytes = Answers wanted (Err refusal)
