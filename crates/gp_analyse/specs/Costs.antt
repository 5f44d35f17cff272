-- What drawing a list of triangles costs, and what is kept of lists of indices, so that none is gone through for each primitive.
use Rattle.std.specs.Prelude.{◌≡◌, true, ◌<◌, ◌≤◌, ℕ, nat_lt, get_or, ◌+◌, ◌*◌, ◌/◌, ◌%◌, Bool, ◌&&◌, ◌==◌, if◌then◌else◌, List, [], ◌∷◌, ◌++◌, max, length, replicate, slice_get, Option, Some, None, unwrap_or, option_map, option_and_then, codes, decimal}
use Rattle.gp_rules.specs.declared.accessing.Accessor.{Accessor}
use Rattle.gp_rules.specs.declared.accessing.Sparse.{Sparse}
use Rattle.gp_asset.specs.declared.geometry.Primitive.{Primitive}
use Rattle.gp_asset.specs.Asset.{AssetParts}
use Rattle.gp_elements.specs.Elements.{indices_in}
use Rattle.gp_elements.specs.Held.{IsSound}
use Rattle.gp_alias.specs.Movable.{items_of, numbers_of, has_corner_shape, has_resolved}
use Rattle.gp_alias.specs.Plain.{list_of}
use Rattle.gp_alias.specs.Records.{AreNumbers}
use Rattle.gp_cache.specs.Misses.{misses, lines}
use Rattle.gp_analyse.specs.declared.costing.Costs.{Costs}
use Rattle.gp_analyse.specs.declared.drawing.Drawn.{Drawn}
use Rattle.gp_analyse.specs.declared.known.Known.{Known}
use Rattle.gp_analyse.specs.declared.thinning.IndexList.{IndexList}
use Rattle.gp_analyse.specs.Text.{first_of, vertex_size}

-- ---- one primitive

abbrev pub costs_of : List ℕ → Accessor → Costs
costs_of list first = record { vertices = first.count; triangles = length list / 3; misses = misses list; lines = lines list (vertex_size first) }

-- by its list of triangles and the accessor of its first attribute, where both are there
abbrev pub costs_in : Option (List ℕ) → Option Accessor → Option Costs
costs_in (Some list) (Some first) = Some (costs_of list first)
costs_in list first = None

abbrev pub costs_at : AssetParts → List (List ℕ) → Primitive → Option Costs
costs_at a contents p = costs_in (list_of a contents p) (first_of a.accessors p.attributes)

-- what is said of them
abbrev pub words_of : Option Costs → List ℕ
words_of None = codes "not a plain list"
words_of (Some costs) =
    codes "vertices " ++ decimal costs.vertices
    ++ codes " triangles " ++ decimal costs.triangles
    ++ codes " misses " ++ decimal costs.misses
    ++ codes " lines " ++ decimal costs.lines

-- ---- one accessor of indices, whatever primitive uses it

-- its numbers, where they are the corners of whole triangles
abbrev pub corners_in : AssetParts → List (List ℕ) → Accessor → Option (List ℕ)
corners_in a contents accessor = if has_corner_shape accessor && has_resolved contents accessor then Some (numbers_of a contents accessor) else None

abbrev pub corners_at : AssetParts → List (List ℕ) → ℕ → Option (List ℕ)
corners_at a contents at = option_and_then (corners_in a contents) (slice_get a.accessors at)

-- so many vertices, or as many as these numbers take at least
abbrev pub vertices_from : ℕ → List ℕ → ℕ
vertices_from least [] = least
vertices_from least (number ∷ numbers) = vertices_from (max least (number + 1)) numbers

abbrev pub drawn_by : List ℕ → Drawn
drawn_by list = record { triangles = length list / 3; vertices = vertices_from 0 list; misses = misses list }

abbrev pub drawn_at : AssetParts → List (List ℕ) → ℕ → Option Drawn
drawn_at a contents at = option_map drawn_by (corners_at a contents at)

-- the lines that are missed, where each vertex has so many bytes
abbrev pub lines_at : AssetParts → List (List ℕ) → ℕ → ℕ → ℕ
lines_at a contents at stride = lines (unwrap_or (corners_at a contents at) []) stride

-- the accessor and its elements
pub record IsIndexList (a : AssetParts) (contents : List (List ℕ)) (list : IndexList) : Type 0 where
  pub sound : IsSound a.views list.accessor
  pub resolved : has_resolved contents list.accessor ≡ true
  pub elements : list.elements ≡ items_of a contents list.accessor
  pub numbers : AreNumbers list.elements

-- ---- the same list with less to go through

-- a number, but not a 0 that stands right behind a 0
abbrev pub kept : Bool → ℕ → List ℕ
kept behind_zero number = if behind_zero && number == 0 then [] else number ∷ []

-- a list without each 0 that stands right behind a 0
abbrev pub thinned : Bool → List ℕ → List ℕ
thinned behind_zero [] = []
thinned behind_zero (number ∷ numbers) = kept behind_zero number ++ thinned (number == 0) numbers

-- the places at which a `sparse` gives values
abbrev pub places_in : List (List ℕ) → Option Sparse → List ℕ
places_in contents None = []
places_in contents (Some sparse) = indices_in contents sparse

-- a list of zeros but at these places, which rise
pub record AreGiven (numbers places : List ℕ) : Type 0 where
  pub rise : (k : ℕ) → k + 1 < length places → get_or places k 0 < get_or places (k + 1) 0
  pub within : (k : ℕ) → k < length places → get_or places k 0 < length numbers
  pub zeros : (i : ℕ) → i < length numbers → ((k : ℕ) → k < length places → get_or places k 0 ≡ i → ⊥) → get_or numbers i 0 ≡ 0

-- the first number behind the first of these places
pub record IsNext (places : List ℕ) (at next : ℕ) : Type 0 where
  pub first : at ≡ 0 → next ≡ 0
  pub last : (k : ℕ) → k + 1 ≡ at → get_or places k 0 + 1 ≡ next

-- one 0 for those between two places, where there are any
abbrev pub zeros_kept : Bool → ℕ → ℕ → List ℕ
zeros_kept behind_zero from to = if nat_lt from to then kept behind_zero 0 else []

-- ---- what was found out before

-- the entry of a table, where it is there
abbrev pub entry_at : {A : Type 0} → List (Option A) → ℕ → Option A
entry_at entries at = option_and_then (λ entry. entry) (slice_get entries at)

-- each entry that is there is the value at its place
abbrev pub Remembers : {A : Type 0} → (ℕ → A) → List (Option A) → Type 0
Remembers {A} value entries = (at : ℕ) (known : A) → entry_at entries at ≡ Some known → known ≡ value at

-- sixteen places for each accessor, one for each stride: 4, 8, .., 64
abbrev pub lines_for : AssetParts → List (List ℕ) → ℕ → ℕ
lines_for a contents place = lines_at a contents (place / 16) ((place % 16 + 1) * 4)

-- what is known of an asset's accessors is so
pub record IsKnown (a : AssetParts) (contents : List (List ℕ)) (known : Known) : Type 0 where
  pub lists : Remembers (drawn_at a contents) known.lists
  pub lines : Remembers (lines_for a contents) known.lines

-- nothing is known of so many accessors
abbrev pub nothing_known : ℕ → Known
nothing_known accessors = record { lists = replicate accessors None; lines = replicate (accessors * 16) None }

-- a stride that has a place
pub record IsStride (stride : ℕ) : Type 0 where
  pub least : 4 ≤ stride
  pub most : stride ≤ 64
  pub whole : stride % 4 ≡ 0
