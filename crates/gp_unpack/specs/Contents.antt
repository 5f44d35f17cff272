-- The bytes of all buffer views of an asset (glTF 2.0, section 5.11), those of compressed forms decoded
-- (EXT_meshopt_compression), or the first view whose stream has a fault.
use Rattle.std.specs.Prelude.{◌≡◌, ℕ, true, List, map, Option, Some, None, IfSome, Result, Ok, Err, ⊤}
use Rattle.std.specs.List.{All}
use Rattle.gp_groups.specs.declared.fault.StreamFault.{StreamFault}
use Rattle.gp_groups.specs.Attributes.{decoded_attributes}
use Rattle.gp_groups.specs.Triangles.{decoded_triangles}
use Rattle.gp_groups.specs.Sequence.{decoded_sequence}
use Rattle.gp_rules.specs.declared.storage.View.{View}
use Rattle.gp_rules.specs.declared.storage.Packed.{Packed}
use Rattle.gp_rules.specs.declared.storage.StreamMode.{StreamMode}
use Rattle.gp_rules.specs.declared.storage.StreamMode.TheVariants.{Attributes, Triangles, Indices}
use Rattle.gp_asset.specs.declared.refusal.Refusal.{Refusal}
use Rattle.gp_asset.specs.declared.refusal.Refusal.TheVariants.{Stream, Memory}
use Rattle.gp_asset.specs.Asset.{AssetParts}
use Rattle.gp_asset.specs.Contents.{plain_bytes, stream_bytes}
use Rattle.gp_rules.specs.Checks.{each}
use Rattle.gp_rules.specs.Views.{is_stride_in, is_count_in}

-- ---- one view

-- the bytes of so many elements of a stride, by the mode of their stream, or the first fault of the stream
unfoldable pub decoded : StreamMode → List ℕ → ℕ → ℕ → Result (List ℕ) StreamFault
decoded Attributes bytes count stride = decoded_attributes bytes count stride
decoded Triangles bytes count stride = decoded_triangles bytes count stride
decoded Indices bytes count stride = decoded_sequence bytes count stride

-- a view with a compressed form holds what its stream means, and another a slice of its buffer
abbrev pub contents_by : List (Option (List ℕ)) → View → Option Packed → Result (List ℕ) StreamFault
contents_by buffers v None = Ok (plain_bytes buffers v)
contents_by buffers v (Some p) = decoded p.mode (stream_bytes buffers p) p.count p.stride

abbrev pub contents_of : AssetParts → View → Result (List ℕ) StreamFault
contents_of a v = contents_by a.buffers v v.packed

-- ---- all views

-- the stream of this view has this fault
pub record FaultyView : Type 0 where
  pub view : ℕ
  pub fault : StreamFault

-- a fault with the number of its view
abbrev pub at_view : {A : Type 0} → ℕ → Result A StreamFault → Result A FaultyView
at_view at (Ok a) = Ok a
at_view at (Err fault) = Err (record { view = at; fault = fault })

-- those of these views, the first of which has this number
abbrev pub contents_from : AssetParts → ℕ → List View → Result (List (List ℕ)) FaultyView
contents_from a at views = each (λ k v. at_view k (contents_of a v)) at views

-- the contents of each view in order, or the fault of the first view whose stream has one
unfoldable pub all_contents : AssetParts → Result (List (List ℕ)) FaultyView
all_contents a = contents_from a 0 a.views

-- ---- what a decoder asks for

-- the stride and the count are such as the mode has
pub record HasShape (p : Packed) : Type 0 where
  pub stride : is_stride_in p.mode p.stride ≡ true
  pub count : is_count_in p.mode p.count ≡ true

-- each compressed form has such a shape
abbrev pub HaveShapes : List View → Type 0
HaveShapes = All (λ (v : View). IfSome v.packed HasShape)

-- ---- answers

-- a call answers what is wanted, unless memory ran out
abbrev pub Answers : {A : Type 0} → Result A FaultyView → Result A Refusal → Type 0
Answers wanted (Ok a) = wanted ≡ Ok a
Answers wanted (Err (Stream view fault)) = wanted ≡ Err (record { view = view; fault = fault })
Answers wanted (Err Memory) = ⊤
Answers wanted (Err _) = ⊥

-- the bytes of each view are there
abbrev pub held : List (List ℕ) → List (Option (List ℕ))
held = map Some
