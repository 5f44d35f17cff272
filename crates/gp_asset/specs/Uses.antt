-- Who uses an accessor, and who refers to a buffer view (glTF 2.0, sections 5.1 to 5.8, 5.18, 5.24 and 5.28).
use Rattle.std.specs.Prelude.{ℕ, List, [], ◌∷◌, ◌++◌, map, flat_map, Option, option_to_list}
use Rattle.std.specs.List.{enumerate_from}
use Rattle.gp_fields.specs.declared.geometry.Entry.{Entry}
use Rattle.gp_fields.specs.declared.sampling.SamplerFields.{SamplerFields}
use Rattle.gp_rules.specs.declared.accessing.Accessor.{Accessor}
use Rattle.gp_rules.specs.declared.accessing.Sparse.{Sparse}
use Rattle.gp_asset.specs.declared.geometry.Primitive.{Primitive}
use Rattle.gp_asset.specs.declared.usage.AccessorUse.{AccessorUse}
use Rattle.gp_asset.specs.declared.usage.Role.{Role}
use Rattle.gp_asset.specs.declared.usage.Role.TheVariants.{Attribute, Target, Indices, InverseBind, SamplerInput, SamplerOutput}

-- ---- uses of accessors

abbrev pub use_as : Role → ℕ → ℕ → AccessorUse
use_as role owner accessor = record { accessor = accessor; role = role; owner = owner }

abbrev pub entry_uses : Role → ℕ → List Entry → List AccessorUse
entry_uses role owner entries = map (λ (e : Entry). use_as role owner e.accessor) entries

-- of the primitive with this place among all: attributes, then targets, then indices
abbrev pub primitive_uses : ℕ → Primitive → List AccessorUse
primitive_uses at p =
    entry_uses Attribute at p.attributes
    ++ flat_map (entry_uses Target at) p.targets
    ++ map (use_as Indices at) (option_to_list p.indices)

abbrev pub skin_uses : ℕ → Option ℕ → List AccessorUse
skin_uses at matrices = map (use_as InverseBind at) (option_to_list matrices)

abbrev pub sampler_uses : ℕ → SamplerFields → List AccessorUse
sampler_uses at s = use_as SamplerInput at s.input ∷ use_as SamplerOutput at s.output ∷ []

abbrev pub animation_uses : ℕ → List SamplerFields → List AccessorUse
animation_uses at samplers = flat_map (sampler_uses at) samplers

-- what each item of a list gives by its number
abbrev pub gathered : {A B : Type 0} → (ℕ → A → List B) → List A → List B
gathered f xs = flat_map (λ x. f x.0 x.1) (enumerate_from 0 xs)

-- primitives, then skins, then animations
unfoldable pub uses_of_all : List Primitive → List (Option ℕ) → List (List SamplerFields) → List AccessorUse
uses_of_all primitives skins animations =
    gathered primitive_uses primitives
    ++ gathered skin_uses skins
    ++ gathered animation_uses animations

-- ---- references to buffer views

-- the `bufferView` of an accessor, of its `sparse.indices`, of its `sparse.values`, and of an image
pub data Referrer : Type 0 where
  of_accessor of_sparse_indices of_sparse_values of_image : ℕ → Referrer

-- each with the view that it names
abbrev pub sparse_references : ℕ → Sparse → List (ℕ × Referrer)
sparse_references at s = (s.index_view, of_sparse_indices at) ∷ (s.value_view, of_sparse_values at) ∷ []

abbrev pub accessor_references : ℕ → Accessor → List (ℕ × Referrer)
accessor_references at a = map (λ v. (v, of_accessor at)) (option_to_list a.view) ++ flat_map (sparse_references at) (option_to_list a.sparse)

abbrev pub image_references : ℕ → Option ℕ → List (ℕ × Referrer)
image_references at view = map (λ v. (v, of_image at)) (option_to_list view)

abbrev pub references : List Accessor → List (Option ℕ) → List (ℕ × Referrer)
references accessors images = gathered accessor_references accessors ++ gathered image_references images
