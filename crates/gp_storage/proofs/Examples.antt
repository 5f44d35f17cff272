-- Worked values of the rule that says how a view may be coded.
use Rattle.std.proofs.Common.{◌≡◌, ℕ, true, false, List, [], ◌∷◌, Some, None, refl}
use Rattle.gp_rules.specs.declared.storage.StreamMode.TheVariants.{Attributes, Indices}
use Rattle.gp_rules.specs.declared.accessing.Accessor.{Accessor}
use Rattle.gp_rules.specs.declared.accessing.Component.TheVariants.{F32}
use Rattle.gp_rules.specs.declared.accessing.Shape.TheVariants.{Vec3}
use Rattle.gp_asset.specs.declared.usage.AccessorUse.{AccessorUse}
use Rattle.gp_asset.specs.declared.usage.Role.TheVariants.{Attribute, Indices as AsIndices}
use Rattle.gp_storage.specs.Readers.{readers, one_size, is_index_list}
use Rattle.gp_storage.specs.Coding.{coding_by, numbers_in}

-- ---- sizes

one_size_of_two : one_size (12 ∷ 12 ∷ []) ≡ Some 12
one_size_of_two = refl

two_sizes : one_size (12 ∷ 12 ∷ 8 ∷ []) ≡ None
two_sizes = refl

no_size : one_size [] ≡ None
no_size = refl

-- ---- the rule

sequence_first : coding_by false (Some 2) (Some 12) ≡ Some (record { mode = Indices; stride = 2 })
sequence_first = refl

attributes_next : coding_by false None (Some 12) ≡ Some (record { mode = Attributes; stride = 12 })
attributes_next = refl

plain_else : coding_by false None None ≡ None
plain_else = refl

image_stays : coding_by true (Some 2) (Some 12) ≡ None
image_stays = refl

two_numbers : numbers_in 2 (1 ∷ 2 ∷ 255 ∷ 0 ∷ []) ≡ 513 ∷ 255 ∷ []
two_numbers = refl

-- ---- readers

-- an accessor that reads this view
abbrev reader_of : ℕ → Accessor
reader_of view = record { view = Some view; offset = 0; component = F32; shape = Vec3; count = 1; sparse = None }

-- accessors 0, 1 and 3 read view 0, and accessor 0 moves; no flag is there for the others
three_readers : readers (true ∷ []) (reader_of 0 ∷ reader_of 0 ∷ reader_of 1 ∷ reader_of 0 ∷ []) 0 ≡ (1, reader_of 0) ∷ (3, reader_of 0) ∷ []
three_readers = refl

-- ---- index lists

-- accessor 0 holds indices of two primitives; accessor 1 those of one, and vertices too
abbrev four_uses : List AccessorUse
four_uses =
    record { accessor = 0; role = AsIndices; owner = 0 }
    ∷ record { accessor = 1; role = AsIndices; owner = 1 }
    ∷ record { accessor = 0; role = AsIndices; owner = 2 }
    ∷ record { accessor = 1; role = Attribute; owner = 2 }
    ∷ []

indices_alone : is_index_list four_uses 0 ≡ true
indices_alone = refl

vertices_too : is_index_list four_uses 1 ≡ false
vertices_too = refl

unused : is_index_list four_uses 2 ≡ false
unused = refl
