-- Worked values of what primitives draw, and of a group that moves.
use Rattle.std.proofs.Common.{◌≡◌, ℕ, zero, suc, true, false, List, [], ◌∷◌, Some, None, refl}
use Rattle.gp_fields.specs.declared.geometry.Entry.{Entry}
use Rattle.gp_rules.specs.declared.accessing.Component.TheVariants.{U8}
use Rattle.gp_rules.specs.declared.accessing.Shape.TheVariants.{Scalar}
use Rattle.gp_asset.specs.declared.geometry.Primitive.{Primitive}
use Rattle.gp_asset.specs.Asset.{AssetParts}
use Rattle.gp_asset.specs.Uses.{uses_of_all}
use Rattle.gp_elements.specs.Elements.{base_elements}
use Rattle.gp_alias.specs.declared.group.Group.{Group}
use Rattle.gp_alias.specs.Classes.{classes}
use Rattle.gp_alias.specs.Groups.{rising, gathered}
use Rattle.gp_alias.specs.Movable.{is_column, is_triangle_list, has_vertices, is_movable, groups}
use Rattle.gp_alias.specs.Records.{records, lists}
use Rattle.gp_cache.specs.Misses.{misses}
use Rattle.gp_cache.specs.Tipsify.{tipsify, better}
use Rattle.gp_moving.specs.Ordered.{ordered}
use Rattle.gp_packed.specs.MeshesBack.{with_indices}
use Rattle.gp_sameness.specs.Drawn.{corners_of, triangles_of, records_of, elements_at}
use Rattle.gp_packed.specs.MovedGroups.{moved_of}

-- ---- a triangle with a morph target

abbrev of_accessor : ℕ → List (List ℕ)
of_accessor zero = (10 ∷ []) ∷ (11 ∷ []) ∷ (12 ∷ []) ∷ []
of_accessor (suc zero) = (2 ∷ 0 ∷ []) ∷ (0 ∷ 0 ∷ []) ∷ (1 ∷ 0 ∷ []) ∷ []
of_accessor (suc (suc n)) = (20 ∷ []) ∷ (21 ∷ []) ∷ (22 ∷ []) ∷ []

abbrev entry : ℕ → Entry
entry at = record { name = []; accessor = at }

abbrev triangle : Primitive
triangle = record { mesh = 0; at = 0; mode = 4; attributes = entry 0 ∷ []; targets = (entry 2 ∷ []) ∷ []; indices = Some 1 }

by_indices : triangles_of of_accessor triangle ≡ ((12 ∷ []) ∷ (22 ∷ []) ∷ [], (10 ∷ []) ∷ (20 ∷ []) ∷ [], (11 ∷ []) ∷ (21 ∷ []) ∷ []) ∷ []
by_indices = refl

in_order : corners_of of_accessor (record triangle { indices = None }) ≡ 0 ∷ 1 ∷ 2 ∷ []
in_order = refl

its_records : records_of of_accessor (0 ∷ 2 ∷ []) ≡ (10 ∷ 20 ∷ []) ∷ (11 ∷ 21 ∷ []) ∷ (12 ∷ 22 ∷ []) ∷ []
its_records = refl

-- ---- two triangles, two of whose four vertices are equal

abbrev contents : List (List ℕ)
contents = (5 ∷ 6 ∷ 5 ∷ 7 ∷ []) ∷ (0 ∷ 1 ∷ 3 ∷ 1 ∷ 2 ∷ 3 ∷ []) ∷ []

abbrev drawn : Primitive
drawn = record { mesh = 0; at = 0; mode = 4; attributes = entry 0 ∷ []; targets = []; indices = Some 1 }

abbrev two_triangles : AssetParts
two_triangles = record {
  buffers = [];
  views = record { buffer = 0; offset = 0; length = 4; stride = None; packed = None } ∷ record { buffer = 0; offset = 4; length = 6; stride = None; packed = None } ∷ [];
  accessors =
      record { view = Some 0; offset = 0; component = U8; shape = Scalar; count = 4; sparse = None }
      ∷ record { view = Some 1; offset = 0; component = U8; shape = Scalar; count = 6; sparse = None }
      ∷ [];
  primitives = drawn ∷ [];
  uses = uses_of_all (drawn ∷ []) [] [];
  images = [];
  closed = true;
}

abbrev one_group : Group
one_group = record { primitives = 0 ∷ []; columns = 0 ∷ []; lists = 1 ∷ []; bare = false; count = 4; movable = true }

is_the_group : groups two_triangles contents ≡ one_group ∷ []
unfolding groups classes gathered rising is_movable is_column is_triangle_list has_vertices base_elements uses_of_all
is_the_group = refl

-- three records are left, and both triangles
has_moved : moved_of two_triangles contents None one_group
    ≡ record {
      primitives = 0 ∷ [];
      columns = 0 ∷ [];
      lists = 1 ∷ [];
      list_accessor = None;
      count = 4;
      records = (5 ∷ []) ∷ (6 ∷ []) ∷ (7 ∷ []) ∷ [];
      ordered = (0 ∷ 1 ∷ 2 ∷ 1 ∷ 0 ∷ 2 ∷ []) ∷ [];
    }
unfolding ordered records lists better misses tipsify base_elements
has_moved = refl

-- what it draws
two_drawn : triangles_of (elements_at two_triangles contents) (with_indices None drawn)
    ≡ ((5 ∷ []) ∷ [], (6 ∷ []) ∷ [], (7 ∷ []) ∷ []) ∷ ((6 ∷ []) ∷ [], (5 ∷ []) ∷ [], (7 ∷ []) ∷ []) ∷ []
unfolding base_elements
two_drawn = refl
