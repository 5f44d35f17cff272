-- Worked groups that move.
use Rattle.std.proofs.Common.{◌≡◌, ℕ, true, List, [], ◌∷◌, Option, Some, None, refl}
use Rattle.std.specs.Prelude.{codes}
use Rattle.gp_rules.specs.declared.accessing.Accessor.{Accessor}
use Rattle.gp_rules.specs.declared.accessing.Component.TheVariants.{U8}
use Rattle.gp_rules.specs.declared.accessing.Shape.{Shape}
use Rattle.gp_rules.specs.declared.accessing.Shape.TheVariants.{Scalar, Vec4}
use Rattle.gp_rules.specs.declared.storage.View.{View}
use Rattle.gp_asset.specs.declared.geometry.Primitive.{Primitive}
use Rattle.gp_asset.specs.Asset.{AssetParts}
use Rattle.gp_asset.specs.Uses.{uses_of_all}
use Rattle.gp_elements.specs.Elements.{base_elements}
use Rattle.gp_alias.specs.Classes.{classes}
use Rattle.gp_alias.specs.Groups.{gathered, rising}
use Rattle.gp_alias.specs.Movable.{is_column, is_triangle_list, has_vertices, is_movable, groups}
use Rattle.gp_alias.specs.Records.{records, lists}
use Rattle.gp_moving.specs.Ordered.{ordered}
use Rattle.gp_cache.specs.Misses.{misses}
use Rattle.gp_cache.specs.Tipsify.{tipsify, better}
use Rattle.gp_packed.specs.MovedGroups.{moved_groups}

-- ---- an asset of one mesh

abbrev view : ℕ → View
view length = record { buffer = 0; offset = 0; length = length; stride = None; packed = None }

abbrev accessor : ℕ → Shape → ℕ → Accessor
accessor view shape count = record { view = Some view; offset = 0; component = U8; shape = shape; count = count; sparse = None }

abbrev primitive : ℕ → ℕ → Option ℕ → Primitive
primitive at position indices =
    record { mesh = 0; at = at; mode = 4; attributes = record { name = codes "POSITION"; accessor = position } ∷ []; targets = []; indices = indices }

abbrev asset_with : List View → List Accessor → List Primitive → AssetParts
asset_with views accessors primitives = record {
  buffers = [];
  views = views;
  accessors = accessors;
  primitives = primitives;
  uses = uses_of_all primitives [] [];
  images = [];
  closed = true;
}

-- a vertex of four bytes
abbrev vertex : ℕ → List ℕ
vertex n = n ∷ 0 ∷ 0 ∷ 0 ∷ []

-- ---- two triangles that share an edge, of five vertices of which the fourth repeats the second

abbrev two_triangles : AssetParts
two_triangles = asset_with (view 20 ∷ view 6 ∷ []) (accessor 0 Vec4 5 ∷ accessor 1 Scalar 6 ∷ []) (primitive 0 0 (Some 1) ∷ [])

abbrev five_vertices : List ℕ
five_vertices = 10 ∷ 0 ∷ 0 ∷ 0 ∷ 11 ∷ 0 ∷ 0 ∷ 0 ∷ 12 ∷ 0 ∷ 0 ∷ 0 ∷ 11 ∷ 0 ∷ 0 ∷ 0 ∷ 13 ∷ 0 ∷ 0 ∷ 0 ∷ []

-- four vertices are left, the third one first
one_moves : moved_groups two_triangles (five_vertices ∷ (2 ∷ 0 ∷ 1 ∷ 3 ∷ 0 ∷ 4 ∷ []) ∷ [])
    ≡ record {
      primitives = 0 ∷ [];
      columns = 0 ∷ [];
      lists = 1 ∷ [];
      list_accessor = None;
      count = 5;
      records = vertex 12 ∷ vertex 10 ∷ vertex 11 ∷ vertex 13 ∷ [];
      ordered = (0 ∷ 1 ∷ 2 ∷ 2 ∷ 1 ∷ 3 ∷ []) ∷ [];
    } ∷ []
unfolding moved_groups groups classes gathered rising is_movable is_column is_triangle_list has_vertices base_elements uses_of_all records lists ordered better tipsify misses
one_moves = refl

-- with an index past its vertices it doesn't move
none_moves : moved_groups two_triangles (five_vertices ∷ (2 ∷ 0 ∷ 1 ∷ 3 ∷ 0 ∷ 5 ∷ []) ∷ []) ≡ []
unfolding moved_groups groups classes gathered rising is_movable is_column is_triangle_list has_vertices base_elements uses_of_all
none_moves = refl

-- ---- two groups without indices, and one with them between

abbrev three_groups : AssetParts
three_groups =
    asset_with (view 12 ∷ view 12 ∷ view 3 ∷ []) (accessor 0 Vec4 3 ∷ accessor 1 Vec4 3 ∷ accessor 2 Scalar 3 ∷ accessor 0 Vec4 3 ∷ [])
    (primitive 0 0 None ∷ primitive 1 1 (Some 2) ∷ primitive 2 3 None ∷ [])

abbrev three_vertices : List ℕ
three_vertices = 20 ∷ 0 ∷ 0 ∷ 0 ∷ 21 ∷ 0 ∷ 0 ∷ 0 ∷ 22 ∷ 0 ∷ 0 ∷ 0 ∷ []

abbrev three_records : List (List ℕ)
three_records = vertex 20 ∷ vertex 21 ∷ vertex 22 ∷ []

-- accessors 4 and 5 are made
numbers_in_order : moved_groups three_groups (three_vertices ∷ three_vertices ∷ (1 ∷ 1 ∷ 0 ∷ []) ∷ [])
    ≡ record {
      primitives = 0 ∷ [];
      columns = 0 ∷ [];
      lists = [];
      list_accessor = Some 4;
      count = 3;
      records = three_records;
      ordered = (0 ∷ 1 ∷ 2 ∷ []) ∷ [];
    } ∷ record {
      primitives = 1 ∷ [];
      columns = 1 ∷ [];
      lists = 2 ∷ [];
      list_accessor = None;
      count = 3;
      records = vertex 21 ∷ vertex 20 ∷ vertex 22 ∷ [];
      ordered = (0 ∷ 0 ∷ 1 ∷ []) ∷ [];
    } ∷ record {
      primitives = 2 ∷ [];
      columns = 3 ∷ [];
      lists = [];
      list_accessor = Some 5;
      count = 3;
      records = three_records;
      ordered = (0 ∷ 1 ∷ 2 ∷ []) ∷ [];
    } ∷ []
unfolding moved_groups groups classes gathered rising is_movable is_column is_triangle_list has_vertices base_elements uses_of_all records lists ordered better tipsify misses
numbers_in_order = refl
