-- Worked values of meshes and views of groups that move.
use Rattle.std.proofs.Common.{◌≡◌, ℕ, true, List, [], ◌∷◌, Option, Some, None, codes, refl}
use Rattle.std.specs.Str.{chars}
use Rattle.gp_tree.specs.Plain.{PlainTree, list, members, trees_of, members_of}
use Rattle.gp_tree.specs.Find.{PlainMember}
use Rattle.gp_fields.specs.declared.geometry.PrimitiveFields.{PrimitiveFields}
use Rattle.gp_fields.specs.Fields.{ViewFields}
use Rattle.gp_rules.specs.declared.storage.StreamMode.TheVariants.{Attributes, Triangles}
use Rattle.gp_rules.specs.declared.accessing.Accessor.{Accessor}
use Rattle.gp_rules.specs.declared.accessing.Component.TheVariants.{U8}
use Rattle.gp_rules.specs.declared.accessing.Shape.{Shape}
use Rattle.gp_rules.specs.declared.accessing.Shape.TheVariants.{Scalar, Vec3}
use Rattle.gp_asset.specs.Asset.{AssetParts}
use Rattle.gp_asset.specs.Primitives.{primitives_of}
use Rattle.gp_edits.specs.Changes.{whole_number}
use Rattle.gp_sameness.specs.Moved.{Moved}
use Rattle.gp_sameness.specs.Survivors.{survives}
use Rattle.gp_packed.specs.MadeViews.{Made, made_views}
use Rattle.gp_packed.specs.GroupEdits.{with_all_indices}
use Rattle.gp_packed.specs.ViewEdits.{unplaced}
use Rattle.gp_packed.specs.MeshesBack.{indexed_meshes, output_fields}

-- ---- a mesh of one primitive with indices, and one of two primitives without

abbrev primitive : Option ℕ → PrimitiveFields
primitive indices = record { mode = 4; attributes = record { name = codes "POSITION"; accessor = 0 } ∷ []; targets = []; indices = indices }

abbrev two_meshes : List (List PrimitiveFields)
two_meshes = (primitive (Some 2) ∷ []) ∷ (primitive None ∷ primitive None ∷ []) ∷ []

abbrev accessor_of : Shape → ℕ → Accessor
accessor_of shape view = record { view = Some view; offset = 0; component = U8; shape = shape; count = 2; sparse = None }

-- views 0, 1 and 2 are those of accessors 0, 1 and 2
abbrev asset_of_two : AssetParts
asset_of_two = record {
  buffers = [];
  views = [];
  accessors = accessor_of Vec3 0 ∷ accessor_of Vec3 1 ∷ accessor_of Scalar 2 ∷ [];
  primitives = primitives_of two_meshes;
  uses = [];
  images = [];
  closed = true;
}

-- the first primitive and the last one move, with accessors 0 and 2; accessor 3 is made
abbrev one_group : List Moved
one_group = record {
  primitives = 0 ∷ 2 ∷ [];
  columns = 0 ∷ [];
  lists = 2 ∷ [];
  list_accessor = Some 3;
  count = 3;
  records = (1 ∷ 2 ∷ 3 ∷ []) ∷ (4 ∷ 5 ∷ 6 ∷ []) ∷ [];
  ordered = (0 ∷ 1 ∷ 0 ∷ []) ∷ (1 ∷ 0 ∷ 1 ∷ []) ∷ [];
} ∷ []

last_indexed : indexed_meshes one_group asset_of_two two_meshes ≡ (primitive (Some 2) ∷ []) ∷ (primitive None ∷ primitive (Some 3) ∷ []) ∷ []
unfolding primitives_of
last_indexed = refl

-- `{"meshes":[{"primitives":[..]},{"primitives":[..,..]}]}`
abbrev position : PlainMember
position = (codes "attributes", members (members_of ((codes "POSITION", whole_number 0) ∷ [])))

abbrev primitive_object : List PlainMember → PlainTree
primitive_object more = members (members_of (position ∷ more))

abbrev mesh_object : List PlainTree → PlainTree
mesh_object primitives = members (members_of ((codes "primitives", list (trees_of primitives)) ∷ []))

abbrev mesh_root : List PlainMember → PlainTree
mesh_root more = members (members_of ((
  codes "meshes",
  list (trees_of (
      mesh_object (primitive_object ((codes "indices", whole_number 2) ∷ []) ∷ [])
      ∷ mesh_object (primitive_object [] ∷ primitive_object more ∷ [])
      ∷ [])),
) ∷ []))

last_index_set : with_all_indices one_group asset_of_two (mesh_root []) ≡ mesh_root ((codes "indices", whole_number 3) ∷ [])
unfolding with_all_indices primitives_of chars
last_index_set = refl

-- ---- views that are made

abbrev column : Made
column = record { accessor = 0; contents = 1 ∷ 2 ∷ 3 ∷ 0 ∷ 4 ∷ 5 ∷ 6 ∷ 0 ∷ []; coding = record { mode = Attributes; stride = 4 } }

abbrev first_list : Made
first_list = record { accessor = 2; contents = 0 ∷ 0 ∷ 1 ∷ 0 ∷ 0 ∷ 0 ∷ []; coding = record { mode = Triangles; stride = 2 } }

abbrev second_list : Made
second_list = record { accessor = 3; contents = 1 ∷ 0 ∷ 0 ∷ 0 ∷ 1 ∷ 0 ∷ []; coding = record { mode = Triangles; stride = 2 } }

three_made : made_views asset_of_two one_group ≡ column ∷ first_list ∷ second_list ∷ []
three_made = refl

column_object : unplaced column
    ≡ members (members_of (
    (codes "buffer", whole_number 0)
    ∷ (codes "byteOffset", whole_number 0)
    ∷ (codes "byteLength", whole_number 8)
    ∷ (codes "byteStride", whole_number 4)
    ∷ (codes "target", whole_number 34962)
    ∷ []))
unfolding chars
column_object = refl

list_object : unplaced first_list
    ≡ members (members_of (
    (codes "buffer", whole_number 0)
    ∷ (codes "byteOffset", whole_number 0)
    ∷ (codes "byteLength", whole_number 6)
    ∷ (codes "target", whole_number 34963)
    ∷ []))
unfolding chars
list_object = refl

-- of three views the second one stays, and three are made
abbrev view_of_length : ℕ → Option ℕ → ViewFields
view_of_length size stride = record { buffer = 0; offset = 0; length = size; stride = stride; packed = None }

second_stays : output_fields one_group asset_of_two (view_of_length 10 None ∷ view_of_length 11 None ∷ view_of_length 12 None ∷ [])
    ≡ view_of_length 11 None ∷ view_of_length 8 (Some 4) ∷ view_of_length 6 None ∷ view_of_length 6 None ∷ []
unfolding survives
second_stays = refl
