-- Two primitives without `indices` that share an accessor, by computing.
use Rattle.std.specs.Prelude.{codes}
use Rattle.std.proofs.Common.{◌≡◌, ℕ, true, List, [], ◌∷◌, map, Option, Some, None, refl}
use Rattle.gp_fields.specs.declared.geometry.Entry.{Entry}
use Rattle.gp_rules.specs.declared.accessing.Accessor.{Accessor}
use Rattle.gp_rules.specs.declared.accessing.Component.TheVariants.{U8}
use Rattle.gp_rules.specs.declared.accessing.Shape.TheVariants.{Scalar}
use Rattle.gp_rules.specs.declared.storage.View.{View}
use Rattle.gp_asset.specs.declared.geometry.Primitive.{Primitive}
use Rattle.gp_asset.specs.Asset.{AssetParts}
use Rattle.gp_asset.specs.Uses.{uses_of_all}
use Rattle.gp_elements.specs.Elements.{base_elements}
use Rattle.gp_alias.specs.declared.group.Group.{Group}
use Rattle.gp_alias.specs.Records.{records, lists}
use Rattle.gp_cache.specs.Misses.{misses}
use Rattle.gp_cache.specs.Tipsify.{tipsify, better}
use Rattle.gp_moving.specs.Ordered.{ordered}
use Rattle.gp_mover.specs.MovedParts.{MovedParts, moved_group, record_size}
use Rattle.gp_mover.specs.MadeBytes.{column_contents, list_contents}

abbrev view : View
view = record { buffer = 0; offset = 0; length = 6; stride = None; packed = None }

abbrev accessor : ℕ → Accessor
accessor at = record { view = Some at; offset = 0; component = U8; shape = Scalar; count = 6; sparse = None }

abbrev entry : ℕ → Entry
entry at = record { name = codes "_N"; accessor = at }

abbrev primitive : List ℕ → Primitive
primitive attributes = record { mesh = 0; at = 0; mode = 4; attributes = map entry attributes; targets = []; indices = None }

abbrev asset : AssetParts
asset = record {
  buffers = [];
  views = view ∷ view ∷ [];
  accessors = accessor 0 ∷ accessor 1 ∷ [];
  primitives = primitive (0 ∷ 1 ∷ []) ∷ primitive (0 ∷ []) ∷ [];
  uses = uses_of_all (primitive (0 ∷ 1 ∷ []) ∷ primitive (0 ∷ []) ∷ []) [] [];
  images = [];
  closed = true;
}

-- the third and the fifth of six vertices are the same; the first and the fourth differ in the second column
abbrev contents : List (List ℕ)
contents = (10 ∷ 11 ∷ 12 ∷ 10 ∷ 12 ∷ 13 ∷ []) ∷ (1 ∷ 1 ∷ 1 ∷ 2 ∷ 1 ∷ 1 ∷ []) ∷ []

abbrev group : Group
group = record { primitives = 0 ∷ 1 ∷ []; columns = 0 ∷ 1 ∷ []; lists = []; bare = true; count = 6; movable = true }

abbrev moved : MovedParts
moved = record {
  primitives = 0 ∷ 1 ∷ [];
  columns = 0 ∷ 1 ∷ [];
  lists = [];
  bare = true;
  count = 6;
  records = (10 ∷ 1 ∷ []) ∷ (11 ∷ 1 ∷ []) ∷ (12 ∷ 1 ∷ []) ∷ (10 ∷ 2 ∷ []) ∷ (13 ∷ 1 ∷ []) ∷ [];
  ordered = (0 ∷ 1 ∷ 2 ∷ 3 ∷ 2 ∷ 4 ∷ []) ∷ [];
}

five_of_six : moved_group asset contents group ≡ moved
unfolding moved_group records lists base_elements ordered better tipsify misses
five_of_six = refl

two_bytes : record_size asset (0 ∷ 1 ∷ []) ≡ 2
two_bytes = refl

second_column : column_contents asset moved 1 (accessor 1) ≡ 1 ∷ 0 ∷ 0 ∷ 0 ∷ 1 ∷ 0 ∷ 0 ∷ 0 ∷ 1 ∷ 0 ∷ 0 ∷ 0 ∷ 2 ∷ 0 ∷ 0 ∷ 0 ∷ 1 ∷ 0 ∷ 0 ∷ 0 ∷ []
second_column = refl

short_numbers : list_contents moved (0 ∷ 1 ∷ 2 ∷ 3 ∷ 2 ∷ 4 ∷ []) ≡ 0 ∷ 0 ∷ 1 ∷ 0 ∷ 2 ∷ 0 ∷ 3 ∷ 0 ∷ 2 ∷ 0 ∷ 4 ∷ 0 ∷ []
short_numbers = refl
