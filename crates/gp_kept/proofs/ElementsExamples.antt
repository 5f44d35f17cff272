-- Worked values of the contents and elements of a packed asset.
use Rattle.std.proofs.Common.{◌≡◌, ℕ, true, List, [], ◌∷◌, Some, None, refl}
use Rattle.gp_groups.specs.WrittenAttributes.{encoded_attributes, written_part}
use Rattle.gp_groups.specs.WrittenTriangles.{encoded_triangles, piece}
use Rattle.gp_groups.specs.WrittenGroup.{written_group}
use Rattle.gp_rules.specs.declared.storage.View.{View}
use Rattle.gp_rules.specs.declared.accessing.Accessor.{Accessor}
use Rattle.gp_rules.specs.declared.accessing.Component.TheVariants.{U8, U16}
use Rattle.gp_rules.specs.declared.accessing.Shape.TheVariants.{Scalar, Vec3}
use Rattle.gp_asset.specs.Asset.{AssetParts}
use Rattle.gp_elements.specs.Elements.{Elements, elements_in, base_elements}
use Rattle.gp_elements.specs.Listed.{slices}
use Rattle.gp_elements.specs.Resolving.{is_resolvable, resolved}
use Rattle.gp_sameness.specs.Moved.{Moved}
use Rattle.gp_sameness.specs.Survivors.{survives, renumbered}
use Rattle.gp_storage.specs.Coding.{coding_of}
use Rattle.gp_storage.specs.Streams.{encoded, stream_of, stored_views}
use Rattle.gp_packed.specs.Plan.{all_stored}
use Rattle.gp_packed.specs.PackedParts.{packed_accessors, unstored_views}
use Rattle.gp_kept.specs.ElementsMoved.{output_contents, AreNumberedLast}

-- ---- five views: of two vertices, of a list, of an accessor with a `sparse`, of its indices and of its values

abbrev view_of : ℕ → ℕ → View
view_of offset size = record { buffer = 0; offset = offset; length = size; stride = None; packed = None }

-- accessors 0 and 2 move
abbrev vertices : Accessor
vertices = record { view = Some 0; offset = 0; component = U8; shape = Vec3; count = 2; sparse = None }

abbrev numbers : Accessor
numbers = record {
  view = Some 2;
  offset = 1;
  component = U8;
  shape = Scalar;
  count = 3;
  sparse = Some (record { count = 1; index_view = 3; index_offset = 0; index_component = U8; value_view = 4; value_offset = 0 });
}

abbrev corners : Accessor
corners = record { view = Some 1; offset = 0; component = U8; shape = Scalar; count = 3; sparse = None }

abbrev five_views : AssetParts
five_views = record {
  buffers = Some (1 ∷ 2 ∷ 3 ∷ 4 ∷ 5 ∷ 6 ∷ 0 ∷ 1 ∷ 0 ∷ 30 ∷ 31 ∷ 32 ∷ 33 ∷ 1 ∷ 50 ∷ []) ∷ [];
  views = view_of 0 6 ∷ view_of 6 3 ∷ view_of 9 4 ∷ view_of 13 1 ∷ view_of 14 1 ∷ [];
  accessors = vertices ∷ numbers ∷ corners ∷ [];
  primitives = [];
  uses = [];
  images = [];
  closed = true;
}

abbrev one_moves : List Moved
one_moves = record {
  primitives = 0 ∷ [];
  columns = 0 ∷ [];
  lists = 2 ∷ [];
  list_accessor = Some 3;
  count = 3;
  records = (4 ∷ 5 ∷ 6 ∷ []) ∷ (1 ∷ 2 ∷ 3 ∷ []) ∷ [];
  ordered = (0 ∷ 1 ∷ 0 ∷ []) ∷ (1 ∷ 0 ∷ 1 ∷ []) ∷ [];
} ∷ []

-- views 2, 3 and 4 stay, and three are made
abbrev packed_numbers : Accessor
packed_numbers = record {
  view = Some 0;
  offset = 1;
  component = U8;
  shape = Scalar;
  count = 3;
  sparse = Some (record { count = 1; index_view = 1; index_offset = 0; index_component = U8; value_view = 2; value_offset = 0 });
}

four_accessors : packed_accessors one_moves five_views
    ≡ record { view = Some 3; offset = 0; component = U8; shape = Vec3; count = 2; sparse = None }
    ∷ packed_numbers
    ∷ record { view = Some 4; offset = 0; component = U16; shape = Scalar; count = 3; sparse = None }
    ∷ record { view = Some 5; offset = 0; component = U16; shape = Scalar; count = 3; sparse = None }
    ∷ []
unfolding survives renumbered
four_accessors = refl

numbered_last : AreNumberedLast five_views one_moves
numbered_last = refl

-- ---- the accessor with a `sparse` has its elements before and after

abbrev three_numbers : Elements
three_numbers = record { items = (31 ∷ []) ∷ (50 ∷ []) ∷ (33 ∷ []) ∷ []; sparse = None }

abbrev contents_before : List (List ℕ)
contents_before = (1 ∷ 2 ∷ 3 ∷ 4 ∷ 5 ∷ 6 ∷ []) ∷ (0 ∷ 1 ∷ 0 ∷ []) ∷ (30 ∷ 31 ∷ 32 ∷ 33 ∷ []) ∷ (1 ∷ []) ∷ (50 ∷ []) ∷ []

abbrev contents_after : List (List ℕ)
contents_after =
    (30 ∷ 31 ∷ 32 ∷ 33 ∷ []) ∷ (1 ∷ []) ∷ (50 ∷ []) ∷ (4 ∷ 5 ∷ 6 ∷ 0 ∷ 1 ∷ 2 ∷ 3 ∷ 0 ∷ []) ∷ (0 ∷ 0 ∷ 1 ∷ 0 ∷ 0 ∷ 0 ∷ []) ∷ (1 ∷ 0 ∷ 0 ∷ 0 ∷ 1 ∷ 0 ∷ []) ∷ []

before_packing : elements_in five_views.views contents_before numbers ≡ three_numbers
unfolding base_elements is_resolvable resolved slices
before_packing = refl

contents_are : output_contents one_moves five_views ≡ contents_after
unfolding output_contents all_stored stored_views coding_of stream_of survives encoded encoded_attributes written_part written_group encoded_triangles piece
contents_are = refl

after_packing : elements_in (unstored_views one_moves five_views) contents_after packed_numbers ≡ three_numbers
unfolding base_elements is_resolvable resolved slices survives
after_packing = refl

-- the accessor that moves has its vertices in their new order
vertices_after : elements_in (unstored_views one_moves five_views) contents_after (record { view = Some 3; offset = 0; component = U8; shape = Vec3; count = 2; sparse = None })
    ≡ record { items = (4 ∷ 5 ∷ 6 ∷ []) ∷ (1 ∷ 2 ∷ 3 ∷ []) ∷ []; sparse = None }
unfolding base_elements survives
vertices_after = refl
