-- Worked values of made views.
use Rattle.std.proofs.Common.{◌≡◌, ℕ, ◌<◌, true, List, [], ◌∷◌, length, Some, None, refl, arith}
use Rattle.std.specs.Prelude.{slice_get}
use Rattle.std.specs.Option.{IsSome}
use Rattle.std.proofs.lemmas.List.Elements.{All-cons, All-nil}
use Rattle.gp_rules.specs.declared.accessing.Accessor.{Accessor}
use Rattle.gp_rules.specs.declared.accessing.Component.TheVariants.{U8, U16}
use Rattle.gp_rules.specs.declared.accessing.Shape.TheVariants.{Scalar, Vec3}
use Rattle.gp_asset.specs.Asset.{AssetParts}
use Rattle.gp_elements.specs.Elements.{base_elements}
use Rattle.gp_sameness.specs.Moved.{Moved}
use Rattle.gp_packed.specs.MadeViews.{column_contents}
use Rattle.gp_packed.specs.MadeLaws.{IsWhole, AreNumbers, column_elements, is_vector, joined_at, list_contents, record_size}

-- two columns, of 3 bytes and of 2 bytes an element
abbrev first_column : Accessor
first_column = record { view = Some 0; offset = 8; component = U8; shape = Vec3; count = 3; sparse = None }

abbrev second_column : Accessor
second_column = record { view = Some 1; offset = 0; component = U16; shape = Scalar; count = 3; sparse = None }

abbrev two_columns : AssetParts
two_columns = record { buffers = []; views = []; accessors = first_column ∷ second_column ∷ []; primitives = []; uses = []; images = []; closed = true }

-- two vertices, and a triangle of them
abbrev two_vertices : Moved
two_vertices = record {
  primitives = 0 ∷ [];
  columns = 0 ∷ 1 ∷ [];
  lists = 2 ∷ [];
  list_accessor = None;
  count = 3;
  records = (1 ∷ 2 ∷ 3 ∷ 9 ∷ 0 ∷ []) ∷ (4 ∷ 5 ∷ 6 ∷ 8 ∷ 7 ∷ []) ∷ [];
  ordered = (0 ∷ 1 ∷ 1 ∷ []) ∷ [];
}

-- such a group is whole
is_whole : IsWhole two_columns two_vertices
is_whole =
    let Long : List ℕ → Type 0 = λ r. length r ≡ record_size two_columns two_vertices in
    let Exists : ℕ → Type 0 = λ at. IsSome (slice_get two_columns.accessors at) in
    let IsVector : Accessor → Type 0 = λ x. is_vector x.shape ≡ true in
    let Below : ℕ → Type 0 = λ n. n < 2 in
    record {
      some = omega arith;
      few = omega arith;
      exist = All-cons Exists 0 (1 ∷ []) refl (All-cons Exists 1 [] refl (All-nil Exists));
      vectors = All-cons IsVector first_column (second_column ∷ []) refl (All-cons IsVector second_column [] refl (All-nil IsVector));
      long =
          All-cons Long (1 ∷ 2 ∷ 3 ∷ 9 ∷ 0 ∷ []) ((4 ∷ 5 ∷ 6 ∷ 8 ∷ 7 ∷ []) ∷ []) refl
          (All-cons Long (4 ∷ 5 ∷ 6 ∷ 8 ∷ 7 ∷ []) [] refl (All-nil Long));
      numbered =
          All-cons (AreNumbers two_vertices) (0 ∷ 1 ∷ 1 ∷ []) []
          (All-cons Below 0 (1 ∷ 1 ∷ []) (omega arith) (All-cons Below 1 (1 ∷ []) (omega arith) (All-cons Below 1 [] (omega arith) (All-nil Below))))
          (All-nil (AreNumbers two_vertices));
    }

-- its views
first_view : column_contents two_columns two_vertices 0 first_column ≡ 1 ∷ 2 ∷ 3 ∷ 0 ∷ 4 ∷ 5 ∷ 6 ∷ 0 ∷ []
first_view = refl

second_view : column_contents two_columns two_vertices 1 second_column ≡ 9 ∷ 0 ∷ 0 ∷ 0 ∷ 8 ∷ 7 ∷ 0 ∷ 0 ∷ []
second_view = refl

list_view : list_contents two_vertices (0 ∷ 1 ∷ 1 ∷ []) ≡ 0 ∷ 0 ∷ 1 ∷ 0 ∷ 1 ∷ 0 ∷ []
list_view = refl

-- its second record
second_record : joined_at (column_elements two_columns two_vertices) 1 ≡ 4 ∷ 5 ∷ 6 ∷ 8 ∷ 7 ∷ []
unfolding base_elements
second_record = refl
