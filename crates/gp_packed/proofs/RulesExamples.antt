-- Worked values of the parts of a packed asset, whose group is whole.
use Rattle.std.specs.Prelude.{◌≢◌, slice_get}
use Rattle.std.specs.Option.{IsSome}
use Rattle.std.proofs.Common.{◌≡◌, ℕ, zero, suc, ◌<◌, ◌%◌, ◌≤◌, true, List, [], ◌∷◌, length, Option, Some, None, refl, sym, ap, subst, arith}
use Rattle.std.proofs.lemmas.List.Elements.{All-cons, All-nil}
use Rattle.std.proofs.lemmas.List.Kept.{AllPairs-cons}
use Rattle.gp_rules.specs.declared.accessing.Accessor.{Accessor}
use Rattle.gp_rules.specs.declared.accessing.Component.TheVariants.{U8, U16, F32}
use Rattle.gp_rules.specs.declared.accessing.Shape.TheVariants.{Scalar, Vec3}
use Rattle.gp_rules.specs.declared.storage.View.{View}
use Rattle.gp_asset.specs.Asset.{AssetParts}
use Rattle.gp_sameness.specs.Moved.{Moved}
use Rattle.gp_sameness.specs.Survivors.{survives, renumbered}
use Rattle.gp_packed.specs.MadeLaws.{IsWhole, AreNumbers, HasViews, is_vector, record_size}
use Rattle.gp_packed.specs.PackedParts.{unstored_views, packed_accessors}
use Rattle.gp_packed.specs.RulesMoved.{IsListOf, ListsAreWhole, GroupIsWhole, GroupsAreWhole}

-- ---- three vertices, of which two are equal, and a triangle of them, drawn with indices and without; accessor 2 stays

abbrev positions : Accessor
positions = record { view = Some 0; offset = 0; component = U8; shape = Vec3; count = 3; sparse = None }

abbrev corners : Accessor
corners = record { view = Some 1; offset = 0; component = U8; shape = Scalar; count = 3; sparse = None }

abbrev weights : Accessor
weights = record { view = Some 2; offset = 4; component = F32; shape = Scalar; count = 1; sparse = None }

abbrev plain_view : ℕ → View
plain_view size = record { buffer = 0; offset = 0; length = size; stride = None; packed = None }

abbrev one_asset : AssetParts
one_asset = record {
  buffers = [];
  views = plain_view 9 ∷ plain_view 3 ∷ plain_view 8 ∷ [];
  accessors = positions ∷ corners ∷ weights ∷ [];
  primitives = [];
  uses = [];
  images = [];
  closed = true;
}

abbrev one : Moved
one = record {
  primitives = 0 ∷ 1 ∷ [];
  columns = 0 ∷ [];
  lists = 1 ∷ [];
  list_accessor = Some 3;
  count = 3;
  records = (1 ∷ 2 ∷ 3 ∷ []) ∷ (4 ∷ 5 ∷ 6 ∷ []) ∷ [];
  ordered = (0 ∷ 1 ∷ 1 ∷ []) ∷ (1 ∷ 0 ∷ 1 ∷ []) ∷ [];
}

-- ---- such a group is whole

columns_whole : IsWhole one_asset one
columns_whole =
    let Long : List ℕ → Type 0 = λ r. length r ≡ record_size one_asset one in
    let Exists : ℕ → Type 0 = λ at. IsSome (slice_get one_asset.accessors at) in
    let IsVector : Accessor → Type 0 = λ x. is_vector x.shape ≡ true in
    let Below : ℕ → Type 0 = λ n. n < 2 in
    record {
      some = omega arith;
      few = omega arith;
      exist = All-cons Exists 0 [] refl (All-nil Exists);
      vectors = All-cons IsVector positions [] refl (All-nil IsVector);
      long = All-cons Long (1 ∷ 2 ∷ 3 ∷ []) ((4 ∷ 5 ∷ 6 ∷ []) ∷ []) refl (All-cons Long (4 ∷ 5 ∷ 6 ∷ []) [] refl (All-nil Long));
      numbered =
          All-cons (AreNumbers one) (0 ∷ 1 ∷ 1 ∷ []) ((1 ∷ 0 ∷ 1 ∷ []) ∷ [])
          (All-cons Below 0 (1 ∷ 1 ∷ []) (omega arith) (All-cons Below 1 (1 ∷ []) (omega arith) (All-cons Below 1 [] (omega arith) (All-nil Below))))
          (All-cons (AreNumbers one) (1 ∷ 0 ∷ 1 ∷ []) []
          (All-cons Below 1 (0 ∷ 1 ∷ []) (omega arith) (All-cons Below 0 (1 ∷ []) (omega arith) (All-cons Below 1 [] (omega arith) (All-nil Below))))
          (All-nil (AreNumbers one)));
    }

has_views : HasViews one_asset one
has_views =
    let Exists : ℕ → Type 0 = λ at. IsSome (slice_get one_asset.accessors at) in
    record { exist = All-cons Exists 0 [] refl (All-nil Exists); each = refl }

own_list : (k at : ℕ) (x : Accessor) (list : List ℕ) → slice_get one.lists k ≡ Some at → slice_get one_asset.accessors at ≡ Some x → slice_get one.ordered k ≡ Some list → IsListOf x list
own_list zero at x list here found there =
    let number : 1 ≡ at = cc in
    let same : ◌≡◌ {A = Option Accessor} (Some corners) (Some x) = subst (λ n. slice_get one_asset.accessors n ≡ Some x) (sym number) found in
    let accessor : corners ≡ x = cc in
    let numbers : 0 ∷ 1 ∷ 1 ∷ [] ≡ list = cc in
    subst (λ y. IsListOf y list) accessor (subst (IsListOf corners) numbers (record { scalars = refl; long = refl }))
own_list (suc k) at x list here found there = absurd (cc)

made_list : (list : List ℕ) → slice_get one.ordered (length one.lists) ≡ Some list → length list ≡ one.count
made_list list here = let numbers : 1 ∷ 0 ∷ 1 ∷ [] ≡ list = cc in ap length (sym numbers)

lists_whole : ListsAreWhole one_asset one
lists_whole =
    let Filled : List ℕ → Type 0 = λ list. 1 ≤ length list in
    let Triples : List ℕ → Type 0 = λ list. length list % 3 ≡ 0 in
    record {
      own = own_list;
      made = made_list;
      filled = All-cons Filled (0 ∷ 1 ∷ 1 ∷ []) ((1 ∷ 0 ∷ 1 ∷ []) ∷ []) (omega arith) (All-cons Filled (1 ∷ 0 ∷ 1 ∷ []) [] (omega arith) (All-nil Filled));
      triples = All-cons Triples (0 ∷ 1 ∷ 1 ∷ []) ((1 ∷ 0 ∷ 1 ∷ []) ∷ []) refl (All-cons Triples (1 ∷ 0 ∷ 1 ∷ []) [] refl (All-nil Triples));
    }

are_whole : GroupsAreWhole (one ∷ []) one_asset
are_whole = record {
  each = All-cons (GroupIsWhole one_asset) one [] (record { columns = columns_whole; views = has_views; lists = lists_whole }) (All-nil (GroupIsWhole one_asset));
  apart =
      let Other : ℕ → ℕ → Type 0 = λ x y. x ≢ y in
      AllPairs-cons Other 0 (1 ∷ 3 ∷ [])
      (All-cons (Other 0) 1 (3 ∷ []) (λ e. absurd (omega (arith, e))) (All-cons (Other 0) 3 [] (λ e. absurd (omega (arith, e))) (All-nil (Other 0))))
      (AllPairs-cons Other 1 (3 ∷ []) (All-cons (Other 1) 3 [] (λ e. absurd (omega (arith, e))) (All-nil (Other 1)))
      (AllPairs-cons Other 3 [] (All-nil (Other 3)) (λ i j d lt within. absurd (omega (arith, within)))));
}

-- ---- its views: the one that stays, and three that are made

four_views : unstored_views (one ∷ []) one_asset
    ≡ plain_view 8
    ∷ record { buffer = 0; offset = 0; length = 8; stride = Some 4; packed = None }
    ∷ plain_view 6
    ∷ plain_view 6
    ∷ []
unfolding survives
four_views = refl

-- ---- and its accessors

four_accessors : packed_accessors (one ∷ []) one_asset
    ≡ record { view = Some 1; offset = 0; component = U8; shape = Vec3; count = 2; sparse = None }
    ∷ record { view = Some 2; offset = 0; component = U16; shape = Scalar; count = 3; sparse = None }
    ∷ record { view = Some 0; offset = 4; component = F32; shape = Scalar; count = 1; sparse = None }
    ∷ record { view = Some 3; offset = 0; component = U16; shape = Scalar; count = 3; sparse = None }
    ∷ []
unfolding survives renumbered
four_accessors = refl
