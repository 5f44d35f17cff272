-- Made views have some bytes, in whole elements.
use Rattle.std.proofs.Common.{◌≡◌, ℕ, zero, suc, ◌+◌, ◌*◌, ◌%◌, ◌<◌, ◌≤◌, Bool, true, false, List, [], ◌∷◌, ◌++◌, get_or, length, Option, Some, None, refl, sym, ap, ◌∙◌, subst, inl, inr, arith}
use Rattle.std.specs.Prelude.{◌⊎◌, slice_get, filter_map, option_map, option_to_list, zip}
use Rattle.std.specs.List.{All, cons_option, enumerate_from}
use Rattle.std.proofs.Math.Nat.{mul-mod_left}
use Rattle.std.proofs.lemmas.Bool.{eq-eqb, le-leb}
use Rattle.std.proofs.lemmas.Option.{get_or_from_slice_get}
use Rattle.std.proofs.lemmas.List.Elements.{All-cons, All-head, All-map, All-nil, All-tail}
use Rattle.gp_rules.specs.declared.accessing.Accessor.{Accessor}
use Rattle.gp_rules.specs.declared.accessing.Component.{Component}
use Rattle.gp_rules.specs.declared.accessing.Component.TheVariants.{I8, U8, I16, U16, U32, F32}
use Rattle.gp_rules.specs.declared.accessing.Shape.{Shape}
use Rattle.gp_rules.specs.declared.accessing.Shape.TheVariants.{Scalar, Vec2, Vec3, Vec4, Mat2, Mat3, Mat4}
use Rattle.gp_rules.specs.Sizes.{component_size, element_size, padded}
use Rattle.gp_rules.specs.Views.{is_stride}
use Rattle.gp_rules.specs.Accessors.{size_of}
use Rattle.gp_asset.specs.Asset.{AssetParts}
use Rattle.gp_sameness.specs.Moved.{Moved}
use Rattle.gp_packed.specs.MadeViews.{Made, accessors_at, is_narrow, list_width, made_column, made_columns, made_list}
use Rattle.gp_packed.specs.MadeLaws.{IsWhole, IsColumnView, IsListView, is_vector, MadeColumnsSuit, MadeListsSuit}
use Rattle.gp_kept.proofs.MadeColumns.{At, found, columns_long_at}
use Rattle.gp_kept.proofs.MadeLists.{width_if, lists_long}

-- ---- how long an element is

abbrev Between : ℕ → ℕ → ℕ → Type 0
Between least most n = (least ≤ n) × (n ≤ most)

component_between : (c : Component) → Between 1 4 (component_size c)
component_between I8 = (omega arith, omega arith)
component_between U8 = (omega arith, omega arith)
component_between I16 = (omega arith, omega arith)
component_between U16 = (omega arith, omega arith)
component_between U32 = (omega arith, omega arith)
component_between F32 = (omega arith, omega arith)

vector_between : (c : Component) (s : Shape) → is_vector s ≡ true → Between 1 16 (element_size c s)
vector_between c Scalar is = let own = component_between c in (omega (arith, own.0), omega (arith, own.1))
vector_between c Vec2 is = let own = component_between c in (omega (arith, own.0), omega (arith, own.1))
vector_between c Vec3 is = let own = component_between c in (omega (arith, own.0), omega (arith, own.1))
vector_between c Vec4 is = let own = component_between c in (omega (arith, own.0), omega (arith, own.1))
vector_between c Mat2 is = absurd (cc)
vector_between c Mat3 is = absurd (cc)
vector_between c Mat4 is = absurd (cc)

inside : (xs : List Accessor) (k : ℕ) (x : Accessor) → slice_get xs k ≡ Some x → k < length xs
inside [] k x is = absurd (cc)
inside (y ∷ ys) zero x is = omega arith
inside (y ∷ ys) (suc k) x is = omega (arith, inside ys k x is)

-- of a column
pub size_between : (a : AssetParts) (m : Moved) (k : ℕ) (x : Accessor) → IsWhole a m → At a m k x → Between 1 16 (size_of x)
size_between a m k x whole at =
    let xs = accessors_at a m.columns in
    let own = inside xs k x at in
    let vector : is_vector x.shape ≡ true = subst (λ (y : Accessor). is_vector y.shape ≡ true) (get_or_from_slice_get xs k x x at) (whole.vectors k x own) in
    vector_between x.component x.shape vector

-- a stride that fits
padded_stride : (n : ℕ) → 1 ≤ n → n ≤ 16 → is_stride 16 (padded n) ≡ true
padded_stride n some few = rw (eq-eqb (padded n % 4) 0 (omega arith), le-leb 4 (padded n) (omega (arith, some)), le-leb (padded n) 16 (omega (arith, few))) refl

-- ---- columns

some_bytes : (count size : ℕ) → 1 ≤ count → 1 ≤ size → 1 ≤ count * size
some_bytes zero size some long = absurd (omega arith)
some_bytes (suc c) size some long = omega (arith, long)

pub column_view : (a : AssetParts) (m : Moved) (k at : ℕ) (x : Accessor) → IsWhole a m → At a m k x → IsColumnView (made_column a m k at x)
column_view a m k at x whole here =
    let long = columns_long_at a m k x whole here in
    let size = size_between a m k x whole here in
    record {
      elements = record {
        some = subst (λ n. 1 ≤ n) (sym long) (some_bytes (length m.records) (padded (size_of x)) whole.some (omega (arith, size.0)));
        whole = ap (λ n. n % padded (size_of x)) long ∙ mul-mod_left (length m.records) (padded (size_of x));
      };
      mode = refl;
      stride = padded_stride (size_of x) size.0 size.1;
    }

with_first : (P : Made → Type 0) (one : Accessor → Made) (o : Option Accessor) (others : List Made) → ((x : Accessor) → o ≡ Some x → P (one x)) → All P others
    → All P (cons_option (option_map one o) others)
with_first P one None others first rest = rest
with_first P one (Some x) others first rest = All-cons P (one x) others (first x refl) rest

-- what holds of those that exist
pub all_found : (P : Made → Type 0) (one : ℕ → ℕ → Accessor → Made) (all : List Accessor) (columns : List ℕ) (from : ℕ)
    → ((k : ℕ) (x : Accessor) → k < length columns → slice_get all (get_or columns k 0) ≡ Some x → P (one (from + k) (get_or columns k 0) x))
    → All P (filter_map (λ (p : ℕ × ℕ). option_map (one p.0 p.1) (slice_get all p.1)) (enumerate_from from columns))
all_found P one all [] from each = All-nil P
all_found P one all (c ∷ columns) from each =
    let others = filter_map (λ (p : ℕ × ℕ). option_map (one p.0 p.1) (slice_get all p.1)) (enumerate_from (from + 1) columns) in
    let first : (x : Accessor) → slice_get all c ≡ Some x → P (one from c x) =
    λ x is. (let here : from + 0 ≡ from = omega arith in subst (λ n. P (one n c x)) here (each 0 x (omega arith) is)) in
    let rest = all_found P one all columns (from + 1) (λ k x below is.
    let here : from + suc k ≡ from + 1 + k = omega arith in
    subst (λ n. P (one n (get_or columns k 0) x)) here (each (suc k) x (omega arith) is)) in
    with_first P (one from c) (slice_get all c) others first rest

pub all_columns : (P : Made → Type 0) (a : AssetParts) (m : Moved) → IsWhole a m → ((k at : ℕ) (x : Accessor) → At a m k x → P (made_column a m k at x)) → All P (made_columns a m)
all_columns P a m whole each =
    all_found P (made_column a m) a.accessors m.columns 0 (λ k x below is.
    let from_0 : 0 + k ≡ k = omega arith in
    rw from_0 (each k (get_or m.columns k 0) x (found a.accessors m.columns k x whole.exist below is)))

pub columns_suit : MadeColumnsSuit
columns_suit a m whole = all_columns IsColumnView a m whole (λ k at x here. column_view a m k at x whole here)

-- ---- lists

whole_if : (narrow : Bool) (n : ℕ) → (width_if narrow * n) % width_if narrow ≡ 0
whole_if true n = omega arith
whole_if false n = omega arith

some_if : (narrow : Bool) (n : ℕ) → 1 ≤ n → 1 ≤ width_if narrow * n
some_if true n some = omega (arith, some)
some_if false n some = omega (arith, some)

stride_if : (narrow : Bool) → (width_if narrow ≡ 2) ⊎ (width_if narrow ≡ 4)
stride_if true = inl refl
stride_if false = inr refl

pub list_view : (m : Moved) (p : ℕ × List ℕ) → 1 ≤ length p.1 → IsListView (made_list m p)
list_view m p some =
    let long = lists_long m p.1 in
    record {
      elements = record {
        some = subst (λ n. 1 ≤ n) (sym long) (some_if (is_narrow m) (length p.1) some);
        whole = ap (λ n. n % list_width m) long ∙ whole_if (is_narrow m) (length p.1);
      };
      mode = refl;
      stride = stride_if (is_narrow m);
    }

pub all_zipped : (P : List ℕ → Type 0) (xs : List ℕ) (ys : List (List ℕ)) → All P ys → All (λ (p : ℕ × List ℕ). P p.1) (zip xs ys)
all_zipped P [] ys all = All-nil (λ (p : ℕ × List ℕ). P p.1)
all_zipped P (x ∷ xs) [] all = All-nil (λ (p : ℕ × List ℕ). P p.1)
all_zipped P (x ∷ xs) (y ∷ ys) all = All-cons (λ (p : ℕ × List ℕ). P p.1) (x, y) (zip xs ys) (All-head P y ys all) (all_zipped P xs ys (All-tail P y ys all))

pub lists_suit : MadeListsSuit
lists_suit m filled =
    let zipped = zip (m.lists ++ option_to_list m.list_accessor) m.ordered in
    let some = all_zipped (λ (list : List ℕ). 1 ≤ length list) (m.lists ++ option_to_list m.list_accessor) m.ordered filled in
    All-map IsListView (made_list m) zipped (λ i d below. list_view m (get_or zipped i d) (some i d below))
